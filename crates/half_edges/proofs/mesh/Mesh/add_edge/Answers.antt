use Rattle.std.proofs.Common.{rules, arith, ◌≡◌, ◌+◌, ◌++◌, ◌∷◌, [], length, ap, ◌∙◌, refl, vec_len}
use Rattle.half_edges.specs.HalfEdges.{size}
use Rattle.half_edges.specs.Arena.{half_edges_of}
use Rattle.half_edges.specs.Meshes.{with_one_face}
use Rattle.half_edges.proofs.Extending.{mesh_added, mesh_one_face, pair_length, unset_added}
use Rattle.half_edges.proofs.mesh.Mesh.add_edge.Goals as goal

pub invariant_of-self-2 : goal.invariant_of-self-2
invariant_of-self-2 c =
    let m = half_edges_of c.self.inside in
    let next : c.push_both.new.entries.items
    ≡ m.next ++ (c.len-3.result + 1) ∷ c.len-3.result ∷ [] = search rules in
    let size_is : length c.push_both.new.entries.items ≡ size m + 2 =
    ap length next ∙ pair_length m.next (size m) (c.len-3.result + 1) c.len-3.result refl in
    let faces : length c.reserve-4.new.self.items ≡ length c.self.inside.face.items =
    search rules in
    let a = c.in_ok-reserve-4.ensures.ok in
    let v : vec_len c.self.inside.face ≡ length c.self.inside.face.items = search rules in
    let b : c.len.result ≡ size m = search rules in
    let d : c.len-2.result ≡ length c.self.inside.face.items = search rules in
    let e = c.self.invariant.few in
    record {
      mesh = mesh_added (with_one_face m) c.args.low c.args.high c.len-3.result
          (c.len-3.result + 1) _ _ _ _ (mesh_one_face m c.self.invariant.mesh)
          (search rules) (search rules) c.requires.apart (search rules) (search rules)
          (search rules) (search rules) (search rules) (search rules)
          (unset_added m (c.len-3.result + 1) c.len-3.result _ next);
      few = omega (arith, size_is, faces, e);
      room = omega (arith, size_is, a, v, b, d, e);
    }
