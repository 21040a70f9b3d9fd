-- The labelled mesh of a settled drawing: its faces are those of the run, and faces do not matter
-- to what is turned.
use Rattle.std.proofs.Common.{◌≡◌, ℕ, zero, suc, ◌*◌, ◌^◌, ◌<◌, List, [], ◌∷◌, length, slice_index}
use Rattle.std.proofs.Common.{refl, sym, subst, ◌∙◌, arith, pos}
use Rattle.event_mesh.specs.Turned.{IsTurned}
use Rattle.faces.specs.Joined.{AreKnown}
use Rattle.faces.specs.Labels.{AreFaces, greatest}
use Rattle.half_edges.specs.HalfEdges.{HalfEdges, size}
use Rattle.half_edges.specs.Meshes.{IsMesh, with_faces}
use Rattle.plane.specs.Lists.{Has}
use Rattle.plane.specs.Rule.Plans.{Plan}
use Rattle.plane.specs.Runs.Gaps.{Gap, closed_gaps}
use Rattle.plane.specs.Runs.Moves.{Move, steps_from}
use Rattle.plane.specs.Runs.Steps.{Run}
use Rattle.plane.specs.declared.kinds.Edge.{Edge}
use Rattle.straight_predicates.specs.EdgeLists.{edge_of}
use Rattle.tubes.specs.Settled.{edge_at, edges_at}
use Rattle.tubes.specs.declared.kinds.Facing.{Facing}
use Rattle.tubes.specs.declared.kinds.Owner.{Owner}
use Rattle.area_search.specs.Settled.Cases.{HasRunFaces, IsCase, IsRunMesh}
use Rattle.area_search.specs.Settled.Meshing.{HasEdges}
use Rattle.area_search.proofs.PlaneLaws.{closed_edges, run_known}
use Rattle.area_search.proofs.SettledLemmas.RunFaces.{are_faces}
use Rattle.area_search.proofs.SettledLemmas.CaseEdges.{edges_size, owners_size}

greatest_at : (ns : List ℕ) (h : ℕ) → h < length ns → slice_index ns h < suc (greatest ns)
greatest_at [] h l = absurd (omega (arith, l))
greatest_at (n ∷ ns) zero l = omega arith
greatest_at (n ∷ ns) (suc h) l = (let k = greatest_at ns h (omega (arith, l)) in omega (arith, k))

module _ (d : Plan) (levels : ℕ → ℕ) (edges : List Edge) (owners : List Owner) (facings : List Facing)
    (vs : List Move) (is : IsCase d levels edges owners facings vs) where
  abbrev m : ℕ
  m = length (edges_at d levels)

  abbrev E : ℕ → Edge
  E = edge_at d levels

  same_size : length edges ≡ m
  same_size = edges_size d levels edges owners facings vs is

  pub known_cells : (cells : List Gap) (mesh : HalfEdges) → cells ≡ closed_gaps vs
      → size mesh ≡ 2 * length edges → AreKnown (size mesh) cells
  known_cells cells mesh e s g c h side =
      let w = closed_edges vs g c is.fit (subst (Has g) e h) side in
      let k = run_known m E vs w.0 c is.settled.run.run w.1 w.2 in
      omega (arith, k, s, same_size)

  -- the mesh of the run, made by the number of owners
  module _ (n : ℕ) (count : n ≡ length owners) where
    counted : n ≡ m
    counted = count ∙ owners_size d levels edges owners facings vs is

    pub owner_few : m < 2 ^ 31 → n < 2 ^ 31
    owner_few few = omega (arith, few, counted)

    pub owner_edges : HasEdges n (steps_from [] vs)
    owner_edges =
        (E, subst (λ (k : ℕ). Run k E (steps_from [] vs)) (sym counted) is.settled.run.run)

    pub owner_mesh : (mesh : HalfEdges)
        → ((F : ℕ → Edge) → Run n F (steps_from [] vs)
        → IsTurned n F (steps_from [] vs) mesh (length (steps_from [] vs)))
        → IsTurned m E (steps_from [] vs) mesh (length (steps_from [] vs))
    unfolding owner_edges
    owner_mesh mesh f =
        subst (λ (k : ℕ). IsTurned k E (steps_from [] vs) mesh (length (steps_from [] vs))) counted
        (f E owner_edges.1)

  module _ (mesh : HalfEdges)
      (turned : IsTurned (length edges) (edge_of edges) (steps_from [] vs) mesh
      (length (steps_from [] vs))) where
    turned_here : IsTurned m E (steps_from [] vs) mesh (length (steps_from [] vs))
    turned_here =
        subst (λ (es : List Edge). IsTurned (length es) (edge_of es) (steps_from [] vs) mesh
        (length (steps_from [] vs))) is.edges_are turned

    module _ (faces : List ℕ) where
      turned_faces : IsTurned m E (steps_from [] vs) (with_faces mesh faces)
          (length (steps_from [] vs))
      turned_faces =
          let t = turned_here in
          record {
            count = t.count;
            begins = t.begins;
            stars = λ j l.
                let a = t.stars j l in
                record {
                  star = record {
                    filled = a.star.filled;
                    within = a.star.within;
                    start = a.star.start;
                    once = a.star.once;
                    whole = a.star.whole;
                  };
                  event = a.event;
                  turns = record { turns = a.turns.turns };
                };
            loose = t.loose;
          }

      pub run_mesh : IsMesh (with_faces mesh faces) → IsRunMesh d levels vs (with_faces mesh faces)
      run_mesh ok = record {
        turned = turned_faces;
        mesh_is = ok;
        known = known_cells (closed_gaps vs) (with_faces mesh faces) refl
            (let k = turned_here.count in omega (arith, k, same_size));
      }

      pub has_run_faces : (cells : List Gap) (n : ℕ) → cells ≡ closed_gaps vs
          → AreFaces mesh cells faces → n ≡ suc (greatest faces)
          → HasRunFaces d levels vs (with_faces mesh faces) n
      has_run_faces cells n e a c =
          let own : AreFaces mesh (closed_gaps vs) faces = subst
          (λ (gs : List Gap). AreFaces mesh gs faces) e a in
          let known = known_cells (closed_gaps vs) mesh refl (let k = turned_here.count in
          omega (arith, k, same_size)) in
          record {
            size_is = turned_here.count;
            entries = own.size_is;
            faces = are_faces (pos 0) m E vs mesh is.settled.run.run is.fit turned_here known faces
                own;
            below = λ h l. (let k = greatest_at faces h (omega (arith, l, own.size_is)) in
                omega (arith, k, c));
            some = omega (arith, c);
          }
