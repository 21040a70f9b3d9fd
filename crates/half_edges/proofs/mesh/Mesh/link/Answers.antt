use Rattle.std.proofs.Common.{sym, ◌∙◌}
use Rattle.std.proofs.lemmas.List.{with_items_is}
use Rattle.half_edges.specs.Arena.{half_edges_of}
use Rattle.half_edges.proofs.Linking.{linked_arena}
use Rattle.half_edges.proofs.mesh.Mesh.link.Goals as goal

pub invariant_of-self : goal.invariant_of-self
invariant_of-self c =
    let m = half_edges_of c.self.inside in
    let next_is = with_items_is c.self.inside.next c.join.new.next (c.join.auto.next
    ∙ c.deref_mut.ensures.len) in
    let prev_is = with_items_is c.self.inside.prev c.join.new.prev (c.join.auto.prev
    ∙ c.deref_mut-2.ensures.len) in
    let links = rw (c.deref_mut.ensures.value, c.deref_mut-2.ensures.value) at c.join.ensures in
    record {
      mesh = rw (next_is, prev_is, links.next_length)
          (linked_arena c.args.self.now m _ _ _ c.self.invariant.mesh (sym c.forget_faces.ensures
          ∙ sym c.self.view_is) c.requires.star c.requires.loose links);
      few = rw (next_is, links.next_length) c.self.invariant.few;
      room = rw (next_is, links.next_length) c.self.invariant.room;
    }
