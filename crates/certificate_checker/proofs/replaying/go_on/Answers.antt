use Rattle.std.proofs.Common.{ap, arith, ◌≤◌, suc, ◌∙◌, List, ℕ, length, subst, sym}
use Rattle.std.proofs.lemmas.List.{with_items_is}
use Rattle.certificate_checker.specs.Cases.{judged}
use Rattle.certificate_checker.specs.LiveLists.{live_count}
use Rattle.certificate_checker.specs.Marked.{IsAtBorder, NamesAcross}
use Rattle.certificate_checker.specs.Progress.{AreMarkedTo, IsMovedTo}
use Rattle.certificate_checker.proofs.PlacedSpots.{next_placed}
use Rattle.certificate_checker.proofs.replaying.go_on.Goals as goal

pub returns : goal.returns
returns c = record {
  moved = subst
      (λ (xs : List ℕ). IsMovedTo (judged c.args.case.now)
      (suc c.args.event) c.move_event.new.live.edges
      (length xs) c.move_event.new.mesh)
      (sym (with_items_is c.args.state.now.fan c.move_event.new.fan (c.move_event.auto.fan
      ∙ c.deref_mut-3.ensures.len))) c.move_event.ensures.moved;
  room = λ j l. subst (λ (n : ℕ). live_count (judged c.args.case.now).table j ≤ n)
      (sym c.move_event.ensures.room) (c.requires.replayed.room j l);
  block =
      let a = ap length (with_items_is c.args.state.now.fan c.move_event.new.fan
      (c.move_event.auto.fan ∙ c.deref_mut-3.ensures.len)) in
      let b = c.move_event.auto.fan ∙ c.deref_mut-3.ensures.len in
      let e = c.move_event.ensures.block in
      let r = c.requires.replayed.block in omega (arith, a, b, e, r);
  border = subst (AreMarkedTo (judged c.args.case.now) IsAtBorder (suc c.args.event))
      (sym (with_items_is c.args.state.now.marks.border c.mark_event.new.border
      (c.mark_event.auto.border ∙ c.deref_mut.ensures.len))) c.mark_event.ensures.border;
  across = subst
      (AreMarkedTo (judged c.args.case.now)
      (NamesAcross c.args.case.now.certificate.now.notes.items) (suc c.args.event))
      (sym (with_items_is c.args.state.now.marks.across c.mark_event.new.across
      (c.mark_event.auto.across ∙ c.deref_mut-2.ensures.len))) c.mark_event.ensures.across;
  points = next_placed (judged c.args.case.now) c.args.event c.args.state.now.placing.next
      c.args.state.now.placing.bad c.args.state.now.placing.spots.items
      c.args.state.now.marks.point.items c.requires.replayed.points c.requires.later;
}
