use Rattle.std.proofs.Common.{arith, ap, sym, subst, ◌∙◌, ◌≤◌, ℕ, [], length}
use Rattle.plane.specs.Runs.Moves.{steps_from}
use Rattle.straight_predicates.specs.EdgeEvents.{width}
use Rattle.certificate_checker.specs.Cases.{judged}
use Rattle.certificate_checker.specs.Subjects.{edge, event, moves}
use Rattle.certificate_checker.proofs.Moving.{can_turn_at, events_are, is_event, next_live}
use Rattle.certificate_checker.proofs.Moving.{passes_to, room_after}
use Rattle.certificate_checker.proofs.replaying.move_event.Goals as goal

pub turn_event-requires-clause-can : goal.turn_event-requires-clause-can
turn_event-requires-clause-can c =
    can_turn_at (judged c.args.case.now) c.requires.fit.table c.requires.fit.counts c.args.event
    c.args.mesh.now c.starting-starting.result.now _ (let f = c.requires.fit.few_edges in
    omega (arith, f)) c.requires.moved.turned
    (is_event (judged c.args.case.now) c.requires.fit.table c.requires.fit.counts c.args.event
    c.args.live.now.edges c.starting-starting.result.now _ c.position_of-position.result
    (length c.ending-ending.result.now) c.requires.event c.requires.moved.live
    c.starting-starting.ensures c.position_of-position.ensures
    (ap length c.ending-ending.ensures) (c.deref.ensures.value ∙ c.copy_part.ensures.items)
    (passes_to (judged c.args.case.now) c.requires.fit.table c.requires.fit.counts c.args.event
    c.requires.moved.passes c.requires.passes))

pub copy_part-requires-clause-room : goal.copy_part-requires-clause-room
copy_part-requires-clause-room c =
    let w = c.requires.moved.fan c.args.event c.requires.event in
    let b = c.requires.block in
    let e = ap length c.ending-ending.ensures in omega (arith, w, b, e)

pub replace-requires-clause-room : goal.replace-requires-clause-room
replace-requires-clause-room c =
    room_after (judged c.args.case.now) c.requires.fit.table c.requires.fit.counts c.args.event
    c.args.live.now.edges c.starting-starting.result.now (length c.ending-ending.result.now)
    c.args.live.now.most c.requires.event c.requires.moved.live c.starting-starting.ensures
    (ap length c.ending-ending.ensures) c.requires.moved.passes c.requires.room

pub returns-clause-moved : goal.returns-clause-moved
returns-clause-moved c = record {
  passes = (passes_to (judged c.args.case.now) c.requires.fit.table c.requires.fit.counts
      c.args.event c.requires.moved.passes c.requires.passes);
  live = c.replace.ensures.edges
      ∙ next_live (judged c.args.case.now) c.requires.fit.table c.requires.fit.counts c.args.event
      c.args.live.now.edges c.starting-starting.result.now c.position_of-position.result
      (length c.ending-ending.result.now) c.requires.event c.requires.moved.live
      c.starting-starting.ensures c.position_of-position.ensures
      (ap length c.ending-ending.ensures);
  fan = λ j l. subst (λ (n : ℕ). width (event (judged c.args.case.now) j) ≤ n)
      (sym c.turn_event.auto.fan) (c.requires.moved.fan j l);
  turned = c.turn_event.ensures.turned (length c.args.case.now.edges.now)
      (edge (judged c.args.case.now)) (steps_from [] (moves (judged c.args.case.now))) c.args.event
      (events_are (judged c.args.case.now) c.requires.fit.table c.requires.fit.counts)
      c.requires.moved.turned
      (is_event (judged c.args.case.now) c.requires.fit.table c.requires.fit.counts c.args.event
      c.args.live.now.edges c.starting-starting.result.now _ c.position_of-position.result
      (length c.ending-ending.result.now) c.requires.event c.requires.moved.live
      c.starting-starting.ensures c.position_of-position.ensures
      (ap length c.ending-ending.ensures) (c.deref.ensures.value ∙ c.copy_part.ensures.items)
      (passes_to (judged c.args.case.now) c.requires.fit.table c.requires.fit.counts
      c.args.event c.requires.moved.passes c.requires.passes));
}
