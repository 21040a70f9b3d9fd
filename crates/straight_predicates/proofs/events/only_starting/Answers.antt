use Rattle.std.proofs.Common.{ap, sym, ◌∙◌}
use Rattle.straight_predicates.proofs.Groups.{found_as, found_more, starting_low, starting_high}
use Rattle.straight_predicates.proofs.events.only_starting.Goals as goal
use Rattle.straight_predicates.proofs.events.only_starting.Goals.{then-end+else-is_some, else-end}

pub loop-end-preserved : goal.loop-end-preserved
loop-end-preserved c =
    elim c.if-end.branch [
      | then-end+else-is_some w ↦
          sym (starting_low c.args.group.now c.loop-end.end-index _ c.loop-end-test.true
          (found_as c.loop-end.found) (found_as c.if-end.found) w.if-end.true
          (sym c.loop-end.invariant) (ap found_as w.found-is
          ∙ found_more c.loop-end.found _ (sym w.is_some.ensures ∙ w.if-is_some.false)))
      | else-end w ↦
          sym (starting_high c.args.group.now c.loop-end.end-index _ c.loop-end-test.true
          (found_as c.loop-end.found) (found_as c.if-end.found) w.if-end.false
          (sym c.loop-end.invariant) (ap found_as w.found-is))
    ]
