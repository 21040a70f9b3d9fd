use Rattle.std.proofs.Common.{ap, ◌∙◌}
use Rattle.straight_predicates.proofs.Groups.{ending_low, ending_high}
use Rattle.straight_predicates.proofs.events.add_ending.Goals as goal
use Rattle.straight_predicates.proofs.events.add_ending.Goals.{then-not-end+in_ok-push}
use Rattle.straight_predicates.proofs.events.add_ending.Goals.{else-not-end}

pub loop-end-preserved : goal.loop-end-preserved
loop-end-preserved c =
    elim c.if-not-end.branch [
      | then-not-end+in_ok-push w ↦
          ending_high c.args.group.now c.loop-end.end-index _ c.loop-end-test.true
          c.loop-end.numbers.items c.if-not-end.numbers.items c.args.numbers.now.items
          w.if-not-end.true c.loop-end.invariant
          (ap (λ v. v.items) w.numbers-is ∙ w.in_ok-push.ensures.items)
      | else-not-end w ↦
          ending_low c.args.group.now c.loop-end.end-index _ c.loop-end-test.true
          c.loop-end.numbers.items c.if-not-end.numbers.items c.args.numbers.now.items
          w.if-not-end.false c.loop-end.invariant (ap (λ v. v.items) w.numbers-is)
    ]
