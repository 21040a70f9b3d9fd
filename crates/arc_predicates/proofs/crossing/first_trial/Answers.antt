use Rattle.plane.specs.Rule.BadPairs.{sixteenth}
use Rattle.std.proofs.Common.{◌+◌}
use Rattle.arc_predicates.specs.Circles.{half_arc}
use Rattle.arc_predicates.proofs.TestParts.{refuted}
use Rattle.arc_predicates.proofs.TrialSides.{none_more, sides_of, trial_of}
use Rattle.arc_predicates.proofs.crossing.first_trial.Goals as goal

pub returns-then-are_either_side : goal.returns-then-are_either_side
returns-then-are_either_side c =
    let s = c.args.straight.now in
    let h = half_arc c.args.circle.now in
    let n = c.loop-number.number in (
      c.loop-number-test.true,
      trial_of c.loop-number.last c.side_away-next.result h (sixteenth s n)
          (sixteenth s (n + 1)) c.loop-number.invariant.last c.side_away-next.ensures
          (c.are_either_side.ensures.0 c.if-are_either_side.true),
      c.loop-number.invariant.none,
    )

pub loop-number-preserved : goal.loop-number-preserved
loop-number-preserved c =
    let s = c.args.straight.now in
    let h = half_arc c.args.circle.now in
    let n = c.loop-number.number in
    record {
      last = c.side_away-next.ensures;
      none = none_more s h n c.loop-number.invariant.none
          (λ t. refuted _ c.are_either_side.result c.are_either_side.ensures
          c.if-are_either_side.false
          (sides_of c.loop-number.last c.side_away-next.result h (sixteenth s n)
          (sixteenth s (n + 1)) c.loop-number.invariant.last c.side_away-next.ensures t));
    }
