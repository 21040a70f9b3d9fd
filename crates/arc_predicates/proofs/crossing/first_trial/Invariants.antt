use Rattle.std.proofs.Common.{ℕ, ◌<◌}
use Rattle.plane.specs.Rule.BadPairs.{sixteenth}
use Rattle.arc_predicates.specs.Circles.{half_arc}
use Rattle.arc_predicates.specs.Trials.{IsSideAway, IsTrial}
use Rattle.arc_predicates.proofs.crossing.first_trial.Given as goal

abbrev pub invariant-loop-number : goal.invariant-loop-number
invariant-loop-number l = record {
  last : IsSideAway l.last (half_arc l.circle) (sixteenth l.straight l.number);
  none : (k : ℕ) → k < l.number → IsTrial l.straight (half_arc l.circle) k → ⊥;
}
