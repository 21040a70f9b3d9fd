use Rattle.std.proofs.Common.{ℕ, ◌<◌}
use Rattle.level_breaks.specs.GroupBreaks.{IsLow}
use Rattle.level_breaks.specs.Groups.{nth}
use Rattle.level_breaks.proofs.chords.any_low.Given as goal

abbrev pub invariant-loop-point : goal.invariant-loop-point
invariant-loop-point l = (k : ℕ) → k < l.point-index → IsLow l.curve (nth l.points k) → ⊥
