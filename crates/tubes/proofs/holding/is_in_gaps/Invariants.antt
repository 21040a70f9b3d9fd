use Rattle.std.proofs.Common.{ℕ, suc, ◌<◌, ◌≤◌}
use Rattle.plane.specs.Forms.Vectors.{point}
use Rattle.tubes.specs.Holding.{InGap}
use Rattle.tubes.proofs.holding.is_in_gaps.Given as goal

abbrev pub invariant-loop-i : goal.invariant-loop-i
invariant-loop-i l = record {
  none : (k : ℕ) → suc k < l.i → InGap l.inner l.outer (point l.at) k → ⊥;
  first : 1 ≤ l.i;
}
