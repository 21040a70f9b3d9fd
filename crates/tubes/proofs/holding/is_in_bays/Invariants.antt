use Rattle.std.proofs.Common.{ℕ, ◌<◌}
use Rattle.plane.specs.Forms.Vectors.{point}
use Rattle.tubes.specs.Holding.{InBay}
use Rattle.tubes.proofs.holding.is_in_bays.Given as goal

abbrev pub invariant-loop-i : goal.invariant-loop-i
invariant-loop-i l = (k : ℕ) → k < l.i → InBay l.inner l.outer (point l.at) k → ⊥
