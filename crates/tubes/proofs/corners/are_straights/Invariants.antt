use Rattle.std.proofs.Common.{◌≡◌, ℕ, ◌<◌}
use Rattle.plane.specs.declared.kinds.CurveKind.TheVariants as kind
use Rattle.tubes.specs.DrawnEdges.{nth_curve}
use Rattle.tubes.proofs.corners.are_straights.Given as goal

abbrev pub invariant-loop-curve : goal.invariant-loop-curve
invariant-loop-curve l = (k : ℕ) → k < l.curve-index → (nth_curve l.curves k).kind ≡ kind.Straight
