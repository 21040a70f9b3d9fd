use Rattle.std.proofs.Common.{◌≡◌, ℕ, ◌<◌}
use Rattle.plane.specs.declared.kinds.CurveKind.TheVariants as kind
use Rattle.tubes.specs.DrawnEdges.{nth_curve}
use Rattle.area_faults.proofs.telling.are_straights.Given as goal

abbrev pub invariant-loop-number : goal.invariant-loop-number
invariant-loop-number l = (i : ℕ) → i < l.number → (nth_curve l.curves i).kind ≡ kind.Straight
