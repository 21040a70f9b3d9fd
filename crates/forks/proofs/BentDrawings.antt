-- What becomes of a drawing may be drawn in its window, and is not large.
use Rattle.std.proofs.Common.{ℕ, ◌^◌, ◌<◌, ◌≤◌, ℤ, List, length, get_or, arith, refl, subst}
use Rattle.std.specs.List.{All}
use Rattle.plane.specs.declared.kinds.Curve.{Curve}
use Rattle.plane.specs.Rule.Plans.{Plan}
use Rattle.plane.specs.Rule.Windows.{IsDrawn}
use Rattle.forks.specs.ForkedStraights.{ArePieces}
use Rattle.forks.specs.Bent.{IsBentOf}
use Rattle.forks.proofs.BentCurves as curves
use Rattle.forks.proofs.LeastBends.{same_curve}
use Rattle.forks.proofs.PieceLists.{bent_of_pieces}
use Rattle.forks.proofs.PlaneLaws.{no_curve}

module _ (t : ℤ) (d : Plan) (cs : List Curve) (os : List ℕ)
    (a : ArePieces t d (length d.curves) cs os) where
  abbrev g : Plan
  g = record { window = d.window; curves = cs; points = d.points }

  pub bent_is : IsBentOf t d g os
  bent_is = bent_of_pieces t d g os a refl refl

  pub all_drawn : All (IsDrawn d.window.low d.window.high) d.curves
      → All (IsDrawn d.window.low d.window.high) cs
  all_drawn h k x l =
      subst (IsDrawn d.window.low d.window.high) (same_curve cs k no_curve x l)
      ((curves.keep t d g os bent_is k l).drawn
      (h (get_or os k 0) no_curve (curves.there t d g os bent_is k l)))

  pub not_large : length d.curves ≤ 16000000 → length cs < 2 ^ 30
  not_large l = let f = curves.few t d g os bent_is in omega (arith, l, f)
