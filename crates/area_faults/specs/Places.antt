-- Ends of curves that are on others.
use Rattle.std.specs.Prelude.{◌⊎◌}
use Rattle.plane.specs.Rule.BadPairs.{IsEndOf}
use Rattle.plane.specs.declared.kinds.Curve.{Curve}
use Rattle.plane.specs.declared.kinds.Point.{Point}
use Rattle.meetings.specs.CurvePairs.{IsJudgedOn}

-- The point is an end of the first curve that is on the second.
pub record IsEndOn (c e : Curve) (p : Point) : Type 0 where
  pub end : IsEndOf c p
  pub on : IsJudgedOn e p

-- The point is an end of one of the two curves that is on the other.
abbrev pub IsEndOnOther : Curve → Curve → Point → Type 0
IsEndOnOther c e p = IsEndOn c e p ⊎ IsEndOn e c p
