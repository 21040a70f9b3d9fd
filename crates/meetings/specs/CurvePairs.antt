-- Points on curves as a report may name them, and bad pairs with a half arc.
use Rattle.std.specs.Prelude.{◌≡◌, ◌⊎◌, ℕ, pos}
use Rattle.plane.specs.declared.kinds.Point.{Point}
use Rattle.plane.specs.declared.kinds.Curve.{Curve}
use Rattle.plane.specs.declared.kinds.CurveKind.TheVariants as kind
use Rattle.plane.specs.Rule.BadPairs.{AreBad, IsBadPair}
use Rattle.plane.specs.Rule.Curves.{arc, IsControl, IsOn}
use Rattle.plane.specs.Rule.HalfArcs.{HalfArc, HasSide, power}
use Rattle.plane.specs.Rule.Places.{Vector, point}
use Rattle.plane.specs.Rule.Plans.{Plan, curve}

-- The point is on the curve, and where that is a half arc it has a side for it.
pub record IsJudgedOn (c : Curve) (p : Point) : Type 0 where
  pub on : IsOn c (point p)
  pub side : c.kind ≡ kind.HalfArc → HasSide (arc c) (point p)

-- Such a point that is no control point of the curve.
pub record IsBesideEnds (c : Curve) (p : Point) : Type 0 where
  pub judged : IsJudgedOn c p
  pub no_control : IsControl c (point p) → ⊥

-- The place has a side for the half arc and is on its circle.
pub record IsOnCircle (h : HalfArc) (z : Vector) : Type 0 where
  pub side : HasSide h z
  pub circle : power h z ≡ pos 0

-- One of the two at least is a half arc.
abbrev pub HaveHalfArc : Curve → Curve → Type 0
HaveHalfArc c d = (c.kind ≡ kind.HalfArc) ⊎ (d.kind ≡ kind.HalfArc)

-- Both are straights.
abbrev pub AreBothStraight : Curve → Curve → Type 0
AreBothStraight c d = (c.kind ≡ kind.Straight) × (d.kind ≡ kind.Straight)

-- The two are bad, and one of them at least is a half arc.
pub record AreArcBad (c d : Curve) : Type 0 where
  pub half_arc : HaveHalfArc c d
  pub bad : AreBad c d

-- The curves numbered i and j are a bad pair of the drawing, and one of them at least is a half
-- arc.
pub record IsArcPair (d : Plan) (i j : ℕ) : Type 0 where
  pub pair : IsBadPair d i j
  pub half_arc : HaveHalfArc (curve d i) (curve d j)
