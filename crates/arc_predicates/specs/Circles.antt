-- Circles through three points, and on which side of one a place lies.
use Rattle.std.specs.Prelude.{◌≡◌, ◌⊎◌, ◌^◌, Option, None, Some, ℤ, pos, ◌+ℤ◌, ◌*ℤ◌, ◌-ℤ◌, ◌<ℤ◌}
use Rattle.plane.specs.declared.kinds.Point.{Point}
use Rattle.plane.specs.Rule.Places.{Vector}
use Rattle.plane.specs.Rule.HalfArcs.{HalfArc, HasCircle, HasSide, off_x, off_y, power}
use Rattle.plane.specs.Rule.Turns.{AreNear}
use Rattle.arc_predicates.specs.declared.circles.Circle.{Circle}
use Rattle.arc_predicates.specs.declared.sides.Side.{Side}
use Rattle.arc_predicates.specs.declared.sides.Side.TheVariants as side

-- The half arc from s to m whose circle goes through e.
abbrev pub through : Point → Point → Point → HalfArc
through s m e = record { from = s; to = m; third = e }

-- The half arc of a circle's three points.
abbrev pub half_arc : Circle → HalfArc
half_arc c = through c.s c.m c.e

-- Two points differ by less than 2 ^ 41 units in each coordinate.
abbrev pub AreClose : Point → Point → Type 0
AreClose p q = AreNear (2 ^ 41) p q

-- The circle of the three points, where it can be judged; else none.
abbrev pub IsCircleOf : Option Circle → Point → Point → Point → Type 0
IsCircleOf None s m e = HasCircle (through s m e) → ⊥
IsCircleOf (Some c) s m e = half_arc c ≡ through s m e

-- The place (x / n, y / n).
abbrev pub place : ℤ → ℤ → ℤ → Vector
place x y n = record { x = x; y = y; n = n }

-- The side has the sign of the power: Inside below 0, On at 0, Outside above 0.
abbrev pub HasSign : Side → ℤ → Type 0
HasSign side.Inside z = z <ℤ pos 0
HasSign side.On z = z ≡ pos 0
HasSign side.Outside z = pos 0 <ℤ z

-- The side of the place for the half arc, where it has one; else none.
abbrev pub IsSideOf : Option Side → HalfArc → Vector → Type 0
IsSideOf None h z = HasSide h z → ⊥
IsSideOf (Some s) h z = HasSide h z × HasSign s (power h z)

-- The number of parts of a unit in which places are asked for.
abbrev pub IsPart : ℤ → Type 0
IsPart n = (n ≡ pos 1) ⊎ (n ≡ pos 16)

-- The place differs from the half arc's `from` by less than 2 ^ 41 units in each coordinate.
pub record IsCloseTo (h : HalfArc) (z : Vector) : Type 0 where
  pub right : off_x h z <ℤ (pos (2 ^ 41) *ℤ z.n)
  pub left : (pos 0 -ℤ off_x h z) <ℤ (pos (2 ^ 41) *ℤ z.n)
  pub above : off_y h z <ℤ (pos (2 ^ 41) *ℤ z.n)
  pub below : (pos 0 -ℤ off_y h z) <ℤ (pos (2 ^ 41) *ℤ z.n)

-- Where a place lies for a circle, from the circle's numbers and the place as it is seen from the
-- circle's first point.
abbrev pub seen_power : ℤ → ℤ → ℤ → ℤ → ℤ → ℤ → ℤ
seen_power d a b x y n = d *ℤ ((d *ℤ ((x *ℤ x) +ℤ (y *ℤ y))) -ℤ (((a *ℤ x) +ℤ (b *ℤ y)) *ℤ n))

-- z / n is below 2 ^ 28 and above -2 ^ 28.
abbrev pub IsShort : ℤ → ℤ → Type 0
IsShort z n = (z <ℤ (pos (2 ^ 28) *ℤ n)) × ((pos 0 -ℤ z) <ℤ (pos (2 ^ 28) *ℤ n))
