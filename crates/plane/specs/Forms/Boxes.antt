-- Closed boxes, and which of them hold what counts of a half arc.
use Rattle.std.specs.Prelude.{◌≡◌, ℤ, pos, nat_abs, ◌+ℤ◌, ◌*ℤ◌, ◌-ℤ◌, ◌≤ℤ◌}
use Rattle.plane.specs.Rule.Places.{Vector, Place, point}
use Rattle.plane.specs.Rule.HalfArcs.{HalfArc, power, bow, HasSide}
use Rattle.plane.specs.Rule.Curves.{arc}
use Rattle.plane.specs.declared.kinds.Point.{Point}
use Rattle.plane.specs.declared.kinds.Curve.{Curve}
use Rattle.plane.specs.declared.kinds.CurveKind.TheVariants as kind

-- A closed box, by its lower left corner and its upper right one.
pub record Box : Type 0 where
  pub low : Point
  pub high : Point

-- The place z is in the box.
pub record InBox (b : Box) (z : Vector) : Type 0 where
  pub left : (b.low.x *ℤ z.n) ≤ℤ z.x
  pub right : z.x ≤ℤ (b.high.x *ℤ z.n)
  pub under : (b.low.y *ℤ z.n) ≤ℤ z.y
  pub over : z.y ≤ℤ (b.high.y *ℤ z.n)

-- The box goes beyond p by at least x to the left and to the right, and by at least y downwards and
-- upwards.
pub record GoesBeyond (p : Point) (x y : ℤ) (b : Box) : Type 0 where
  pub left : (b.low.x +ℤ x) ≤ℤ p.x
  pub right : (p.x +ℤ x) ≤ℤ b.high.x
  pub under : (b.low.y +ℤ y) ≤ℤ p.y
  pub over : (p.y +ℤ y) ≤ℤ b.high.y

-- |x|
abbrev pub size : ℤ → ℤ
size x = pos (nat_abs x)

-- How far q is from p, along x and then along y.
abbrev pub steps : Point → Point → ℤ
steps p q = size (q.x -ℤ p.x) +ℤ size (q.y -ℤ p.y)

-- The product of the three sides of the half arc's triangle, each by its two steps.
unfoldable pub sides : HalfArc → ℤ
sides h = (steps h.from h.to *ℤ steps h.from h.third) *ℤ steps h.to h.third

-- The place is in the cap of the half arc: not outside its circle, and not on the third point's
-- side of its chord.
pub record InCap (h : HalfArc) (z : Vector) : Type 0 where
  pub within : power h z ≤ℤ pos 0
  pub away : pos 0 ≤ℤ bow h z

-- The box holds all of the curve that a report may speak of: its ends, and of a half arc the places
-- of its cap that have a side for it.
pub record HoldsCurve (b : Box) (c : Curve) : Type 0 where
  pub from : InBox b (point c.from)
  pub to : InBox b (point c.to)
  pub cap : c.kind ≡ kind.HalfArc → (z : Vector) → Place z → HasSide (arc c) z → InCap (arc c) z
      → InBox b z
