-- The window of a drawing, and what may be drawn in it.
use Rattle.std.specs.Prelude.{◌≡◌, ◌^◌, pos, ◌-ℤ◌, ◌<ℤ◌, ◌≤ℤ◌}
use Rattle.plane.specs.Numbers.{IsWithin}
use Rattle.plane.specs.Rule.Turns.{cross}
use Rattle.plane.specs.declared.kinds.Point.{Point}
use Rattle.plane.specs.declared.kinds.Curve.{Curve}
use Rattle.plane.specs.declared.kinds.CurveKind.TheVariants.{Straight, HalfArc}

-- Both coordinates of the point have at most 18 digits.
pub record IsShort (p : Point) : Type 0 where
  pub x : IsWithin (10 ^ 18) p.x
  pub y : IsWithin (10 ^ 18) p.y

-- From low to high it is less than 2 ^ 40 units in each axis.
pub record IsNarrow (low high : Point) : Type 0 where
  pub x : (high.x -ℤ low.x) <ℤ pos (2 ^ 40)
  pub y : (high.y -ℤ low.y) <ℤ pos (2 ^ 40)

-- The point is in the window from low to high, its border included.
pub record IsInside (low high p : Point) : Type 0 where
  pub left : low.x ≤ℤ p.x
  pub right : p.x ≤ℤ high.x
  pub bottom : low.y ≤ℤ p.y
  pub top : p.y ≤ℤ high.y

-- The curve may be drawn in the window: all its points are inside, its ends differ, the third point
-- of a straight is its end, and the three points of a half arc are not collinear.
pub record IsDrawn (low high : Point) (c : Curve) : Type 0 where
  pub from : IsInside low high c.from
  pub to : IsInside low high c.to
  pub third : IsInside low high c.third
  pub distinct : c.from ≡ c.to → ⊥
  pub straight : c.kind ≡ Straight → c.third ≡ c.to
  pub bent : c.kind ≡ HalfArc → cross c.from c.to c.third ≡ pos 0 → ⊥
