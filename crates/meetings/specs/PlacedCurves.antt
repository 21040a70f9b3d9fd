-- Curves that may be drawn in one window, with a point or with each other.
use Rattle.plane.specs.declared.kinds.Point.{Point}
use Rattle.plane.specs.declared.kinds.Curve.{Curve}
use Rattle.plane.specs.Rule.Windows.{IsDrawn, IsInside, IsNarrow, IsShort}

-- The curve may be drawn in some window.
pub record IsPlaced (c : Curve) : Type 0 where
  pub low : Point
  pub high : Point
  pub narrow : IsNarrow low high
  pub low_digits : IsShort low
  pub high_digits : IsShort high
  pub drawn : IsDrawn low high c

-- The curve may be drawn in some window in which the point is.
pub record IsPlacedWith (c : Curve) (p : Point) : Type 0 where
  pub low : Point
  pub high : Point
  pub narrow : IsNarrow low high
  pub drawn : IsDrawn low high c
  pub inside : IsInside low high p

-- Both curves may be drawn in one window.
pub record ArePlaced (c d : Curve) : Type 0 where
  pub low : Point
  pub high : Point
  pub narrow : IsNarrow low high
  pub first : IsDrawn low high c
  pub second : IsDrawn low high d
