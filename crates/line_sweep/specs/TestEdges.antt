-- Edges of a small window, as the tests take them.
use Rattle.std.specs.Prelude.{pos, neg_ℤ}
use Rattle.plane.specs.declared.kinds.Point.{Point}
use Rattle.plane.specs.declared.kinds.Edge.{Edge}
use Rattle.plane.specs.Forms.Vectors.{Before}
use Rattle.plane.specs.Rule.Windows.{IsInside}

abbrev pub low_corner : Point
low_corner = record { x = neg_ℤ (pos 1000); y = neg_ℤ (pos 1000) }

abbrev pub high_corner : Point
high_corner = record { x = pos 1000; y = pos 1000 }

abbrev pub IsMiddle : Point → Type 0
IsMiddle p = IsInside low_corner high_corner p

pub record IsFit (e : Edge) : Type 0 where
  pub sorted : Before e.low e.high
  pub low : IsMiddle e.low
  pub high : IsMiddle e.high
