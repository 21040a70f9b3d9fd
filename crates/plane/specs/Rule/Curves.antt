-- Curves of both kinds: the places on them, and the segments that hit them.
use Rattle.std.specs.Prelude.{◌⊎◌}
use Rattle.plane.specs.Rule.Places.{Vector, Place, Same, point}
use Rattle.plane.specs.Rule.Straights.{IsOnStraight}
use Rattle.plane.specs.Rule.HalfArcs.{HalfArc, IsOnHalfArc, HitsHalfArc}
use Rattle.plane.specs.declared.kinds.Curve.{Curve}
use Rattle.plane.specs.declared.kinds.CurveKind.{CurveKind}
use Rattle.plane.specs.declared.kinds.CurveKind.TheVariants as kind

-- A curve as a half arc.
abbrev pub arc : Curve → HalfArc
arc c = record { from = c.from; to = c.to; third = c.third }

-- The segment from p to q hits the straight of the curve's ends where some place is on both.
pub record HitsStraight (c : Curve) (p q : Vector) : Type 0 where
  pub z : Vector
  pub place : Place z
  pub of_segment : IsOnStraight p q z
  pub of_curve : IsOnStraight (point c.from) (point c.to) z

-- The place is on the curve, by the curve's kind.
abbrev pub IsOnKind : CurveKind → Curve → Vector → Type 0
IsOnKind kind.Straight c z = IsOnStraight (point c.from) (point c.to) z
IsOnKind kind.HalfArc c z = IsOnHalfArc (arc c) z

-- The segment from p to q hits the curve, by the curve's kind.
abbrev pub HitsKind : CurveKind → Curve → Vector → Vector → Type 0
HitsKind kind.Straight c p q = HitsStraight c p q
HitsKind kind.HalfArc c p q = HitsHalfArc (arc c) p q

-- The place is on the curve.
abbrev pub IsOn : Curve → Vector → Type 0
IsOn c z = IsOnKind c.kind c z

-- The segment from p to q hits the curve. A segment with p = q is the place p alone.
abbrev pub Hits : Curve → Vector → Vector → Type 0
Hits c p q = HitsKind c.kind c p q

-- The place is a control point of the curve: one of its two ends.
abbrev pub IsControl : Curve → Vector → Type 0
IsControl c z = Same z (point c.from) ⊎ Same z (point c.to)
