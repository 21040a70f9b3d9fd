-- The sides of a curve, left or right as seen from its first end to its second one.
use Rattle.std.specs.Prelude.{Bool, true, false}
use Rattle.plane.specs.CurveRuns.TubedRuns.{third_is_left}
use Rattle.plane.specs.Rule.Places.{Vector}
use Rattle.plane.specs.declared.kinds.Curve.{Curve}
use Rattle.plane.specs.declared.kinds.CurveKind.{CurveKind}
use Rattle.plane.specs.declared.kinds.CurveKind.TheVariants as kind

-- the first of two ends, or the second one
abbrev pub end_on : Bool → Vector → Vector → Vector
end_on true p q = p
end_on false p q = q

-- Whether the inside of a half arc's circle is the named side: it is the left one exactly where the
-- third point is on the left.
abbrev pub is_inward : Bool → Bool → Bool
is_inward true left = left
is_inward false true = false
is_inward false false = true

-- Whether the first end of a segment that crosses the curve is on the named side: of a straight it
-- is on the left, of a half arc inside the circle.
abbrev pub is_first_kind : CurveKind → Curve → Bool → Bool
is_first_kind kind.Straight c left = left
is_first_kind kind.HalfArc c left = is_inward (third_is_left c) left

-- The end on the named side of a segment that crosses the curve.
abbrev pub side_end : Curve → Bool → Vector → Vector → Vector
side_end c left p q = end_on (is_first_kind c.kind c left) p q
