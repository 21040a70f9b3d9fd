-- What is truly at fault in a drawing.
use Rattle.std.specs.Prelude.{◌≡◌, ℕ, ◌<◌, length}
use Rattle.plane.specs.Rule.Places.{point}
use Rattle.plane.specs.Rule.HalfArcs.{HasSide}
use Rattle.plane.specs.Rule.Curves.{arc, IsOn}
use Rattle.plane.specs.Rule.Partition.{Joined, IsOuter}
use Rattle.plane.specs.Rule.Plans.{Plan, curve, object}
use Rattle.plane.specs.declared.kinds.CurveKind.TheVariants as kind

-- The object's point lies on the curve and, where that is a half arc, has a side for it.
pub record LiesOn (d : Plan) (point_number curve_number : ℕ) : Type 0 where
  pub point_there : point_number < length d.points
  pub curve_there : curve_number < length d.curves
  pub on : IsOn (curve d curve_number) (point (object d point_number))
  pub has_side : (curve d curve_number).kind ≡ kind.HalfArc
      → HasSide (arc (curve d curve_number)) (point (object d point_number))

-- The object's point is outer.
pub record LiesOutside (d : Plan) (j : ℕ) : Type 0 where
  pub there : j < length d.points
  pub outer : IsOuter d (point (object d j))

-- Two objects' points are joined; i is less than j.
pub record AreTwo (d : Plan) (i j : ℕ) : Type 0 where
  pub order : i < j
  pub there : j < length d.points
  pub joined : Joined d (point (object d i)) (point (object d j))
