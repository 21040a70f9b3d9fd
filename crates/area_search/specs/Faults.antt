-- What is truly at fault in a drawing.
use Rattle.std.specs.Prelude.{ℕ, Bool}
use Rattle.plane.specs.Rule.Places.{Vector}
use Rattle.plane.specs.Rule.CrossedCurves.{CrossesHalfArc, IsLost}
use Rattle.plane.specs.Rule.CurveCrossings.{Crosses}
use Rattle.plane.specs.Rule.Plans.{IsHalfArc, IsStraight, Plan, curve}
use Rattle.plane.specs.CurveRuns.TubedRuns.{third_is_left}
pub use Rattle.fault_lists.specs.Faults.{AreTwo, LiesOn, LiesOutside}
pub use Rattle.fault_lists.specs.Sides.{end_on, is_inward}

-- Some segment crosses the curve, and its end on the named side, left or not as seen from `from` to
-- `to`, is neither outer nor joined to an object's point. A straight is crossed from left to right,
-- a half arc from inside its circle to outside.
pub data IsEmptySide (d : Plan) (i : ℕ) (left : Bool) : Type 0 where
  straight : (p q : Vector) → IsStraight d i → Crosses d i p q → IsLost d (end_on left p q)
      → IsEmptySide d i left
  half_arc : (p q : Vector) → IsHalfArc d i → CrossesHalfArc d i p q
      → IsLost d (end_on (is_inward (third_is_left (curve d i)) left) p q) → IsEmptySide d i left
