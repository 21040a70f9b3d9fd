use Rattle.area_search.specs.Unsettled.CurvePoints.{ArePointBoxes}
use Rattle.area_search.proofs.unsettled.on_curves.add_point_boxes.Given as goal

abbrev pub invariant-loop-point : goal.invariant-loop-point
invariant-loop-point l = ArePointBoxes l.points l.point-index l.boxes.items
