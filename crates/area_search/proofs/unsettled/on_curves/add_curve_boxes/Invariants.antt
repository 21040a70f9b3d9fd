use Rattle.plane.specs.Rule.Plans.{plan}
use Rattle.area_search.specs.Unsettled.CurvePoints.{AreCurveBoxes}
use Rattle.area_search.proofs.unsettled.on_curves.add_curve_boxes.Given as goal

abbrev pub invariant-loop-number : goal.invariant-loop-number
invariant-loop-number l = AreCurveBoxes (plan l.drawing) l.numbers l.number-index l.boxes.items
