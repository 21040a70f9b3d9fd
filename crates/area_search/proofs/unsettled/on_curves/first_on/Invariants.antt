use Rattle.area_search.specs.Unsettled.CurvePoints.{AreInCells}
use Rattle.area_search.proofs.unsettled.on_curves.first_on.Given as goal

abbrev pub invariant-loop-point : goal.invariant-loop-point
invariant-loop-point l = AreInCells l.places l.point
