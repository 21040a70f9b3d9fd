use Rattle.area_search.specs.Settled.Cases.{AreOffCurves}
use Rattle.area_search.proofs.settled.spots.first_spot_on.Given as goal

abbrev pub invariant-loop-point : goal.invariant-loop-point
invariant-loop-point l = AreOffCurves l.spots l.point
