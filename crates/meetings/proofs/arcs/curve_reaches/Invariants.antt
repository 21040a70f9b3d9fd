use Rattle.meetings.specs.CurveBoxes.{AreReachesTo}
use Rattle.meetings.proofs.arcs.curve_reaches.Given as goal

abbrev pub invariant-loop-curve : goal.invariant-loop-curve
invariant-loop-curve l = AreReachesTo l.curves l.curve-index l.reaches.items
