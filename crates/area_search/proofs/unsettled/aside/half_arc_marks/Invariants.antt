use Rattle.area_search.specs.Unsettled.SetAside.{AreArcMarks}
use Rattle.area_search.proofs.unsettled.aside.half_arc_marks.Given as goal

abbrev pub invariant-loop-curve : goal.invariant-loop-curve
invariant-loop-curve l = AreArcMarks l.curves l.curve-index l.marks.items
