use Rattle.level_breaks.specs.LevelLists.{AreMarksTo}
use Rattle.level_breaks.proofs.listing.half_arc_marks.Given as goal

abbrev pub invariant-loop-curve : goal.invariant-loop-curve
invariant-loop-curve l = AreMarksTo l.curves l.curve-index l.marks.items
