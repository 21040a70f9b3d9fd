use Rattle.level_breaks.specs.LevelLists.{AreBoxesTo}
use Rattle.level_breaks.proofs.listing.boxes.Given as goal

abbrev pub invariant-loop-number : goal.invariant-loop-number
invariant-loop-number l = AreBoxesTo l.curves l.tubes l.number l.boxes.items
