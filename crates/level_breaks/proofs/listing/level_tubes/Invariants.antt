use Rattle.level_breaks.specs.LevelLists.{AreTubesTo}
use Rattle.level_breaks.proofs.listing.level_tubes.Given as goal

abbrev pub invariant-loop-curve : goal.invariant-loop-curve
invariant-loop-curve l = AreTubesTo l.drawing.curves.items (λ n. l.level) l.curve-index l.tubes.items
