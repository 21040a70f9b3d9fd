use Rattle.plane.specs.Rule.Plans.{plan}
use Rattle.forks.specs.ForkedStraights.{AreBoxes}
use Rattle.forks.proofs.held.boxes.Given as goal

abbrev pub invariant-loop-number : goal.invariant-loop-number
invariant-loop-number l = AreBoxes (plan l.drawing) l.parts l.number l.boxes.items
