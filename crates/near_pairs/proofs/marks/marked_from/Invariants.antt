use Rattle.near_pairs.specs.Boxes.{AreMarkedFrom}
use Rattle.near_pairs.proofs.marks.marked_from.Given as goal

abbrev pub invariant-loop-number : goal.invariant-loop-number
invariant-loop-number l = AreMarkedFrom l.first l.number l.marks.items
