use Rattle.area_faults.proofs.Unmarked.{AreMoreTo}
use Rattle.area_faults.proofs.marks.either.Given as goal

abbrev pub invariant-loop-number : goal.invariant-loop-number
invariant-loop-number l = AreMoreTo l.first l.number l.marks.items
