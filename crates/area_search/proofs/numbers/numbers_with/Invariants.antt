use Rattle.area_search.specs.Unsettled.CurvePoints.{AreMarkedTo}
use Rattle.area_search.proofs.numbers.numbers_with.Given as goal

abbrev pub invariant-loop-number : goal.invariant-loop-number
invariant-loop-number l = AreMarkedTo l.marks l.mark l.number l.numbers.items
