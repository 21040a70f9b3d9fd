use Rattle.area_search.specs.Settled.CaseSides.{HasNoFree}
use Rattle.area_search.proofs.settled.case_sides.first_free.Given as goal

abbrev pub invariant-loop-number : goal.invariant-loop-number
invariant-loop-number l = HasNoFree l.curves l.besides l.owners l.number
