use Rattle.area_search.specs.Unsettled.Alone.{AreLeftTo}
use Rattle.area_search.proofs.unsettled.standing.after_leaving.Given as goal

abbrev pub invariant-loop-number : goal.invariant-loop-number
invariant-loop-number l = AreLeftTo l.standings l.number l.next.items
