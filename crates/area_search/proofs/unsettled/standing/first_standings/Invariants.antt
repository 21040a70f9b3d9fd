use Rattle.plane.specs.Rule.Plans.{plan}
use Rattle.area_search.specs.Unsettled.Alone.{AreFirstTo}
use Rattle.area_search.proofs.unsettled.standing.first_standings.Given as goal

abbrev pub invariant-loop-number : goal.invariant-loop-number
invariant-loop-number l = AreFirstTo (plan l.drawing) l.aside l.number l.standings.items
