use Rattle.plane.specs.Rule.Plans.{plan}
use Rattle.area_search.specs.Unsettled.Alone.{AreApart}
use Rattle.area_search.proofs.unsettled.alone.still_alone.Given as goal

abbrev pub invariant-loop : goal.invariant-loop
invariant-loop l = AreApart (plan l.drawing) l.standings.items
