use Rattle.area_search.specs.Unsettled.SetAside.{AreCurvesAt}
use Rattle.area_search.proofs.unsettled.rest.curves_at.Given as goal

abbrev pub invariant-loop-number : goal.invariant-loop-number
invariant-loop-number l = AreCurvesAt l.all l.numbers l.number-index l.curves.items
