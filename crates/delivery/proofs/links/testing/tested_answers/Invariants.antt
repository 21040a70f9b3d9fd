use Rattle.table_layout.specs.Values.{layout_view}
use Rattle.reports.specs.AreaKinds.{plans}
use Rattle.delivery.specs.AskedLinks.{all_results}
use Rattle.delivery.proofs.TestedAreas.{AreTestedTo}
use Rattle.delivery.proofs.links.testing.tested_answers.Given as goal

abbrev pub invariant-loop-number : goal.invariant-loop-number
invariant-loop-number l =
    AreTestedTo (layout_view l.layout) (plans l.drawings) l.asked l.number l.areas.items
    (all_results l.results.items)
