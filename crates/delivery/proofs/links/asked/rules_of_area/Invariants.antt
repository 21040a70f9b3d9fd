use Rattle.area_links.specs.Views.{rules_view}
use Rattle.delivery.specs.AskedLinks.{AreAskedTo}
use Rattle.delivery.proofs.links.asked.rules_of_area.Given as goal

abbrev pub invariant-loop-rule : goal.invariant-loop-rule
invariant-loop-rule l =
    AreAskedTo l.number (rules_view l.rules) l.rule-index (rules_view l.asked.items)
