use Rattle.std.proofs.Common.{◌≡◌, ◌++◌, ◌+◌, ◌*◌, ◌^◌, ◌≤◌, drop}
use Rattle.std.specs.List.{flat_map}
use Rattle.area_links.specs.Views.{rules_view}
use Rattle.reports.specs.OutcomeViews.{misplaced_view}
use Rattle.delivery.specs.AskedLinks.{all_results, rule_misplaced, rules_count}
use Rattle.delivery.proofs.links.gathering.gather.Given as goal

abbrev pub invariant-loop-rule : goal.invariant-loop-rule
invariant-loop-rule l = record {
  misplaced : misplaced_view l.misplaced.items
      ++ flat_map (rule_misplaced l.asked (all_results l.results))
      (rules_view (drop l.rule-index l.rules))
      ≡ flat_map (rule_misplaced l.asked (all_results l.results)) (rules_view l.rules);
  pairs : l.pairs + rules_count l.asked (rules_view (drop l.rule-index l.rules))
      ≡ rules_count l.asked (rules_view l.rules);
  few : l.pairs ≤ l.rule-index * 2 ^ 64;
}
