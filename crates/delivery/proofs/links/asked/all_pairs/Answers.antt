use Rattle.area_links.specs.Views.{rule_view}
use Rattle.table_layout.specs.Values.{layout_view}
use Rattle.delivery.specs.LinkRows.{IsGoodRule}
use Rattle.delivery.proofs.AskedRules.{all_there}
use Rattle.delivery.proofs.links.asked.all_pairs.Goals as goal

pub rule_pairs-requires-clause-good : goal.rule_pairs-requires-clause-good
rule_pairs-requires-clause-good c =
    all_there (IsGoodRule (layout_view c.args.layout.now)) rule_view c.args.rules.now
    c.loop-rule.rule-index _ c.loop-rule-test.true c.requires.good
