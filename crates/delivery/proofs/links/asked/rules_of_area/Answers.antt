use Rattle.std.proofs.Common.{◌≤◌, length, arith}
use Rattle.std.proofs.lemmas.List.{length-map}
use Rattle.area_links.specs.Views.{rule_view, rules_view}
use Rattle.delivery.proofs.AskedRules.{all_asked, mapped_there}
use Rattle.delivery.proofs.links.asked.rules_of_area.Goals as goal

pub loop-rule-preserved : goal.loop-rule-preserved
loop-rule-preserved c =
    c.in_ok-add_missing.ensures (rules_view c.args.rules.now) c.loop-rule.rule-index
    (mapped_there rule_view c.args.rules.now c.loop-rule.rule-index _ c.loop-rule-test.true)
    c.loop-rule.invariant

pub returns : goal.returns
returns c =
    let n = length-map c.args.rules.now rule_view in
    let past = c.loop-rule-test.false in
    let le : length (rules_view c.args.rules.now) ≤ c.loop-rule.rule-index =
    omega (arith, n, past) in
    all_asked c.args.number (rules_view c.args.rules.now) c.loop-rule.rule-index
    (rules_view c.loop-rule.asked.items) le c.loop-rule.invariant
