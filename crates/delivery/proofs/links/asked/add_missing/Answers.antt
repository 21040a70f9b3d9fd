use Rattle.std.proofs.Common.{◌≡◌, ◌++◌, [], ◌∷◌, ◌+◌, ap, sym, ◌∙◌, subst}
use Rattle.std.proofs.lemmas.List.{map-append}
use Rattle.area_links.specs.Views.{rule_view, rules_view}
use Rattle.delivery.specs.AskedLinks.{AreAskedTo}
use Rattle.delivery.proofs.AskedRules.{asked_more}
use Rattle.delivery.proofs.links.asked.add_missing.Goals as goal

pub returns-in_ok-push : goal.returns-in_ok-push
returns-in_ok-push c rules k at h =
    let r = rule_view c.args.rule.now in
    let asked = c.args.asked.now.items in
    let more : rules_view c.push.new.self.items ≡ rules_view asked ++ r ∷ [] =
    ap rules_view c.in_ok-push.ensures.items ∙ map-append rule_view asked (c.args.rule.now ∷ []) in
    subst (AreAskedTo c.args.number rules (k + 1)) (sym more)
    (asked_more c.args.number rules k (rules_view asked) h r at)
