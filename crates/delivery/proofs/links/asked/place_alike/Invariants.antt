use Rattle.std.proofs.Common.{◌≡◌, drop}
use Rattle.std.specs.List.{position_from}
use Rattle.area_links.specs.Views.{rule_view, rules_view}
use Rattle.delivery.specs.AskedLinks.{are_alike, place_alike}
use Rattle.delivery.proofs.links.asked.place_alike.Given as goal

abbrev pub invariant-loop-place : goal.invariant-loop-place
invariant-loop-place l =
    place_alike (rules_view l.rules) (rule_view l.rule)
    ≡ position_from (λ q. are_alike q (rule_view l.rule)) l.place
    (rules_view (drop l.place l.rules))
