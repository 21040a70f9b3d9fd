use Rattle.std.proofs.Common.{List, sym, subst}
use Rattle.std.specs.List.{All}
use Rattle.area_links.specs.Views.{rules_view}
use Rattle.area_links.specs.declared.kinds.LinkRule.{LinkRule}
use Rattle.table_layout.specs.Values.{layout_view}
use Rattle.delivery.specs.LinkRows.{IsGoodRule}
use Rattle.delivery.proofs.AskedRules.{good_asked}
use Rattle.delivery.proofs.links.asked.asked_area.Goals as goal

pub all_pairs-requires-clause-good : goal.all_pairs-requires-clause-good
all_pairs-requires-clause-good c =
    let l = layout_view c.args.layout.now in
    subst (λ (rs : List LinkRule). All (IsGoodRule l) (rules_view rs)) (sym c.deref.ensures.value)
    (good_asked l (rules_view c.args.rules.now) (rules_view c.in_ok-asked.asked.items)
    c.in_ok-asked.ensures.from_rules c.requires.good)
