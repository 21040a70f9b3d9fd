use Rattle.std.proofs.Common.{List, [], map, ap, ◌∙◌}
use Rattle.table_layout.specs.Values.{layout_view, tables_view}
use Rattle.table_layout.specs.declared.layouts.Table.{Table as CodeTable}
use Rattle.delivery.specs.LinkRows.{link_points}
use Rattle.delivery.proofs.KeptSteps.{none_kept}
use Rattle.delivery.proofs.judging.linking.LinksKept.new.Goals as goal

pub returns : goal.returns
returns c =
    let l = layout_view c.args.layout.now in
    record {
      judged = c.in_ok-judged.ensures;
      points =
          c.in_ok-points.ensures l.codes
          ∙ ap (λ (ts : List CodeTable). map (λ t. link_points l.codes t []) (tables_view ts))
          c.deref.ensures.value
          ∙ none_kept (link_points l.codes) 0 l.tables;
    }
