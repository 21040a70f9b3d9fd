use Rattle.std.proofs.Common.{List, [], map, ap, ◌∙◌}
use Rattle.table_layout.specs.Values.{layout_view, tables_view}
use Rattle.table_layout.specs.declared.layouts.Table.{Table as CodeTable}
use Rattle.area_drawings.specs.KeptRows.{kept}
use Rattle.delivery.specs.KeptRows.{rows_found}
use Rattle.delivery.proofs.KeptSteps.{none_kept}
use Rattle.delivery.proofs.judging.rows.TransferKept.new.Goals as goal

pub returns : goal.returns
returns c =
    let l = layout_view c.args.layout.now in
    record {
      found =
          c.in_ok-tables.ensures l.codes
          ∙ ap (λ (ts : List CodeTable). map (λ t. rows_found l.codes t []) (tables_view ts))
          c.deref.ensures.value
          ∙ none_kept (rows_found l.codes) 0 l.tables;
      kept =
          c.in_ok-places.ensures l.codes
          ∙ ap (λ (ts : List CodeTable). map (λ t. kept l.codes t []) (tables_view ts))
          c.deref-2.ensures.value
          ∙ none_kept (kept l.codes) 0 l.tables;
      keys = c.in_ok-keys.ensures;
    }
