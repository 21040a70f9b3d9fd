use Rattle.std.proofs.Common.{◌≡◌, take}
use Rattle.ident_refs.specs.KeptRows.{all_ids, all_lines}
use Rattle.ident_refs.specs.KeptViews.{all_kept_view, ids_view, row_lines_view}
use Rattle.ident_refs.proofs.sorted.id_columns.Given as goal

abbrev pub invariant-loop-table : goal.invariant-loop-table
invariant-loop-table l = record {
  keys : ids_view l.columns.items ≡ all_ids (all_kept_view (take l.table-index l.tables));
  lines : row_lines_view l.columns.items ≡ all_lines (all_kept_view (take l.table-index l.tables));
}
