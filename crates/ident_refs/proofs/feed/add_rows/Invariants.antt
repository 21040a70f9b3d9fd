use Rattle.std.proofs.Common.{◌≡◌, drop}
use Rattle.itf_reader.specs.Views.{rows_of}
use Rattle.ident_refs.specs.FedRows.{fed_rows}
use Rattle.ident_refs.specs.KeptViews.{all_kept_view}
use Rattle.ident_refs.proofs.feed.add_rows.Given as goal

abbrev pub invariant-loop-row : goal.invariant-loop-row
invariant-loop-row l =
    fed_rows l.place (drop l.row-index (rows_of l.rows)) (all_kept_view l.tables)
    ≡ fed_rows l.place (rows_of l.rows) (all_kept_view l.fn.tables)
