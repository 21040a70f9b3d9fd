use Rattle.std.proofs.Common.{◌≡◌, drop}
use Rattle.itf_reader.specs.Views.{tables_rows_of}
use Rattle.ident_refs.specs.FedRows.{fed_tables}
use Rattle.ident_refs.specs.KeptViews.{all_kept_view}
use Rattle.ident_refs.proofs.feed.KeyFeed.add_tables.Given as goal

abbrev pub invariant-loop-place : goal.invariant-loop-place
invariant-loop-place l =
    fed_tables l.place (drop l.place (tables_rows_of l.transfer))
    (all_kept_view l.self.tables.items)
    ≡ fed_tables 0 (tables_rows_of l.transfer) (all_kept_view l.fn.self.tables.items)
