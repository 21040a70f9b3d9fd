use Rattle.std.proofs.Common.{◌≡◌, map, take}
use Rattle.ili_grammar.specs.Values.{codes_of}
use Rattle.table_layout.specs.Values.{tables_view}
use Rattle.ident_refs.specs.KeptRows.{no_rows}
use Rattle.ident_refs.specs.KeptViews.{all_kept_view}
use Rattle.ident_refs.proofs.feed.empty_tables.Given as goal

abbrev pub invariant-loop-table : goal.invariant-loop-table
invariant-loop-table l =
    all_kept_view l.kept.items ≡ map (no_rows (codes_of l.codes))
    (tables_view (take l.table-index l.tables))
