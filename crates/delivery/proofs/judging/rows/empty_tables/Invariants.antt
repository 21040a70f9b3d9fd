use Rattle.std.proofs.Common.{◌≡◌, [], map, take}
use Rattle.ili_grammar.specs.Syntax.{Codes}
use Rattle.table_layout.specs.Values.{tables_view}
use Rattle.delivery.specs.KeptRows.{rows_found}
use Rattle.delivery.specs.KeptViews.{found_in}
use Rattle.delivery.proofs.judging.rows.empty_tables.Given as goal

abbrev pub invariant-loop-table : goal.invariant-loop-table
invariant-loop-table l =
    (codes : Codes) → found_in l.found.items
    ≡ map (λ t. rows_found codes t []) (tables_view (take l.table-index l.tables))
