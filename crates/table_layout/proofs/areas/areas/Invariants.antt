use Rattle.std.proofs.Common.{◌≡◌, ◌++◌, drop}
use Rattle.table_layout.specs.Tables.{areas_from}
use Rattle.table_layout.specs.Values.{areas_view, tables_view}
use Rattle.table_layout.proofs.areas.areas.Given as goal

abbrev pub invariant-loop-number : goal.invariant-loop-number
invariant-loop-number l =
    areas_view l.areas.items ++ areas_from (tables_view l.tables) l.number
    (tables_view (drop l.number l.tables))
    ≡ areas_from (tables_view l.tables) 0 (tables_view l.tables)
