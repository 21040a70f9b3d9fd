use Rattle.std.proofs.Common.{◌≡◌, ◌+◌, ◌++◌, drop}
use Rattle.resolver.specs.Values.{tables_of}
use Rattle.table_layout.specs.Tables.{numbers_from, tables_in}
use Rattle.table_layout.proofs.topics.numbers.Given as goal

abbrev pub invariant-loop-table : goal.invariant-loop-table
invariant-loop-table l =
    (l.next + tables_in (tables_of (drop l.table-index l.tables))
    ≡ l.first + tables_in (tables_of l.tables))
    × (l.numbers.items ++ numbers_from l.next (tables_of (drop l.table-index l.tables))
    ≡ numbers_from l.first (tables_of l.tables))
