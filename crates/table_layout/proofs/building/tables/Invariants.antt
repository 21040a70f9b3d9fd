use Rattle.std.proofs.Common.{◌≡◌, ◌≤◌, ◌+◌, ◌++◌, length, drop}
use Rattle.resolver.specs.Values.{topics_of}
use Rattle.table_layout.specs.Few.{numbers_in}
use Rattle.table_layout.specs.Tables.{tables_from}
use Rattle.table_layout.specs.Values.{tables_view}
use Rattle.table_layout.proofs.building.tables.Given as goal

abbrev pub invariant-loop-number : goal.invariant-loop-number
invariant-loop-number l =
    (l.number + length l.tables.items + numbers_in (topics_of (drop l.number l.topics)) ≤ 4194304)
    × (tables_view l.tables.items ++ tables_from l.number (length l.tables.items)
    (topics_of (drop l.number l.topics)) ≡ tables_from 0 0 (topics_of l.topics))
