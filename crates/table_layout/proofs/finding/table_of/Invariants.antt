-- The first of the tables that are left is the first of all.
use Rattle.std.proofs.Common.{◌≡◌, drop}
use Rattle.std.specs.List.{position_from}
use Rattle.table_layout.specs.Finding.{is_named, number_of}
use Rattle.table_layout.specs.Values.{layout_view, tables_view}
use Rattle.table_layout.proofs.finding.table_of.Given as goal

abbrev pub invariant-loop-number : goal.invariant-loop-number
invariant-loop-number l =
    number_of (layout_view l.layout) l.topic l.name
    ≡ position_from (is_named l.topic l.name) l.number
    (tables_view (drop l.number l.layout.tables.items))
