use Rattle.std.proofs.Common.{◌≡◌, ◌++◌, drop, map}
use Rattle.table_layout.specs.Values.{tables_view}
use Rattle.reports.specs.LineViews.{lines_of}
use Rattle.reports.specs.Outcomes.{table_line}
use Rattle.reports.proofs.outcome.add_tables.Given as goal

abbrev pub invariant-loop-table : goal.invariant-loop-table
invariant-loop-table l =
    lines_of l.lines.items ++ map (table_line l.topics) (tables_view (drop l.table-index l.tables))
    ≡ lines_of l.fn.lines.items ++ map (table_line l.topics) (tables_view l.tables)
