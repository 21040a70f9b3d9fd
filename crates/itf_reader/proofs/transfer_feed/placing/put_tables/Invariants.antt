use Rattle.std.proofs.Common.{◌≡◌, length}
use Rattle.itf_reader.specs.ClosedRows.{all_pairs}
use Rattle.itf_reader.specs.ReadRows.{read_tables_view}
use Rattle.itf_reader.specs.Placing.{with_rows}
use Rattle.itf_reader.specs.Views.{tables_rows_of}
use Rattle.itf_reader.proofs.transfer_feed.placing.put_tables.Given as goal

-- the tables that are left give the same still
abbrev pub invariant-loop-table : goal.invariant-loop-table
invariant-loop-table l =
    with_rows 0 (all_pairs (read_tables_view l.left.items)) (tables_rows_of l.tables)
    ≡ with_rows 0 (all_pairs (read_tables_view l.fn.read.items)) (tables_rows_of l.fn.tables)

abbrev pub decreases-loop-table : goal.decreases-loop-table
decreases-loop-table l = length l.left.items
