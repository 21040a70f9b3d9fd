use Rattle.std.proofs.Common.{◌≡◌, drop, eqb}
use Rattle.table_layout.specs.Values.{columns_view}
use Rattle.itf_reader.specs.RowFindings.{widths}
use Rattle.itf_reader.proofs.rows.counting.are_wide.Given as goal

abbrev pub invariant-loop-column : goal.invariant-loop-column
invariant-loop-column l =
    eqb l.left (widths (columns_view (drop l.column-index l.columns)))
    ≡ eqb l.words (widths (columns_view l.columns))
