use Rattle.std.proofs.Common.{◌≡◌, ◌+◌, ◌++◌, drop, length}
use Rattle.ili_grammar.specs.Values.{codes_of}
use Rattle.table_layout.specs.Values.{columns_view}
use Rattle.itf_reader.specs.Findings.{findings_of}
use Rattle.itf_reader.specs.RowFindings.{widths, columns_findings}
use Rattle.itf_reader.specs.RowReadings.{cells_of, cells_view}
use Rattle.itf_reader.proofs.rows.columns.read_columns.Given as goal

abbrev pub invariant-loop-column : goal.invariant-loop-column
invariant-loop-column l = record {
  number : l.number ≡ l.column-index + 1;
  counted : length l.rest ≡ widths (columns_view (drop l.column-index l.columns));
  cells :
      cells_view l.cells.items ++ cells_of (codes_of l.codes)
      (columns_view (drop l.column-index l.columns)) l.rest
      ≡ cells_view l.fn.cells.items ++ cells_of (codes_of l.codes) (columns_view l.columns) l.words;
  findings :
      findings_of l.findings.items ++ columns_findings (codes_of l.codes) l.line l.number
      (columns_view (drop l.column-index l.columns)) l.rest
      ≡ findings_of l.fn.findings.items
      ++ columns_findings (codes_of l.codes) l.line 1 (columns_view l.columns) l.words;
}
