use Rattle.std.proofs.Common.{◌≡◌, ◌+◌, ◌*◌, ◌≤◌, ◌++◌, drop, map}
use Rattle.table_layout.specs.Values.{columns_view}
use Rattle.itf_reader.specs.RowFindings.{widths}
use Rattle.ident_refs.specs.Spans.{span_view, spans_from}
use Rattle.ident_refs.proofs.key_reader.spans_of.Given as goal

abbrev pub invariant-loop-column : goal.invariant-loop-column
invariant-loop-column l = record {
  low : l.start ≤ 1 + 3 * l.column-index;
  wide : l.start + widths (drop l.column-index (columns_view l.columns))
      ≡ 1 + widths (columns_view l.columns);
  spread : map span_view l.spans.items
      ++ spans_from l.start (drop l.column-index (columns_view l.columns))
      ≡ spans_from 1 (columns_view l.columns);
}
