use Rattle.std.proofs.Common.{◌≡◌, ◌++◌, ◌+◌, drop, length}
use Rattle.ili_grammar.specs.Values.{codes_of}
use Rattle.table_layout.specs.Values.{columns_view}
use Rattle.itf_reader.specs.RowFindings.{widths}
use Rattle.ident_refs.specs.KeptRows.{columns_refs}
use Rattle.ident_refs.specs.KeptViews.{refs_view}
use Rattle.ident_refs.proofs.references.add_columns.Given as goal

abbrev pub invariant-loop-place : goal.invariant-loop-place
invariant-loop-place l = record {
  counted : length l.left ≡ widths (drop l.place (columns_view l.columns));
  added :
      refs_view l.refs.items ++ columns_refs (codes_of l.codes) l.line (l.place + 1)
      (drop l.place (columns_view l.columns)) l.left
      ≡ refs_view l.fn.refs.items ++ columns_refs (codes_of l.codes) l.line 1
      (columns_view l.columns) l.fn.words;
}
