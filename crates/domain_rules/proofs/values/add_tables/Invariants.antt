use Rattle.std.proofs.Common.{◌≡◌, ◌++◌}
use Rattle.std.specs.Iterator.Adapters.{zip_first, zip_second}
use Rattle.std.specs.Slice.Iter.{iter_rest}
use Rattle.std.specs.List.{All}
use Rattle.ili_grammar.specs.Values.{codes_of}
use Rattle.table_layout.specs.Values.{tables_view}
use Rattle.itf_reader.specs.Findings.{findings_of}
use Rattle.itf_reader.specs.Views.{tables_rows_of}
use Rattle.itf_reader.specs.Few.{HasFew}
use Rattle.domain_rules.specs.ValueFindings.{tables_findings}
use Rattle.domain_rules.proofs.values.add_tables.Given as goal

abbrev pub invariant-loop-table : goal.invariant-loop-table
invariant-loop-table l = record {
  can_next : (goal.iterator-loop-table).can_next l.table-iterator;
  is_finite : (goal.iterator-loop-table).is_finite l.table-iterator;
  few : All HasFew (tables_view (iter_rest (zip_first l.table-iterator)));
  findings : findings_of l.findings.items
      ++ tables_findings (codes_of l.codes) (tables_view (iter_rest (zip_first l.table-iterator)))
      (tables_rows_of (iter_rest (zip_second l.table-iterator)))
      ≡ findings_of l.fn.findings.items
      ++ tables_findings (codes_of l.codes) (tables_view l.tables) (tables_rows_of l.transfer);
}
