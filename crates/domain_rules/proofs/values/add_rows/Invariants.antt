use Rattle.std.proofs.Common.{◌≡◌, ◌++◌, drop}
use Rattle.ili_grammar.specs.Values.{codes_of}
use Rattle.itf_reader.specs.Findings.{findings_of}
use Rattle.itf_reader.specs.Views.{rows_of}
use Rattle.table_layout.specs.Values.{table_view}
use Rattle.domain_rules.specs.ValueFindings.{table_findings}
use Rattle.domain_rules.proofs.values.add_rows.Given as goal

abbrev pub invariant-loop-row : goal.invariant-loop-row
invariant-loop-row l =
    findings_of l.findings.items ++ table_findings (codes_of l.codes)
    (table_view l.reader.table.now) (rows_of (drop l.row-index l.rows))
    ≡ findings_of l.fn.findings.items ++ table_findings (codes_of l.codes)
    (table_view l.reader.table.now) (rows_of l.rows)
