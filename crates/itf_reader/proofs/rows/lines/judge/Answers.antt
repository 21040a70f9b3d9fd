use Rattle.std.proofs.Common.{List, ◌++◌, ap, sym, ◌∙◌, append-nil}
use Rattle.table_layout.specs.Values.{role_view}
use Rattle.itf_reader.specs.Findings.{Finding, findings_of}
use Rattle.itf_reader.specs.RowReadings.{vertices_view}
use Rattle.itf_reader.proofs.VertexLaws.{whole_silent}
use Rattle.itf_reader.proofs.rows.lines.judge.Goals as goal

pub returns-then-is_whole-clause-findings : goal.returns-then-is_whole-clause-findings
returns-then-is_whole-clause-findings c =
    let fs = findings_of c.args.findings.now.items in
    sym (append-nil fs)
    ∙ ap (λ (l : List Finding). fs ++ l)
    (sym (whole_silent (role_view c.args.role) c.args.column (vertices_view c.args.vertices.now)
    (sym c.if-is_whole.ensures)))
