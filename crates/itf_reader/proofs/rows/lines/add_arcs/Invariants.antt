use Rattle.std.proofs.Common.{◌≡◌, ◌++◌, length}
use Rattle.itf_reader.specs.Findings.{findings_of}
use Rattle.itf_reader.specs.RowReadings.{vertices_view}
use Rattle.itf_reader.specs.StrokeFindings.{arc_findings}
use Rattle.itf_reader.proofs.rows.lines.add_arcs.Given as goal

abbrev pub invariant-loop-rest : goal.invariant-loop-rest
invariant-loop-rest l =
    findings_of l.findings.items ++ arc_findings l.column (vertices_view l.rest)
    ≡ findings_of l.fn.findings.items ++ arc_findings l.column (vertices_view l.vertices)

abbrev pub decreases-loop-rest : goal.decreases-loop-rest
decreases-loop-rest l = length l.rest
