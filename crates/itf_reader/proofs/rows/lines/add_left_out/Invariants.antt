use Rattle.std.proofs.Common.{◌≡◌, ◌++◌, drop, length}
use Rattle.itf_reader.specs.Findings.{findings_of}
use Rattle.itf_reader.specs.LeftOut.{left_out_findings}
use Rattle.itf_reader.proofs.rows.lines.add_left_out.Given as goal

abbrev pub invariant-loop-number : goal.invariant-loop-number
invariant-loop-number l =
    findings_of l.findings.items ++ left_out_findings l.line l.first
    (length l.strokes.given.items) l.strokes.left_out (drop l.number-index l.mandatory)
    ≡ findings_of l.fn.findings.items ++ left_out_findings l.line l.first
    (length l.strokes.given.items) l.strokes.left_out l.mandatory
