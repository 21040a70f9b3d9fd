use Rattle.std.proofs.Common.{◌≡◌, ◌++◌, drop}
use Rattle.std.specs.List.{flat_map}
use Rattle.reports.specs.Lines.{line_text}
use Rattle.reports.specs.LineViews.{findings_view}
use Rattle.reports.proofs.text.add_findings.Given as goal

abbrev pub invariant-loop-finding : goal.invariant-loop-finding
invariant-loop-finding l =
    l.text ++ flat_map line_text (findings_view (drop l.finding-index l.findings))
    ≡ l.fn.text ++ flat_map line_text (findings_view l.findings)
