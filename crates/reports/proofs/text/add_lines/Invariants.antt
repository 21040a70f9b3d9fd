use Rattle.std.proofs.Common.{◌≡◌, ◌++◌, drop}
use Rattle.std.specs.List.{flat_map}
use Rattle.reports.specs.Lines.{line_text}
use Rattle.reports.specs.LineViews.{lines_of}
use Rattle.reports.proofs.text.add_lines.Given as goal

abbrev pub invariant-loop-line : goal.invariant-loop-line
invariant-loop-line l =
    l.text ++ flat_map line_text (lines_of (drop l.line-index l.lines))
    ≡ l.fn.text ++ flat_map line_text (lines_of l.lines)
