use Rattle.std.proofs.Common.{◌≡◌, ◌++◌, drop, map}
use Rattle.reports.specs.LineViews.{lines_of}
use Rattle.reports.specs.Outcomes.{misplaced_line}
use Rattle.reports.specs.OutcomeViews.{misplaced_view}
use Rattle.reports.proofs.links.add_misplaced.Given as goal

abbrev pub invariant-loop-point : goal.invariant-loop-point
invariant-loop-point l =
    lines_of l.lines.items ++ map misplaced_line (misplaced_view (drop l.point-index l.misplaced))
    ≡ lines_of l.fn.lines.items ++ map misplaced_line (misplaced_view l.misplaced)
