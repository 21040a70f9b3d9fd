use Rattle.std.proofs.Common.{◌≡◌, drop}
use Rattle.reports.specs.Kinds.{has_undecided}
use Rattle.reports.specs.LineViews.{lines_of}
use Rattle.reports.proofs.kinds.has_undecided.Given as goal

-- the lines so far are of other kinds
abbrev pub invariant-loop-line : goal.invariant-loop-line
invariant-loop-line l =
    has_undecided (lines_of (drop l.line-index l.lines)) ≡ has_undecided (lines_of l.lines)
