use Rattle.std.proofs.Common.{◌≡◌, drop}
use Rattle.reports.specs.Kinds.{has_fault}
use Rattle.reports.specs.LineViews.{lines_of}
use Rattle.reports.proofs.kinds.has_fault.Given as goal

-- the lines so far are of other kinds
abbrev pub invariant-loop-line : goal.invariant-loop-line
invariant-loop-line l =
    has_fault (lines_of (drop l.line-index l.lines)) ≡ has_fault (lines_of l.lines)
