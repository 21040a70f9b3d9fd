use Rattle.std.proofs.Common.{◌≡◌, ◌++◌, drop, map}
use Rattle.reports.specs.OutcomeViews.{misplaced_view}
use Rattle.delivery.specs.Links.{misplaced_by}
use Rattle.delivery.proofs.links.gathering.add_misplaced.Given as goal

abbrev pub invariant-loop-line : goal.invariant-loop-line
invariant-loop-line l =
    misplaced_view l.misplaced.items ++ map (misplaced_by l.rule) (drop l.line-index l.lines)
    ≡ misplaced_view l.fn.misplaced.items ++ map (misplaced_by l.rule) l.lines
