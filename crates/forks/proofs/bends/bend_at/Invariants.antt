use Rattle.plane.specs.Rule.Plans.{plan}
use Rattle.forks.proofs.LeastBends.{IsBestTo}
use Rattle.forks.proofs.bends.bend_at.Given as goal

abbrev pub invariant-loop-end : goal.invariant-loop-end
invariant-loop-end l =
    IsBestTo l.drawing.tolerance (plan l.drawing) l.number l.at_from l.end-items l.end-index l.best
