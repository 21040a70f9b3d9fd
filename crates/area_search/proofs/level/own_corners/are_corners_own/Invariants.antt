use Rattle.plane.specs.Rule.Plans.{plan}
use Rattle.area_search.specs.Level.OwnCorners.{AreOwn}
use Rattle.area_search.proofs.level.own_corners.are_corners_own.Given as goal

abbrev pub invariant-loop-number : goal.invariant-loop-number
invariant-loop-number l = AreOwn (plan l.drawing) l.list l.events l.number
