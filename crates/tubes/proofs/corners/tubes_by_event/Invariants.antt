use Rattle.plane.specs.Rule.Plans.{plan}
use Rattle.tubes.specs.Corners.{AreTubesByEvent}
use Rattle.tubes.proofs.corners.tubes_by_event.Given as goal

abbrev pub invariant-loop-e : goal.invariant-loop-e
invariant-loop-e l = AreTubesByEvent (plan l.drawing) l.list l.low l.high l.events l.e l.tubes.items
