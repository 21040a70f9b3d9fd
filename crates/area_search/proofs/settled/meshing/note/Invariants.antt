use Rattle.std.proofs.Common.{take}
use Rattle.straight_predicates.specs.EdgeEvents.{IsNoted}
use Rattle.area_search.proofs.settled.meshing.note.Given as goal

abbrev pub invariant-loop-e : goal.invariant-loop-e
invariant-loop-e l = IsNoted (take l.e-index l.edges) l.event l.fn.events l.events
