use Rattle.event_mesh.specs.Built.{IsMeshOf}
use Rattle.event_mesh.proofs.building.mesh_of.Given as goal

abbrev pub invariant-loop-e : goal.invariant-loop-e
invariant-loop-e l = IsMeshOf l.events l.low l.high l.e l.mesh
