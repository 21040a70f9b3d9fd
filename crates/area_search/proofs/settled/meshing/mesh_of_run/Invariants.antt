use Rattle.std.proofs.Common.{◌≡◌, ◌≤◌, ℕ, [], drop, length}
use Rattle.event_mesh.specs.Turned.{IsTurned}
use Rattle.plane.specs.Runs.Moves.{steps_from}
use Rattle.plane.specs.Runs.Steps.{Run}
use Rattle.plane.specs.declared.kinds.Edge.{Edge}
use Rattle.line_sweep.specs.Kinds.{ended_at}
use Rattle.area_search.specs.Settled.Meshing.{IsWidest}
use Rattle.area_search.proofs.settled.meshing.mesh_of_run.Given as goal

abbrev pub invariant-loop-number : goal.invariant-loop-number
invariant-loop-number l = record {
  within : l.from ≤ length l.ended;
  rest : drop l.from l.ended ≡ ended_at (drop l.number (steps_from [] l.swept.events));
  room : IsWidest l.swept.events (length l.swept.events) (length l.fan.items);
  turned : (E : ℕ → Edge) → Run l.edges E (steps_from [] l.swept.events)
      → IsTurned l.edges E (steps_from [] l.swept.events) l.mesh l.number;
  vertices : l.mesh.vertices ≡ length l.swept.events;
}
