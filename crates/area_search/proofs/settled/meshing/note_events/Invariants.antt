use Rattle.std.proofs.Common.{◌≡◌, ◌≤◌, [], drop, length}
use Rattle.line_sweep.specs.Kinds.{ended_at}
use Rattle.plane.specs.Runs.Moves.{steps_from}
use Rattle.area_search.specs.Settled.Meshing.{HasNoted}
use Rattle.area_search.proofs.settled.meshing.note_events.Given as goal

abbrev pub invariant-loop-number : goal.invariant-loop-number
invariant-loop-number l = record {
  within : l.from ≤ length l.ended;
  rest : drop l.from l.ended ≡ ended_at (drop l.number (steps_from [] l.events));
  noted : HasNoted l.edges (steps_from [] l.events) l.number (record {
    low = l.low;
    high = l.high;
  });
}
