use Rattle.std.proofs.Common.{◌≤◌, ◌<◌, ◌-◌, length, slice_index_or}
use Rattle.plane.specs.Forms.Vectors.{Before}
use Rattle.plane.specs.Runs.Moves.{no_move}
use Rattle.line_sweep.proofs.events.Events.first_from.Given as goal

abbrev pub invariant-loop-first : goal.invariant-loop-first
invariant-loop-first l = record {
  first : l.first ≤ l.end;
  end : l.end ≤ length l.self;
  earlier : 0 < l.first → Before (slice_index_or l.self (l.first - 1) no_move).at l.at;
  rest : l.end < length l.self → Before (slice_index_or l.self l.end no_move).at l.at → ⊥;
}

abbrev pub decreases-loop-first : goal.decreases-loop-first
decreases-loop-first l = l.end - l.first
