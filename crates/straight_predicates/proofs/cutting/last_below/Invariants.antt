use Rattle.std.proofs.Common.{◌≡◌, ℕ, suc, pos, ◌+◌, ◌-◌, ◌<◌, ◌≤◌, ◌<ℤ◌, ◌≤ℤ◌, length, get_or, []}
use Rattle.plane.specs.Runs.Positions.{turn_at}
use Rattle.straight_predicates.specs.EdgeLists.{edge_of}
use Rattle.straight_predicates.specs.Chunks.{first_of}
use Rattle.straight_predicates.proofs.cutting.last_below.Given as goal

abbrev pub invariant-loop-low : goal.invariant-loop-low
invariant-loop-low l = record {
  order : l.low ≤ l.high;
  within : l.high < length l.chunks;
  below : (b : ℕ) → l.low ≡ suc b
      → pos 0 <ℤ turn_at (edge_of l.edges) (first_of l.chunks l.low) l.at;
  next : l.high + 1 < length l.chunks → 0 < length (get_or l.chunks (l.high + 1) []);
  above : l.high + 1 < length l.chunks
      → turn_at (edge_of l.edges) (first_of l.chunks (l.high + 1)) l.at ≤ℤ pos 0;
}

abbrev pub decreases-loop-low : goal.decreases-loop-low
decreases-loop-low l = l.high - l.low
