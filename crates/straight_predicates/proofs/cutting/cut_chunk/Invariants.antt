use Rattle.std.proofs.Common.{◌≡◌, ℕ, suc, pos, ◌-◌, ◌<◌, ◌≤◌, ◌<ℤ◌, ◌≤ℤ◌, length, get_or}
use Rattle.plane.specs.Runs.Positions.{turn_at}
use Rattle.straight_predicates.specs.EdgeLists.{edge_of}
use Rattle.straight_predicates.proofs.cutting.cut_chunk.Given as goal

abbrev pub invariant-loop-low : goal.invariant-loop-low
invariant-loop-low l = record {
  order : l.low ≤ l.high;
  within : l.high ≤ length l.live;
  below : (i : ℕ) → l.low ≡ suc i → pos 0 <ℤ turn_at (edge_of l.edges) (get_or l.live i 0) l.at;
  above : l.high < length l.live → turn_at (edge_of l.edges) (get_or l.live l.high 0) l.at ≤ℤ pos 0;
}

abbrev pub decreases-loop-low : goal.decreases-loop-low
decreases-loop-low l = l.high - l.low
