use Rattle.std.proofs.Common.{◌-◌, ◌≤◌, length}
use Rattle.straight_predicates.specs.EdgeLists.{edge_of}
use Rattle.line_sweep.specs.Blocks.{AreEnding}
use Rattle.line_sweep.proofs.blocks.block_end.Given as goal

abbrev pub invariant-loop-upto : goal.invariant-loop-upto
invariant-loop-upto l = record {
  least : l.from ≤ l.upto;
  within : l.upto ≤ length l.live;
  ends : AreEnding (edge_of l.edges) l.live l.at l.from l.upto;
}

abbrev pub decreases-loop-upto : goal.decreases-loop-upto
decreases-loop-upto l = length l.live - l.upto
