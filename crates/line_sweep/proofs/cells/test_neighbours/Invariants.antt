use Rattle.std.proofs.Common.{◌⊎◌, ℕ, drop}
use Rattle.plane.specs.Forms.Meets.{Fine}
use Rattle.straight_predicates.specs.EdgeLists.{edge_of}
use Rattle.line_sweep.specs.OpenGaps.{AreNeighbours}
use Rattle.line_sweep.proofs.cells.test_neighbours.Given as goal

abbrev pub invariant-loop-edge : goal.invariant-loop-edge
invariant-loop-edge l = record {
  left : (d e : ℕ) → AreNeighbours l.below (drop l.edge-index l.starting) l.upper d e
      → AreNeighbours l.fn.lower l.starting l.upper d e;
  tested : (d e : ℕ) → AreNeighbours l.fn.lower l.starting l.upper d e
      → AreNeighbours l.below (drop l.edge-index l.starting) l.upper d e
      ⊎ Fine (edge_of l.edges d) (edge_of l.edges e);
}
