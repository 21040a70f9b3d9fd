use Rattle.std.proofs.Common.{◌-◌}
use Rattle.half_edges.specs.HalfEdges.{size}
use Rattle.faces.specs.Searching.{HasSearched, IsGiven, IsKept, IsWaiting}
use Rattle.faces.specs.Joins.{cells_of}
use Rattle.faces.proofs.spreading.spread.Given as goal

abbrev pub invariant-loop-search : goal.invariant-loop-search
invariant-loop-search l = record {
  searched : HasSearched l.graph.mesh.now (cells_of l.graph.joins.now) l.search;
  waiting : IsWaiting l.search l.face;
  kept : IsKept l.fn.search.faces.items l.search.faces.items;
  given : IsGiven l.face l.fn.search.faces.items l.search.faces.items;
}

abbrev pub decreases-loop-search : goal.decreases-loop-search
decreases-loop-search l = size l.graph.mesh.now - l.search.passed
