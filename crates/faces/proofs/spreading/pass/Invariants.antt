use Rattle.std.proofs.Common.{◌≡◌, ℕ, ◌<◌, get_or}
use Rattle.half_edges.specs.HalfEdges.{next_of, prev_of}
use Rattle.faces.specs.Searching.{IsGiven, IsKept, IsPassing, head_of}
use Rattle.faces.specs.Joins.{cells_of}
use Rattle.faces.proofs.spreading.pass.Given as goal

abbrev pub invariant-loop-g : goal.invariant-loop-g
invariant-loop-g l = record {
  passing : IsPassing l.graph.mesh.now (cells_of l.graph.joins.now)
      (head_of l.fn.search) l.face l.search;
  same : l.search.passed ≡ l.fn.search.passed;
  kept : IsKept l.fn.search.faces.items l.search.faces.items;
  given : IsGiven l.face l.fn.search.faces.items l.search.faces.items;
  next : get_or l.search.faces.items (next_of l.graph.mesh.now (head_of l.fn.search)) 0 ≡ l.face;
  prev : get_or l.search.faces.items (prev_of l.graph.mesh.now (head_of l.fn.search)) 0 ≡ l.face;
  row : (i : ℕ) → i < l.g-index → get_or l.search.faces.items (get_or l.g-items i 0) 0 ≡ l.face;
}
