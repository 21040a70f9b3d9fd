use Rattle.std.proofs.Common.{◌≡◌, ℕ, ◌+◌, ◌<◌, get_or}
use Rattle.half_edges.specs.HalfEdges.{next_of, prev_of}
use Rattle.faces.specs.Searching.{IsKept}
use Rattle.faces.specs.Ranking.{AreLater, HasRankMost, IsRanking, first_of, first_rank}
use Rattle.faces.specs.Joins.{cells_of}
use Rattle.faces.proofs.ranks.pass.Given as goal

abbrev pub invariant-loop-g : goal.invariant-loop-g
invariant-loop-g l = record {
  ranking : IsRanking l.graph.mesh.now (cells_of l.graph.joins.now) (first_of l.fn.search)
      (first_rank l.fn.search) l.search;
  same : l.search.passed ≡ l.fn.search.passed;
  kept : IsKept l.fn.search.ranks.items l.search.ranks.items;
  later : AreLater l.fn.search.ranks.items l.search.ranks.items;
  next : HasRankMost l.search.ranks.items (next_of l.graph.mesh.now (first_of l.fn.search))
      (first_rank l.fn.search + 1);
  prev : HasRankMost l.search.ranks.items (prev_of l.graph.mesh.now (first_of l.fn.search))
      (first_rank l.fn.search + 1);
  row : (i : ℕ) → i < l.g-index
      → HasRankMost l.search.ranks.items (get_or l.g-items i 0) (first_rank l.fn.search + 1);
  rank : l.rank ≡ first_rank l.fn.search + 1;
}
