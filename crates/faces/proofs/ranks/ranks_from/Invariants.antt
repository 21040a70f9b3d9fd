use Rattle.std.proofs.Common.{◌≡◌, ◌-◌, ◌<◌, ℕ, get_or}
use Rattle.plane.specs.Lists.{Has}
use Rattle.half_edges.specs.HalfEdges.{size}
use Rattle.faces.specs.Ranking.{HasRanked}
use Rattle.faces.specs.Joins.{cells_of}
use Rattle.faces.proofs.ranks.ranks_from.Given as goal

abbrev pub invariant-loop-search : goal.invariant-loop-search
invariant-loop-search l = record {
  ranked : HasRanked l.graph.mesh.now (cells_of l.graph.joins.now) l.search;
  root : (h : ℕ) → Has h l.roots → get_or l.search.ranks.items h 0 ≡ 0;
  zero : (h : ℕ) → h < size l.graph.mesh.now → get_or l.search.ranks.items h 0 ≡ 0 → Has h l.roots;
}

abbrev pub decreases-loop-search : goal.decreases-loop-search
decreases-loop-search l = size l.graph.mesh.now - l.search.passed
