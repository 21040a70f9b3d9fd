use Rattle.std.proofs.Common.{◌≡◌, ℕ, ◌<◌, get_or}
use Rattle.plane.specs.Lists.{Has}
use Rattle.half_edges.specs.HalfEdges.{size}
use Rattle.faces.specs.Ranking.{HasRanked}
use Rattle.faces.specs.Searching.{IsSet}
use Rattle.faces.specs.Joins.{cells_of}
use Rattle.faces.proofs.ranks.reach_roots.Given as goal

abbrev pub invariant-loop-root : goal.invariant-loop-root
invariant-loop-root l = record {
  ranked : HasRanked l.graph.mesh.now (cells_of l.graph.joins.now) l.search;
  begun : l.search.passed ≡ 0;
  root : (i : ℕ) → i < l.root-index → get_or l.search.ranks.items (get_or l.roots i 0) 0 ≡ 0;
  all : (h : ℕ) → Has h l.search.queue.items → get_or l.search.ranks.items h 0 ≡ 0;
  zero : (h : ℕ) → h < size l.graph.mesh.now → IsSet l.search.ranks.items h → Has h l.roots;
}
