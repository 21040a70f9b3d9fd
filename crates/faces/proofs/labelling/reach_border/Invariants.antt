use Rattle.std.proofs.Common.{◌≡◌, ℕ, ◌<◌, get_or}
use Rattle.faces.specs.Joins.{cells_of}
use Rattle.faces.specs.Searching.{HasSearched, IsWaiting}
use Rattle.faces.proofs.labelling.reach_border.Given as goal

abbrev pub invariant-loop-half : goal.invariant-loop-half
invariant-loop-half l = record {
  searched : HasSearched l.graph.mesh.now (cells_of l.graph.joins.now) l.search;
  begun : l.search.passed ≡ 0;
  waiting : IsWaiting l.search 0;
  border : (i : ℕ) → i < l.half-index → get_or l.search.faces.items (get_or l.half-items i 0) 0 ≡ 0;
}
