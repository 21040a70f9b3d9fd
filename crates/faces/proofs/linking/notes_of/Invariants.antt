use Rattle.std.proofs.Common.{◌≡◌, ℕ, ◌<◌, get_or, length}
use Rattle.faces.specs.Ranking.{IsNote, no_note}
use Rattle.faces.specs.Joins.{cells_of}
use Rattle.faces.proofs.linking.notes_of.Given as goal

abbrev pub invariant-loop-h : goal.invariant-loop-h
invariant-loop-h l = record {
  size : length l.notes.items ≡ l.h;
  notes : (g : ℕ) → g < l.h
      → IsNote l.graph.mesh.now (cells_of l.graph.joins.now) l.ranks g
      (get_or l.notes.items g no_note);
}
