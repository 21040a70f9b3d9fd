use Rattle.std.proofs.Common.{◌≡◌, ◌++◌, ℕ, List, length}
use Rattle.std.specs.List.{flat_map}
use Rattle.file_pages.specs.Writing.{sight, Wrote}
use Rattle.certificate.specs.Spelling.{edge_line, pairs}
use Rattle.certificate.proofs.writing.put_edges.Given as goal

-- some text was put, and with the lines of the edges that are left it is the whole
abbrev pub invariant-loop-below : goal.invariant-loop-below
invariant-loop-below g l =
    (text : List ℕ) × Wrote l.name text
    (sight (g.S.Shelf.held l.fn.shelf) (g.S.Shelf.space l.fn.shelf l.name)
    (g.S.Shelf.read_faults l.fn.shelf) (g.S.Shelf.write_faults l.fn.shelf)) l.fn.page
    (sight (g.S.Shelf.held l.shelf) (g.S.Shelf.space l.shelf l.name)
    (g.S.Shelf.read_faults l.shelf) (g.S.Shelf.write_faults l.shelf)) l.page
    × (flat_map edge_line (pairs l.notes) ≡ text ++ flat_map edge_line (pairs l.rest))

abbrev pub decreases-loop-below : goal.decreases-loop-below
decreases-loop-below g l = length l.rest
