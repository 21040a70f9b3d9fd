use Rattle.std.proofs.Common.{take}
use Rattle.std.specs.List.{flat_map}
use Rattle.file_pages.specs.Writing.{Wrote, sight}
use Rattle.polygons.specs.declared.kinds.Ring.{Ring}
use Rattle.polygons.specs.Text.{ring_text}
use Rattle.polygons.proofs.writing.put_rings.Given as goal

abbrev pub invariant-loop-ring : goal.invariant-loop-ring
invariant-loop-ring g l =
    Wrote l.name (flat_map (λ (r : Ring). ring_text r.corners.items) (take l.ring-index l.rings))
    (sight (g.S.Shelf.held l.fn.shelf) (g.S.Shelf.space l.fn.shelf l.name)
    (g.S.Shelf.read_faults l.fn.shelf) (g.S.Shelf.write_faults l.fn.shelf)) l.fn.page
    (sight (g.S.Shelf.held l.shelf) (g.S.Shelf.space l.shelf l.name)
    (g.S.Shelf.read_faults l.shelf) (g.S.Shelf.write_faults l.shelf)) l.page
