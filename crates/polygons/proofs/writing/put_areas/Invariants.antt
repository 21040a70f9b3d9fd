use Rattle.std.proofs.Common.{take}
use Rattle.std.specs.List.{flat_map}
use Rattle.file_pages.specs.Writing.{Wrote, sight}
use Rattle.polygons.specs.declared.areas.AreaPolygons.{AreaPolygons}
use Rattle.polygons.specs.Text.{area_text, view}
use Rattle.polygons.proofs.writing.put_areas.Given as goal

abbrev pub invariant-loop-area : goal.invariant-loop-area
invariant-loop-area g l =
    Wrote l.name (flat_map (λ (a : AreaPolygons). area_text (view a)) (take l.area-index l.areas))
    (sight (g.S.Shelf.held l.fn.shelf) (g.S.Shelf.space l.fn.shelf l.name)
    (g.S.Shelf.read_faults l.fn.shelf) (g.S.Shelf.write_faults l.fn.shelf)) l.fn.page
    (sight (g.S.Shelf.held l.shelf) (g.S.Shelf.space l.shelf l.name)
    (g.S.Shelf.read_faults l.shelf) (g.S.Shelf.write_faults l.shelf)) l.page
