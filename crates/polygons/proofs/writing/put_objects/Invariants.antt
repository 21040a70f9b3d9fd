use Rattle.std.proofs.Common.{take}
use Rattle.std.specs.List.{flat_map}
use Rattle.file_pages.specs.Writing.{Wrote, sight}
use Rattle.polygons.specs.declared.areas.ObjectPolygon.{ObjectPolygon}
use Rattle.polygons.specs.Text.{object_text, object_view}
use Rattle.polygons.proofs.writing.put_objects.Given as goal

abbrev pub invariant-loop-object : goal.invariant-loop-object
invariant-loop-object g l =
    Wrote l.name
    (flat_map (λ (o : ObjectPolygon). object_text (object_view o))
    (take l.object-index l.objects))
    (sight (g.S.Shelf.held l.fn.shelf) (g.S.Shelf.space l.fn.shelf l.name)
    (g.S.Shelf.read_faults l.fn.shelf) (g.S.Shelf.write_faults l.fn.shelf)) l.fn.page
    (sight (g.S.Shelf.held l.shelf) (g.S.Shelf.space l.shelf l.name)
    (g.S.Shelf.read_faults l.shelf) (g.S.Shelf.write_faults l.shelf)) l.page
