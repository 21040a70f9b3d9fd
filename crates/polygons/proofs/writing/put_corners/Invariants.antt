use Rattle.std.proofs.Common.{take}
use Rattle.std.specs.List.{flat_map}
use Rattle.file_pages.specs.Writing.{Wrote, sight}
use Rattle.polygons.specs.Text.{corner_line}
use Rattle.polygons.proofs.writing.put_corners.Given as goal

abbrev pub invariant-loop-corner : goal.invariant-loop-corner
invariant-loop-corner g l =
    Wrote l.name (flat_map corner_line (take l.corner-index l.corners))
    (sight (g.S.Shelf.held l.fn.shelf) (g.S.Shelf.space l.fn.shelf l.name)
    (g.S.Shelf.read_faults l.fn.shelf) (g.S.Shelf.write_faults l.fn.shelf)) l.fn.page
    (sight (g.S.Shelf.held l.shelf) (g.S.Shelf.space l.shelf l.name)
    (g.S.Shelf.read_faults l.shelf) (g.S.Shelf.write_faults l.shelf)) l.page
