use Rattle.std.proofs.Common.{take}
use Rattle.std.specs.List.{flat_map}
use Rattle.file_pages.specs.Writing.{sight, Wrote}
use Rattle.certificate.specs.Spelling.{event_line}
use Rattle.certificate.proofs.writing.put_events.Given as goal

abbrev pub invariant-loop-position : goal.invariant-loop-position
invariant-loop-position g l =
    Wrote l.name (flat_map event_line (take l.position-index l.positions))
    (sight (g.S.Shelf.held l.fn.shelf) (g.S.Shelf.space l.fn.shelf l.name)
    (g.S.Shelf.read_faults l.fn.shelf) (g.S.Shelf.write_faults l.fn.shelf)) l.fn.page
    (sight (g.S.Shelf.held l.shelf) (g.S.Shelf.space l.shelf l.name)
    (g.S.Shelf.read_faults l.shelf) (g.S.Shelf.write_faults l.shelf)) l.page
