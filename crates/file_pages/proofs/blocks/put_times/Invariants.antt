use Rattle.file_pages.specs.Held.{times}
use Rattle.file_pages.specs.Writing.{sight, Wrote}
use Rattle.file_pages.proofs.blocks.put_times.Given as goal

abbrev pub invariant-loop : goal.invariant-loop
invariant-loop g l =
    Wrote l.name (times l.counter l.line)
    (sight (g.S.Shelf.held l.fn.shelf) (g.S.Shelf.space l.fn.shelf l.name)
    (g.S.Shelf.read_faults l.fn.shelf) (g.S.Shelf.write_faults l.fn.shelf)) l.fn.page
    (sight (g.S.Shelf.held l.shelf) (g.S.Shelf.space l.shelf l.name) (g.S.Shelf.read_faults l.shelf)
    (g.S.Shelf.write_faults l.shelf)) l.page
