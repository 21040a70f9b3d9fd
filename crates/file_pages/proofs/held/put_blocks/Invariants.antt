use Rattle.std.proofs.Common.{take}
use Rattle.file_pages.specs.Held.{joined}
use Rattle.file_pages.specs.Writing.{sight, Wrote}
use Rattle.file_pages.proofs.held.put_blocks.Given as goal

abbrev pub invariant-loop-block : goal.invariant-loop-block
invariant-loop-block g l =
    Wrote l.name (joined (take l.block-index l.blocks))
    (sight (g.S.Shelf.held l.fn.shelf) (g.S.Shelf.space l.fn.shelf l.name)
    (g.S.Shelf.read_faults l.fn.shelf) (g.S.Shelf.write_faults l.fn.shelf)) l.fn.page
    (sight (g.S.Shelf.held l.shelf) (g.S.Shelf.space l.shelf l.name) (g.S.Shelf.read_faults l.shelf)
    (g.S.Shelf.write_faults l.shelf)) l.page
