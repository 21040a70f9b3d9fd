use Rattle.std.proofs.Common.{◌≡◌, ◌++◌, List, ℕ, drop}
use Rattle.file_pages.specs.Held.{spliced}
use Rattle.file_pages.specs.Writing.{sight, Wrote}
use Rattle.file_pages.proofs.blocks.put_block.Given as goal

-- the text before a place was put, and what is left follows
abbrev pub invariant-loop-repeat : goal.invariant-loop-repeat
invariant-loop-repeat g l =
    (done : List ℕ)
    × Wrote l.name done
    (sight (g.S.Shelf.held l.fn.shelf) (g.S.Shelf.space l.fn.shelf l.name)
    (g.S.Shelf.read_faults l.fn.shelf) (g.S.Shelf.write_faults l.fn.shelf)) l.fn.page
    (sight (g.S.Shelf.held l.shelf) (g.S.Shelf.space l.shelf l.name) (g.S.Shelf.read_faults l.shelf)
    (g.S.Shelf.write_faults l.shelf)) l.page
    × (done ++ spliced l.block-inside.line.items
    (drop l.repeat-index l.block-inside.repeats.items) l.left ≡ l.block)
