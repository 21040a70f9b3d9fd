use Rattle.std.proofs.Common.{take, ◌++◌}
use Rattle.std.specs.List.{flat_map}
use Rattle.file_pages.specs.Writing.{sight, Wrote}
use Rattle.itf_reader.specs.Views.{stroke_of}
use Rattle.itf_writer.specs.Canonical.{stroke_lines}
use Rattle.itf_writer.specs.Runs.{lines_text}
use Rattle.itf_writer.proofs.Flat.{elins}
use Rattle.itf_writer.proofs.rows.put_strokes.Given as goal

abbrev pub invariant-loop-stroke : goal.invariant-loop-stroke
invariant-loop-stroke g l =
    Wrote l.name
    (flat_map (λ s. lines_text l.code (stroke_lines (stroke_of s)))
    (take l.stroke-index l.strokes.given.items))
    (sight (g.S.Shelf.held l.fn.shelf) (g.S.Shelf.space l.fn.shelf l.name)
    (g.S.Shelf.read_faults l.fn.shelf) (g.S.Shelf.write_faults l.fn.shelf)) l.fn.page
    (sight (g.S.Shelf.held l.shelf) (g.S.Shelf.space l.shelf l.name) (g.S.Shelf.read_faults l.shelf)
    (g.S.Shelf.write_faults l.shelf)) l.page

-- the strokes that are given, and so many ELIN
abbrev pub invariant-loop : goal.invariant-loop
invariant-loop g l =
    Wrote l.name
    (flat_map (λ s. lines_text l.code (stroke_lines (stroke_of s))) l.strokes.given.items
    ++ elins l.code l.counter)
    (sight (g.S.Shelf.held l.fn.shelf) (g.S.Shelf.space l.fn.shelf l.name)
    (g.S.Shelf.read_faults l.fn.shelf) (g.S.Shelf.write_faults l.fn.shelf)) l.fn.page
    (sight (g.S.Shelf.held l.shelf) (g.S.Shelf.space l.shelf l.name) (g.S.Shelf.read_faults l.shelf)
    (g.S.Shelf.write_faults l.shelf)) l.page
