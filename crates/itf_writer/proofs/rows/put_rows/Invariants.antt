use Rattle.std.proofs.Common.{take}
use Rattle.std.specs.List.{flat_map}
use Rattle.file_pages.specs.Writing.{sight, Wrote}
use Rattle.itf_reader.specs.Views.{row_of}
use Rattle.itf_writer.specs.Canonical.{row_lines}
use Rattle.itf_writer.specs.Runs.{lines_text}
use Rattle.itf_writer.proofs.rows.put_rows.Given as goal

abbrev pub invariant-loop-row : goal.invariant-loop-row
invariant-loop-row g l =
    Wrote l.name
    (flat_map (λ r. lines_text l.code (row_lines (row_of r))) (take l.row-index l.rows))
    (sight (g.S.Shelf.held l.fn.shelf) (g.S.Shelf.space l.fn.shelf l.name)
    (g.S.Shelf.read_faults l.fn.shelf) (g.S.Shelf.write_faults l.fn.shelf)) l.fn.page
    (sight (g.S.Shelf.held l.shelf) (g.S.Shelf.space l.shelf l.name) (g.S.Shelf.read_faults l.shelf)
    (g.S.Shelf.write_faults l.shelf)) l.page
