use Rattle.std.proofs.Common.{◌≡◌, ◌++◌, length}
use Rattle.itf_reader.specs.Views.{slice_of}
use Rattle.itf_writer.specs.Canonical.{stroke_lines}
use Rattle.itf_writer.specs.Runs.{lines_text}
use Rattle.itf_writer.proofs.adding.add_stroke.Given as goal

-- the lines so far were added, and those of the rest are left
abbrev pub invariant-loop-vertex : goal.invariant-loop-vertex
invariant-loop-vertex l =
    l.text ++ lines_text l.code (stroke_lines (slice_of l.left))
    ≡ l.fn.text ++ lines_text l.code (stroke_lines (slice_of l.vertices))

abbrev pub decreases-loop-vertex : goal.decreases-loop-vertex
decreases-loop-vertex l = length (slice_of l.left)
