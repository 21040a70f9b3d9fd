use Rattle.std.proofs.Common.{◌≡◌, ◌++◌, take}
use Rattle.std.specs.List.{flat_map}
use Rattle.itf_reader.specs.Views.{stroke_of}
use Rattle.itf_writer.specs.Canonical.{stroke_lines}
use Rattle.itf_writer.specs.Runs.{lines_text}
use Rattle.itf_writer.proofs.adding.add_given.Given as goal

abbrev pub invariant-loop-stroke : goal.invariant-loop-stroke
invariant-loop-stroke l =
    l.text ≡ l.fn.text ++ flat_map (λ s. lines_text l.code (stroke_lines (stroke_of s)))
    (take l.stroke-index l.strokes)
