-- Answers to areas that are proved.
use Rattle.std.specs.Prelude.{ℕ, List, length, map}
use Rattle.plane.specs.Rule.Plans.{Plan, plan}
use Rattle.plane.specs.declared.drawing.Drawing.{Drawing}
use Rattle.reports.specs.declared.lines.AreaAnswer.{AreaAnswer}
use Rattle.reports.specs.declared.lines.AreaAnswer.TheVariants.{Proved}

-- how many curves and points are shown to be a partition without a cut, at a level
abbrev pub proof_answer : Plan → ℕ → AreaAnswer
proof_answer d level = Proved level (length d.curves) (length d.points)

abbrev pub plans : List Drawing → List Plan
plans ds = map plan ds
