use Rattle.plane.specs.Forms.Vectors.{point}
use Rattle.level_breaks.proofs.Choices.{either_first, either_second}
use Rattle.level_breaks.proofs.PartEdges.{bay_or}
use Rattle.level_breaks.proofs.triangles.is_in_triangles.Goals as goal

pub returns-then-is_in_triangle : goal.returns-then-is_in_triangle
returns-then-is_in_triangle c =
    either_first _ _ _ c.is_in_triangle.result c.is_in_triangle.ensures c.if-is_in_triangle.true
    (bay_or c.args.inner.now c.args.outer.now (point c.args.at) c.args.number)

pub returns-else-is_in_triangle : goal.returns-else-is_in_triangle
returns-else-is_in_triangle c =
    either_second _ _ _ c.is_in_triangle.result c.is_in_gap.result c.is_in_triangle.ensures
    c.if-is_in_triangle.false c.is_in_gap.ensures
    (bay_or c.args.inner.now c.args.outer.now (point c.args.at) c.args.number)
