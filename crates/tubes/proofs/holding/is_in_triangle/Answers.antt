use Rattle.tubes.proofs.TubeTriangles.{by_equal, in_left, in_right, turnable_swapped}
use Rattle.tubes.proofs.holding.is_in_triangle.Goals as goal

pub is_left_of_sides-requires-in-Right : goal.is_left_of_sides-requires-in-Right
is_left_of_sides-requires-in-Right c =
    turnable_swapped c.args.p c.args.q c.args.r c.args.at c.requires

pub returns-in-Left : goal.returns-in-Left
returns-in-Left c =
    by_equal c.is_left_of_sides.result _ _ c.is_left_of_sides.ensures
    (in_left c.args.p c.args.q c.args.r c.args.at c.in-Left.ensures)

pub returns-in-Right : goal.returns-in-Right
returns-in-Right c =
    by_equal c.is_left_of_sides-in-Right.result _ _ c.is_left_of_sides-in-Right.ensures
    (in_right c.args.p c.args.q c.args.r c.args.at c.in-Right.ensures)
