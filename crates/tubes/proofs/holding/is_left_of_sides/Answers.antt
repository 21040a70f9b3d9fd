use Rattle.arc_predicates.proofs.TestParts.{both_of, none_of}
use Rattle.tubes.proofs.TubeTriangles.{left_sides}
use Rattle.tubes.proofs.holding.is_left_of_sides.Goals as goal

pub returns-then-is_left : goal.returns-then-is_left
returns-then-is_left c =
    both_of _ _ _ c.is_left_of_two.result c.is_left_of_two.ensures
    (c.is_left.ensures.0 c.if-is_left.true) (left_sides c.args.p c.args.q c.args.r c.args.at)

pub returns-else-is_left : goal.returns-else-is_left
returns-else-is_left c =
    none_of _ _ _ c.is_left.result c.is_left.ensures c.if-is_left.false
    (left_sides c.args.p c.args.q c.args.r c.args.at)
