use Rattle.arc_predicates.specs.Circles.{half_arc}
use Rattle.arc_predicates.proofs.TestParts.{both_of, none_of}
use Rattle.tubes.proofs.CornerTests.{corners_are}
use Rattle.tubes.proofs.conditions.are_corners.Goals as goal

pub returns-then-are_all_near : goal.returns-then-are_all_near
returns-then-are_all_near c =
    both_of _ _ _ c.are_in_place.result c.are_in_place.ensures
    (c.are_all_near.ensures.0 c.if-are_all_near.true)
    (corners_are (half_arc c.args.circle.now) c.args.inner.now c.args.outer.now c.requires)

pub returns-else-are_all_near : goal.returns-else-are_all_near
returns-else-are_all_near c =
    none_of _ _ _ c.are_all_near.result c.are_all_near.ensures c.if-are_all_near.false
    (corners_are (half_arc c.args.circle.now) c.args.inner.now c.args.outer.now c.requires)
