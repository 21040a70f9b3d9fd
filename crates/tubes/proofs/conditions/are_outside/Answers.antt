use Rattle.arc_predicates.specs.Circles.{half_arc}
use Rattle.arc_predicates.proofs.TestParts.{both_of, none_of}
use Rattle.tubes.proofs.CornerTests.{outside_is}
use Rattle.tubes.proofs.conditions.are_outside.Goals as goal

pub returns-then-are_next : goal.returns-then-are_next
returns-then-are_next c =
    both_of _ _ _ c.are_clear.result c.are_clear.ensures (c.are_next.ensures.0 c.if-are_next.true)
    (outside_is (half_arc c.args.circle.now) c.args.inner.now c.args.outer.now)

pub returns-else-are_next : goal.returns-else-are_next
returns-else-are_next c =
    none_of _ _ _ c.are_next.result c.are_next.ensures c.if-are_next.false
    (outside_is (half_arc c.args.circle.now) c.args.inner.now c.args.outer.now)
