use Rattle.arc_predicates.specs.Circles.{half_arc}
use Rattle.arc_predicates.proofs.TestParts.{both_of, none_of}
use Rattle.tubes.proofs.CornerTests.{under_is}
use Rattle.tubes.proofs.conditions.is_next.Goals as goal

pub returns-then-is_outward : goal.returns-then-is_outward
returns-then-is_outward c =
    both_of _ _ _ c.is_outside.result c.is_outside.ensures
    (c.is_outward.ensures.0 c.if-is_outward.true)
    (under_is (half_arc c.args.circle.now) c.args.outer c.args.inner c.args.next)

pub returns-else-is_outward : goal.returns-else-is_outward
returns-else-is_outward c =
    none_of _ _ _ c.is_outward.result c.is_outward.ensures c.if-is_outward.false
    (under_is (half_arc c.args.circle.now) c.args.outer c.args.inner c.args.next)
