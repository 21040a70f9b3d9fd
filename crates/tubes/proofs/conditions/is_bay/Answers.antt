use Rattle.arc_predicates.specs.Circles.{half_arc}
use Rattle.arc_predicates.proofs.TestParts.{both_of, none_of}
use Rattle.tubes.proofs.CornerTests.{bay_is}
use Rattle.tubes.proofs.conditions.is_bay.Goals as goal

pub returns-then-rises : goal.returns-then-rises
returns-then-rises c =
    both_of _ _ _ c.is_outward.result c.is_outward.ensures (c.rises.ensures.0 c.if-rises.true)
    (bay_is (half_arc c.args.circle.now) c.args.before c.args.outer c.args.after)

pub returns-else-rises : goal.returns-else-rises
returns-else-rises c =
    none_of _ _ _ c.rises.result c.rises.ensures c.if-rises.false
    (bay_is (half_arc c.args.circle.now) c.args.before c.args.outer c.args.after)
