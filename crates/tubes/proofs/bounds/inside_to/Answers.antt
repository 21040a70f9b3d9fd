use Rattle.std.proofs.Common.{arith}
use Rattle.tubes.proofs.CountLaws.{two_below, three_below}
use Rattle.tubes.proofs.bounds.inside_to.Goals as goal

pub returns-then-from-length : goal.returns-then-from-length
returns-then-from-length c =
    λ j h k. two_below c.args.length j c.args.low h (omega (arith, h, k, c.saturating_sub.ensures))
    (omega (arith, c.if-from-length.true, c.from.ensures))

pub returns-then-from-length-2 : goal.returns-then-from-length-2
returns-then-from-length-2 c =
    λ j h k. three_below c.args.length j c.args.low h
    (omega (arith, h, k, c.saturating_sub-then-from-length-2.ensures))
    (omega (arith, c.if-from-length-2.true, c.from-else-from-length.ensures))
