use Rattle.std.proofs.Common.{arith}
use Rattle.tubes.proofs.CountLaws.{two_above, three_above, far_above}
use Rattle.tubes.proofs.bounds.outside_from.Goals as goal

pub returns-then-step-length : goal.returns-then-step-length
returns-then-step-length c =
    λ i h k. two_above c.args.length c.args.high i c.requires.least h
    (omega (arith, c.if-step-length.true, c.from-step.ensures))

pub returns-then-step-length-2 : goal.returns-then-step-length-2
returns-then-step-length-2 c =
    λ i h k. three_above c.args.length c.args.high i c.requires.least h
    (omega (arith, c.if-step-length-2.true, c.from-step.ensures))

pub returns-then-length-ge4 : goal.returns-then-length-ge4
returns-then-length-ge4 c =
    λ i h k. far_above c.args.length c.args.high i c.requires.least h c.if-length-ge4.true

pub returns-else-length-ge4 : goal.returns-else-length-ge4
returns-else-length-ge4 c = λ i h k. absurd (omega (arith, h, k))
