use Rattle.tubes.proofs.CountNumbers.{width_is}
use Rattle.tubes.proofs.bounds.width.Goals as goal

pub returns-clause-end : goal.returns-clause-end
returns-clause-end c =
    λ i h k. width_is c.args.end c.max.result c.ilog2.result c.min.result i c.max.ensures
    c.ilog2.ensures.next_power_gt c.min.ensures h k
