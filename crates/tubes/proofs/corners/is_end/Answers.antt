use Rattle.tubes.proofs.ForeignCorners.{ends_told}
use Rattle.tubes.proofs.corners.is_end.Goals as goal

pub returns-else-eq : goal.returns-else-eq
returns-else-eq c =
    ends_told c.args.curve.now c.args.at c.eq.result c.eq-else-eq.result c.eq.ensures c.if-eq.false
    c.eq-else-eq.ensures
