use Rattle.polygons.proofs.GivenRings.{one_polygon}
use Rattle.polygons.proofs.laws.rings_are_given.Goals as goal

pub returns : goal.returns
returns given d E steps a rings others on p q =
    one_polygon d E steps on a p.order.m p.order.at p.order.f p.order.halves q.order.m q.order.at
    q.order.f q.order.halves rings others p.order.rings_are q.order.rings_are
