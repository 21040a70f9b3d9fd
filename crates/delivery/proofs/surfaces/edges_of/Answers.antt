use Rattle.std.proofs.Common.{subst}
use Rattle.plane.specs.Rule.Plans.{plan}
use Rattle.tubes.specs.TubedEdges.{IsListAt}
use Rattle.delivery.proofs.surfaces.edges_of.Goals as goal

pub returns-clause-edges : goal.returns-clause-edges
returns-clause-edges c =
    let d = plan c.args.drawing.now in
    c.edges_of_tubed_drawing.ensures.straights d (λ n. 0) c.in-Some.list
    (subst (IsListAt d (λ n. 0)) c.in-Some.is c.in_ok-list.ensures.list) c.requires
