use Rattle.tubes.proofs.LevelEdges.{first_inner, first_outer, of_a_straight, of_half_arc}
use Rattle.tubes.proofs.LevelEdges.{owner_within}
use Rattle.tubes.proofs.laws.chains_have_edges.Goals as goal

pub returns-clause-inner : goal.returns-clause-inner
returns-clause-inner given d level i t h =
    let o = first_inner d level i h (t i h) in (o.there, o.curve, o.part)

pub returns-clause-outer : goal.returns-clause-outer
returns-clause-outer given d level i h =
    let o = first_outer d level i h in (o.there, o.curve, o.part)

pub returns-clause-owner : goal.returns-clause-owner
returns-clause-owner given = owner_within

pub returns-clause-half_arc : goal.returns-clause-half_arc
returns-clause-half_arc given = of_half_arc

pub returns-clause-straight : goal.returns-clause-straight
returns-clause-straight given = of_a_straight
