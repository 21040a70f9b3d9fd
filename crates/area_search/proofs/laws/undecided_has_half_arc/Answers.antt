use Rattle.area_search.proofs.GroundLaws.{half_arc_by, order_by}
use Rattle.area_search.proofs.laws.undecided_has_half_arc.Goals as goal

pub returns-clause-half_arc : goal.returns-clause-half_arc
returns-clause-half_arc c = half_arc_by c.undecided_has_half_arc.ensures

pub returns-clause-there : goal.returns-clause-there
returns-clause-there c = order_by
