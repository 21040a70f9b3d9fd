use Rattle.area_search.proofs.GroundLaws.{one_right, straight_ground}
use Rattle.area_search.proofs.laws.one_right_ground.Goals as goal

pub returns-clause-one : goal.returns-clause-one
returns-clause-one c = one_right c.one_bent.ensures.drawing

pub returns-clause-straights : goal.returns-clause-straights
returns-clause-straights c = straight_ground c.straights_stay.ensures
