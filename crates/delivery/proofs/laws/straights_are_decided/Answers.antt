use Rattle.ports.specs.Faults.{ReadRose}
use Rattle.delivery.proofs.AreaLemmas.{straight_areas, straights_decided}
use Rattle.delivery.proofs.StraightAreas.{none_left}
use Rattle.delivery.proofs.laws.straights_are_decided.Goals as goal

pub returns-clause-areas : goal.returns-clause-areas
returns-clause-areas c = straights_decided

pub returns-clause-calls : goal.returns-clause-calls
returns-clause-calls c files before after from upto words =
    none_left files (ReadRose before after) (ReadRose from upto) words

pub returns-clause-unbent : goal.returns-clause-unbent
returns-clause-unbent c l rows = straight_areas l rows c.one_right_ground.ensures.straights
