use Rattle.area_search.proofs.ChosenLemmas.OneCertificate.{one_chosen}
use Rattle.area_search.proofs.GroundLaws.{one_chosen_of_ground}
use Rattle.area_search.proofs.laws.one_certificate.Goals as goal

pub returns-clause-drawing : goal.returns-clause-drawing
returns-clause-drawing c = one_chosen

pub returns-clause-ground : goal.returns-clause-ground
returns-clause-ground c = one_chosen_of_ground c.one_bent.ensures.drawing
