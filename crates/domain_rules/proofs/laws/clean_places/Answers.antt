use Rattle.domain_rules.proofs.Places.{have_places}
use Rattle.domain_rules.proofs.laws.clean_places.Goals as goal

pub returns : goal.returns
returns c = have_places
