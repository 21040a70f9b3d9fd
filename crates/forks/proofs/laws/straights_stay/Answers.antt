use Rattle.forks.proofs.NothingBent.{straights_stay}
use Rattle.forks.proofs.laws.straights_stay.Goals as goal

pub returns : goal.returns
returns c t d g os b all = straights_stay t d all g os b
