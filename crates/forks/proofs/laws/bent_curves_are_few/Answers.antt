use Rattle.forks.proofs.BentWeights.{bent_weight}
use Rattle.forks.proofs.laws.bent_curves_are_few.Goals as goal

pub returns : goal.returns
returns c n t d g os l b = bent_weight n l t d g os b
