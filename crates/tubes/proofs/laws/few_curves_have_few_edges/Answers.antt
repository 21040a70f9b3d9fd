use Rattle.tubes.proofs.EdgeWeights.{few_of_curves}
use Rattle.tubes.proofs.laws.few_curves_have_few_edges.Goals as goal

pub returns : goal.returns
returns given = few_of_curves
