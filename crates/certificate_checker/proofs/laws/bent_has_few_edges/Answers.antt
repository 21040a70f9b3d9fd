use Rattle.certificate_checker.proofs.BentEdges.{bent_few}
use Rattle.certificate_checker.proofs.laws.bent_has_few_edges.Goals as goal

pub returns : goal.returns
returns given = bent_few
