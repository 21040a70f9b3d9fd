use Rattle.certificate_checker.proofs.Grounds.{few}
use Rattle.certificate_checker.proofs.laws.grounds_have_few_edges.Goals as goal

pub returns : goal.returns
returns given = few
