use Rattle.certificate_checker.proofs.OneFault.{broken_unproved}
use Rattle.certificate_checker.proofs.laws.broken_is_unproved.Goals as goal

pub returns : goal.returns
returns given = broken_unproved
