use Rattle.certificate_checker.proofs.Proving.{proves_settled}
use Rattle.certificate_checker.proofs.laws.proves_settled.Goals as goal

pub returns : goal.returns
returns c = proves_settled
