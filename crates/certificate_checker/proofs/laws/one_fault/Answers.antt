use Rattle.certificate_checker.proofs.OneFault.{one_broken}
use Rattle.certificate_checker.proofs.laws.one_fault.Goals as goal

pub returns-clause-rule : goal.returns-clause-rule
returns-clause-rule given d c m p n q a b = (one_broken d c m p n q a b).0

pub returns-clause-place : goal.returns-clause-place
returns-clause-place given d c m p n q a b = (one_broken d c m p n q a b).1
