use Rattle.certificate_checker.proofs.Certifying.{certifies_proves}
use Rattle.certificate_checker.proofs.laws.certified_claims_prove.Goals as goal

pub returns : goal.returns
returns c = certifies_proves
