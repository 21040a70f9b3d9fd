use Rattle.certificate.proofs.Pairs.{one_pairing}
use Rattle.certificate.proofs.laws.one_pairing.Goals as goal

pub returns : goal.returns
returns c = one_pairing
