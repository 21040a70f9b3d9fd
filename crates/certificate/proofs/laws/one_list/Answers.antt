use Rattle.certificate.proofs.TextLaws.{one_list}
use Rattle.certificate.proofs.laws.one_list.Goals as goal

pub returns : goal.returns
returns c = one_list
