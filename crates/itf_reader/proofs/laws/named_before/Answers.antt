use Rattle.itf_reader.proofs.Twice.{named_before}
use Rattle.itf_reader.proofs.laws.named_before.Goals as goal

pub returns : goal.returns
returns c = named_before
