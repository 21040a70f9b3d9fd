use Rattle.itf_reader.proofs.Readings.{one_transfer}
use Rattle.itf_reader.proofs.laws.one_transfer.Goals as goal

pub returns : goal.returns
returns c = one_transfer
