use Rattle.certificate_checker.proofs.Proving.{proves_partition}
use Rattle.certificate_checker.proofs.laws.proves_partition.Goals as goal

pub returns : goal.returns
returns given = proves_partition
