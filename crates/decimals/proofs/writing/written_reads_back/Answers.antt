use Rattle.decimals.proofs.Written.{reads_back}
use Rattle.decimals.proofs.writing.written_reads_back.Goals as goal

pub returns : goal.returns
returns c = reads_back
