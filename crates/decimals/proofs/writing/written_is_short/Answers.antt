use Rattle.decimals.proofs.WrittenParts.{spelling_short}
use Rattle.decimals.proofs.writing.written_is_short.Goals as goal

pub returns : goal.returns
returns c = spelling_short
