use Rattle.commands.proofs.TrialLengths.{transfer_short}
use Rattle.commands.proofs.trial.files_are_short.Goals as goal

pub returns-clause-transfer : goal.returns-clause-transfer
returns-clause-transfer c = transfer_short c.written_is_short.ensures
