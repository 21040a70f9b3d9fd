use Rattle.commands.proofs.TrialWords.{one_trial}
use Rattle.commands.proofs.trial.words.one_trial.Goals as goal

pub returns : goal.returns
returns given = one_trial
