use Rattle.resolver.proofs.TextLemmas.OneModel.{one_model}
use Rattle.resolver.proofs.SoundLemmas.StandingModels.{is_kept}
use Rattle.resolver.proofs.laws.stands_for_what_is_written.Goals as goal

pub returns-clause-kept : goal.returns-clause-kept
returns-clause-kept c m e w = is_kept m e w

pub returns-clause-only : goal.returns-clause-only
returns-clause-only c m a b f g = one_model m a b f g
