use Rattle.resolver.specs.Rules.{faults}
use Rattle.resolver.proofs.RuleLemmas.Least.{least}
use Rattle.resolver.proofs.SoundLemmas.NoFault.{none_broken}
use Rattle.resolver.proofs.laws.first_is_least.Goals as goal

pub returns-clause-least : goal.returns-clause-least
returns-clause-least c m f e = least (faults m) f e

pub returns-clause-none : goal.returns-clause-none
returns-clause-none c m e = none_broken (faults m) e
