use Rattle.resolver.proofs.RuleLemmas.RuleLaws.{all_short, first_broken, none_counts}
use Rattle.resolver.proofs.RuleLemmas.RuleLaws.{none_is_broken}
use Rattle.resolver.proofs.laws.first_broken_counts.Goals as goal

pub returns-clause-first : goal.returns-clause-first
returns-clause-first c m f w e = first_broken m f (all_short m w) e

pub returns-clause-none : goal.returns-clause-none
returns-clause-none c m w = (none_is_broken m (all_short m w), none_counts m (all_short m w))
