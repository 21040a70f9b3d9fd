use Rattle.resolver.proofs.RuleLemmas.RuleLaws.{all_short, broken_is_listed, listed_is_broken}
use Rattle.resolver.proofs.laws.broken_is_listed.Goals as goal

pub returns-clause-listed : goal.returns-clause-listed
returns-clause-listed c m code name w b = broken_is_listed m code name (all_short m w) b

pub returns-clause-broken : goal.returns-clause-broken
returns-clause-broken c m code name w h = listed_is_broken m code name (all_short m w) h
