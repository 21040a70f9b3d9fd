use Rattle.resolver.proofs.TextLemmas.BoundValues.{bound_is_value, value_is_bound}
use Rattle.resolver.proofs.TextLemmas.NumberTokens.{token_spells}
use Rattle.resolver.proofs.laws.bounds_are_values.Goals as goal

pub returns-clause-spelt : goal.returns-clause-spelt
returns-clause-spelt c text n e = token_spells text n e

pub returns-clause-value : goal.returns-clause-value
returns-clause-value c i n scale bound s b = bound_is_value i n scale bound s b

pub returns-clause-bound : goal.returns-clause-bound
returns-clause-bound c i scale value le v = value_is_bound i scale value le v
