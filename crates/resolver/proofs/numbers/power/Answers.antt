use Rattle.std.proofs.Common.{ℕ, ◌<◌, subst, sym}
use Rattle.resolver.proofs.ListLemmas.Powers.{power_positive}
use Rattle.resolver.proofs.numbers.power.Goals as goal

pub returns-clause-least : goal.returns-clause-least
returns-clause-least c = subst (λ (n : ℕ). 0 < n) (sym c.pow.ensures) (power_positive c.from.result)
