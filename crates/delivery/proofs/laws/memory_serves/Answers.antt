use Rattle.delivery.proofs.ServedLemmas.{in_memory, in_memory_for}
use Rattle.delivery.proofs.laws.memory_serves.Goals as goal

pub returns-clause-one : goal.returns-clause-one
returns-clause-one c = in_memory_for

pub returns-clause-every : goal.returns-clause-every
returns-clause-every c = in_memory
