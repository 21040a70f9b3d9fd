use Rattle.field_values.proofs.SpelledLeaves.{spelled_exactly}
use Rattle.field_values.proofs.laws.leaves_are_spelled.Goals as goal

pub returns : goal.returns
returns c = spelled_exactly
