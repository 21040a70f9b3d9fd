use Rattle.delivery.proofs.KeptSteps.{read_as}
use Rattle.delivery.proofs.judging.found.TableFound.add_row.Goals as goal

pub returns-clause-read : goal.returns-clause-read
returns-clause-read c = read_as _ _ _ _ c.in_ok-read.ensures.values
