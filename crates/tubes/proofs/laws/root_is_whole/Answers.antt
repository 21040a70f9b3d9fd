use Rattle.tubes.proofs.TubePoints.{root_is}
use Rattle.tubes.proofs.laws.root_is_whole.Goals as goal

pub returns-clause-least : goal.returns-clause-least
returns-clause-least given n = (root_is n).0

pub returns-clause-most : goal.returns-clause-most
returns-clause-most given n = (root_is n).1
