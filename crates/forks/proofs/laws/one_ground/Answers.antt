use Rattle.forks.proofs.Grounds.{one_ground}
use Rattle.forks.proofs.laws.one_ground.Goals as goal

pub returns-clause-plan : goal.returns-clause-plan
returns-clause-plan given t d g h b os ps x y = (one_ground t d g h b os ps x y).0

pub returns-clause-origin : goal.returns-clause-origin
returns-clause-origin given t d g h b os ps x y = (one_ground t d g h b os ps x y).1
