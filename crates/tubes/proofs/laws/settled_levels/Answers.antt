use Rattle.straight_predicates.specs.EdgeEvents.{event_of}
use Rattle.tubes.proofs.SettledLevels.{level_settled, own_corners, settled_run, tubed_run, wide}
use Rattle.tubes.proofs.laws.settled_levels.Goals as goal

pub returns-clause-run : goal.returns-clause-run
returns-clause-run given = settled_run

pub returns-clause-level : goal.returns-clause-level
returns-clause-level given = level_settled

pub returns-clause-corners : goal.returns-clause-corners
returns-clause-corners given d level table p h own = own_corners d level table h own p

pub returns-clause-own : goal.returns-clause-own
returns-clause-own given = tubed_run

pub returns-clause-wide : goal.returns-clause-wide
returns-clause-wide given = wide

pub returns-clause-foreign : goal.returns-clause-foreign
returns-clause-foreign given d level k table f s = f.1 (s.corners (event_of table k).at)
