use Rattle.event_mesh.proofs.MovedEvents.{points_of_moves, move_event_at, good_event}
use Rattle.event_mesh.proofs.laws.events_of_moves.Goals as goal

pub returns-clause-points : goal.returns-clause-points
returns-clause-points c = points_of_moves

pub returns-clause-at : goal.returns-clause-at
returns-clause-at c = move_event_at

pub returns-clause-event : goal.returns-clause-event
returns-clause-event c = good_event
