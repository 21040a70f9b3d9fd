use Rattle.event_mesh.proofs.TurnedEvents.{next_is}
use Rattle.event_mesh.proofs.laws.next_of_turned_mesh.Goals as goal

pub returns : goal.returns
returns c = next_is
