use Rattle.event_mesh.proofs.TurnedEvents.{begin, can_turn, turned_more}
use Rattle.event_mesh.proofs.laws.turned_events.Goals as goal

pub returns-clause-begin : goal.returns-clause-begin
returns-clause-begin c = begin

pub returns-clause-can : goal.returns-clause-can
returns-clause-can c m E steps mesh k starting ending few events is event =
    can_turn m E steps events mesh k is starting ending event few

pub returns-clause-more : goal.returns-clause-more
returns-clause-more c m E steps old new k starting ending events is event linked =
    turned_more m E steps events old k is starting ending event new linked
