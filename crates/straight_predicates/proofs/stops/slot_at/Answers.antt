use Rattle.std.proofs.Common.{arith, pos}
use Rattle.straight_predicates.specs.declared.stops.Stop.{Stop}
use Rattle.straight_predicates.proofs.StopSlots.{later_slot}
use Rattle.straight_predicates.proofs.stops.slot_at.Goals as goal

pub returns-else-event-eq0 : goal.returns-else-event-eq0
returns-else-event-eq0 c d =
    let z : Stop = record { at = record { x = pos 0; y = pos 0 }; middle = 0; upto = 0 } in
    later_slot c.args.event c.args.stops.now z d (omega (arith, c.if-event-eq0.false)) c.requires
