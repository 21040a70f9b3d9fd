use Rattle.std.proofs.Common.{arith, ap, get_or, length, ◌∙◌}
use Rattle.plane.specs.Runs.Timetables.{no_event}
use Rattle.straight_predicates.specs.Slots.{slots_of}
use Rattle.straight_predicates.proofs.StopSlots.{event_is, event_there, slot_within}
use Rattle.straight_predicates.proofs.timetable.Timetable.slot.Goals as goal

pub slot_at-requires : goal.slot_at-requires
slot_at-requires c =
    let l = event_there c.args.self.now.numbers.items c.args.self.now.stops.items c.args.event
    c.requires in
    let e = ap length c.deref.ensures.value in
    omega (arith, l, e)

pub returns-clause-event : goal.returns-clause-event
returns-clause-event c =
    event_is c.args.self.now.numbers.items c.args.self.now.stops.items c.args.event c.requires
    c.slot_at.result no_event
    (λ d. c.slot_at.ensures d
    ∙ ap (λ ss. get_or (slots_of ss) c.args.event d) c.deref.ensures.value)

pub returns-clause-within : goal.returns-clause-within
returns-clause-within c =
    slot_within c.args.self.now.numbers.items c.args.self.now.stops.items c.args.event c.requires
    c.slot_at.result c.args.self.now.within
    (λ d. c.slot_at.ensures d
    ∙ ap (λ ss. get_or (slots_of ss) c.args.event d) c.deref.ensures.value)
