use Rattle.std.proofs.Common.{rules, arith, ◌≡◌, [], ◌∙◌, ap, length}
use Rattle.straight_predicates.specs.Slots.{end_of_stops, slots_of}
use Rattle.straight_predicates.specs.Tables.{low_end}
use Rattle.straight_predicates.proofs.Groups.{event_made, same_first, sizes_after, sizes_at_end}
use Rattle.straight_predicates.proofs.StopSlots.{end_push, slots_push}
use Rattle.straight_predicates.proofs.events.add_event.Goals as goal

pub overflow_cast-middle : goal.overflow_cast-middle
overflow_cast-middle c =
    let l = c.requires.few in
    let h = sizes_after c.args.group.now c.args.numbers.now.items c.add_ending.new.numbers.items
    c.in_ok-add_ending.ensures in
    let n : c.len-middle.result ≡ length c.add_ending.new.numbers.items = search rules in
    omega (arith, n, l, h)

pub overflow_cast-upto : goal.overflow_cast-upto
overflow_cast-upto c =
    let l = c.requires.few in
    let h = sizes_at_end c.args.edges.now c.args.group.now c.args.numbers.now.items
    c.add_ending.new.numbers.items c.add_starting.new.numbers.items c.in_ok-add_ending.ensures
    c.in_ok-add_starting.ensures in
    let n : c.len-upto.result ≡ length c.add_starting.new.numbers.items = search rules in
    omega (arith, n, l, h)

pub returns-clause-event : goal.returns-clause-event
returns-clause-event c =
    let stops = c.args.stops.now.items in
    event_made c.args.edges.now c.args.group.now (low_end [] 0) c.args.numbers.now.items
    c.add_ending.new.numbers.items c.add_starting.new.numbers.items (slots_of stops)
    (slots_of c.push.new.self.items) _ (end_of_stops stops) _ _ c.requires.group
    c.in_ok-add_ending.ensures c.in_ok-add_starting.ensures
    (same_first c.args.group.now _ _ c.requires.group.some) c.requires.last (search rules)
    (search rules) (ap slots_of c.in_ok-push.ensures.items ∙ slots_push 0 stops _)

pub returns-clause-last : goal.returns-clause-last
returns-clause-last c = ap end_of_stops c.in_ok-push.ensures.items
    ∙ end_push 0 c.args.stops.now.items _ ∙ search rules
