use Rattle.std.proofs.Common.{ap, arith, length, rules, subst, sym, ℕ, [], ◌≡◌, ◌+◌, ◌∙◌}
use Rattle.straight_predicates.specs.PackedEnds.{ends_in}
use Rattle.straight_predicates.specs.Slots.{end_of_stops, slots_of}
use Rattle.straight_predicates.specs.Tables.{IsFilledTo, low_end}
use Rattle.straight_predicates.proofs.FillSteps.{begin, group_at, room_at, step, table_at_end}
use Rattle.straight_predicates.proofs.StopSlots.{slots_length}
use Rattle.straight_predicates.proofs.events.fill.Goals as goal

pub loop-i-init : goal.loop-i-init
loop-i-init c = record {
  filled = begin c.args.edges.now (ends_in c.args.ends.now)
      (slots_of c.args.stops.now.items) c.args.numbers.now.items
      (ap slots_of c.requires.stops) c.requires.numbers;
  last = ap end_of_stops c.requires.stops ∙ sym (ap length c.requires.numbers);
}

pub add_event-requires-clause-group : goal.add_event-requires-clause-group
add_event-requires-clause-group c =
    group_at c.args.edges.now (ends_in c.args.ends.now) c.deref.result.now c.loop-i.i
    (length c.copy_group.new.group.items)
    (low_end [] 0) c.requires.ends c.in_ok-copy_group.ensures.one (c.deref.ensures.value
    ∙ c.in_ok-copy_group.ensures.ends)

pub add_event-requires-clause-few : goal.add_event-requires-clause-few
add_event-requires-clause-few c =
    let l = c.loop-i-test.true in
    let r = room_at c.args.edges.now (ends_in c.args.ends.now) c.deref.result.now c.loop-i.i
    (length c.copy_group.new.group.items)
    (slots_of c.loop-i.stops.items) c.loop-i.numbers.items c.requires.ends
    (omega (arith, c.len.ensures, l)) c.in_ok-copy_group.ensures.one (c.deref.ensures.value
    ∙ c.in_ok-copy_group.ensures.ends) c.loop-i.invariant.filled in
    let f = c.requires.few in
    omega (arith, r, f)

pub loop-i-preserved : goal.loop-i-preserved
loop-i-preserved c =
    let l = c.loop-i-test.true in
    let size : c.len-i.result ≡ length c.copy_group.new.group.items = search rules in
    record {
      filled = subst
          (λ (n : ℕ). IsFilledTo c.args.edges.now (ends_in c.args.ends.now) (c.loop-i.i + n)
          (slots_of c.add_event.new.stops.items) c.add_event.new.numbers.items) (sym size)
          (step c.args.edges.now (ends_in c.args.ends.now) c.loop-i.i
          (length c.copy_group.new.group.items) (low_end [] 0)
          (slots_of c.loop-i.stops.items) c.loop-i.numbers.items
          (slots_of c.add_event.new.stops.items) c.add_event.new.numbers.items
          c.requires.ends (omega (arith, c.len.ensures, l)) c.in_ok-copy_group.ensures.one
          c.loop-i.invariant.filled c.deref.result.now (c.deref.ensures.value
          ∙ c.in_ok-copy_group.ensures.ends) c.in_ok-add_event.ensures.event);
      last = c.in_ok-add_event.ensures.last;
    }

pub loop-i-smaller : goal.loop-i-smaller
loop-i-smaller c =
    let s = c.in_ok-copy_group.ensures.one.some in
    let t = c.loop-i-test.true in
    let size : c.len-i.result ≡ length c.copy_group.new.group.items = search rules in
    omega (arith, c.len.ensures, size, s, t)

pub returns-clause-table : goal.returns-clause-table
returns-clause-table c =
    let l = c.loop-i-test.false in
    table_at_end c.args.edges.now (ends_in c.args.ends.now) c.loop-i.i
    (slots_of c.loop-i.stops.items) c.loop-i.numbers.items c.requires.sorted c.requires.ends
    (omega (arith, c.len.ensures, l)) c.loop-i.invariant.filled

pub returns-clause-within : goal.returns-clause-within
returns-clause-within c = c.loop-i.invariant.filled.slots

pub returns-clause-few : goal.returns-clause-few
returns-clause-few c =
    let l = c.loop-i.invariant.filled.count in
    let n = slots_length 0 c.loop-i.stops.items in
    let w = c.loop-i.invariant.filled.within in
    let s = c.requires.ends.size in
    let f = c.requires.few in
    omega (arith, l, n, w, s, f)
