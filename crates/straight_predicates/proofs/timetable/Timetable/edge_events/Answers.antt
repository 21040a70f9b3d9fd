use Rattle.std.proofs.Common.{ℕ, List, ◌<◌, ap, arith, sym, subst, ◌∙◌, length}
use Rattle.std.proofs.lemmas.List.{with_items_is}
use Rattle.plane.specs.Lists.{Has}
use Rattle.plane.specs.Runs.Timetables.{Timed}
use Rattle.straight_predicates.specs.EdgeEvents.{AreNoted}
use Rattle.straight_predicates.specs.Tables.{table_of}
use Rattle.straight_predicates.proofs.NotedEvents.{starting_known, ending_known, low_noted}
use Rattle.straight_predicates.proofs.NotedEvents.{high_noted, all_noted}
use Rattle.straight_predicates.proofs.timetable.Timetable.edge_events.Goals as goal

pub note-requires : goal.note-requires
note-requires c e h =
    subst (λ (n : ℕ). e < n)
    (sym (ap length c.deref_mut.ensures.value ∙ c.loop-k.invariant.low_count))
    (starting_known c.args.edges.now (table_of c.args.self.now) c.requires c.loop-k.k e
    (omega (arith, c.loop-k-test.true, c.events-k-end.ensures))
    (subst (λ (xs : List ℕ). Has e xs) c.starting.ensures h))

pub note-requires-in-loop-k : goal.note-requires-in-loop-k
note-requires-in-loop-k c e h =
    subst (λ (n : ℕ). e < n)
    (sym (ap length c.deref_mut-in-loop-k.ensures.value ∙ c.loop-k.invariant.high_count))
    (ending_known c.args.edges.now (table_of c.args.self.now) c.requires c.loop-k.k e
    (omega (arith, c.loop-k-test.true, c.events-k-end.ensures))
    (subst (λ (xs : List ℕ). Has e xs) c.ending.ensures h))

pub loop-k-preserved : goal.loop-k-preserved
loop-k-preserved c =
    let low_is = with_items_is c.loop-k.low c.note.new.events (c.note.auto.events
    ∙ c.deref_mut.ensures.len) in
    let high_is = with_items_is c.loop-k.high c.note-in-loop-k.new.events
    (c.note-in-loop-k.auto.events ∙ c.deref_mut-in-loop-k.ensures.len) in
    let b : c.loop-k.k < length (table_of c.args.self.now) = omega
    (arith, c.loop-k-test.true, c.events-k-end.ensures) in
    let low = low_noted c.args.edges.now
    (table_of c.args.self.now) c.requires c.loop-k.k c.loop-k.low.items c.note.new.events b
    c.loop-k.invariant.low
    (rw (c.starting.ensures, c.deref_mut.ensures.value) at c.note.ensures) in
    let high = high_noted c.args.edges.now
    (table_of c.args.self.now) c.requires c.loop-k.k c.loop-k.high.items
    c.note-in-loop-k.new.events b c.loop-k.invariant.high
    (rw (c.ending.ensures, c.deref_mut-in-loop-k.ensures.value) at c.note-in-loop-k.ensures) in
    record {
      low_count = ap length low_is ∙ c.note.auto.events ∙ ap length c.deref_mut.ensures.value
          ∙ c.loop-k.invariant.low_count;
      high_count = ap length high_is ∙ c.note-in-loop-k.auto.events
          ∙ ap length c.deref_mut-in-loop-k.ensures.value ∙ c.loop-k.invariant.high_count;
      low = rw low_is low;
      high = rw high_is high;
    }

pub returns : goal.returns
returns c =
    let e = c.events-k-end.ensures in
    all_noted c.args.edges.now (table_of c.args.self.now) c.requires c.loop-k.low.items
    c.loop-k.high.items c.loop-k.invariant.low_count c.loop-k.invariant.high_count
    (subst (λ (k : ℕ). AreNoted (λ (t : Timed). t.starting)
    (table_of c.args.self.now) k c.loop-k.low.items)
    (omega (arith, c.loop-k-test.false, c.loop-k.auto, e)) c.loop-k.invariant.low)
    (subst (λ (k : ℕ). AreNoted (λ (t : Timed). t.ending)
    (table_of c.args.self.now) k c.loop-k.high.items)
    (omega (arith, c.loop-k-test.false, c.loop-k.auto, e)) c.loop-k.invariant.high)
