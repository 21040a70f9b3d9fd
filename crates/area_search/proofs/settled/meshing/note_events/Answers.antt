use Rattle.std.proofs.Common.{◌<◌, ℕ, ap, arith, length, refl, subst, sym, ◌∙◌}
use Rattle.std.proofs.lemmas.List.{with_items_is}
use Rattle.line_sweep.specs.Kinds.{move_of}
use Rattle.area_search.proofs.SettledLemmas.MeshedRuns.{block_within, event_ending, event_starting}
use Rattle.area_search.proofs.SettledLemmas.MeshedRuns.{is_event, noted_more, noted_through}
use Rattle.area_search.proofs.SettledLemmas.MeshedRuns.{rest_after}
use Rattle.area_search.proofs.settled.meshing.note_events.Goals as goal

pub note-requires : goal.note-requires
note-requires c e h =
    let l : c.loop-number.number < length c.args.events.now = (let n = c.len-number-end.ensures in
    let t = c.loop-number-test.true in omega (arith, n, t)) in
    let event = is_event c.args.edges c.requires.run.0 c.args.events.now c.requires.run.1
    c.requires.fit c.loop-number.number l (move_of c.get-event.result) (sym c.get-event.ensures)
    c.ended-ended.result.now c.loop-number.from c.loop-number.invariant.within
    c.loop-number.invariant.rest c.get-event.result.starting.now refl in
    let b = event_starting c.args.edges c.requires.run.0 c.args.events.now c.requires.run.1
    c.loop-number.number _ _ event e h in
    subst (λ (n : ℕ). e < n)
    (sym (ap length c.deref_mut.ensures.value ∙ c.loop-number.invariant.noted.low_count)) b

pub slice_bounds-note-end : goal.slice_bounds-note-end
slice_bounds-note-end c =
    let l : c.loop-number.number < length c.args.events.now = (let n = c.len-number-end.ensures in
    let t = c.loop-number-test.true in omega (arith, n, t)) in
    let b = block_within c.args.edges c.requires.run.0 c.args.events.now c.requires.run.1
    c.requires.fit c.loop-number.number l (move_of c.get-event.result) (sym c.get-event.ensures)
    c.ended-ended.result.now c.loop-number.from c.loop-number.invariant.within
    c.loop-number.invariant.rest in
    omega (arith, b)

pub note-requires-in-loop-number : goal.note-requires-in-loop-number
note-requires-in-loop-number c e h =
    let l : c.loop-number.number < length c.args.events.now = (let n = c.len-number-end.ensures in
    let t = c.loop-number-test.true in omega (arith, n, t)) in
    let event = is_event c.args.edges c.requires.run.0 c.args.events.now c.requires.run.1
    c.requires.fit c.loop-number.number l (move_of c.get-event.result) (sym c.get-event.ensures)
    c.ended-ended.result.now c.loop-number.from c.loop-number.invariant.within
    c.loop-number.invariant.rest c.get-event.result.starting.now refl in
    let b = event_ending c.args.edges c.requires.run.0 c.args.events.now c.requires.run.1
    c.loop-number.number _ _ event e h in
    subst (λ (n : ℕ). e < n)
    (sym (ap length c.deref_mut-in-loop-number.ensures.value
    ∙ c.loop-number.invariant.noted.high_count)) b

pub loop-number-preserved : goal.loop-number-preserved
loop-number-preserved c =
    let l : c.loop-number.number < length c.args.events.now = (let n = c.len-number-end.ensures in
    let t = c.loop-number-test.true in omega (arith, n, t)) in
    let event = is_event c.args.edges c.requires.run.0 c.args.events.now c.requires.run.1
    c.requires.fit c.loop-number.number l (move_of c.get-event.result) (sym c.get-event.ensures)
    c.ended-ended.result.now c.loop-number.from c.loop-number.invariant.within
    c.loop-number.invariant.rest c.get-event.result.starting.now refl in
    let low = with_items_is c.loop-number.low c.note.new.events (c.note.auto.events
    ∙ c.deref_mut.ensures.len) in
    let high = with_items_is c.loop-number.high c.note-in-loop-number.new.events
    (c.note-in-loop-number.auto.events ∙ c.deref_mut-in-loop-number.ensures.len) in
    record {
      within = block_within c.args.edges c.requires.run.0 c.args.events.now c.requires.run.1
          c.requires.fit c.loop-number.number l (move_of c.get-event.result)
          (sym c.get-event.ensures)
          c.ended-ended.result.now c.loop-number.from c.loop-number.invariant.within
          c.loop-number.invariant.rest;
      rest = rest_after c.args.edges c.requires.run.0 c.args.events.now c.requires.run.1
          c.requires.fit c.loop-number.number l (move_of c.get-event.result)
          (sym c.get-event.ensures)
          c.ended-ended.result.now c.loop-number.from c.loop-number.invariant.within
          c.loop-number.invariant.rest;
      noted = noted_more c.args.edges c.requires.run.0 c.args.events.now c.requires.run.1
          c.loop-number.number _ _ event
          (record {
            low = c.loop-number.low;
            high = c.loop-number.high;
          }) _ c.loop-number.invariant.noted
          (ap length low ∙ c.note.auto.events ∙ ap length c.deref_mut.ensures.value)
          (ap length high ∙ c.note-in-loop-number.auto.events
          ∙ ap length c.deref_mut-in-loop-number.ensures.value)
          (noted_through _ c.loop-number.number _ _ _ _ c.deref_mut.ensures.value low
          c.note.ensures)
          (noted_through _ c.loop-number.number _ _ _ _ c.deref_mut-in-loop-number.ensures.value
          high c.note-in-loop-number.ensures);
    }
