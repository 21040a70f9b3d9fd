use Rattle.std.proofs.Common.{◌≡◌, ◌<◌, ℕ, List, ap, arith, length, rules, refl, subst, sym, ◌∙◌}
use Rattle.std.proofs.lemmas.List.{with_items_is}
use Rattle.line_sweep.specs.Kinds.{move_of}
use Rattle.area_search.specs.Settled.Meshing.{IsWidest}
use Rattle.area_search.proofs.SettledLemmas.MeshedRuns.{all_turned, block_within, can_turn_event}
use Rattle.area_search.proofs.SettledLemmas.MeshedRuns.{has_room, listed_ends, listed_mesh}
use Rattle.area_search.proofs.SettledLemmas.MeshedRuns.{rest_after, turned_next}
use Rattle.area_search.proofs.settled.meshing.mesh_of_run.Goals as goal

pub mesh_of-requires-clause-ends : goal.mesh_of-requires-clause-ends
mesh_of-requires-clause-ends c =
    listed_ends c.args.edges c.requires.run.0 c.args.swept.now.events c.requires.run.1
    c.in_ok-noted.noted c.in_ok-noted.ensures
    c.len.result c.deref.result.now c.deref-2.result.now c.len.ensures c.deref.ensures.value
    c.deref-2.ensures.value

pub loop-number-init : goal.loop-number-init
loop-number-init c =
    let room : length c.in_ok-fan.fan.items ≡ c.widest.result = search rules in
    record {
      within = omega arith;
      rest = c.ended-ended.ensures;
      room = subst (λ (k : ℕ). IsWidest c.args.swept.now.events (length c.args.swept.now.events) k)
          (sym room) c.widest.ensures;
      turned = λ E run. listed_mesh c.args.edges E c.args.swept.now.events run c.in_ok-noted.noted
          c.in_ok-noted.ensures
          c.turned_events.ensures.begin c.len.result c.deref.result.now c.deref-2.result.now
          c.in_ok-mesh.mesh c.len.ensures c.deref.ensures.value c.deref-2.ensures.value
          c.in_ok-mesh.ensures;
      vertices = c.in_ok-mesh.ensures.vertices ∙ c.len.ensures;
    }

pub slice_bounds-turn_event-end : goal.slice_bounds-turn_event-end
slice_bounds-turn_event-end c =
    let l : c.loop-number.number < length
    c.args.swept.now.events =
    (let n = c.len-number-end.ensures in let t = c.loop-number-test.true in
    omega (arith, n, t)) in
    let b = block_within c.args.edges c.requires.run.0 c.args.swept.now.events c.requires.run.1
    c.requires.fit c.loop-number.number l (move_of c.get-event.result) (sym c.get-event.ensures)
    c.ended-ended.result.now c.loop-number.from c.loop-number.invariant.within
    c.loop-number.invariant.rest in
    omega (arith, b)

pub turn_event-requires-clause-can : goal.turn_event-requires-clause-can
turn_event-requires-clause-can c =
    let l : c.loop-number.number < length
    c.args.swept.now.events =
    (let n = c.len-number-end.ensures in let t = c.loop-number-test.true in
    omega (arith, n, t)) in
    can_turn_event c.args.edges c.requires.run.0 c.args.swept.now.events c.requires.run.1
    c.requires.fit c.loop-number.number l (move_of c.get-event.result) (sym c.get-event.ensures)
    c.ended-ended.result.now c.loop-number.from c.loop-number.invariant.within
    c.loop-number.invariant.rest
    c.get-event.result.starting.now refl c.turned_events.ensures.can c.requires.few
    c.loop-number.mesh (c.loop-number.invariant.turned c.requires.run.0 c.requires.run.1)

pub turn_event-requires-clause-room : goal.turn_event-requires-clause-room
turn_event-requires-clause-room c =
    let l : c.loop-number.number < length
    c.args.swept.now.events =
    (let n = c.len-number-end.ensures in let t = c.loop-number-test.true in
    omega (arith, n, t)) in
    has_room c.args.edges c.requires.run.0 c.args.swept.now.events c.requires.run.1
    c.requires.fit c.loop-number.number l (move_of c.get-event.result) (sym c.get-event.ensures)
    c.ended-ended.result.now c.loop-number.from c.loop-number.invariant.within
    c.loop-number.invariant.rest
    c.get-event.result.starting.now refl (length c.deref_mut.result.now)
    (subst (λ (hs : List ℕ). IsWidest c.args.swept.now.events (length c.args.swept.now.events)
    (length hs)) (sym c.deref_mut.ensures.value) c.loop-number.invariant.room)

pub loop-number-preserved : goal.loop-number-preserved
loop-number-preserved c =
    let l : c.loop-number.number < length
    c.args.swept.now.events =
    (let n = c.len-number-end.ensures in let t = c.loop-number-test.true in
    omega (arith, n, t)) in
    let fan = with_items_is c.loop-number.fan c.turn_event.new.fan (c.turn_event.auto.fan
    ∙ c.deref_mut.ensures.len) in
    let room = ap length fan ∙ c.turn_event.auto.fan ∙ ap length c.deref_mut.ensures.value in
    record {
      within = block_within c.args.edges c.requires.run.0 c.args.swept.now.events c.requires.run.1
          c.requires.fit c.loop-number.number l (move_of c.get-event.result)
          (sym c.get-event.ensures)
          c.ended-ended.result.now c.loop-number.from c.loop-number.invariant.within
          c.loop-number.invariant.rest;
      rest = rest_after c.args.edges c.requires.run.0 c.args.swept.now.events c.requires.run.1
          c.requires.fit c.loop-number.number l (move_of c.get-event.result)
          (sym c.get-event.ensures)
          c.ended-ended.result.now c.loop-number.from c.loop-number.invariant.within
          c.loop-number.invariant.rest;
      room = subst (λ (n : ℕ). IsWidest c.args.swept.now.events (length c.args.swept.now.events) n)
          (sym room) c.loop-number.invariant.room;
      turned = λ E run. turned_next c.args.edges E c.args.swept.now.events run
          c.requires.fit c.loop-number.number l (move_of c.get-event.result)
          (sym c.get-event.ensures)
          c.ended-ended.result.now c.loop-number.from c.loop-number.invariant.within
          c.loop-number.invariant.rest
          c.get-event.result.starting.now refl
          c.loop-number.mesh c.turn_event.new.mesh
          (c.loop-number.invariant.turned E run) c.turn_event.ensures.turned;
      vertices = c.turn_event.ensures.linked.vertices ∙ c.loop-number.invariant.vertices;
    }

pub returns : goal.returns
returns c =
    let n = c.len-number-end.ensures in
    record {
      turned = λ E run. all_turned c.args.edges E c.args.swept.now.events run c.loop-number.mesh
          c.loop-number.number
          (omega (arith, n, c.loop-number-test.false, c.loop-number.auto))
          (c.loop-number.invariant.turned E run);
      vertices = c.loop-number.invariant.vertices;
    }
