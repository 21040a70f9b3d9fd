use Rattle.std.proofs.Common.{rules, arith, ap, IsTrue, false, ◌≡◌, ◌∙◌, ◌<◌, length}
use Rattle.certificate_checker.specs.Cases.{judged}
use Rattle.certificate_checker.specs.Placed.{spot_at}
use Rattle.certificate_checker.proofs.ListParts.{unfit}
use Rattle.certificate_checker.proofs.PlacedSpots.{next_left, next_spot, next_strip, none_left}
use Rattle.certificate_checker.proofs.points.place_points.Goals as goal

pub place_point-requires-clause-spot : goal.place_point-requires-clause-spot
place_point-requires-clause-spot c =
    let l : c.loop-i.i < length c.loop-i.placing.spots.items = (let a = c.loop-i-test.true in
    let b = c.loop-i.invariant.size in omega (arith, a, b)) in
    let h : c.is_later.result ≡ false = search rules in
    next_strip (judged c.args.case.now) c.args.event c.loop-i.placing.next c.loop-i.placing.bad
    c.loop-i.placing.spots.items c.loop-i.marks c.loop-i.invariant.placed c.loop-i.i
    c.loop-i.invariant.next
    c.nth_spot-spot.result (c.nth_spot-spot.ensures
    ∙ ap (λ xs. spot_at xs c.loop-i.i) c.deref.ensures.value) c.next_event-upto.result l
    c.next_event-upto.ensures (unfit c.is_later.result c.is_later.ensures h)

pub loop-i-preserved : goal.loop-i-preserved
loop-i-preserved c =
    let l : c.loop-i.i < length c.loop-i.placing.spots.items = (let a = c.loop-i-test.true in
    let b = c.loop-i.invariant.size in omega (arith, a, b)) in
    record {
      next = search rules;
      size = c.loop-i.invariant.size;
      placed = next_spot (judged c.args.case.now) c.args.event c.loop-i.placing.next
          c.loop-i.placing.bad c.loop-i.placing.spots.items c.loop-i.marks c.loop-i.invariant.placed
          c.loop-i.i c.loop-i.invariant.next
          c.nth_spot-spot.result (c.nth_spot-spot.ensures
          ∙ ap (λ xs. spot_at xs c.loop-i.i) c.deref.ensures.value) c.place_point.new.bad
          c.place_point.new.marks l c.place_point.ensures.bad
          (search rules) c.place_point.ensures.marks;
    }

pub returns-then-is_later-clause-later : goal.returns-then-is_later-clause-later
returns-then-is_later-clause-later c =
    let l : c.loop-i.i < length c.loop-i.placing.spots.items = (let a = c.loop-i-test.true in
    let b = c.loop-i.invariant.size in omega (arith, a, b)) in
    let h : IsTrue c.is_later.result = search rules in
    next_left (judged c.args.case.now) c.args.event c.loop-i.placing.next c.loop-i.placing.bad
    c.loop-i.placing.spots.items c.loop-i.marks c.loop-i.invariant.placed c.loop-i.i
    c.loop-i.invariant.next
    c.nth_spot-spot.result (c.nth_spot-spot.ensures
    ∙ ap (λ xs. spot_at xs c.loop-i.i) c.deref.ensures.value) c.next_event-upto.result l
    c.next_event-upto.ensures (c.is_later.ensures.0 h)

pub returns-clause-later : goal.returns-clause-later
returns-clause-later c =
    none_left (judged c.args.case.now) c.args.event c.loop-i.placing.next c.loop-i.placing.bad
    c.loop-i.placing.spots.items c.loop-i.marks c.loop-i.invariant.placed
    (let a = c.loop-i-test.false in let b = c.loop-i.invariant.size in
    let e = c.loop-i.invariant.next in omega (arith, a, b, e))
