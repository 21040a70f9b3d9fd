use Rattle.std.proofs.Common.{List, get_or, arith, sym, ◌∙◌, subst, rules}
use Rattle.std.proofs.lemmas.List.{length-set}
use Rattle.point_location.specs.declared.numbered.Numbered.{Numbered}
use Rattle.point_location.specs.Numbered.{IsInOrder, nothing}
use Rattle.point_location.specs.Places.{IsPlaceOf}
use Rattle.point_location.proofs.Placed.{IsReady, before_next, moment_at, placed_all, placed_next}
use Rattle.point_location.proofs.Placed.{ready_again, ready_anew}
use Rattle.point_location.proofs.locating.locate.Goals as goal
use Rattle.point_location.proofs.locating.locate.Goals.{then-ne+in_ok-applied, else-ne}

pub loop-point-init : goal.loop-point-init
loop-point-init c = record {
  done = record { known = omega arith; values = c.new-live.ensures };
  last = tt;
  passed = λ j l m. absurd (omega (arith, l));
  size = search rules;
  each = λ i l. absurd (omega (arith, l));
}

pub place_at-place-requires-clause-moment : goal.place_at-place-requires-clause-moment
place_at-place-requires-clause-moment c =
    let a = c.in_ok-applied in let live = c.apply_before.new.live in
    moment_at c.args.swept.now.events c.loop-point.applied a.applied live
    (get_or c.deref-point-items.result.now c.loop-point.point-index nothing).at
    (λ j l. c.loop-point.invariant.passed j l c.loop-point-test.true) a.ensures.applied
    a.ensures.passed a.ensures.coming

pub loop-point-preserved : goal.loop-point-preserved
loop-point-preserved c =
    let order = c.deref-point-items.result.now in
    let k = c.loop-point.point-index in
    let edges = c.args.edges.now in
    let moves = c.args.swept.now.events in
    let at = (get_or order k nothing).at in
    let o : IsInOrder c.args.points.now order = subst
    (λ (ns : List Numbered). IsInOrder c.args.points.now ns)
    (sym c.deref-point-items.ensures.value) c.in_ok-order.ensures in
    let ready : IsReady edges moves at c.if-ne.applied c.if-ne.live c.if-ne.last
    c.if-ne.place = elim c.if-ne.branch [
      | then-ne+in_ok-applied w ↦
          let a = w.in_ok-applied in let live = w.apply_before.new.live in
          rw (w.live-is, w.applied-is, w.last-is, w.place-is)
          (ready_anew edges moves at a.applied live w.place_at-place.result
          (moment_at moves c.loop-point.applied a.applied live at
          (λ j l. c.loop-point.invariant.passed j l c.loop-point-test.true) a.ensures.applied
          a.ensures.passed a.ensures.coming) w.place_at-place.ensures)
      | else-ne w ↦
          rw (w.live-is, w.applied-is, w.last-is, w.place-is)
          (ready_again edges moves at c.loop-point.applied c.loop-point.live c.loop-point.place
          c.loop-point.last c.ne.result c.loop-point.invariant.done
          (λ j l. c.loop-point.invariant.passed j l c.loop-point-test.true)
          c.loop-point.invariant.last c.ne.ensures w.if-ne.false)
    ] in
    record {
      done = ready.done;
      last = ready.last_is;
      passed = λ j l h. before_next c.args.points.now order o k h _ (ready.passed j l);
      size = length-set c.loop-point.places.items _ c.if-ne.place ∙ c.loop-point.invariant.size;
      each = placed_next (IsPlaceOf edges moves) c.args.points.now order o c.loop-point.places.items
          c.loop-point.invariant.size k c.loop-point-test.true c.if-ne.place ready.here
          c.loop-point.invariant.each;
    }

pub returns : goal.returns
returns c =
    placed_all c.args.edges.now c.args.swept.now.events c.args.points.now
    c.deref-point-items.result.now c.loop-point.places.items c.loop-point.point-index
    (subst (λ (ns : List Numbered). IsInOrder c.args.points.now ns)
    (sym c.deref-point-items.ensures.value) c.in_ok-order.ensures) c.loop-point-test.false
    c.loop-point.invariant.size c.loop-point.invariant.each
