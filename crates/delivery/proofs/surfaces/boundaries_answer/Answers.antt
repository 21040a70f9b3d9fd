use Rattle.std.proofs.Common.{List, sym, subst, arith}
use Rattle.std.specs.Borrow.{Bor}
use Rattle.resolver.specs.Values.{line_of}
use Rattle.itf_reader.specs.declared.rows.values.ReadVertex.{ReadVertex}
use Rattle.area_drawings.specs.Strokes.{CanDraw, strokes_view}
use Rattle.delivery.specs.ObjectLines.{drawn, objects_view}
use Rattle.delivery.proofs.SurfaceSteps.{all_counted, at_fault, at_held, at_skipped, at_unseen}
use Rattle.delivery.proofs.SurfaceSteps.{drawn_count, object_at}
use Rattle.delivery.proofs.surfaces.boundaries_answer.Goals as goal
use Rattle.delivery.proofs.surfaces.boundaries_answer.Goals.{in-Unseen, in-Skipped, in-Held}

pub boundary_answer-requires-clause-drawable : goal.boundary_answer-requires-clause-drawable
boundary_answer-requires-clause-drawable c = λ f.
    let form = line_of c.args.form.now in
    subst (λ (ss : List (Bor (List ReadVertex))). CanDraw form (strokes_view ss))
    (sym c.deref.ensures.value)
    (object_at (CanDraw form) c.args.objects.now c.loop-place.place c.index-objects-place.result
    c.loop-place-test.true c.index-objects-place.is (c.requires.drawable f))

pub returns-in-Fault : goal.returns-in-Fault
returns-in-Fault c =
    let i = c.loop-place.invariant in
    at_fault c.args.all c.args.objects.now c.args.lines.now c.loop-place.place
    c.index-objects-place.result c.requires.lines c.loop-place-test.true
    c.index-objects-place.is c.deref.result.now c.deref.ensures.value c.loop-place.held
    c.loop-place.skipped i.counted c.in_ok-boundary_answer.field-0
    c.in_ok-boundary_answer.ensures c.in-Fault.answer c.in-Fault.is

pub loop-place-preserved : goal.loop-place-preserved
loop-place-preserved c =
    let i = c.loop-place.invariant in
    elim c.match-branch-2.branch [
      | in-Unseen w ↦ (
          let x = w.held-is in
          let y = w.skipped-is in
          let f = i.few_held in
          let g = i.few_skipped in
          record {
            counted = at_unseen c.args.all c.args.objects.now c.args.lines.now c.loop-place.place
                c.index-objects-place.result c.requires.lines c.loop-place-test.true
                c.index-objects-place.is c.deref.result.now c.deref.ensures.value c.loop-place.held
                c.loop-place.skipped i.counted c.in_ok-boundary_answer.field-0
                c.in_ok-boundary_answer.ensures c.match-branch-2.held
                c.match-branch-2.skipped w.in-Unseen.is x y;
            few_held = omega (arith, x, f);
            few_skipped = omega (arith, y, g);
          })
      | in-Skipped w ↦ (
          let x = w.held-is in
          let y = w.skipped-is in
          let f = i.few_held in
          let g = i.few_skipped in
          record {
            counted = at_skipped c.args.all c.args.objects.now c.args.lines.now c.loop-place.place
                c.index-objects-place.result c.requires.lines c.loop-place-test.true
                c.index-objects-place.is c.deref.result.now c.deref.ensures.value c.loop-place.held
                c.loop-place.skipped i.counted c.in_ok-boundary_answer.field-0
                c.in_ok-boundary_answer.ensures c.match-branch-2.held
                c.match-branch-2.skipped w.in-Skipped.is x y;
            few_held = omega (arith, x, f);
            few_skipped = omega (arith, y, g);
          })
      | in-Held w ↦ (
          let x = w.held-is in
          let y = w.skipped-is in
          let f = i.few_held in
          let g = i.few_skipped in
          record {
            counted = at_held c.args.all c.args.objects.now c.args.lines.now c.loop-place.place
                c.index-objects-place.result c.requires.lines c.loop-place-test.true
                c.index-objects-place.is c.deref.result.now c.deref.ensures.value c.loop-place.held
                c.loop-place.skipped i.counted c.in_ok-boundary_answer.field-0
                c.in_ok-boundary_answer.ensures c.match-branch-2.held
                c.match-branch-2.skipped w.in-Held.is x y;
            few_held = omega (arith, x, f);
            few_skipped = omega (arith, y, g);
          })
    ]

pub returns : goal.returns
returns c =
    let bs = drawn (objects_view c.args.objects.now) c.args.lines.now in
    let n = drawn_count c.args.objects.now c.args.lines.now c.requires.lines in
    let f = c.loop-place-test.false in
    all_counted c.args.all bs c.loop-place.place c.loop-place.held c.loop-place.skipped
    (omega (arith, n, f)) c.loop-place.invariant.counted
