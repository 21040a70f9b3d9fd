use Rattle.std.proofs.Common.{refl}
use Rattle.plane.specs.Rule.Plans.{plan}
use Rattle.area_search.specs.declared.points.OnCurve.{OnCurve}
use Rattle.area_search.proofs.UnsettledLemmas.PointsOnCurves.{lent_least, lent_near, lent_none}
use Rattle.area_search.proofs.unsettled.on_curves.first_on_marked.Goals as goal

pub least-requires-clause-near : goal.least-requires-clause-near
least-requires-clause-near c = λ i j l m.
    lent_near (plan c.args.drawing.now) c.args.aside.now c.as_slice-points.result.now
    c.in_ok-numbers.numbers.items c.deref.result.now c.deref-2.result.now
    c.in_ok-boxes.boxes.items c.deref-3.result.now c.as_slice.result.now
    c.in_ok-marks.marks.items c.deref-4.result.now c.requires
    c.as_slice-points.ensures.value c.deref.ensures.value c.deref-2.ensures.value
    c.deref-3.ensures.value c.as_slice.ensures.value c.deref-4.ensures.value
    c.in_ok-numbers.ensures c.in_ok-boxes.ensures c.in_ok-marks.ensures
    c.boxes_of_bad_curves_meet.ensures.on i j

pub returns-in-Some : goal.returns-in-Some
returns-in-Some c =
    let h = rw c.in-Some.is at c.in_ok-pair.ensures.some in
    let r : OnCurve = record { point = c.in-Some.pair.first; curve = c.index.result.now } in
    lent_least (plan c.args.drawing.now) c.args.aside.now c.as_slice-points.result.now
    c.in_ok-numbers.numbers.items c.deref.result.now c.deref-2.result.now
    c.in_ok-boxes.boxes.items c.deref-3.result.now c.as_slice.result.now
    c.in_ok-marks.marks.items c.deref-4.result.now c.requires
    c.as_slice-points.ensures.value c.deref.ensures.value c.deref-2.ensures.value
    c.deref-3.ensures.value c.as_slice.ensures.value c.deref-4.ensures.value
    c.in_ok-numbers.ensures c.in_ok-boxes.ensures c.in_ok-marks.ensures
    c.in-Some.pair r h refl c.index.ensures

pub returns : goal.returns
returns c =
    lent_none (plan c.args.drawing.now) c.args.aside.now c.as_slice-points.result.now
    c.in_ok-numbers.numbers.items c.deref.result.now c.deref-2.result.now
    c.in_ok-boxes.boxes.items c.deref-3.result.now c.as_slice.result.now
    c.in_ok-marks.marks.items c.deref-4.result.now c.requires
    c.as_slice-points.ensures.value c.deref.ensures.value c.deref-2.ensures.value
    c.deref-3.ensures.value c.as_slice.ensures.value c.deref-4.ensures.value
    c.in_ok-numbers.ensures c.in_ok-boxes.ensures c.in_ok-marks.ensures
    (c.in_ok-pair.ensures.none c.in-None.is)
