use Rattle.std.proofs.Common.{List, ap, subst, sym, ◌∙◌, length, ◌+◌}
use Rattle.plane.specs.Rule.Plans.{plan}
use Rattle.near_pairs.specs.Boxes.{AreMarkedFrom}
use Rattle.area_search.specs.Unsettled.CurvePoints.{AreCurveBoxes}
use Rattle.area_search.proofs.UnsettledLemmas.MarkedPoints.{near_pairs_on}
use Rattle.area_search.proofs.unsettled.marked_points.pairs_on.Goals as goal

pub all-requires-clause-near : goal.all-requires-clause-near
all-requires-clause-near c = λ i j l m h.
    near_pairs_on (plan c.args.drawing.now) c.args.marked.now c.args.numbers.now c.requires
    c.in_ok-boxes.boxes.items c.deref.result.now c.as_slice.result.now c.in_ok-marks.marks.items
    c.deref-2.result.now c.len.result
    c.deref.ensures.value c.as_slice.ensures.value c.deref-2.ensures.value (c.len.ensures
    ∙ c.args.drawing.now.points.ok.0) c.in_ok-boxes.ensures c.in_ok-marks.ensures
    c.boxes_of_bad_curves_meet.ensures.on i j h
