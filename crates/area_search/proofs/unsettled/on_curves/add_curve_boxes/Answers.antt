use Rattle.std.proofs.Common.{slice_index, subst, ◌∙◌}
use Rattle.plane.specs.Forms.Boxes.{HoldsCurve}
use Rattle.plane.specs.Rule.Plans.{plan}
use Rattle.near_pairs.specs.Boxes.{box_of}
use Rattle.area_search.proofs.UnsettledLemmas.MarkedNumbers.{curve_box_more}
use Rattle.area_search.proofs.SettledLemmas.CaseEdges.{get_same}
use Rattle.area_search.proofs.PlaneLaws.{no_curve}
use Rattle.area_search.proofs.unsettled.on_curves.add_curve_boxes.Goals as goal

pub loop-number-preserved : goal.loop-number-preserved
loop-number-preserved c =
    let d = plan c.args.drawing.now in
    let l = c.loop-number in
    let known = c.requires.numbers l.number-index c.loop-number-test.true in
    curve_box_more d c.args.numbers.now l.number-index l.boxes.items c.push.new.self.items
    c.reach.result l.invariant c.in_ok-push.ensures.items
    (subst (HoldsCurve (box_of c.reach.result)) (c.index.ensures
    ∙ get_same d.curves (slice_index c.args.numbers.now l.number-index) _ no_curve known)
    c.reach.ensures)
