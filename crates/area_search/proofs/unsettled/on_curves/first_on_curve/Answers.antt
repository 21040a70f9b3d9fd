use Rattle.std.proofs.Common.{subst, true}
use Rattle.plane.specs.Rule.Plans.{plan}
use Rattle.area_search.specs.Unsettled.CurvePoints.{IsLeastOf, LiesOnMarked}
use Rattle.area_search.proofs.UnsettledLemmas.PointsOnCurves.{lesser_is_first}
use Rattle.area_search.proofs.unsettled.on_curves.first_on_curve.Goals as goal

pub returns : goal.returns
returns c = lesser_is_first (plan c.args.drawing.now) c.args.aside.now.marks.items
    c.args.aside.now.on_others c.in_ok-on_marked.on_marked c.lesser.result c.lesser.ensures
    c.requires.points
    (subst (λ ms. IsLeastOf (LiesOnMarked (plan c.args.drawing.now) ms true)
    c.in_ok-on_marked.on_marked) c.deref.ensures.value c.in_ok-on_marked.ensures)
