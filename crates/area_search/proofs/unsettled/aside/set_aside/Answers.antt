use Rattle.std.proofs.Common.{List, length, subst}
use Rattle.plane.specs.Rule.Plans.{plan}
use Rattle.plane.specs.declared.kinds.Curve.{Curve}
use Rattle.area_search.specs.Unsettled.SetAside.{AreArcMarks}
use Rattle.area_search.proofs.UnsettledLemmas.SetAsideCurves.{arcs_aside}
use Rattle.area_search.proofs.unsettled.aside.set_aside.Goals as goal

pub returns : goal.returns
returns c =
    let d = plan c.args.drawing.now in
    arcs_aside d c.in_ok-marks.marks.items
    (subst (λ (cs : List Curve). AreArcMarks cs (length cs) c.in_ok-marks.marks.items)
    c.deref.ensures.value c.in_ok-marks.ensures)
    (λ i j. c.breaks_have_half_arcs.ensures d (λ n. 5) i j c.requires.straights) c.args.on_straight
    c.requires.points
