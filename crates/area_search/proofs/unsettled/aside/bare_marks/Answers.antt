use Rattle.std.proofs.Common.{◌<◌, arith, length, subst, sym}
use Rattle.plane.specs.Rule.Plans.{curve, plan}
use Rattle.tubes.specs.TubedEdges.{IsFit}
use Rattle.tubes.proofs.ChainEdges.{fit}
use Rattle.area_search.proofs.SettledLemmas.CaseEdges.{nth_curve_is}
use Rattle.area_search.proofs.unsettled.aside.bare_marks.Goals as goal

pub is_bare-requires : goal.is_bare-requires
is_bare-requires c =
    let l : c.loop-number.number < length
    c.args.drawing.now.curves.items =
    (let t = c.loop-number-test.true in let n = c.len-number-end.ensures in
    omega (arith, t, n)) in
    let d = plan c.args.drawing.now in
    subst IsFit (sym (nth_curve_is d c.loop-number.number c.index.result.now l c.index.ensures))
    (fit c.args.drawing.now.window (curve d c.loop-number.number)
    (c.args.drawing.now.curves_drawn c.loop-number.number _ l))
