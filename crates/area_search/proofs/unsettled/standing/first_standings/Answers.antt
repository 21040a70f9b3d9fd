use Rattle.std.proofs.Common.{◌<◌, arith, length, subst, sym}
use Rattle.near_pairs.specs.Boxes.{mark_of}
use Rattle.plane.specs.Rule.Plans.{curve, plan}
use Rattle.plane.specs.declared.kinds.Curve.{Curve}
use Rattle.tubes.specs.TubedEdges.{IsFit}
use Rattle.tubes.proofs.ChainEdges.{fit}
use Rattle.area_search.specs.Unsettled.Alone.{IsFirst}
use Rattle.area_search.proofs.UnsettledLemmas.AloneCurves.{first_more}
use Rattle.area_search.proofs.SettledLemmas.CaseEdges.{nth_curve_is}
use Rattle.area_search.proofs.unsettled.standing.first_standings.Goals as goal

pub first_standing-requires : goal.first_standing-requires
first_standing-requires c =
    let l : c.loop-number.number < length
    c.args.drawing.now.curves.items =
    (let t = c.loop-number-test.true in let n = c.len-number-end.ensures in
    omega (arith, t, n)) in
    let d = plan c.args.drawing.now in
    subst IsFit (sym (nth_curve_is d c.loop-number.number c.index.result.now l c.index.ensures))
    (fit c.args.drawing.now.window (curve d c.loop-number.number)
    (c.args.drawing.now.curves_drawn c.loop-number.number _ l))

pub loop-number-preserved : goal.loop-number-preserved
loop-number-preserved c =
    let l : c.loop-number.number < length
    c.args.drawing.now.curves.items =
    (let t = c.loop-number-test.true in let n = c.len-number-end.ensures in
    omega (arith, t, n)) in
    let d = plan c.args.drawing.now in
    first_more d c.args.aside.now c.loop-number.number c.loop-number.standings.items
    c.push.new.self.items c.in_ok-first_standing.field-0 c.loop-number.invariant
    c.in_ok-push.ensures.items
    (subst (λ (x : Curve). IsFirst x (mark_of c.args.aside.now c.loop-number.number)
    c.in_ok-first_standing.field-0)
    (nth_curve_is d c.loop-number.number c.index.result.now l c.index.ensures)
    c.in_ok-first_standing.ensures)
