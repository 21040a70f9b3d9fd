use Rattle.std.proofs.Common.{◌≡◌, ◌<◌, arith, length, subst, sym}
use Rattle.plane.specs.Rule.Curves.{arc}
use Rattle.plane.specs.Rule.Plans.{curve, plan}
use Rattle.plane.specs.declared.kinds.Curve.{Curve}
use Rattle.plane.specs.declared.kinds.CurveKind.TheVariants as kind
use Rattle.tubes.specs.HalfArcTubes.{HasNoTube}
use Rattle.tubes.specs.TubedEdges.{IsFit}
use Rattle.tubes.proofs.ChainEdges.{fit}
use Rattle.area_search.proofs.SettledLemmas.CaseEdges.{nth_curve_is}
use Rattle.area_search.proofs.level.missing_tubes.is_tube_missing.Goals as goal

pub has_no_tube-requires-clause-fit : goal.has_no_tube-requires-clause-fit
has_no_tube-requires-clause-fit c =
    let l : c.loop-number.number < length
    c.args.drawing.now.curves.items =
    (let t = c.loop-number-test.true in let n = c.len-number-end.ensures in
    omega (arith, t, n)) in
    let d = plan c.args.drawing.now in
    subst IsFit (sym (nth_curve_is d c.loop-number.number c.index.result.now l c.index.ensures))
    (fit c.args.drawing.now.window (curve d c.loop-number.number)
    (c.args.drawing.now.curves_drawn c.loop-number.number _ l))

pub returns-then-branch : goal.returns-then-branch
returns-then-branch c =
    let l : c.loop-number.number < length
    c.args.drawing.now.curves.items =
    (let t = c.loop-number-test.true in let n = c.len-number-end.ensures in
    omega (arith, t, n)) in
    let d = plan c.args.drawing.now in
    let q = nth_curve_is d c.loop-number.number c.index.result.now l c.index.ensures in
    λ y. (
      c.loop-number.number,
      record {
        there = l;
        kind = subst (λ (x : Curve). x.kind ≡ kind.HalfArc) q
            (c.in_ok-has_no_tube.ensures.kind c.if-branch.true);
      },
      subst (λ (x : Curve). HasNoTube (arc x) c.args.level) q
          (c.in_ok-has_no_tube.ensures.none c.if-branch.true),
    )
