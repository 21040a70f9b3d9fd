use Rattle.std.proofs.Common.{rules, arith, ◌≡◌, ◌∙◌, ◌<◌, ap, length}
use Rattle.plane.specs.CurveRuns.TubedRuns.{edges_of}
use Rattle.plane.specs.Rule.Curves.{arc}
use Rattle.plane.specs.Rule.Plans.{curve, plan}
use Rattle.plane.specs.declared.kinds.Curve.{Curve}
use Rattle.tubes.specs.TubedEdges.{bays_at}
use Rattle.certificate_checker.proofs.Entries.{entry}
use Rattle.certificate_checker.proofs.FirstEdges.{first_last, first_next, known}
use Rattle.certificate_checker.proofs.firsts.edge_total.Goals as goal

pub overflow_add-total : goal.overflow_add-total
overflow_add-total c =
    let l : c.loop-i.i < length (plan c.args.drawing.now).curves = search rules in
    let f = c.args.drawing.now.few_curves in
    let i = c.loop-i.invariant.few in
    let b = c.edge_count.ensures.few in
    omega (arith, l, f, i, b)

pub loop-i-preserved : goal.loop-i-preserved
loop-i-preserved c =
    let d = plan c.args.drawing.now in
    let l : c.loop-i.i < length d.curves = search rules in
    let e : c.index.result.now ≡ curve d c.loop-i.i = c.index.ensures
    ∙ entry d.curves c.loop-i.i c.index.result.now _ l in
    let a = ap (λ (c' : Curve). length (edges_of 0 c'.kind c' (bays_at (arc c') c.args.level))) e in
    let n = first_next d c.args.level c.loop-i.i l in
    let i = c.loop-i.invariant.few in
    let b = c.edge_count.ensures.few in
    record {
      total = λ t.
          (let s = c.edge_count.ensures.count
          (known d c.args.level c.loop-i.i l c.index.result.now e t) in
          let x = c.loop-i.invariant.total t in omega (arith, a, n, s, x));
      few = omega (arith, i, b);
    }

pub returns : goal.returns
returns c =
    let d = plan c.args.drawing.now in
    let z : c.loop-i.i ≡ length d.curves = search rules in
    let f = c.args.drawing.now.few_curves in
    let i = c.loop-i.invariant.few in
    record {
      total = λ t. c.loop-i.invariant.total t ∙ first_last d c.args.level c.loop-i.i z;
      few = omega (arith, z, f, i);
    }
