use Rattle.std.proofs.Common.{rules, arith, ◌≡◌, ◌∙◌, ◌<◌, ℕ, ap, length}
use Rattle.plane.specs.CurveRuns.TubedRuns.{edges_of, first_edge}
use Rattle.plane.specs.Rule.Curves.{arc}
use Rattle.plane.specs.Rule.Plans.{curve, plan}
use Rattle.plane.specs.declared.kinds.Curve.{Curve}
use Rattle.tubes.specs.TubedEdges.{bays_at, drawn_bays}
use Rattle.certificate_checker.proofs.Entries.{entry, pushed}
use Rattle.certificate_checker.proofs.FirstEdges.{first_fits, first_next, known}
use Rattle.certificate_checker.proofs.firsts.first_edges.Goals as goal

pub overflow_add-next : goal.overflow_add-next
overflow_add-next c =
    let d = plan c.args.drawing.now in
    let l : c.loop-i.i < length d.curves = search rules in
    let e : c.index.result.now ≡ curve d c.loop-i.i = c.index.ensures
    ∙ entry d.curves c.loop-i.i c.index.result.now _ l in
    let a = ap (λ (c' : Curve). length (edges_of 0 c'.kind c' (bays_at (arc c') c.args.level))) e in
    let n = first_next d c.args.level c.loop-i.i l in
    let f = first_fits d c.args.level c.loop-i.i l in
    let b = c.edge_count-next.ensures.count
    (known d c.args.level c.loop-i.i l c.index.result.now e c.requires.tubes) in
    let i = c.loop-i.invariant.next in
    let m = c.requires.few in
    omega (arith, a, n, f, b, i, m)

pub loop-i-preserved : goal.loop-i-preserved
loop-i-preserved c =
    let d = plan c.args.drawing.now in
    let l : c.loop-i.i < length d.curves = search rules in
    let e : c.index.result.now ≡ curve d c.loop-i.i = c.index.ensures
    ∙ entry d.curves c.loop-i.i c.index.result.now _ l in
    let a = ap (λ (c' : Curve). length (edges_of 0 c'.kind c' (bays_at (arc c') c.args.level))) e in
    let n = first_next d c.args.level c.loop-i.i l in
    let b = c.edge_count-next.ensures.count
    (known d c.args.level c.loop-i.i l c.index.result.now e c.requires.tubes) in
    let i = c.loop-i.invariant.next in
    record {
      size = search rules;
      next = omega (arith, a, n, b, i);
      each = pushed (λ (k m : ℕ). m ≡ first_edge (drawn_bays d (λ n. c.args.level)) 0 d.curves k)
          c.loop-i.firsts.items c.push.new.self.items c.loop-i.next 0 c.loop-i.i
          c.loop-i.invariant.size c.in_ok-push.ensures.items c.loop-i.invariant.each i;
    }

pub returns : goal.returns
returns c =
    let d = plan c.args.drawing.now in
    let z : c.loop-i.i ≡ length d.curves = search rules in
    record {
      count = c.loop-i.invariant.size ∙ z;
      each = λ k l. c.loop-i.invariant.each k (omega (arith, l, z));
    }
