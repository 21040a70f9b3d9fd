use Rattle.std.proofs.Common.{◌-◌, arith, refl}
use Rattle.plane.specs.Forms.Vectors.{point}
use Rattle.arc_predicates.proofs.TestParts.{refuted}
use Rattle.tubes.specs.Holding.{InGap}
use Rattle.tubes.proofs.TubeTriangles.{gap_back, gap_next, no_gap_more}
use Rattle.tubes.proofs.holding.is_in_gaps.Goals as goal

pub returns-then-is_in_triangle : goal.returns-then-is_in_triangle
returns-then-is_in_triangle c =
    let l = c.loop-i in
    let f = l.invariant.first in
    let t = c.loop-i-test.true in (
      (λ x. (
        l.i - 1,
        omega (arith, f, t),
        gap_next c.args.inner.now c.args.outer.now (point c.args.at) l.i f
            (c.is_in_triangle.ensures.0 c.if-is_in_triangle.true),
      )),
      (λ s. refl),
    )

pub loop-i-preserved : goal.loop-i-preserved
loop-i-preserved c =
    let l = c.loop-i in
    let f = l.invariant.first in
    record {
      none = no_gap_more (InGap c.args.inner.now c.args.outer.now (point c.args.at)) l.i f
          l.invariant.none
          (λ t. refuted _ c.is_in_triangle.result c.is_in_triangle.ensures c.if-is_in_triangle.false
          (gap_back c.args.inner.now c.args.outer.now (point c.args.at) l.i f t));
      first = omega arith;
    }
