use Rattle.std.proofs.Common.{refl}
use Rattle.plane.specs.Forms.Vectors.{point}
use Rattle.arc_predicates.proofs.TestParts.{refuted}
use Rattle.tubes.specs.Holding.{InBay}
use Rattle.tubes.proofs.TubeTriangles.{bay_back, bay_next, none_more}
use Rattle.tubes.proofs.holding.is_in_bays.Goals as goal

pub returns-then-is_in_triangle : goal.returns-then-is_in_triangle
returns-then-is_in_triangle c =
    let l = c.loop-i in (
      (λ t. (
        l.i,
        c.loop-i-test.true,
        bay_next c.args.inner.now c.args.outer.now
            (point c.args.at) l.i (c.is_in_triangle.ensures.0 c.if-is_in_triangle.true),
      )),
      (λ s. refl),
    )

pub loop-i-preserved : goal.loop-i-preserved
loop-i-preserved c =
    let l = c.loop-i in
    none_more (InBay c.args.inner.now c.args.outer.now (point c.args.at)) l.i l.invariant
    (λ t. refuted _ c.is_in_triangle.result c.is_in_triangle.ensures c.if-is_in_triangle.false
    (bay_back c.args.inner.now c.args.outer.now (point c.args.at) l.i t))
