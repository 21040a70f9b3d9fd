use Rattle.std.proofs.Common.{◌-◌, ◌≤◌, arith, subst}
use Rattle.plane.specs.Forms.Vectors.{point}
use Rattle.tubes.specs.Holding.{InGap}
use Rattle.tubes.proofs.TubeTriangles.{gap_back, gap_next}
use Rattle.level_breaks.proofs.triangles.is_in_gap.Goals as goal

pub returns-then-number-gt0 : goal.returns-then-number-gt0
returns-then-number-gt0 c =
    let n = c.args.number in
    let z = point c.args.at in
    let f : 1 ≤ n = c.if-number-gt0.true in (
      (λ t. (
        n - 1,
        omega (arith, f),
        gap_next c.args.inner.now c.args.outer.now z n f
            (c.is_in_triangle.ensures.0 t),
      )),
      (λ (i, e, g). c.is_in_triangle.ensures.1
          (gap_back c.args.inner.now c.args.outer.now z n f
          (subst (InGap c.args.inner.now c.args.outer.now z) (omega (arith, e)) g))),
    )
