use Rattle.std.proofs.Common.{◌^◌, ◌*◌, arith, refl, to_z-of_z}
use Rattle.plane.proofs.Algebra.Bounds.{within_fits, within_product}
use Rattle.area_faults.proofs.crossings.scaled.Goals as goal

pub overflow_mul-result : goal.overflow_mul-result
overflow_mul-result c =
    let p = within_product (2 ^ 41) (2 ^ 83) c.args.step c.args.part c.requires.step
    c.requires.part in
    rw (to_z-of_z c.ranges.step, to_z-of_z c.ranges.part)
    (within_fits (2 ^ 41 * 2 ^ 83) _ (omega arith) p)

pub returns-clause-value : goal.returns-clause-value
returns-clause-value c =
    let p = within_product (2 ^ 41) (2 ^ 83) c.args.step c.args.part c.requires.step
    c.requires.part in
    let f = within_fits (2 ^ 41 * 2 ^ 83) _ (omega arith) p in
    rw (to_z-of_z c.ranges.step, to_z-of_z c.ranges.part, to_z-of_z f) refl

pub returns-clause-bound : goal.returns-clause-bound
returns-clause-bound c =
    let p = within_product (2 ^ 41) (2 ^ 83) c.args.step c.args.part c.requires.step
    c.requires.part in
    let f = within_fits (2 ^ 41 * 2 ^ 83) _ (omega arith) p in
    rw (to_z-of_z c.ranges.step, to_z-of_z c.ranges.part, to_z-of_z f) p
