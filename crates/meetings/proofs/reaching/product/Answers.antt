use Rattle.std.proofs.Common.{rules, FitsSigned, to_z-of_z, arith, ◌^◌, ◌*◌}
use Rattle.std.specs.Int.{w128, w64}
use Rattle.plane.proofs.Algebra.Bounds.{within_fits, within_product}
use Rattle.meetings.proofs.Reaches.{same_products}
use Rattle.meetings.proofs.reaching.product.Goals as goal

pub overflow_mul-result : goal.overflow_mul-result
overflow_mul-result c =
    let a : FitsSigned w128 c.difference-from_a.result = search rules in
    let b : FitsSigned w128 c.difference-from_b.result = search rules in
    let p = within_product (2 ^ 41) (2 ^ 41) c.difference-from_a.result c.difference-from_b.result
    c.difference-from_a.ensures.bound c.difference-from_b.ensures.bound in
    rw (to_z-of_z a, to_z-of_z b) (within_fits (2 ^ 41 * 2 ^ 41) _ (omega arith) p)

pub returns-clause-value : goal.returns-clause-value
returns-clause-value c =
    let z : FitsSigned w64 c.args.z = search rules in
    let x : FitsSigned w64 c.args.a = search rules in
    let y : FitsSigned w64 c.args.b = search rules in
    let a : FitsSigned w128 c.difference-from_a.result = search rules in
    let b : FitsSigned w128 c.difference-from_b.result = search rules in
    let p = within_product (2 ^ 41) (2 ^ 41) c.difference-from_a.result c.difference-from_b.result
    c.difference-from_a.ensures.bound c.difference-from_b.ensures.bound in
    let f = within_fits (2 ^ 41 * 2 ^ 41) _ (omega arith) p in
    rw (to_z-of_z a, to_z-of_z b, to_z-of_z f)
    (same_products _ _ _ _ (simp to_z-of_z at c.difference-from_a.ensures.value)
    (simp to_z-of_z at c.difference-from_b.ensures.value))

pub returns-clause-bound : goal.returns-clause-bound
returns-clause-bound c =
    let a : FitsSigned w128 c.difference-from_a.result = search rules in
    let b : FitsSigned w128 c.difference-from_b.result = search rules in
    let p = within_product (2 ^ 41) (2 ^ 41) c.difference-from_a.result c.difference-from_b.result
    c.difference-from_a.ensures.bound c.difference-from_b.ensures.bound in
    let f = within_fits (2 ^ 41 * 2 ^ 41) _ (omega arith) p in
    rw (to_z-of_z a, to_z-of_z b, to_z-of_z f) p
