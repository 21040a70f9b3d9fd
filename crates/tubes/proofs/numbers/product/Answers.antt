use Rattle.std.proofs.Common.{◌^◌, ◌*◌, arith, refl, to_z-of_z}
use Rattle.plane.proofs.Algebra.Bounds.{within_product}
use Rattle.tubes.proofs.SmallNumbers.{fits}
use Rattle.tubes.proofs.numbers.product.Goals as goal

pub returns-clause-value : goal.returns-clause-value
returns-clause-value c =
    let w = within_product (2 ^ 30) (2 ^ 30) c.args.a c.args.b c.requires.a c.requires.b in
    let f = fits (2 ^ 30 * 2 ^ 30) _ (omega arith) w in
    rw (to_z-of_z c.ranges.a, to_z-of_z c.ranges.b, to_z-of_z f) refl

pub returns-clause-bound : goal.returns-clause-bound
returns-clause-bound c =
    let w = within_product (2 ^ 30) (2 ^ 30) c.args.a c.args.b c.requires.a c.requires.b in
    let f = fits (2 ^ 30 * 2 ^ 30) _ (omega arith) w in
    rw (to_z-of_z c.ranges.a, to_z-of_z c.ranges.b, to_z-of_z f) w
