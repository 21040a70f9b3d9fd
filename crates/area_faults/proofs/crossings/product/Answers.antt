use Rattle.std.proofs.Common.{◌^◌, arith, refl, subst, sym}
use Rattle.plane.specs.Numbers.{IsWithin}
use Rattle.plane.proofs.Algebra.Bounds.{within_product, within_more, product_back}
use Rattle.area_faults.proofs.crossings.product.Goals as goal

pub returns-clause-value : goal.returns-clause-value
returns-clause-value c =
    let a = within_more (2 ^ 41) (2 ^ 62) c.args.a (omega arith) c.requires.a in
    let b = within_more (2 ^ 41) (2 ^ 62) c.args.b (omega arith) c.requires.b in
    product_back c.args.a c.args.b c.args.a c.args.b a b refl refl

pub returns-clause-bound : goal.returns-clause-bound
returns-clause-bound c =
    let a = within_more (2 ^ 41) (2 ^ 62) c.args.a (omega arith) c.requires.a in
    let b = within_more (2 ^ 41) (2 ^ 62) c.args.b (omega arith) c.requires.b in
    subst (IsWithin (2 ^ 82)) (sym (product_back c.args.a c.args.b c.args.a c.args.b a b refl refl))
    (within_product (2 ^ 41) (2 ^ 41) c.args.a c.args.b c.requires.a c.requires.b)
