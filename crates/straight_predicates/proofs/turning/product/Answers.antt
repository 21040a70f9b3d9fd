use Rattle.std.proofs.Common.{◌^◌, arith, subst, sym, ◌∙◌, to_z-of_z}
use Rattle.plane.specs.Numbers.{IsWithin}
use Rattle.plane.proofs.Algebra.Bounds.{within_product, within_more, product_back}
use Rattle.straight_predicates.proofs.turning.product.Goals as goal

pub returns-clause-value : goal.returns-clause-value
returns-clause-value c =
    let a = within_more (2 ^ 41) (2 ^ 62) c.args.a (omega arith) c.requires.a in
    let b = within_more (2 ^ 41) (2 ^ 62) c.args.b (omega arith) c.requires.b in
    product_back c.from.result c.from-2.result c.args.a c.args.b a b (c.from.ensures
    ∙ to_z-of_z c.ranges.a) (c.from-2.ensures ∙ to_z-of_z c.ranges.b)

pub returns-clause-bound : goal.returns-clause-bound
returns-clause-bound c =
    let a = within_more (2 ^ 41) (2 ^ 62) c.args.a (omega arith) c.requires.a in
    let b = within_more (2 ^ 41) (2 ^ 62) c.args.b (omega arith) c.requires.b in
    let value = product_back c.from.result c.from-2.result c.args.a c.args.b a b (c.from.ensures
    ∙ to_z-of_z c.ranges.a) (c.from-2.ensures ∙ to_z-of_z c.ranges.b) in
    subst (IsWithin (2 ^ 82)) (sym value)
    (within_product (2 ^ 41) (2 ^ 41) c.args.a c.args.b c.requires.a c.requires.b)
