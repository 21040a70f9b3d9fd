use Rattle.std.proofs.Common.{◌*ℤ◌, ℤ, ◌≡◌, FitsSigned, to_z-of_z, rules, arith, ap, refl, ◌∙◌, ◌^◌}
use Rattle.std.proofs.lemmas.Int.{ints}
use Rattle.std.specs.Int.{w128}
use Rattle.plane.specs.Numbers.{IsWithin}
use Rattle.plane.proofs.Algebra.Bounds.{difference_back}
use Rattle.arc_predicates.proofs.numbers.offset.Goals as goal

pub returns : goal.returns
returns c =
    let s = c.ranges.s in
    let n = c.ranges.n in
    let f : FitsSigned w128 c.from.result = search rules in
    let from : c.from.result ≡ c.args.s = simp to_z-of_z at c.from.ensures in
    let product : c.product-start.result
    ≡ c.from.result *ℤ c.args.n = simp to_z-of_z at c.product-start.ensures.value in
    let start : c.product-start.result ≡ c.args.s *ℤ c.args.n = product
    ∙ ap (λ (z : ℤ). z *ℤ c.args.n) from in
    let b = c.product-start.ensures.bound in
    let k = c.requires.close in
    let x : IsWithin (2 ^ 126) c.args.x = omega (arith, ints, start, b, k) in
    difference_back c.args.x c.product-start.result c.args.x (c.args.s *ℤ c.args.n) x
    (omega (arith, ints, b)) refl start
