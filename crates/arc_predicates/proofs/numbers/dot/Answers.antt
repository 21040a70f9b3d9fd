use Rattle.std.proofs.Common.{arith, to_z-of_z}
use Rattle.std.proofs.lemmas.Int.{ints}
use Rattle.arc_predicates.proofs.Sums.{sum_back}
use Rattle.arc_predicates.proofs.numbers.dot.Goals as goal

pub returns : goal.returns
returns c =
    let a = c.ranges.a in
    let b = c.ranges.b in
    let x = c.ranges.c in
    let d = c.ranges.d in
    let p = simp to_z-of_z at c.product-ac.ensures.value in
    let q = simp to_z-of_z at c.product-bd.ensures.value in
    sum_back _ _ _ _ (omega (arith, ints, c.product-ac.ensures.bound))
    (omega (arith, ints, c.product-bd.ensures.bound)) p q
