use Rattle.std.proofs.Common.{◌^◌, arith, subst, sym, to_z-of_z}
use Rattle.std.proofs.lemmas.Int.{ints}
use Rattle.plane.specs.Numbers.{IsWithin}
use Rattle.plane.proofs.Algebra.Bounds.{within_sum}
use Rattle.tubes.proofs.SmallNumbers.{sum_back}
use Rattle.tubes.proofs.numbers.dot.Goals as goal

pub returns-clause-value : goal.returns-clause-value
returns-clause-value c =
    let a = c.ranges.a in
    let b = c.ranges.b in
    let x = c.ranges.c in
    let d = c.ranges.d in
    let p = simp to_z-of_z at c.product-ac.ensures.value in
    let q = simp to_z-of_z at c.product-bd.ensures.value in
    sum_back _ _ _ _ (omega (arith, ints, c.product-ac.ensures.bound))
    (omega (arith, ints, c.product-bd.ensures.bound)) p q

pub returns-clause-bound : goal.returns-clause-bound
returns-clause-bound c =
    let a = c.ranges.a in
    let b = c.ranges.b in
    let x = c.ranges.c in
    let d = c.ranges.d in
    let p = simp to_z-of_z at c.product-ac.ensures.value in
    let q = simp to_z-of_z at c.product-bd.ensures.value in
    let k = c.product-ac.ensures.bound in
    let l = c.product-bd.ensures.bound in
    subst (IsWithin (2 ^ 61))
    (sym (sum_back _ _ _ _ (omega (arith, ints, k)) (omega (arith, ints, l)) p q))
    (within_sum (2 ^ 60) (2 ^ 60) _ _ (subst (IsWithin (2 ^ 60)) p k)
    (subst (IsWithin (2 ^ 60)) q l))
