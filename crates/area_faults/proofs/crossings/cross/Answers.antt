use Rattle.std.proofs.Common.{◌^◌, arith, subst, sym, to_z-of_z}
use Rattle.std.proofs.lemmas.Int.{ints}
use Rattle.plane.specs.Numbers.{IsWithin}
use Rattle.plane.proofs.Algebra.Bounds.{difference_back, within_difference}
use Rattle.area_faults.proofs.crossings.cross.Goals as goal

pub returns-clause-value : goal.returns-clause-value
returns-clause-value c =
    let a = c.ranges.a in
    let b = c.ranges.b in
    let x = c.ranges.c in
    let d = c.ranges.d in
    let p = simp to_z-of_z at c.product-ad.ensures.value in
    let q = simp to_z-of_z at c.product-bc.ensures.value in
    difference_back _ _ _ _ (omega (arith, ints, c.product-ad.ensures.bound))
    (omega (arith, ints, c.product-bc.ensures.bound)) p q

pub returns-clause-bound : goal.returns-clause-bound
returns-clause-bound c =
    let a = c.ranges.a in
    let b = c.ranges.b in
    let x = c.ranges.c in
    let d = c.ranges.d in
    let p = simp to_z-of_z at c.product-ad.ensures.value in
    let q = simp to_z-of_z at c.product-bc.ensures.value in
    let value = difference_back _ _ _ _ (omega (arith, ints, c.product-ad.ensures.bound))
    (omega (arith, ints, c.product-bc.ensures.bound)) p q in
    subst (IsWithin (2 ^ 83)) (sym value)
    (within_difference (2 ^ 82) (2 ^ 82) _ _
    (subst (IsWithin (2 ^ 82)) p c.product-ad.ensures.bound)
    (subst (IsWithin (2 ^ 82)) q c.product-bc.ensures.bound))
