use Rattle.plane.proofs.Algebra.Bounds.{difference_back}
use Rattle.std.proofs.Common.{arith, to_z-of_z}
use Rattle.std.proofs.lemmas.Int.{ints}
use Rattle.straight_predicates.proofs.turning.determinant.Goals as goal

pub returns : goal.returns
returns c =
    let a = c.ranges.a in
    let b = c.ranges.b in
    let x = c.ranges.c in
    let d = c.ranges.d in
    let p = simp to_z-of_z at c.product-ad.ensures.value in
    let q = simp to_z-of_z at c.product-bc.ensures.value in
    difference_back _ _ _ _ (omega (arith, ints, c.product-ad.ensures.bound))
    (omega (arith, ints, c.product-bc.ensures.bound)) p q
