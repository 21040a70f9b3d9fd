-- Sums and products of numbers that are small, computed in 128 bits.
use Rattle.std.proofs.Common.{◌≡◌, ℕ, ◌+◌, ◌*◌, ◌<◌, ◌^◌, ℤ, ◌+ℤ◌, ◌*ℤ◌, arith, refl, sym, subst}
use Rattle.std.proofs.Common.{FitsSigned, to_z, of_z, to_z-of_z}
use Rattle.std.specs.Int.{w128}
use Rattle.std.proofs.lemmas.Int.{ints}
use borrow.Author.Differences.{fits_in}
use Rattle.plane.specs.Numbers.{IsWithin}
use Rattle.plane.proofs.Algebra.Bounds.{within_fits, within_more, within_product}

pub sum_back : (p q x y : ℤ) → IsWithin (2 ^ 126) p → IsWithin (2 ^ 126) q → p ≡ x → q ≡ y
    → to_z w128 (of_z w128 (to_z w128 (of_z w128 p) +ℤ to_z w128 (of_z w128 q))) ≡ x +ℤ y
sum_back p q x y h k e f =
    let a = within_fits (2 ^ 126) p (omega arith) h in
    let b = within_fits (2 ^ 126) q (omega arith) k in
    let c : FitsSigned w128 (p +ℤ q) = fits_in w128 _ (omega (arith, ints, h, k)) in
    rw (to_z-of_z a, to_z-of_z b, to_z-of_z c, e, f) refl

-- the bits of a small number are its own
pub back : (m : ℕ) (p : ℤ) → m < 2 ^ 127 + 1 → IsWithin m p → to_z w128 (of_z w128 p) ≡ p
back m p l h = to_z-of_z (within_fits m p l h)

pub product_within : (m n : ℕ) (p q : ℤ) → m < 2 ^ 127 + 1 → n < 2 ^ 127 + 1 → m * n < 2 ^ 124 + 1
    → IsWithin m p → IsWithin n q
    → IsWithin (2 ^ 124) (to_z w128 (of_z w128 p) *ℤ to_z w128 (of_z w128 q))
product_within m n p q l k f h g =
    rw (back m p l h, back n q k g) (within_more (m * n) (2 ^ 124) _ f (within_product m n p q h g))

pub within_by : (m : ℕ) (p q : ℤ) → p ≡ q → IsWithin m q → IsWithin m p
within_by m p q e h = subst (IsWithin m) (sym e) h
