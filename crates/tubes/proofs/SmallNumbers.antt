-- Sums and products of numbers that are small, computed in 64 bits.
use Rattle.std.proofs.Common.{◌≡◌, ℕ, suc, ◌+◌, ◌*◌, ◌<◌, ◌^◌, ℤ, pos, negsuc, ◌+ℤ◌, ◌*ℤ◌, ◌-ℤ◌}
use Rattle.std.proofs.Common.{◌<ℤ◌, ◌≤ℤ◌, ◌-◌, arith, refl, FitsSigned, to_z, of_z, to_z-of_z}
use Rattle.std.specs.Int.{w64}
use Rattle.std.proofs.lemmas.Int.{ints}
use Rattle.std.proofs.lemmas.Nat.{mul-le}
use borrow.Author.Differences.{fits_in}
use Rattle.plane.specs.Numbers.{IsNear, IsWithin}

pub fits : (m : ℕ) (z : ℤ) → m < 2 ^ 63 + 1 → IsWithin m z → FitsSigned w64 z
fits m z h w = fits_in w64 z (omega (arith, ints, w))

pub sum_back : (p q x y : ℤ) → IsWithin (2 ^ 62) p → IsWithin (2 ^ 62) q → p ≡ x → q ≡ y
    → to_z w64 (of_z w64 (to_z w64 (of_z w64 p) +ℤ to_z w64 (of_z w64 q))) ≡ x +ℤ y
sum_back p q x y h k e f =
    let a = fits (2 ^ 62) p (omega arith) h in
    let b = fits (2 ^ 62) q (omega arith) k in
    let c : FitsSigned w64 (p +ℤ q) = fits_in w64 _ (omega (arith, ints, h, k)) in
    rw (to_z-of_z a, to_z-of_z b, to_z-of_z c, e, f) refl

pub near_less : (m n : ℕ) (a b : ℤ) → m < n + 1 → IsNear m a b → IsNear n a b
near_less m n a b l h = record {
  above = omega (arith, ints, h.above, l);
  below = omega (arith, ints, h.below, l);
}

pub near_back : (m : ℕ) (a b : ℤ) → IsNear m a b → IsNear m b a
near_back m a b h = record {
  above = omega (arith, ints, h.below);
  below = omega (arith, ints, h.above);
}

-- a product with factors of at most these sizes
pub product_most : (m n : ℕ) (a b : ℤ) → a ≤ℤ pos m → (pos 0 -ℤ a) ≤ℤ pos m → b ≤ℤ pos n
    → (pos 0 -ℤ b) ≤ℤ pos n
    → ((a *ℤ b) ≤ℤ pos (m * n)) × ((pos 0 -ℤ (a *ℤ b)) ≤ℤ pos (m * n))
product_most m n (pos a) (pos b) h i j k =
    let p = mul-le a b m n (omega (arith, ints, h)) (omega (arith, ints, j)) in
    (omega (arith, ints, p), omega (arith, ints, p))
product_most m n (pos a) (negsuc b) h i j k =
    let p = mul-le a (suc b) m n (omega (arith, ints, h)) (omega (arith, ints, k)) in
    (omega (arith, ints, p), omega (arith, ints, p))
product_most m n (negsuc a) (pos b) h i j k =
    let p = mul-le (suc a) b m n (omega (arith, ints, i)) (omega (arith, ints, j)) in
    (omega (arith, ints, p), omega (arith, ints, p))
product_most m n (negsuc a) (negsuc b) h i j k =
    let p = mul-le (suc a) (suc b) m n (omega (arith, ints, i)) (omega (arith, ints, k)) in
    (omega (arith, ints, p), omega (arith, ints, p))

-- a divisor that is above 0 and small
pub some_divisor : (d : ℤ) → pos 0 <ℤ d → d <ℤ pos (2 ^ 62) → 0 < of_z w64 d
some_divisor (pos n) h k = omega (arith, ints, h)
some_divisor (negsuc n) h k = absurd (omega (arith, ints, h))

pub not_all_bits : (d : ℤ) → pos 0 <ℤ d → d <ℤ pos (2 ^ 62) → of_z w64 d ≡ 2 ^ 64 - 1 → ⊥
not_all_bits (pos n) h k = λ e. absurd (omega (arith, ints, k, e))
not_all_bits (negsuc n) h k = absurd (omega (arith, ints, h))
