-- Products and the order of whole numbers.
use Rattle.std.proofs.Common.{◌≡◌, ℤ, pos, ◌*ℤ◌, ◌-ℤ◌, ◌<ℤ◌, ◌≤ℤ◌, [], ◌∷◌, refl, arith, ap, ◌∙◌}
use Rattle.std.proofs.lemmas.Int.{ints, by_lt_z}
use Rattle.plane.proofs.Algebra.Laws.{product_positive, product_nonnegative}
use Rattle.plane.proofs.Algebra.Ring.{at, minus, times, vars, ring}

pub product-difference : (a b c : ℤ) → a *ℤ (b -ℤ c) ≡ (a *ℤ b) -ℤ (a *ℤ c)
product-difference a b c =
    ring (times (at 0) (minus (at 1) (at 2))) (minus (times (at 0) (at 1)) (times (at 0) (at 2)))
    (vars (a ∷ b ∷ c ∷ [])) refl

pub product_swap : (a b c : ℤ) → a *ℤ (b *ℤ c) ≡ b *ℤ (a *ℤ c)
product_swap a b c =
    ring (times (at 0) (times (at 1) (at 2))) (times (at 1) (times (at 0) (at 2)))
    (vars (a ∷ b ∷ c ∷ [])) refl

pub times_le : (a b c : ℤ) → pos 0 ≤ℤ a → b ≤ℤ c → (a *ℤ b) ≤ℤ (a *ℤ c)
times_le a b c h k =
    let p = product_nonnegative a (c -ℤ b) h (omega (arith, ints)) in
    omega (arith, ints, p, product-difference a c b)

pub times_lt : (a b c : ℤ) → pos 0 <ℤ a → b <ℤ c → (a *ℤ b) <ℤ (a *ℤ c)
times_lt a b c h k =
    let p = product_positive a (c -ℤ b) h (omega (arith, ints)) in
    omega (arith, ints, p, product-difference a c b)

pub cancel_le : (a b c : ℤ) → pos 0 <ℤ a → (a *ℤ b) ≤ℤ (a *ℤ c) → b ≤ℤ c
cancel_le a b c h k =
    by_lt_z c b (λ (l : c <ℤ b). let p = times_lt a c b h l in
    absurd (omega (arith, ints, p, k))) (λ l. l)

pub cancel_lt : (a b c : ℤ) → pos 0 <ℤ a → (a *ℤ b) <ℤ (a *ℤ c) → b <ℤ c
cancel_lt a b c h k =
    by_lt_z b c (λ l. l) (λ (l : c ≤ℤ b). let p = times_le a c b (omega (arith, ints)) l in
    absurd (omega (arith, ints, p, k)))

pub cancel_zero : (a b : ℤ) → pos 0 <ℤ a → a *ℤ b ≡ pos 0 → b ≡ pos 0
cancel_zero a b h k =
    let z : a *ℤ pos 0 ≡ pos 0 = omega (arith, ints) in
    let l = cancel_le a b (pos 0) h (omega (arith, ints, k, z)) in
    let m = cancel_le a (pos 0) b h (omega (arith, ints, k, z)) in
    omega (arith, ints, l, m)

pub product_negative : (a b : ℤ) → pos 0 <ℤ a → b <ℤ pos 0 → (a *ℤ b) <ℤ pos 0
product_negative a b h k =
    let p = times_lt a b (pos 0) h k in
    let z : a *ℤ pos 0 ≡ pos 0 = omega (arith, ints) in omega (arith, ints, p, z)

pub product_of_zero : (a b : ℤ) → b ≡ pos 0 → a *ℤ b ≡ pos 0
product_of_zero a b e = ap (λ v. a *ℤ v) e ∙ omega (arith, ints)
