-- Quotients rounded down.
use Rattle.std.proofs.Common.{◌≡◌, ℕ, zero, suc, ◌+◌, ◌*◌, ◌/◌, ◌%◌, ◌<◌, ◌≤◌, ℤ, pos, negsuc, ◌+ℤ◌}
use Rattle.std.proofs.Common.{◌*ℤ◌, ◌-ℤ◌, ◌<ℤ◌, ◌≤ℤ◌, [], ◌∷◌, refl, arith, ap, subst, ◌∙◌}
use Rattle.std.specs.Int.{int_div_euclid}
use Rattle.std.proofs.lemmas.Int.{ints}
use Rattle.std.proofs.Math.Nat.{div-add-mod, mod-lt}
use Rattle.std.proofs.lemmas.Nat.{mul-le}
use Rattle.forks.proofs.PlaneLaws.{by_order}
use Rattle.plane.specs.Forms.Bends.{IsRoundedDown}
use Rattle.plane.specs.Numbers.{IsWithin}
use Rattle.plane.proofs.Algebra.Ring.{at, num, minus, times, vars, ring}

down_pos : (a m p q : ℕ) → p + q ≡ a → q < m → (pos p ≤ℤ pos a) × (pos a <ℤ (pos p +ℤ pos m))
down_pos a m p q e l = (omega (arith, ints, e), omega (arith, ints, e, l))

down_neg : (a m p q : ℕ) (t : ℤ) → p + q ≡ a → q < m → t ≡ (pos 0 -ℤ pos p) -ℤ pos m
    → (t ≤ℤ negsuc a) × (negsuc a <ℤ (t +ℤ pos m))
down_neg a m p q t e l f = (omega (arith, ints, e, l, f), omega (arith, ints, e, f))

times_neg : (m x : ℕ) → pos m *ℤ negsuc x ≡ (pos 0 -ℤ (pos m *ℤ pos x)) -ℤ pos m
times_neg m x =
    let q : negsuc x ≡ (pos 0 -ℤ pos x) -ℤ pos 1 = omega (arith, ints) in
    ap (λ (z : ℤ). pos m *ℤ z) q
    ∙ ring (times (at 0) (minus (minus (num (pos 0)) (at 1)) (num (pos 1))))
    (minus (minus (num (pos 0)) (times (at 0) (at 1))) (at 0)) (vars (pos m ∷ pos x ∷ [])) refl

pub div_down : (n r : ℤ) → pos 0 <ℤ r → IsRoundedDown r n (int_div_euclid n r)
div_down n (negsuc k) h = absurd (omega (arith, ints, h))
div_down n (pos zero) h = absurd (omega (arith, ints, h))
div_down (pos a) (pos (suc k)) h =
    let d = down_pos a (suc k) (suc k * (a / suc k)) (a % suc k) (div-add-mod a (suc k))
    (mod-lt a (omega arith)) in
    record { most = d.0; least = d.1 }
div_down (negsuc a) (pos (suc k)) h =
    let d = down_neg a (suc k) (suc k * (a / suc k)) (a % suc k) (pos (suc k) *ℤ negsuc (a / suc k))
    (div-add-mod a (suc k)) (mod-lt a (omega arith)) (times_neg (suc k) (a / suc k)) in
    record { most = d.0; least = d.1 }

small_pos : (a m k : ℕ) → 256 ≤ k → a < 256 * m → a / k < m + 1
small_pos a m zero h l = absurd (omega (arith, h))
small_pos a m (suc k) h l = by_order (a / suc k) (m + 1) (λ b. b) (λ b.
    let d = div-add-mod a (suc k) in
    let t : 256 * (m + 1) ≤ suc k * (a / suc k) = mul-le 256 (m + 1) (suc k) (a / suc k) h b in
    absurd (omega (arith, d, t, l)))

small_neg : (a m k : ℕ) → 256 ≤ k → a + 1 < 256 * m → a / k < m
small_neg a m zero h l = absurd (omega (arith, h))
small_neg a m (suc k) h l = by_order (a / suc k) m (λ b. b) (λ b.
    let d = div-add-mod a (suc k) in
    let t : 256 * m ≤ suc k * (a / suc k) = mul-le 256 m (suc k) (a / suc k) h b in
    absurd (omega (arith, d, t, l)))

pub div_small : (m : ℕ) (n r : ℤ) → pos 256 ≤ℤ r → IsWithin (256 * m) n
    → IsWithin (m + 1) (int_div_euclid n r)
div_small m n (negsuc k) h w = absurd (omega (arith, ints, h))
div_small m (pos a) (pos k) h w =
    let l = small_pos a m k (omega (arith, ints, h)) (let u = w.high in omega (arith, ints, u)) in
    record { low = omega (arith, ints); high = omega (arith, ints, l) }
div_small m (negsuc a) (pos k) h w =
    let l = small_neg a m k (omega (arith, ints, h)) (let u = w.low in omega (arith, ints, u)) in
    record { low = omega (arith, ints, l); high = omega (arith, ints) }

-- a number that is rounded down and counted from a start
pub from_start : (start s r n q : ℤ) → s ≡ start +ℤ q → IsRoundedDown r n q
    → IsRoundedDown r n (s -ℤ start)
from_start start s r n q e h =
    let f : q ≡ s -ℤ start = omega (arith, ints, e) in
    subst (IsRoundedDown r n) f h

pub sum_of : (a b x y : ℤ) → a ≡ x → b ≡ y → a +ℤ b ≡ x +ℤ y
sum_of a b x y e f = cc
