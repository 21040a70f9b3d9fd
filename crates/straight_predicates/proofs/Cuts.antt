-- The two halves of a search for a cut.
use Rattle.std.proofs.Common.{◌≡◌, ℕ, suc, ◌+◌, ◌-◌, ◌/◌, ◌<◌, ℤ, pos, ◌<ℤ◌, ◌≤ℤ◌, Bool, true}
use Rattle.std.proofs.Common.{false, IsTrue, ◌↔◌, arith, subst}
use Rattle.std.proofs.lemmas.Int.{by_lt_z}

-- what is so of the middle is so of the edge before the place behind it
pub before_next : (P : ℕ → Type 0) (m i : ℕ) → m + 1 ≡ suc i → P m → P i
before_next P m i e h = subst P (last m i e) h
  where
    last : (m i : ℕ) → m + 1 ≡ suc i → m ≡ i
    last m i e = omega (arith, e)

-- a test that failed
pub failed : (z : ℤ) (b : Bool) → (IsTrue b ↔ (pos 0 <ℤ z)) → b ≡ false → z ≤ℤ pos 0
failed z b h e = by_lt_z (pos 0) z (λ (l : pos 0 <ℤ z). absurd (clash b (h.1 l) e)) (λ l. l)
  where
    clash : (b : Bool) → IsTrue b → b ≡ false → ⊥
    clash true t q = cc
    clash false t q = cc

pub middle_least : (l h : ℕ) → l < h → l + (h - l) / 2 < h
middle_least l h k = omega (arith, k)
