-- What tests say, one after the other and in a loop.
use Rattle.std.specs.Int.Signed.{le_z}
use Rattle.std.proofs.Common.{◌≡◌, ◌↔◌, ◌⊎◌, inl, inr, Bool, true, false, IsTrue, T, ℤ, ◌≤ℤ◌, sym}
use Rattle.std.proofs.Common.{◌∙◌, ℕ, ◌+◌, ◌<◌, ◌≤◌, arith}

pub clash : {P : Type 0} → false ≡ true → P
clash e = cc

pub true_le : (a b : ℤ) → IsTrue (le_z a b) → a ≤ℤ b
true_le a b t = record { le = by (le_z a b) t }
  where
    by : (t : Bool) → IsTrue t → T t
    by true e = tt
    by false e = clash e

-- ---- one of them
pub first_of : (A B : Type 0) (r : Bool) → (IsTrue r ↔ A) → r ≡ true → IsTrue r ↔ (A ⊎ B)
first_of A B r h t = (λ s. inl (h.0 s), λ p. t)

pub second_of : (A B : Type 0) (q r : Bool) → (IsTrue q ↔ A) → q ≡ false → (IsTrue r ↔ B)
    → IsTrue r ↔ (A ⊎ B)
second_of A B q r h f k = (λ t. inr (k.0 t), λ p. by p)
  where
    by : A ⊎ B → IsTrue r
    by (inl a) = clash (sym f ∙ h.1 a)
    by (inr b) = k.1 b

-- ---- in a loop
pub last : (i k : ℕ) → i < k + 1 → k ≤ i → i ≡ k
last i k l m = omega (arith, l, m)
