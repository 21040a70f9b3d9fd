-- What tests say, of two whole numbers and in a loop.
use Rattle.std.proofs.Common.{◌≡◌, ◌⊎◌, inl, inr, ℕ, ◌+◌, ◌<◌, ◌≤◌, Bool, true, false, not, ℤ, ◌<ℤ◌}
use Rattle.std.proofs.Common.{◌≤ℤ◌, int_lt, arith, refl, T, subst, sym}
use Rattle.std.proofs.lemmas.Int.{ints}
use Rattle.std.proofs.lemmas.Bool.{cases_lt}
use Rattle.std.specs.Int.Signed.{lt_z_yes, lt_z_no}

pub below_true : (a b : ℤ) → a <ℤ b → int_lt a b ≡ true
below_true a b h = by (int_lt a b) refl
  where
    by : (t : Bool) → int_lt a b ≡ t → t ≡ true
    by true e = refl
    by false e =
        let n : b ≤ℤ a = lt_z_no (subst (λ (t : Bool). T (not t)) (sym e) tt) in
        absurd (omega (arith, ints, h, n))

pub below_false : (a b : ℤ) → b ≤ℤ a → int_lt a b ≡ false
below_false a b h = by (int_lt a b) refl
  where
    by : (t : Bool) → int_lt a b ≡ t → t ≡ false
    by true e = let n : a <ℤ b = lt_z_yes (subst T (sym e) tt) in absurd (omega (arith, ints, h, n))
    by false e = refl

pub true_below : (a b : ℤ) → int_lt a b ≡ true → a <ℤ b
true_below a b e = lt_z_yes (subst T (sym e) tt)

pub false_below : (a b : ℤ) → int_lt a b ≡ false → b ≤ℤ a
false_below a b e = lt_z_no (subst (λ (t : Bool). T (not t)) (sym e) tt)

pub not_true : (t : Bool) → not t ≡ true → t ≡ false
not_true true h = cc
not_true false h = refl

pub not_false : (t : Bool) → not t ≡ false → t ≡ true
not_false true h = refl
not_false false h = cc

pub not_both : {P : Type 0} (t : Bool) → t ≡ true → t ≡ false → P
not_both true h k = cc
not_both false h k = cc

pub last_or_before : (i k : ℕ) → i < k + 1 → (i < k) ⊎ (i ≡ k)
last_or_before i k l = by (cases_lt i k)
  where
    by : (i < k) ⊎ (k ≤ i) → (i < k) ⊎ (i ≡ k)
    by (inl h) = inl h
    by (inr h) = inr (omega (arith, l, h))
