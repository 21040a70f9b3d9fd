-- The number that digits write, and digits beside digits.
use Rattle.std.proofs.Common.{◌≡◌, ℕ, ◌+◌, ◌*◌, ◌-◌, ◌^◌, ◌≤◌, Bool, true, false, eqb, ◌&&◌, List}
use Rattle.std.proofs.Common.{[], ◌∷◌, ◌++◌, length, take, drop, refl, sym, ap, ◌∙◌, arith}
use Rattle.std.proofs.Common.{length-append, pow-add}
use Rattle.std.proofs.Math.Nat.{add-mul, mul_assoc, one-le-pow}
use Rattle.std.proofs.lemmas.List.{take-append-drop}
use Rattle.std.proofs.lemmas.Nat.{mul-le}
use borrow.Author.Tests.{eqb-true, eqb-false}
use Rattle.std.proofs.lemmas.Bool.Decides.{nat_tests}
use Rattle.std.specs.Char.{is_ascii_digit}
use Rattle.std.specs.List.{list_all}
use Rattle.std.specs.Str.{all_ascii_digits}
use Rattle.decimals.specs.Numerals.{number}

place : (d p q x y : ℕ) → d * (p * q) + (x * q + y) ≡ (d * p + x) * q + y
place d p q x y = rw (add-mul (d * p) x q, mul_assoc d p q) (omega arith)

pub number-append : (xs ys : List ℕ) → number (xs ++ ys) ≡ number xs * 10 ^ length ys + number ys
number-append [] ys = omega arith
number-append (x ∷ xs) ys =
    rw (number-append xs ys, length-append xs ys, pow-add 10 (length xs) (length ys))
    (place (x - 48) (10 ^ length xs) (10 ^ length ys) (number xs) (number ys))

both_assoc : (a b c : Bool) → (a && (b && c)) ≡ ((a && b) && c)
both_assoc true b c = refl
both_assoc false b c = refl

pub digits-append : (xs ys : List ℕ)
    → all_ascii_digits (xs ++ ys) ≡ (all_ascii_digits xs && all_ascii_digits ys)
digits-append [] ys = refl
digits-append (x ∷ xs) ys = ap (λ (b : Bool). is_ascii_digit x && b) (digits-append xs ys)
    ∙ both_assoc (is_ascii_digit x) (all_ascii_digits xs) (all_ascii_digits ys)

pub digits_cut : (n : ℕ) (ds : List ℕ)
    → all_ascii_digits ds ≡ (all_ascii_digits (take n ds) && all_ascii_digits (drop n ds))
digits_cut n ds = ap all_ascii_digits (sym (take-append-drop n ds))
    ∙ digits-append (take n ds) (drop n ds)

pub both_left : (a b : Bool) → (a && b) ≡ true → a ≡ true
both_left true b h = refl
both_left false b h = cc

pub both_right : (a b : Bool) → (a && b) ≡ true → b ≡ true
both_right true b h = h
both_right false b h = cc

digit_from : (c : ℕ) → is_ascii_digit c ≡ true → 48 ≤ c
digit_from c h = grind (arith, nat_tests)

nought : (c p x : ℕ) → c ≡ 48 → x ≡ (c - 48) * p + x
nought c p x e = rw e (omega arith)

-- digits write 0 where each is 0
digit_counts : (c k x : ℕ) → is_ascii_digit c ≡ true → eqb c 48 ≡ false
    → eqb ((c - 48) * 10 ^ k + x) 0 ≡ false
digit_counts c k x h n =
    let l = mul-le 1 1 (c - 48) (10 ^ k) (omega (arith, digit_from c h, eqb-false c 48 n))
    (one-le-pow k 10 (omega arith)) in
    grind (arith, nat_tests, l)

pub zeros : (ds : List ℕ) → all_ascii_digits ds ≡ true
    → list_all (λ c. eqb c 48) ds ≡ eqb (number ds) 0
zeros [] h = refl
zeros (c ∷ cs) h =
    elim (eqb c 48) as (λ t. eqb c 48 ≡ t
    → (t && list_all (λ d. eqb d 48) cs) ≡ eqb ((c - 48) * 10 ^ length cs + number cs) 0) [
      | true ↦ λ e. zeros cs (both_right _ _ h)
          ∙ ap (λ (n : ℕ). eqb n 0) (nought c (10 ^ length cs) (number cs) (eqb-true c 48 e))
      | false ↦ λ e. sym (digit_counts c (length cs) (number cs) (both_left _ _ h) e)
    ] refl
