-- Digits as a number at scale 0.
use Rattle.std.proofs.Common.{◌≡◌, ℕ, ◌^◌, ◌<◌, Bool, true, false, cond, ltb, eqb, List, [], ◌∷◌}
use Rattle.std.proofs.Common.{Ok, Err, ℤ, pos, refl, sym, ap, ◌∙◌, arith}
use Rattle.std.specs.Prelude.{int_lt}
use Rattle.std.proofs.lemmas.Bool.Decides.{nat_tests}
use borrow.Author.Tests.{ltb-false}
use Rattle.std.specs.Char.{is_ascii_digit}
use Rattle.std.specs.Str.{all_ascii_digits}
use Rattle.decimals.specs.Numerals.{is_digits, number, unsigned}
use Rattle.decimals.specs.Scaled.{scaled_of, signed}
use Rattle.decimals.specs.WholeNumbers.{holds_point}
use Rattle.decimals.specs.declared.DecimalFault.{DecimalFault}
use Rattle.decimals.specs.declared.DecimalFault.TheVariants.{TooLong}
use Rattle.decimals.proofs.Digits.{both_left, both_right}
use Rattle.decimals.proofs.WholeNumbers.{scaled_of_whole_number}

-- a digit is no sign and no point
no_point : (c : ℕ) → is_ascii_digit c ≡ true → eqb c 46 ≡ false
no_point c h = grind (arith, nat_tests)

no_plus : (c : ℕ) → is_ascii_digit c ≡ true → eqb c 43 ≡ false
no_plus c h = grind (arith, nat_tests)

no_minus : (c : ℕ) → is_ascii_digit c ≡ true → eqb c 45 ≡ false
no_minus c h = grind (arith, nat_tests)

pointless : (ds : List ℕ) → all_ascii_digits ds ≡ true → holds_point ds ≡ false
pointless [] h = refl
pointless (c ∷ cs) h = rw (no_point c (both_left _ _ h)) (pointless cs (both_right _ _ h))

with_no_sign : (b : Bool) (n : ℕ)
    → signed unsigned (cond b (Ok n) (Err TooLong)) ≡ cond b (Ok (pos n)) (Err TooLong)
with_no_sign true n = refl
with_no_sign false n = refl

pub scaled_of_digits : (ds : List ℕ) → is_digits ds ≡ true
    → scaled_of ds 0 ≡ cond (ltb (number ds) (10 ^ 18)) (Ok (pos (number ds))) (Err TooLong)
scaled_of_digits [] h = cc
scaled_of_digits (c ∷ cs) h =
    let d : all_ascii_digits (c ∷ cs) ≡ true = both_right _ _ h in
    let e : is_ascii_digit c ≡ true = both_left _ _ d in
    scaled_of_whole_number (c ∷ cs) (pointless (c ∷ cs) d)
    ∙ rw (no_plus c e, no_minus c e, h)
    (with_no_sign (ltb (number (c ∷ cs)) (10 ^ 18)) (number (c ∷ cs)))

-- the value of digits is less than a number where the number that they write is
value_of : (m : ℕ) (b : Bool) (v : ℤ) → cond b (Ok (pos m)) (Err TooLong) ≡ Ok v → pos m ≡ v
value_of m true v h = cc
value_of m false v h = cc

less : (m n : ℕ) → int_lt (pos m) (pos n) ≡ ltb m n
less m n = refl

pub value_below : (ds : List ℕ) (v : ℤ) (n : ℕ) → is_digits ds ≡ true → scaled_of ds 0 ≡ Ok v
    → int_lt v (pos n) ≡ ltb (number ds) n
value_below ds v n h e =
    let p : pos (number ds) ≡ v = value_of (number ds) _ v (sym (scaled_of_digits ds h) ∙ e) in
    ap (λ (z : ℤ). int_lt z (pos n)) (sym p) ∙ less (number ds) n

-- digits without a value write more than each number of 18 digits
long_by : (m n : ℕ) (b : Bool) (f : DecimalFault) → n < 10 ^ 18 → ltb m (10 ^ 18) ≡ b
    → cond b (Ok (pos m)) (Err TooLong) ≡ Err f → ltb m n ≡ false
long_by m n true f l e h = cc
long_by m n false f l e h = grind (arith, nat_tests, ltb-false m (10 ^ 18) e)

pub fault_above : (ds : List ℕ) (f : DecimalFault) (n : ℕ) → n < 10 ^ 18 → is_digits ds ≡ true
    → scaled_of ds 0 ≡ Err f → ltb (number ds) n ≡ false
fault_above ds f n l h e = long_by (number ds) n _ f l refl (sym (scaled_of_digits ds h) ∙ e)
