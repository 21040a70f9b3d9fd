-- What is written spells the value.
use Rattle.std.proofs.Common.{◌≡◌, ℕ, zero, suc, ◌-◌, ◌/◌, ◌%◌, ◌^◌, ◌<◌, ◌≤◌, true, List, length}
use Rattle.std.proofs.Common.{take, replicate, decimal, Option, Some, Ok, ℤ, pos, negsuc}
use Rattle.std.proofs.Common.{unsigned_abs, refl, sym, subst, ◌∙◌, arith, rules, length-append}
use Rattle.std.proofs.lemmas.List.{length-replicate, take_all, drop_all}
use Rattle.std.proofs.lemmas.Fmt.{digits_decimal, digits_value-decimal, decimal_nonempty}
use Rattle.std.proofs.lemmas.Str.Parse.{IsNumeralModel, numerals_by_weight, tells_all_ascii_digits}
use Rattle.std.proofs.lemmas.Nat.{div-add-mod'}
use Rattle.std.proofs.Math.Nat.{div-le_self, mod-le, mod-lt}
use borrow.Author.Tests.{lt-ltb}
use Rattle.std.specs.Str.{all_ascii_digits}
use Rattle.decimals.specs.Numerals.{number, is_digits, has_decimals}
use Rattle.decimals.specs.Scaled.{decimals_in, magnitude, magnitude_of, is_exact, with_sign}
use Rattle.decimals.specs.Scaled.{scaled_of, HasValue}
use Rattle.decimals.specs.Written.{written_sign, padded, written_point, numeral_of, spelling_of}
use Rattle.decimals.proofs.Digits.{number-append, digits-append}
use Rattle.decimals.proofs.Laws.{value_decides}
use Rattle.decimals.proofs.WrittenParts.{power_positive, decimals_short, not_none}

pub own : IsNumeralModel (λ ds. all_ascii_digits ds ≡ true) number
own = numerals_by_weight _ tells_all_ascii_digits number (search rules)

digits_of_decimal : (n : ℕ) → n < 10 ^ 18 → all_ascii_digits (decimal n) ≡ true
digits_of_decimal n h = digits_decimal own n (omega (arith, h))

number_of_decimal : (n : ℕ) → n < 10 ^ 18 → number (decimal n) ≡ n
number_of_decimal n h = digits_value-decimal own n (omega (arith, h))

decimal_is_digits : (n : ℕ) → n < 10 ^ 18 → is_digits (decimal n) ≡ true
decimal_is_digits n h =
    rw (lt-ltb 0 (length (decimal n)) (decimal_nonempty n (omega (arith, h))))
    (digits_of_decimal n h)

-- zeros in front count nothing
zeros_are_digits : (k : ℕ) → all_ascii_digits (replicate k 48) ≡ true
zeros_are_digits zero = refl
zeros_are_digits (suc k) = zeros_are_digits k

zeros_are_nought : (k : ℕ) → number (replicate k 48) ≡ 0
zeros_are_nought zero = refl
zeros_are_nought (suc k) = omega (arith, zeros_are_nought k)

padded_digits : (k n : ℕ) → n < 10 ^ 18 → all_ascii_digits (padded k n) ≡ true
padded_digits k n h =
    rw (
      digits-append (replicate (k - length (decimal n)) 48) (decimal n),
      zeros_are_digits (k - length (decimal n)),
    ) (digits_of_decimal n h)

padded_number : (k n : ℕ) → n < 10 ^ 18 → number (padded k n) ≡ n
padded_number k n h =
    rw (
      number-append (replicate (k - length (decimal n)) 48) (decimal n),
      zeros_are_nought (k - length (decimal n)),
      number_of_decimal n h,
    ) (omega arith)

padded_length : (k n : ℕ) → length (decimal n) ≤ k → length (padded k n) ≡ k
padded_length k n h = length-append (replicate (k - length (decimal n)) 48) (decimal n)
    ∙ omega (arith, length-replicate {A = ℕ} (k - length (decimal n)) 48, h)

padded_is_digits : (k n : ℕ) → n < 10 ^ 18 → 0 < k → length (decimal n) ≤ k
    → is_digits (padded k n) ≡ true
padded_is_digits k n h p l = rw (padded_length k n l, lt-ltb 0 k p) (padded_digits k n h)

-- whole digits and as many decimals as the scale has
joined : (scale m : ℕ) (whole decimals : List ℕ) → length decimals ≡ scale
    → number whole ≡ m / 10 ^ scale → number decimals ≡ m % 10 ^ scale
    → magnitude scale whole decimals ≡ m
joined scale m whole decimals l w d =
    let t : take scale decimals ≡ decimals = take_all scale decimals (omega (arith, l)) in
    let z : scale - length decimals ≡ 0 = omega (arith, l) in
    rw (t, z, number-append whole decimals, l, w, d) (omega (arith, div-add-mod' m (10 ^ scale)))

nothing_left : (scale : ℕ) (decimals : List ℕ) → length decimals ≡ scale
    → is_exact scale decimals ≡ true
nothing_left scale decimals l = rw (drop_all scale decimals (omega (arith, l))) refl

back : (value : ℤ) → value ≡ with_sign (written_sign value) (unsigned_abs value)
back (pos n) = refl
back (negsuc n) = refl

-- a point behind which so many decimals write this number
pub record Writes (scale n : ℕ) (point : Option (List ℕ)) : Type 0 where
  digits : has_decimals point ≡ true
  pub count : length (decimals_in point) ≡ scale
  value : number (decimals_in point) ≡ n

pub some_point : (k n : ℕ) → written_point (suc k) n ≡ Some (padded (suc k) n)
some_point k n = rw (not_none k) refl

pub decimals_write : (scale m : ℕ) → m < 10 ^ 18
    → Writes scale (m % 10 ^ scale) (written_point scale (m % 10 ^ scale))
decimals_write zero m h = record {
  digits = refl;
  count = refl;
  value = omega (arith, mod-lt m (power_positive 0));
}
decimals_write (suc k) m h =
    let n = m % 10 ^ suc k in
    let b : n < 10 ^ 18 = omega (arith, h, mod-le m (10 ^ suc k)) in
    let l = decimals_short m (suc k) h (omega arith) in
    subst (λ (p : Option (List ℕ)). Writes (suc k) n p) (sym (some_point k n)) (record {
      digits = padded_is_digits (suc k) n b (omega arith) l;
      count = padded_length (suc k) n l;
      value = padded_number (suc k) n b;
    })

pub written_magnitude : (value : ℤ) (scale : ℕ) → unsigned_abs value < 10 ^ 18
    → magnitude_of scale (numeral_of value scale) ≡ unsigned_abs value
written_magnitude value scale h =
    let m = unsigned_abs value in
    let a = decimals_write scale m h in
    joined scale m (decimal (m / 10 ^ scale)) _ a.count
    (number_of_decimal (m / 10 ^ scale) (omega (arith, h, div-le_self m (10 ^ scale)))) a.value

written_value : (value : ℤ) (scale : ℕ) → unsigned_abs value < 10 ^ 18
    → HasValue (spelling_of value scale) scale value
written_value value scale h =
    let m = unsigned_abs value in
    let b : m / 10 ^ scale < 10 ^ 18 = omega (arith, h, div-le_self m (10 ^ scale)) in
    let a = decimals_write scale m h in
    let e = written_magnitude value scale h in
    record {
      numeral = numeral_of value scale;
      spelled = record {
        text = refl;
        whole = decimal_is_digits (m / 10 ^ scale) b;
        point = a.digits;
      };
      short = rw e h;
      exact = nothing_left scale _ a.count;
      value = rw e (back value);
    }

pub reads_back : (value : ℤ) (scale : ℕ) → unsigned_abs value < 10 ^ 18
    → scaled_of (spelling_of value scale) scale ≡ Ok value
reads_back value scale h =
    value_decides (spelling_of value scale) scale value (written_value value scale h)
