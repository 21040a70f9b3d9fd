-- A value has one text in the form that is written.
use Rattle.std.proofs.Common.{◌≡◌, ℕ, zero, suc, ◌+◌, ◌-◌, ◌*◌, ◌/◌, ◌%◌, ◌^◌, ◌<◌, ◌≤◌, true}
use Rattle.std.proofs.Common.{false, eqb, List, [], ◌∷◌, length, take, get_or, slice_get, decimal}
use Rattle.std.proofs.Common.{Option, Some, None, ℤ, pos, negsuc, unsigned_abs, refl, sym, ap, ◌∙◌}
use Rattle.std.proofs.Common.{arith}
use Rattle.std.proofs.lemmas.Bool.Decides.{nat_tests}
use Rattle.std.proofs.lemmas.Fmt.{decimal_digit, decimal-digits_value, first_decimal}
use Rattle.std.proofs.lemmas.Fmt.{length-decimal-le}
use Rattle.std.proofs.lemmas.Str.Parse.{digits_value_short}
use Rattle.std.proofs.lemmas.Nat.{div-mul-add, div-add-mod'}
use Rattle.std.proofs.lemmas.List.{take_all}
use Rattle.std.proofs.Math.Nat.{div-le_self, mod-le}
use borrow.Author.Tests.{eqb-true, eqb-false, ltb-true}
use Rattle.std.specs.Char.{is_ascii_digit}
use Rattle.std.specs.Str.{all_ascii_digits}
use Rattle.decimals.specs.Numerals.{Sign, unsigned, plus, minus, Numeral, Spells, number, is_digits}
use Rattle.decimals.specs.Numerals.{has_decimals, spelling}
use Rattle.decimals.specs.Scaled.{decimals_in, magnitude, magnitude_of, with_sign}
use Rattle.decimals.specs.Written.{written_sign, padded, written_point, numeral_of, spelling_of}
use Rattle.decimals.specs.Written.{IsInForm}
use Rattle.decimals.proofs.Digits.{number-append, both_left, both_right}
use Rattle.decimals.proofs.Written.{own, some_point, decimals_write, written_magnitude}

digit_from : (c : ℕ) → is_ascii_digit c ≡ true → (48 ≤ c) × (c < 58)
digit_from c h = (grind (arith, nat_tests), grind (arith, nat_tests))

short : (ds : List ℕ) → all_ascii_digits ds ≡ true → number ds < 10 ^ length ds
short ds h = digits_value_short own ds (length ds) h (omega arith)

-- The first digit.

first_get : (ds : List ℕ) → get_or ds 0 0 ≡ 48 → slice_get ds 0 ≡ Some 48
first_get [] h = absurd (omega (arith, h))
first_get (c ∷ cs) h = ap (λ (d : ℕ). Some d) h

got_first : (ds : List ℕ) → slice_get ds 0 ≡ Some 48 → get_or ds 0 0 ≡ 48
got_first [] h = cc
got_first (c ∷ cs) h = cc

-- `decimal` writes no zero before another digit
decimal_whole : (n : ℕ) → n < 10 ^ 18 → slice_get (decimal n) 0 ≡ Some 48 → length (decimal n) ≡ 1
decimal_whole zero h f = ap length (decimal_digit 0 (omega arith))
decimal_whole (suc n) h f =
    absurd (omega (arith, got_first _ f, first_decimal (suc n) (omega arith) (omega (arith, h))))

-- digits without a zero in front are what `decimal` writes of their number
written_digits : (ds : List ℕ) → all_ascii_digits ds ≡ true → 0 < length ds → number ds < 10 ^ 18
    → (slice_get ds 0 ≡ Some 48 → length ds ≡ 1) → decimal (number ds) ≡ ds
written_digits ds h p k f =
    decimal-digits_value own ds h p (λ e. f (first_get ds e)) (omega (arith, k))

-- Digits are their number, padded.

padded_full : (k n : ℕ) (ds : List ℕ) → decimal n ≡ ds → length ds ≡ k → padded k n ≡ ds
padded_full k n ds e l =
    let z : k - length ds ≡ 0 = omega (arith, l) in
    rw (e, z) refl

padded_more : (k n : ℕ) → length (decimal n) ≤ k → padded (suc k) n ≡ 48 ∷ padded k n
padded_more k n h =
    let e : suc k - length (decimal n) ≡ suc (k - length (decimal n)) = omega (arith, h) in
    rw e refl

not_nought : (c : ℕ) (cs : List ℕ) → eqb c 48 ≡ false → slice_get (c ∷ cs) 0 ≡ Some 48
    → length (c ∷ cs) ≡ 1
not_nought c cs e f = absurd (omega (arith, eqb-false c 48 e, got_first (c ∷ cs) f))

padded_step : (c : ℕ) (cs : List ℕ)
    → (0 < length cs → number cs < 10 ^ 18 → padded (length cs) (number cs) ≡ cs)
    → all_ascii_digits (c ∷ cs) ≡ true → number (c ∷ cs) < 10 ^ 18
    → padded (length (c ∷ cs)) (number (c ∷ cs)) ≡ c ∷ cs
padded_step c [] ih h k =
    padded_full 1 (number (c ∷ [])) (c ∷ [])
    (written_digits (c ∷ []) h (omega arith) k (λ f. refl)) refl
padded_step c (d ∷ ds) ih h k =
    elim (eqb c 48) as (λ t. eqb c 48 ≡ t
    → padded (length (c ∷ d ∷ ds)) (number (c ∷ d ∷ ds)) ≡ c ∷ d ∷ ds) [
      | true ↦ λ e.
          let rest = d ∷ ds in
          let f : c ≡ 48 = eqb-true c 48 e in
          let z : number (c ∷ rest) ≡ number rest = rw f (omega arith) in
          let b : number rest < 10 ^ 18 = omega (arith, z, k) in
          let l = length-decimal-le (length rest) (number rest) (omega arith)
          (short rest (both_right _ _ h)) (omega (arith, b)) in
          ap (padded (length (c ∷ rest))) z ∙ padded_more (length rest) (number rest) l
          ∙ ap (λ (xs : List ℕ). 48 ∷ xs) (ih (omega arith) b) ∙ ap (λ (x : ℕ). x ∷ rest) (sym f)
      | false ↦ λ e. padded_full _ (number (c ∷ d ∷ ds)) (c ∷ d ∷ ds)
          (written_digits (c ∷ d ∷ ds) h (omega arith) k (not_nought c (d ∷ ds) e)) refl
    ] refl

padded_digits : (ds : List ℕ) → all_ascii_digits ds ≡ true → 0 < length ds → number ds < 10 ^ 18
    → padded (length ds) (number ds) ≡ ds
padded_digits [] h p k = absurd (omega arith)
padded_digits (c ∷ cs) h p k =
    padded_step c cs (λ q b. padded_digits cs (both_right (is_ascii_digit c) _ h) q b) h k

decimals_digits : (point : Option (List ℕ)) → has_decimals point ≡ true
    → all_ascii_digits (decimals_in point) ≡ true
decimals_digits None h = refl
decimals_digits (Some ds) h = both_right _ _ h

-- The whole digits and the decimals of a magnitude.

split : (scale : ℕ) (whole decimals : List ℕ) → length decimals ≡ scale
    → magnitude scale whole decimals ≡ number whole * 10 ^ scale + number decimals
split scale whole decimals l =
    let t : take scale decimals ≡ decimals = take_all scale decimals (omega (arith, l)) in
    let z : scale - length decimals ≡ 0 = omega (arith, l) in
    rw (t, z, number-append whole decimals, l) (omega arith)

whole_back : (scale m w d : ℕ) → m ≡ w * 10 ^ scale + d → d < 10 ^ scale → m / 10 ^ scale ≡ w
whole_back scale m w d e h = rw e (div-mul-add w (10 ^ scale) d h)

decimals_back : (scale m w d : ℕ) → m ≡ w * 10 ^ scale + d → d < 10 ^ scale → m % 10 ^ scale ≡ d
decimals_back scale m w d e h =
    let t = div-add-mod' m (10 ^ scale) in
    let u = rw (whole_back scale m w d e h) at t in
    omega (arith, u, e)

some_digits : (ds : List ℕ) → is_digits ds ≡ true → 0 < length ds
some_digits ds h = omega (arith, ltb-true 0 (length ds) (both_left _ _ h))

point_back : (scale n : ℕ) (point : Option (List ℕ)) → has_decimals point ≡ true
    → length (decimals_in point) ≡ scale
    → number (decimals_in point) ≡ n → n < 10 ^ 18 → written_point scale n ≡ point
point_back zero n None h l e b = refl
point_back (suc k) n None h l e b = absurd (omega (arith, l))
point_back zero n (Some ds) h l e b = absurd (omega (arith, l, some_digits ds h))
point_back (suc k) n (Some ds) h l e b =
    let t = padded_digits ds (both_right _ _ h) (some_digits ds h) (omega (arith, e, b)) in
    some_point k n ∙ ap (λ (xs : List ℕ). Some xs) (rw (l, e) at t)

sign_back : (sign : Sign) (m : ℕ) → (sign ≡ plus → ⊥) → (sign ≡ minus → 0 < m)
    → (written_sign (with_sign sign m) ≡ sign) × (unsigned_abs (with_sign sign m) ≡ m)
sign_back unsigned m h k = (refl, refl)
sign_back plus m h k = absurd (h refl)
sign_back minus zero h k = absurd (omega (arith, k refl))
sign_back minus (suc m) h k = (refl, refl)

not_plus : (value : ℤ) → written_sign value ≡ plus → ⊥
not_plus (pos n) e = cc
not_plus (negsuc n) e = cc

below_nought : (value : ℤ) (m : ℕ) → m ≡ unsigned_abs value → written_sign value ≡ minus → 0 < m
below_nought (pos n) m e s = cc
below_nought (negsuc n) m e s = omega (arith, e)

pub in_form : (value : ℤ) (scale : ℕ) → unsigned_abs value < 10 ^ 18
    → IsInForm scale (numeral_of value scale)
in_form value scale h =
    let m = unsigned_abs value in
    record {
      no_plus = not_plus value;
      negative = below_nought value _ (written_magnitude value scale h);
      whole = decimal_whole (m / 10 ^ scale) (omega (arith, h, div-le_self m (10 ^ scale)));
      decimals = (decimals_write scale m h).count;
    }

same_parts : (v : ℤ) (scale : ℕ) (n : Numeral) → written_sign v ≡ n.sign
    → decimal (unsigned_abs v / 10 ^ scale) ≡ n.whole
    → written_point scale (unsigned_abs v % 10 ^ scale) ≡ n.point → spelling n ≡ spelling_of v scale
same_parts v scale n a b c = rw (a, b, c) refl

pub one : (bytes : List ℕ) (n : Numeral) (scale : ℕ) → Spells bytes n
    → magnitude_of scale n < 10 ^ 18 → IsInForm scale n
    → bytes ≡ spelling_of (with_sign n.sign (magnitude_of scale n)) scale
one bytes n scale s h f =
    let m = magnitude_of scale n in
    let ds = decimals_in n.point in
    let v = with_sign n.sign m in
    let g = sign_back n.sign m f.no_plus f.negative in
    let e : m ≡ number n.whole * 10 ^ scale + number ds = split scale n.whole ds f.decimals in
    let d : number ds < 10 ^ scale = rw f.decimals at
    (short ds (decimals_digits n.point s.point)) in
    let w = whole_back scale m (number n.whole) (number ds) e d in
    let r = decimals_back scale m (number n.whole) (number ds) e d in
    let a : decimal (unsigned_abs v / 10 ^ scale) ≡ n.whole =
    ap (λ (x : ℕ). decimal (x / 10 ^ scale)) g.1 ∙ ap decimal w
    ∙ written_digits n.whole (both_right _ _ s.whole) (some_digits n.whole s.whole)
    (omega (arith, w, div-le_self m (10 ^ scale), h)) f.whole in
    let p : written_point scale (unsigned_abs v % 10 ^ scale) ≡ n.point =
    ap (λ (x : ℕ). written_point scale (x % 10 ^ scale)) g.1
    ∙ point_back scale _ n.point s.point f.decimals (sym r)
    (omega (arith, mod-le m (10 ^ scale), h)) in
    s.text ∙ same_parts v scale n g.0 a p
