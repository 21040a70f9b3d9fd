-- The text of a bound, read as a value at its scale, is that bound.
use Rattle.std.proofs.Common.{◌≡◌, ℕ, zero, suc, ◌+◌, ◌-◌, ◌*◌, ◌^◌, ◌<◌, ◌≤◌, Bool, true, false}
use Rattle.std.proofs.Common.{cond, ◌&&◌, nat_eq, List, [], ◌∷◌, ◌++◌, length, codes, Option, Some}
use Rattle.std.proofs.Common.{None, refl, ap, sym, ◌∙◌, subst, arith, true≢false, ℤ, pos, neg_ℤ}
use Rattle.std.proofs.Common.{◌*ℤ◌}
use Rattle.std.proofs.Math.Nat.{pow-suc}
use Rattle.std.proofs.lemmas.Int.{ints}
use Rattle.std.proofs.lemmas.List.{take_all, drop_all}
use Rattle.std.proofs.lemmas.Bool.Decides.{nat_tests}
use Rattle.std.specs.List.{starts_with, list_all}
use Rattle.std.specs.Char.{is_ascii_digit}
use Rattle.std.specs.Str.{all_ascii_digits}
use Rattle.std.specs.Prelude.{if◌then◌else◌}
use Rattle.ili_grammar.specs.Tokens.{Info}
use Rattle.ili_grammar.specs.Numbers.{between, read_from, signed, decimals, decimal}
use Rattle.decimals.specs.Numerals.{Sign, unsigned, plus, minus, sign_bytes, Numeral, Spells}
use Rattle.decimals.specs.Numerals.{point_bytes, is_digits, has_decimals, number}
use Rattle.decimals.specs.Scaled.{decimals_in, magnitude_of, is_exact, with_sign, HasValue}
use Rattle.resolver.specs.Standing.{HasFewDigits, IsBound}

-- ---- digits
both_left : (a b : Bool) → (a && b) ≡ true → a ≡ true
both_left true b e = refl
both_left false b e = absurd (true≢false (sym e))

both_right : (a b : Bool) → (a && b) ≡ true → b ≡ true
both_right true b e = e
both_right false b e = absurd (true≢false (sym e))

digit_between : (b : ℕ) → is_ascii_digit b ≡ true → between 48 57 b ≡ true
digit_between b e = e

no_mark : (b n : ℕ) → is_ascii_digit b ≡ true → n < 48 → nat_eq b n ≡ false
no_mark b n e lt = grind (arith, nat_tests, e, lt)

no_minus : (b : ℕ) → is_ascii_digit b ≡ true → nat_eq 45 b ≡ false
no_minus b e = grind (arith, nat_tests, e)

read_more : (n : ℕ) (xs ys : List ℕ) → read_from n (xs ++ ys) ≡ read_from (read_from n xs) ys
read_more n [] ys = refl
read_more n (x ∷ xs) ys = read_more (cond (between 48 57 x) ((n * 10) + (x - 48)) n) xs ys

next_digit : (n d p q rest : ℕ) → q ≡ p * 10 → ((n * 10) + d) * p + rest ≡ n * q + (d * p + rest)
next_digit n d p q rest e = rw e (omega arith)

read_digits : (n : ℕ) (ds : List ℕ) → all_ascii_digits ds ≡ true
    → read_from n ds ≡ n * 10 ^ length ds + number ds
read_digits n [] e = omega arith
read_digits n (d ∷ ds) e =
    let here : is_ascii_digit d ≡ true = both_left (is_ascii_digit d) (all_ascii_digits ds) e in
    ap (λ (b : Bool). read_from (cond b ((n * 10) + (d - 48)) n) ds) (digit_between d here)
    ∙ read_digits ((n * 10) + (d - 48)) ds (both_right (is_ascii_digit d) (all_ascii_digits ds) e)
    ∙ next_digit n (d - 48) (10 ^ length ds) (10 ^ length (d ∷ ds)) (number ds)
    (pow-suc 10 (length ds))

digits_both : (xs ys : List ℕ) → all_ascii_digits xs ≡ true → all_ascii_digits ys ≡ true
    → all_ascii_digits (xs ++ ys) ≡ true
digits_both [] ys e f = f
digits_both (x ∷ xs) ys e f =
    ap (λ (b : Bool). b && all_ascii_digits (xs ++ ys))
    (both_left (is_ascii_digit x) (all_ascii_digits xs) e)
    ∙ digits_both xs ys (both_right (is_ascii_digit x) (all_ascii_digits xs) e) f

-- ---- the parts of a numeral
whole_digits : (n : Numeral) (bytes : List ℕ) → Spells bytes n → all_ascii_digits n.whole ≡ true
whole_digits n bytes s = both_right _ (all_ascii_digits n.whole) s.whole

point_digits : (p : Option (List ℕ)) → has_decimals p ≡ true
    → all_ascii_digits (decimals_in p) ≡ true
point_digits None e = refl
point_digits (Some ds) e = both_right _ (all_ascii_digits ds) e

read_point : (n : ℕ) (p : Option (List ℕ))
    → read_from n (point_bytes p) ≡ read_from n (decimals_in p)
read_point n None = refl
read_point n (Some ds) = refl

read_parts : (whole : List ℕ) (p : Option (List ℕ)) → all_ascii_digits whole ≡ true
    → has_decimals p ≡ true → read_from 0 (whole ++ point_bytes p) ≡ number (whole ++ decimals_in p)
read_parts whole p w d =
    read_more 0 whole (point_bytes p) ∙ read_point (read_from 0 whole) p
    ∙ sym (read_more 0 whole (decimals_in p))
    ∙ read_digits 0 (whole ++ decimals_in p)
    (digits_both whole (decimals_in p) w (point_digits p d)) ∙ omega arith

decimals_after : (whole : List ℕ) (p : Option (List ℕ)) → all_ascii_digits whole ≡ true
    → decimals (whole ++ point_bytes p) ≡ length (decimals_in p)
decimals_after [] None w = refl
decimals_after [] (Some ds) w = refl
decimals_after (x ∷ xs) p w =
    ap (λ (b : Bool). cond b (length (xs ++ point_bytes p)) (decimals (xs ++ point_bytes p)))
    (no_mark x 46 (both_left (is_ascii_digit x) (all_ascii_digits xs) w) (omega arith))
    ∙ decimals_after xs p (both_right (is_ascii_digit x) (all_ascii_digits xs) w)

-- ---- the number as the grammar reads it
signed_is : (sign : Sign) (whole : List ℕ) (p : Option (List ℕ)) → is_digits whole ≡ true
    → has_decimals p ≡ true
    → signed (sign_bytes sign ++ (whole ++ point_bytes p))
    ≡ with_sign sign (number (whole ++ decimals_in p))
signed_is minus whole p w d =
    ap (λ (k : ℕ). neg_ℤ (pos k)) (read_parts whole p (both_right _ (all_ascii_digits whole) w) d)
signed_is plus whole p w d =
    ap (λ (k : ℕ). pos k) (read_parts whole p (both_right _ (all_ascii_digits whole) w) d)
signed_is unsigned [] p w d = absurd (true≢false (sym w))
signed_is unsigned (x ∷ xs) p w d =
    let digits : all_ascii_digits (x ∷ xs) ≡ true = both_right _ (all_ascii_digits (x ∷ xs)) w in
    let no_sign : starts_with nat_eq ((x ∷ xs) ++ point_bytes p) (codes "-")
    ≡ false = other x (xs ++ point_bytes p)
    (both_left (is_ascii_digit x) (all_ascii_digits xs) digits) in
    ap (λ (b : Bool). if b then neg_ℤ (pos (read_from 0 ((x ∷ xs) ++ point_bytes p))) else pos
    (read_from 0 ((x ∷ xs) ++ point_bytes p))) no_sign
    ∙ ap (λ (k : ℕ). pos k) (read_parts (x ∷ xs) p digits d)
  where
    other : (b : ℕ) (bs : List ℕ) → is_ascii_digit b ≡ true
        → starts_with nat_eq (b ∷ bs) (codes "-") ≡ false
    other b bs e = ap (λ (t : Bool). t && true) (no_minus b e)

decimals_is : (sign : Sign) (whole : List ℕ) (p : Option (List ℕ)) → all_ascii_digits whole ≡ true
    → decimals (sign_bytes sign ++ (whole ++ point_bytes p)) ≡ length (decimals_in p)
decimals_is unsigned whole p w = decimals_after whole p w
decimals_is plus whole p w = decimals_after whole p w
decimals_is minus whole p w = decimals_after whole p w

-- ---- in units of a scale
times_sign : (sign : Sign) (a p : ℕ) → (with_sign sign a *ℤ pos p) ≡ with_sign sign (a * p)
times_sign unsigned a p = refl
times_sign plus a p = refl
times_sign minus zero p =
    let none : 0 * p ≡ 0 = omega arith in
    ap (λ (k : ℕ). pos k) none ∙ sym (ap (λ (k : ℕ). neg_ℤ (pos k)) none)
times_sign minus (suc a) p = refl

all_written : (scale : ℕ) (ds : List ℕ) → length ds ≤ scale → is_exact scale ds ≡ true
all_written scale ds le =
    ap (λ (l : List ℕ). list_all (λ digit. nat_eq digit 48) l) (drop_all scale ds le)

units_are : (n : Numeral) (bytes : List ℕ) (scale : ℕ) → Spells bytes n → decimals bytes ≤ scale
    → (signed bytes *ℤ pos (10 ^ (scale - decimals bytes)))
    ≡ with_sign n.sign (magnitude_of scale n)
units_are n bytes scale s le =
    let ds : List ℕ = decimals_in n.point in
    let many : decimals bytes ≡ length ds = ap decimals s.text
    ∙ decimals_is n.sign n.whole n.point (whole_digits n bytes s) in
    let value : signed bytes ≡ with_sign n.sign (number (n.whole ++ ds)) = ap signed s.text
    ∙ signed_is n.sign n.whole n.point s.whole s.point in
    ap (λ (z : ℤ). z *ℤ pos (10 ^ (scale - decimals bytes))) value
    ∙ times_sign n.sign (number (n.whole ++ ds)) (10 ^ (scale - decimals bytes))
    ∙ ap (λ (k : ℕ). with_sign n.sign (number (n.whole ++ ds) * 10 ^ (scale - k))) many
    ∙ ap (λ (l : List ℕ). with_sign n.sign (number (n.whole ++ l) * 10 ^ (scale - length ds)))
    (sym (take_all scale ds (subst (λ (k : ℕ). k ≤ scale) many le)))

few_short : (sign : Sign) (k : ℕ) (z : ℤ) → z ≡ with_sign sign k → HasFewDigits z → k < 10 ^ 18
few_short unsigned k z e f = omega (arith, ints, e, f.below)
few_short plus k z e f = omega (arith, ints, e, f.below)
few_short minus k z e f = omega (arith, ints, e, f.above)

short_few : (sign : Sign) (k : ℕ) (z : ℤ) → z ≡ with_sign sign k → k < 10 ^ 18 → HasFewDigits z
short_few unsigned k z e lt = record {
  above = omega (arith, ints, e, lt);
  below = omega (arith, ints, e, lt);
}
short_few plus k z e lt = record {
  above = omega (arith, ints, e, lt);
  below = omega (arith, ints, e, lt);
}
short_few minus k z e lt = record {
  above = omega (arith, ints, e, lt);
  below = omega (arith, ints, e, lt);
}

pub bound_is_value : (i : Info) (n : Numeral) (scale : ℕ) (z : ℤ) → Spells i.text n
    → IsBound scale (decimal i) z → HasValue i.text scale z
bound_is_value i n scale z s b =
    let many : decimals i.text ≡ length (decimals_in n.point) = ap decimals s.text
    ∙ decimals_is n.sign n.whole n.point (whole_digits n i.text s) in
    let value : z ≡ with_sign n.sign (magnitude_of scale n) = b.value
    ∙ units_are n i.text scale s b.decimals in
    record {
      numeral = n;
      spelled = s;
      value = value;
      short = few_short n.sign (magnitude_of scale n) z value b.digits;
      exact = all_written scale (decimals_in n.point)
          (subst (λ (k : ℕ). k ≤ scale) many b.decimals);
    }

pub value_is_bound : (i : Info) (scale : ℕ) (z : ℤ) → (decimal i).scale ≤ scale
    → HasValue i.text scale z → IsBound scale (decimal i) z
value_is_bound i scale z le v = record {
  decimals = le;
  value = v.value ∙ sym (units_are v.numeral i.text scale v.spelled le);
  digits = short_few v.numeral.sign (magnitude_of scale v.numeral) z v.value v.short;
}
