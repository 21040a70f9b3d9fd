-- Numbers with no more decimals than the scale has.
use Rattle.std.proofs.Common.{◌≡◌, ℕ, ◌+◌, ◌*◌, ◌-◌, ◌^◌, ◌≤◌, ◌<◌, true, List, [], ◌∷◌, ◌++◌}
use Rattle.std.proofs.Common.{length, zero, suc, take, drop, get_or, add-one, Option, None, Some}
use Rattle.std.proofs.Common.{IfSome, Ok, refl, sym, ap, ◌∙◌, arith, length-drop, pow-add}
use Rattle.std.proofs.Math.Nat.{pow-succ', mul_assoc, add-mul, one-le-pow, pow-le-pow_right}
use Rattle.std.proofs.lemmas.Nat.{mul-le}
use Rattle.std.proofs.lemmas.List.{take_more, take_all, take-append-drop}
use Rattle.std.proofs.lemmas.Bool.Decides.{nat_tests}
use Rattle.std.proofs.Math.ListN.{drop_of_length-le}
use Rattle.std.proofs.Math.Seq.{drop-cons}
use borrow.Author.Tests.{lt-ltb}
use Rattle.std.specs.Char.{is_ascii_digit}
use Rattle.std.specs.Str.{all_ascii_digits}
use Rattle.decimals.specs.Numerals.{number, is_digits, has_decimals, point_bytes}
use Rattle.decimals.specs.Scaled.{magnitude, measured, decimals_in, unsigned_of}
use Rattle.decimals.specs.PlainNumbers.{IsFrontNumber, IsPlain}
use Rattle.decimals.proofs.Digits.{number-append, digits-append}
use Rattle.decimals.proofs.Spellings.{whole_back}

-- Digits at the front.

pub front_none : (from : ℕ) (bytes : List ℕ) → IsFrontNumber from bytes 0 from
front_none from bytes = record { digits = refl; value = omega arith; bound = omega arith }

ten_times : (a i : ℕ) → a * 10 ^ (i + 1) ≡ 10 * (a * 10 ^ i)
ten_times a i =
    rw (add-one i, pow-succ' 10 i) (omega (arith, mul_assoc a 10 (10 ^ i), mul_assoc 10 a (10 ^ i)))

last_digit : (xs : List ℕ) (c : ℕ) → number (xs ++ (c ∷ [])) ≡ number xs * 10 + (c - 48)
last_digit xs c = number-append xs (c ∷ []) ∙ omega arith

pub at_most_nine : (c : ℕ) → is_ascii_digit c ≡ true → c - 48 ≤ 9
at_most_nine c h = grind (arith, nat_tests)

pub front_more : (from i n m : ℕ) (bytes : List ℕ) → i < length bytes
    → is_ascii_digit (get_or bytes i 0) ≡ true
    → m ≡ n * 10 + (get_or bytes i 0 - 48) → IsFrontNumber from bytes i n
    → IsFrontNumber from bytes (i + 1) m
front_more from i n m bytes l h e f =
    let c = get_or bytes i 0 in
    record {
      digits = rw (take_more bytes i 0 l) (digits-append (take i bytes) (c ∷ [])
          ∙ rw (f.digits, h) refl);
      value = rw (take_more bytes i 0 l, last_digit (take i bytes) c, ten_times from i)
          (omega (arith, e, f.value));
      bound = rw (ten_times (from + 1) i) (omega (arith, e, f.bound, at_most_nine c h));
    }

pub front_fits : (from i n : ℕ) (bytes : List ℕ) → i < length bytes
    → (from + 1) * 10 ^ length bytes ≤ 10 ^ 18
    → IsFrontNumber from bytes i n → n * 10 + 10 ≤ 10 ^ 18
front_fits from i n bytes l h f =
    let p : 10 ^ (i + 1) ≤ 10 ^ length bytes = pow-le-pow_right (omega arith) (omega arith) in
    let m = mul-le (from + 1) (10 ^ (i + 1)) (from + 1) (10 ^ length bytes) (omega arith) p in
    omega (arith, ten_times (from + 1) i, m, f.bound)

pub whole_fits : (n : ℕ) → n ≤ 15 → (0 + 1) * 10 ^ n ≤ 10 ^ 18
whole_fits n h = let p : 10 ^ n ≤ 10 ^ 15 = pow-le-pow_right (omega arith) h in omega (arith, p)

pub decimals_fit : (w n : ℕ) → w < 10 ^ 15 → n ≤ 3 → (w + 1) * 10 ^ n ≤ 10 ^ 18
decimals_fit w n h k =
    let p : 10 ^ n ≤ 10 ^ 3 = pow-le-pow_right (omega arith) k in
    omega (arith, mul-le (w + 1) (10 ^ n) (10 ^ 15) (10 ^ 3) (omega arith) p)

pub whole_below : (n w : ℕ) (bytes : List ℕ) → n ≤ 15 → IsFrontNumber 0 bytes n w → w < 10 ^ 15
whole_below n w bytes h f =
    let p : 10 ^ n ≤ 10 ^ 15 = pow-le-pow_right (omega arith) h in omega (arith, p, f.bound)

-- Zeros behind them.

times_power : (a n : ℕ) → 1 ≤ a → n < a → (p : ℕ) → 1 ≤ p → n * p < a * p
times_power a n k h p l =
    omega (arith, mul-le (n + 1) p a p (omega arith) (omega arith), add-mul n 1 p)

pub zeros_fit : (w scale k n : ℕ) → n < (w + 1) * 10 ^ k → k ≤ scale → scale ≤ 3 → w < 10 ^ 15
    → n * 10 ^ (scale - k) < 10 ^ 18
zeros_fit w scale k n h l s b =
    let q = one-le-pow (scale - k) 10 (omega arith) in
    let t = times_power ((w + 1) * 10 ^ k) n (omega arith) h (10 ^ (scale - k)) q in
    let e : k + (scale - k) ≡ scale = omega arith in
    let p : 10 ^ k * 10 ^ (scale - k) ≡ 10 ^ scale = sym (pow-add 10 k (scale - k))
    ∙ ap (λ (i : ℕ). 10 ^ i) e in
    let m : (w + 1) * 10 ^ k * 10 ^ (scale - k)
    ≡ (w + 1) * 10 ^ scale = mul_assoc (w + 1) (10 ^ k) (10 ^ (scale - k))
    ∙ ap (λ (i : ℕ). (w + 1) * i) p in
    omega (arith, t, m, decimals_fit w scale b s)

pub whole_zeros_fit : (w scale : ℕ) → scale ≤ 3 → w < 10 ^ 15 → w * 10 ^ scale < 10 ^ 18
whole_zeros_fit w scale s b =
    let e : scale - 0 ≡ scale = omega arith in
    let t = zeros_fit w scale 0 w (omega arith) (omega arith) s b in
    rw e at t

-- The magnitude of a text that is cut at its point.

unsigned_is : (scale : ℕ) (bytes whole : List ℕ) (point : Option (List ℕ))
    → bytes ≡ whole ++ point_bytes point
    → is_digits whole ≡ true → all_ascii_digits whole ≡ true → has_decimals point ≡ true
    → unsigned_of scale bytes ≡ measured scale whole (decimals_in point)
unsigned_is scale bytes whole point e d a h =
    let w = whole_back whole point a in
    rw (e, w.0, w.1, d, h) refl

plain_magnitude : (scale : ℕ) (whole decimals : List ℕ) → length decimals ≤ scale
    → magnitude scale whole decimals ≡ (number whole * 10 ^ length decimals + number decimals)
    * 10 ^ (scale - length decimals)
plain_magnitude scale whole decimals h =
    rw (take_all scale decimals h, number-append whole decimals) refl

measured_plain : (scale m : ℕ) (whole decimals : List ℕ) → length decimals ≤ scale
    → m ≡ magnitude scale whole decimals → m < 10 ^ 18
    → measured scale whole decimals ≡ Ok m
measured_plain scale m whole decimals h e l =
    rw (← e, lt-ltb m (10 ^ 18) l, drop_of_length-le decimals h) refl

front_digits : (n : ℕ) (bytes : List ℕ) → 0 < n → n ≤ length bytes
    → all_ascii_digits (take n bytes) ≡ true → is_digits (take n bytes) ≡ true
front_digits zero bytes h k d = absurd (omega arith)
front_digits (suc n) [] h k d = absurd (omega arith)
front_digits (suc n) (c ∷ bytes) h k d = rw (lt-ltb 0 (suc (length (take n bytes))) (omega arith)) d

whole_magnitude : (scale w : ℕ) (whole : List ℕ) → w ≡ number whole
    → w * 10 ^ scale ≡ magnitude scale whole []
whole_magnitude scale w whole e =
    let z : scale - 0 ≡ scale = omega arith in
    rw (plain_magnitude scale whole [] (omega arith), z, e) (omega arith)

front_value : (n w : ℕ) (bytes : List ℕ) → IsFrontNumber 0 bytes n w → w ≡ number (take n bytes)
front_value n w bytes f = omega (arith, f.value)

-- digits alone
pub plain_whole : (scale n w m : ℕ) (bytes : List ℕ) → IsFrontNumber 0 bytes n w → 0 < n
    → n ≡ length bytes
    → m ≡ w * 10 ^ scale → m < 10 ^ 18 → unsigned_of scale bytes ≡ Ok m
plain_whole scale n w m bytes f h k e b =
    let whole = take n bytes in
    let d : drop n bytes ≡ [] = drop_of_length-le bytes (omega arith) in
    let t : bytes ≡ whole ++ [] = sym (take-append-drop n bytes)
    ∙ ap (λ (ds : List ℕ). whole ++ ds) d in
    let v : m ≡ magnitude scale whole [] = e
    ∙ whole_magnitude scale w whole (front_value n w bytes f) in
    unsigned_is scale bytes whole None t
    (front_digits n bytes h (omega arith) f.digits) f.digits refl
    ∙ measured_plain scale m whole [] (omega arith) v b

-- digits, a point and decimals
plain_point : (scale n w m : ℕ) (bytes decimals : List ℕ) → IsFrontNumber 0 bytes n w → 0 < n
    → n ≤ length bytes → drop n bytes ≡ 46 ∷ decimals
    → IsPlain scale w decimals m → m < 10 ^ 18 → unsigned_of scale bytes ≡ Ok m
plain_point scale n w m bytes decimals f h k e p b =
    let whole = take n bytes in
    let t : bytes ≡ whole ++ (46 ∷ decimals) = sym (take-append-drop n bytes)
    ∙ ap (λ (ds : List ℕ). whole ++ ds) e in
    let v : m ≡ magnitude scale whole decimals = p.value
    ∙ rw (plain_magnitude scale whole decimals p.within, ← front_value n w bytes f) refl in
    unsigned_is scale bytes whole (Some decimals) t
    (front_digits n bytes h k f.digits) f.digits p.digits
    ∙ measured_plain scale m whole decimals p.within v b

at_point : (n k : ℕ) (bytes : List ℕ) → n < length bytes → get_or bytes n 0 ≡ 46
    → k ≡ length bytes - (n + 1)
    → drop n bytes ≡ 46 ∷ take k (drop (n + 1) bytes)
at_point n k bytes l p e =
    rw (take_all k (drop (n + 1) bytes) (omega (arith, length-drop (n + 1) bytes)), add-one n)
    (drop-cons bytes n 0 l ∙ ap (λ (c : ℕ). c ∷ drop (suc n) bytes) p)

pub plain_if_some : (r : Option ℕ) (scale n w k : ℕ) (bytes : List ℕ) → IsFrontNumber 0 bytes n w
    → 0 < n → n < length bytes → get_or bytes n 0 ≡ 46
    → k ≡ length bytes - (n + 1) → IfSome r (λ m. IsPlain scale w (take k (drop (n + 1) bytes)) m)
    → IfSome r (λ m. m < 10 ^ 18)
    → IfSome r (λ m. unsigned_of scale bytes ≡ Ok m)
plain_if_some None scale n w k bytes f h l p e i b = tt
plain_if_some (Some m) scale n w k bytes f h l p e i b =
    plain_point scale n w m bytes (take k (drop (n + 1) bytes)) f h (omega arith)
    (at_point n k bytes l p e) i b

-- the decimals that were read to their end
pub plain_decimals : (scale n w written : ℕ) (decimals : List ℕ)
    → IsFrontNumber w decimals n written → n ≡ length decimals → 0 < n → n ≤ scale
    → IsPlain scale w decimals (written * 10 ^ (scale - n))
plain_decimals scale n w written decimals f e h k =
    let t : take n decimals ≡ decimals = take_all n decimals (omega arith) in
    let d : all_ascii_digits decimals ≡ true = ap all_ascii_digits (sym t) ∙ f.digits in
    record {
      digits = rw (lt-ltb 0 (length decimals) (omega arith)) d;
      within = omega arith;
      value = rw (← e)
          (ap (λ (i : ℕ). i * 10 ^ (scale - n)) (f.value
          ∙ ap (λ (ds : List ℕ). w * 10 ^ n + number ds) t));
    }
