-- Runs of digits.
use Rattle.std.proofs.Common.{◌≡◌, ℕ, ◌+◌, ◌-◌, ◌*◌, ◌^◌, ◌<◌, min, Bool, true}
use Rattle.std.proofs.Common.{false, cond, ◌&&◌, List, [], ◌∷◌, length, take, drop, get_or, refl}
use Rattle.std.proofs.Common.{arith, add-one}
use Rattle.std.proofs.Math.Seq.{drop-cons}
use Rattle.std.specs.Char.{is_ascii_digit, digit_value}
use Rattle.std.specs.Str.{all_ascii_digits}
use Rattle.std.specs.Str.Parse.{digits_value}
use Rattle.std.specs.List.{prefix_len}
use Rattle.std.proofs.lemmas.Grind.{common_steps}
use Rattle.std.proofs.lemmas.Bool.Decides.{nat_tests}
use Rattle.std.proofs.lemmas.Int.Digits.{digits_value_more}

pub both_true : (a b : Bool) → (a && b) ≡ true → (a ≡ true) × (b ≡ true)
both_true true b h = (refl, h)
both_true false b h = absurd (cc)

-- the digits at the front are digits
front_by_first : (c : ℕ) (bytes : List ℕ) (b : Bool) → is_ascii_digit c ≡ b
    → all_ascii_digits (take (prefix_len is_ascii_digit bytes) bytes) ≡ true
    → all_ascii_digits (take (cond b (1 + prefix_len is_ascii_digit bytes) 0) (c ∷ bytes)) ≡ true
front_by_first c bytes true e h = grind (arith, common_steps)
front_by_first c bytes false e h = refl

pub front_is_digits : (bytes : List ℕ)
    → all_ascii_digits (take (prefix_len is_ascii_digit bytes) bytes) ≡ true
front_is_digits [] = refl
front_is_digits (c ∷ bytes) = front_by_first c bytes (is_ascii_digit c) refl (front_is_digits bytes)

value_of_digit : (c : ℕ) → is_ascii_digit c ≡ true → digit_value c ≡ c - 48
value_of_digit c h = grind (arith, nat_tests)

-- one digit more
pub value_more : (ds : List ℕ) (i v : ℕ) → is_ascii_digit (get_or ds i 0) ≡ true → i < length ds
    → v ≡ min (digits_value 10 (take i ds)) (2 ^ 32)
    → min (v * 10 + (get_or ds i 0 - 48)) (2 ^ 32)
    ≡ min (digits_value 10 (take (i + 1) ds)) (2 ^ 32)
value_more ds i v h l e =
    let d : digit_value (get_or ds i 0) ≡ get_or ds i 0 - 48 = value_of_digit (get_or ds i 0) h in
    omega (arith, digits_value_more 10 ds i l, d, e)

-- digits at the front, up to a place and one more
pub prefix_more : (ds : List ℕ) (i : ℕ) → is_ascii_digit (get_or ds i 0) ≡ true → i < length ds
    → i + prefix_len is_ascii_digit (drop i ds) ≡ prefix_len is_ascii_digit ds
    → i + 1 + prefix_len is_ascii_digit (drop (i + 1) ds) ≡ prefix_len is_ascii_digit ds
prefix_more ds i h l e =
    let d : prefix_len is_ascii_digit (drop i ds)
    ≡ 1 + prefix_len is_ascii_digit (drop (i + 1) ds) =
    rw (drop-cons ds i 0 l, h, add-one i) refl in
    omega (arith, d, e)
