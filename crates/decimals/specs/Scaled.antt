-- The value of a number at a scale: so many units of the scale's last decimal.
use Rattle.std.specs.Prelude.{◌≡◌, ℕ, ◌-◌, ◌*◌, ◌^◌, ◌<◌, ◌≤◌, Bool, true, false, ◌&&◌, List, []}
use Rattle.std.specs.Prelude.{◌++◌, length, take, drop, nat_lt, if◌then◌else◌, ◌==◌, Option, Some}
use Rattle.std.specs.Prelude.{None, Result, Ok, Err, ℤ, pos, neg_ℤ}
use Rattle.std.specs.List.{list_all}
use Rattle.decimals.specs.Numerals.{Sign, unsigned, plus, minus, Numeral, Spells, is_digits}
use Rattle.decimals.specs.Numerals.{has_decimals, number, sign_of, after_sign, whole_of, point_of}
use Rattle.decimals.specs.declared.DecimalFault.{DecimalFault}
use Rattle.decimals.specs.declared.DecimalFault.TheVariants.{NotNumber, TooLong, MoreDecimals}

-- the decimals that are written
abbrev pub decimals_in : Option (List ℕ) → List ℕ
decimals_in None = []
decimals_in (Some decimals) = decimals

-- the number without its sign and without its decimals past the scale; a decimal that is not
-- written counts as 0
abbrev pub magnitude : ℕ → List ℕ → List ℕ → ℕ
magnitude scale whole decimals =
    number (whole ++ take scale decimals) * 10 ^ (scale - length decimals)

-- each decimal past the scale is 0
abbrev pub is_exact : ℕ → List ℕ → Bool
is_exact scale decimals = list_all (λ digit. digit == 48) (drop scale decimals)

-- the number of that magnitude with the sign
abbrev pub with_sign : Sign → ℕ → ℤ
with_sign unsigned m = pos m
with_sign plus m = pos m
with_sign minus m = neg_ℤ (pos m)

-- What the bytes mean, in terms of a number that they spell.

-- the magnitude of a number as it is written
abbrev pub magnitude_of : ℕ → Numeral → ℕ
magnitude_of scale n = magnitude scale n.whole (decimals_in n.point)

-- v is the value: a number of at most 18 digits, each decimal past the scale 0
pub record HasValue (bytes : List ℕ) (scale : ℕ) (v : ℤ) : Type 0 where
  pub numeral : Numeral
  pub spelled : Spells bytes numeral
  pub short : magnitude_of scale numeral < 10 ^ 18
  pub exact : is_exact scale (decimals_in numeral.point) ≡ true
  pub value : v ≡ with_sign numeral.sign (magnitude_of scale numeral)

-- the bytes spell no number
abbrev pub SpellsNone : List ℕ → Type 0
SpellsNone bytes = (n : Numeral) → Spells bytes n → ⊥

-- a number of more than 18 digits, where neither zeros in front nor decimals past the scale count
pub record IsTooLong (bytes : List ℕ) (scale : ℕ) : Type 0 where
  pub numeral : Numeral
  pub spelled : Spells bytes numeral
  pub long : 10 ^ 18 ≤ magnitude_of scale numeral

-- a number of at most 18 digits, some decimal past the scale not 0
pub record HasMoreDecimals (bytes : List ℕ) (scale : ℕ) : Type 0 where
  pub numeral : Numeral
  pub spelled : Spells bytes numeral
  pub short : magnitude_of scale numeral < 10 ^ 18
  pub inexact : is_exact scale (decimals_in numeral.point) ≡ false

-- The same as a function of the bytes, cut at their sign and at their first point.

-- the magnitude of digits and decimals, or the first fault
abbrev pub measured : ℕ → List ℕ → List ℕ → Result ℕ DecimalFault
measured scale whole decimals =
    if nat_lt (magnitude scale whole decimals) (10 ^ 18)
    then (if is_exact scale decimals then Ok (magnitude scale whole decimals) else Err MoreDecimals)
    else Err TooLong

-- the magnitude of what stands after a sign, or the first fault
abbrev pub unsigned_of : ℕ → List ℕ → Result ℕ DecimalFault
unsigned_of scale bytes =
    if is_digits (whole_of bytes) && has_decimals (point_of bytes)
    then measured scale (whole_of bytes) (decimals_in (point_of bytes))
    else Err NotNumber

-- a magnitude with its sign; a fault stays the fault
abbrev pub signed : Sign → Result ℕ DecimalFault → Result ℤ DecimalFault
signed sign (Ok m) = Ok (with_sign sign m)
signed sign (Err fault) = Err fault

-- the value of the bytes at the scale, or the first fault
unfoldable pub scaled_of : List ℕ → ℕ → Result ℤ DecimalFault
scaled_of bytes scale = signed (sign_of bytes) (unsigned_of scale (after_sign bytes))
