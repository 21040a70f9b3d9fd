-- How a number is written: an optional sign, digits, and perhaps a point with digits after it.
use Rattle.std.specs.Prelude.{◌≡◌, ℕ, ◌+◌, ◌-◌, ◌*◌, ◌^◌, Bool, true, cond, ◌&&◌, List, [], ◌∷◌}
use Rattle.std.specs.Prelude.{◌++◌, length, drop, nat_lt, ◌==◌, Option, Some, None}
use Rattle.std.specs.Str.{all_ascii_digits}

-- a sign, written or not
pub data Sign : Type 0 where
  unsigned : Sign
  plus : Sign
  minus : Sign

-- the bytes of a sign
abbrev pub sign_bytes : Sign → List ℕ
sign_bytes unsigned = []
sign_bytes plus = 43 ∷ []
sign_bytes minus = 45 ∷ []

-- a point and what stands after it, or no point
abbrev pub point_bytes : Option (List ℕ) → List ℕ
point_bytes None = []
point_bytes (Some decimals) = 46 ∷ decimals

-- a number as it is written
pub record Numeral : Type 0 where
  pub sign : Sign
  pub whole : List ℕ
  -- what stands after the point, where there is one
  pub point : Option (List ℕ)

-- the bytes of a number as it is written
abbrev pub spelling : Numeral → List ℕ
spelling n = sign_bytes n.sign ++ (n.whole ++ point_bytes n.point)

-- one digit from 0 to 9 or more, and nothing else
abbrev pub is_digits : List ℕ → Bool
is_digits bytes = nat_lt 0 (length bytes) && all_ascii_digits bytes

-- where there is a point, digits stand after it
abbrev pub has_decimals : Option (List ℕ) → Bool
has_decimals None = true
has_decimals (Some decimals) = is_digits decimals

-- the bytes are the spelling of this number
pub record Spells (bytes : List ℕ) (n : Numeral) : Type 0 where
  pub text : bytes ≡ spelling n
  pub whole : is_digits n.whole ≡ true
  pub point : has_decimals n.point ≡ true

-- the number that digits write: each counts by its place
abbrev pub number : List ℕ → ℕ
number [] = 0
number (digit ∷ digits) = (digit - 48) * 10 ^ length digits + number digits

-- The parts of a text, read from left to right.

-- the sign at the front of bytes
abbrev pub sign_of : List ℕ → Sign
sign_of [] = unsigned
sign_of (c ∷ cs) = cond (c == 43) plus (cond (c == 45) minus unsigned)

-- the bytes after the sign
abbrev pub after_sign : List ℕ → List ℕ
after_sign bytes = drop (length (sign_bytes (sign_of bytes))) bytes

-- what stands before the first point, or all
abbrev pub whole_of : List ℕ → List ℕ
whole_of [] = []
whole_of (c ∷ cs) = cond (c == 46) [] (c ∷ whole_of cs)

-- what stands after the first point
abbrev pub point_of : List ℕ → Option (List ℕ)
point_of [] = None
point_of (c ∷ cs) = cond (c == 46) (Some cs) (point_of cs)

-- the text cut at its sign and at its first point
abbrev pub cut : List ℕ → Numeral
cut bytes =
    record {
      sign = sign_of bytes;
      whole = whole_of (after_sign bytes);
      point = point_of (after_sign bytes);
    }
