-- Numbers with no more decimals than the scale has.
use Rattle.std.specs.Prelude.{◌≡◌, ℕ, ◌+◌, ◌-◌, ◌*◌, ◌^◌, ◌≤◌, ◌<◌, true, List, length, take}
use Rattle.std.specs.Str.{all_ascii_digits}
use Rattle.decimals.specs.Numerals.{is_digits, number}

-- so many bytes at the front are digits, and those of `from` and then these write this number
pub record IsFrontNumber (from : ℕ) (bytes : List ℕ) (count written : ℕ) : Type 0 where
  pub digits : all_ascii_digits (take count bytes) ≡ true
  pub value : written ≡ from * 10 ^ count + number (take count bytes)
  pub bound : written < (from + 1) * 10 ^ count

-- the magnitude of whole digits that write this number and of decimals: one or more, and no more
-- than the scale has
pub record IsPlain (scale whole : ℕ) (decimals : List ℕ) (magnitude : ℕ) : Type 0 where
  pub digits : is_digits decimals ≡ true
  pub within : length decimals ≤ scale
  pub value :
      magnitude ≡ (whole * 10 ^ length decimals + number decimals) * 10 ^ (scale - length decimals)
