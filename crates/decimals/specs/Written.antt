-- How a value is written: with exactly so many decimals as the scale has.
use Rattle.std.specs.Prelude.{◌≡◌, ℕ, ◌-◌, ◌/◌, ◌%◌, ◌^◌, ◌<◌, List, ◌++◌, length, replicate}
use Rattle.std.specs.Prelude.{decimal, ◌==◌, if◌then◌else◌, Option, Some, None, ℤ, pos, negsuc}
use Rattle.std.specs.Prelude.{unsigned_abs, slice_get}
use Rattle.decimals.specs.Numerals.{Sign, unsigned, plus, minus, Numeral, spelling}
use Rattle.decimals.specs.Scaled.{decimals_in, magnitude_of}

-- a minus before a value below 0, and no sign before another
abbrev pub written_sign : ℤ → Sign
written_sign (pos n) = unsigned
written_sign (negsuc n) = minus

-- a number in so many digits, with zeros in front
abbrev pub padded : ℕ → ℕ → List ℕ
padded digits n = replicate (digits - length (decimal n)) 48 ++ decimal n

-- the decimals after the point; at scale 0 there is no point
abbrev pub written_point : ℕ → ℕ → Option (List ℕ)
written_point scale decimals = if scale == 0 then None else Some (padded scale decimals)

-- a value in units of the last of `scale` decimals, as a number with exactly these decimals
abbrev pub numeral_of : ℤ → ℕ → Numeral
numeral_of value scale = record {
  sign = written_sign value;
  whole = decimal (unsigned_abs value / 10 ^ scale);
  point = written_point scale (unsigned_abs value % 10 ^ scale);
}

-- the bytes that are written
abbrev pub spelling_of : ℤ → ℕ → List ℕ
spelling_of value scale = spelling (numeral_of value scale)

-- the form of what is written: no plus, a minus only before another number than 0, no zero before
-- another whole digit, and exactly so many decimals
pub record IsInForm (scale : ℕ) (n : Numeral) : Type 0 where
  pub no_plus : n.sign ≡ plus → ⊥
  pub negative : n.sign ≡ minus → 0 < magnitude_of scale n
  pub whole : slice_get n.whole 0 ≡ Some 48 → length n.whole ≡ 1
  pub decimals : length (decimals_in n.point) ≡ scale
