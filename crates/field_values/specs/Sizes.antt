-- How large whole numbers are.
use Rattle.std.specs.Prelude.{ℕ, ℤ, pos, neg_ℤ, ◌<ℤ◌, ◌^◌}

-- z is below m and above -m
pub record IsWithin (m : ℕ) (z : ℤ) : Type 0 where
  pub low : neg_ℤ (pos m) <ℤ z
  pub high : z <ℤ pos m

-- a number of at most 18 digits
abbrev pub IsShort : ℤ → Type 0
IsShort z = IsWithin (10 ^ 18) z
