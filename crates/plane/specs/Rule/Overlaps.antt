-- The overlap that a drawing permits.
use Rattle.std.specs.Prelude.{ℤ, pos, ◌^◌, ◌≤ℤ◌}

-- A permitted overlap, in units.
pub record IsTolerance (t : ℤ) : Type 0 where
  pub least : pos 0 ≤ℤ t
  pub most : t ≤ℤ pos (2 ^ 20)
