-- Directions to the right.
use Rattle.std.specs.Prelude.{◌≡◌, ℤ, pos, ◌<ℤ◌, ◌≤ℤ◌}

-- To the right, or straight up.
pub record IsRightward (x y : ℤ) : Type 0 where
  pub least : pos 0 ≤ℤ x
  pub upright : x ≡ pos 0 → pos 0 <ℤ y
