-- A place on the straight between two places, in the words of turns and dot products.
use Rattle.std.specs.Prelude.{◌≡◌, ℤ, pos, ◌+ℤ◌, ◌*ℤ◌, ◌-ℤ◌, ◌≤ℤ◌}
use Rattle.plane.specs.Rule.Places.{Vector}

-- The turn from a over b to z, times positive numbers.
abbrev pub turn : Vector → Vector → Vector → ℤ
turn a b z =
    (((b.x *ℤ a.n) -ℤ (a.x *ℤ b.n)) *ℤ ((z.y *ℤ a.n) -ℤ (a.y *ℤ z.n)))
    -ℤ (((b.y *ℤ a.n) -ℤ (a.y *ℤ b.n)) *ℤ ((z.x *ℤ a.n) -ℤ (a.x *ℤ z.n)))

-- The dot product of a - z and b - z, times positive numbers.
abbrev pub dot : Vector → Vector → Vector → ℤ
dot a b z =
    (((a.x *ℤ z.n) -ℤ (z.x *ℤ a.n)) *ℤ ((b.x *ℤ z.n) -ℤ (z.x *ℤ b.n)))
    +ℤ (((a.y *ℤ z.n) -ℤ (z.y *ℤ a.n)) *ℤ ((b.y *ℤ z.n) -ℤ (z.y *ℤ b.n)))

-- A place z is on the straight from a to b where the turn of a, b, z is 0 and the dot product of a
-- - z and b - z is at most 0.
pub record IsOnStraight (a b z : Vector) : Type 0 where
  pub line : turn a b z ≡ pos 0
  pub between : dot a b z ≤ℤ pos 0
