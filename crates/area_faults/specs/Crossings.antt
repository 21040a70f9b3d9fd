-- The place in which two straights cross.
use Rattle.std.specs.Prelude.{ℤ, pos, ◌+ℤ◌, ◌*ℤ◌, ◌<ℤ◌, ◌≤ℤ◌}
use Rattle.plane.specs.Rule.MeetingPlaces.{IsInUnit}
use Rattle.plane.specs.Rule.Places.{Vector, Place, point}
use Rattle.plane.specs.Rule.Straights.{IsOnStraight}
use Rattle.plane.specs.declared.kinds.Point.{Point}

-- The place is on the straights from a to b and from e to f.
pub record IsOnBoth (a b e f : Point) (z : Vector) : Type 0 where
  pub place : Place z
  pub first : IsOnStraight (point a) (point b) z
  pub second : IsOnStraight (point e) (point f) z

-- Some place is.
abbrev pub SharePlace : Point → Point → Point → Point → Type 0
SharePlace a b e f = (z : Vector) × IsOnBoth a b e f z

-- Each such place is in the unit square of which the point is the lower left corner.
abbrev pub IsUnitOf : Point → Point → Point → Point → Point → Type 0
IsUnitOf a b e f p = (z : Vector) → IsOnBoth a b e f z → IsInUnit p z

-- m is from + step part / turn, rounded down.
pub record IsRounded (from step part turn m : ℤ) : Type 0 where
  pub least : (m *ℤ turn) ≤ℤ ((from *ℤ turn) +ℤ (step *ℤ part))
  pub most : ((from *ℤ turn) +ℤ (step *ℤ part)) <ℤ ((m +ℤ pos 1) *ℤ turn)
