-- Half-edges round a point, counterclockwise from the direction straight down.
-- The next half-edge is the first one clockwise after another, in this order read backwards and
-- round.
use Rattle.std.specs.Prelude.{◌≡◌, ℕ, ◌<◌, ◌⊎◌, ℤ, pos, ◌*ℤ◌, ◌-ℤ◌, ◌<ℤ◌}
use Rattle.plane.specs.declared.kinds.Point.{Point}
use Rattle.plane.specs.Forms.Vectors.{Edge}
use Rattle.plane.specs.Faces.Halves.{Half, under, over, edge_of}

-- a way in the plane
pub record Direction : Type 0 where
  pub x : ℤ
  pub y : ℤ

-- the point where the half-edge starts
abbrev pub origin : (ℕ → Edge) → Half → Point
origin E (under e) = (E e).high
origin E (over e) = (E e).low

-- the way from the start of a half-edge to its end
abbrev pub direction : (ℕ → Edge) → Half → Direction
direction E (under e) = record { x = (E e).low.x -ℤ (E e).high.x; y = (E e).low.y -ℤ (E e).high.y }
direction E (over e) = record { x = (E e).high.x -ℤ (E e).low.x; y = (E e).high.y -ℤ (E e).low.y }

-- to the right or straight up
abbrev pub IsRight : Direction → Type 0
IsRight a = (pos 0 <ℤ a.x) ⊎ ((a.x ≡ pos 0) × (pos 0 <ℤ a.y))

-- to the left or straight down
abbrev pub IsLeft : Direction → Type 0
IsLeft a = (a.x <ℤ pos 0) ⊎ ((a.x ≡ pos 0) × (a.y <ℤ pos 0))

-- b is left of a
abbrev pub TurnsLeft : Direction → Direction → Type 0
TurnsLeft a b = pos 0 <ℤ ((a.x *ℤ b.y) -ℤ (a.y *ℤ b.x))

-- a comes before b
abbrev pub Precedes : Direction → Direction → Type 0
Precedes a b =
    (IsRight a × IsLeft b) ⊎ (((IsRight a × IsRight b) ⊎ (IsLeft a × IsLeft b)) × TurnsLeft a b)

-- g comes before h, by their directions
abbrev pub Comes : (ℕ → Edge) → Half → Half → Type 0
Comes E g h = Precedes (direction E g) (direction E h)

-- of the half-edges x that start where t starts, g is the first one clockwise after t: it is the
-- last one before t, or, where t is the first of all, the last of all
pub record IsClockwiseNext (m : ℕ) (E : ℕ → Edge) (t g : Half) : Type 0 where
  pub start : origin E g ≡ origin E t
  pub turn : (Comes E g t
      × ((x : Half) → edge_of x < m → origin E x ≡ origin E t
      → ((x ≡ g) ⊎ Comes E x g) ⊎ ((x ≡ t) ⊎ Comes E t x)))
      ⊎ ((x : Half) → edge_of x < m → origin E x ≡ origin E t
      → ((x ≡ g) ⊎ Comes E x g) × ((x ≡ t) ⊎ Comes E t x))
