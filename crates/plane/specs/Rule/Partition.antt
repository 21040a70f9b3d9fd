-- When a drawing is a partition: its bounded faces and its objects' points belong to each other,
-- one to one.
use Rattle.std.specs.Prelude.{◌≡◌, ◌⊎◌, ℕ, ◌<◌, ℤ, ◌*ℤ◌, ◌<ℤ◌, List, ◌∷◌, length}
use Rattle.plane.specs.Lists.{Each, Last, Neighbours}
use Rattle.plane.specs.Rule.Places.{Vector, Place, Same, point}
use Rattle.plane.specs.Rule.Curves.{IsOn, Hits}
use Rattle.plane.specs.Rule.Triangles.{Apart}
use Rattle.plane.specs.Rule.Plans.{Plan, curve, object}

-- The place is on no curve of the drawing.
abbrev pub IsOff : Plan → Vector → Type 0
IsOff d z = (i : ℕ) → i < length d.curves → IsOn (curve d i) z → ⊥

-- The segment from p to q hits no curve of the drawing.
abbrev pub IsClear : Plan → Vector → Vector → Type 0
IsClear d p q = (i : ℕ) → i < length d.curves → Hits (curve d i) p q → ⊥

-- Two places are joined where a list of places begins with p and ends with q, up to equality of
-- places, no place of the list is on a curve, and no segment between neighbours of the list hits a
-- curve.
pub record Joined (d : Plan) (p q : Vector) : Type 0 where
  pub first : Vector
  pub rest : List Vector
  pub begins : Same p first
  pub ends : Last (λ z. Same z q) (first ∷ rest)
  pub places : Each (λ z. Place z × IsOff d z) (first ∷ rest)
  pub clear : Neighbours (IsClear d) (first ∷ rest)

-- A place is outer where, for every whole number, it is joined to some place whose x is less.
abbrev pub IsOuter : Plan → Vector → Type 0
IsOuter d p = (b : ℤ) → (q : Vector) × Place q × Joined d p q × (q.x <ℤ (b *ℤ q.n))

-- A drawing is a partition where all five hold.
pub record IsPartition (d : Plan) : Type 0 where
  -- Every two curves of different numbers are apart.
  pub apart : (i j : ℕ) → i < length d.curves → j < length d.curves → (i ≡ j → ⊥)
      → Apart (curve d i) (curve d j)
  -- No object's point is on a curve.
  pub off : (j : ℕ) → j < length d.points → IsOff d (point (object d j))
  -- No object's point is outer.
  pub bounded : (j : ℕ) → j < length d.points → IsOuter d (point (object d j)) → ⊥
  -- No two objects' points of different numbers are joined.
  pub alone : (i j : ℕ) → i < length d.points → j < length d.points → (i ≡ j → ⊥)
      → Joined d (point (object d i)) (point (object d j)) → ⊥
  -- Every place that is on no curve is outer or joined to an object's point.
  pub filled : (z : Vector) → Place z → IsOff d z
      → IsOuter d z ⊎ ((j : ℕ) × (j < length d.points) × Joined d z (point (object d j)))
