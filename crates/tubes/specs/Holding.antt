-- The points that a tube holds.
use Rattle.std.specs.Prelude.{◌≡◌, ℕ, suc, ◌<◌, List, [], ◌∷◌, length, get_or, pos, ◌≤ℤ◌}
use Rattle.plane.specs.Forms.Vectors.{Vector, point}
use Rattle.plane.specs.Rule.HalfArcs.{HalfArc}
use Rattle.plane.specs.Rule.Turns.{cross}
use Rattle.plane.specs.Tubes.Bays.{InTriangle, InTube, bays}
use Rattle.plane.specs.declared.kinds.Point.{Point}
use Rattle.straight_predicates.specs.Meetings.{AreClose}
use Rattle.tubes.specs.Making.{IsMade}
use Rattle.tubes.specs.declared.kinds.Tube.{Tube}

-- It is the tube of some half arc at some level.
abbrev pub IsSomeTube : Tube → Type 0
IsSomeTube t = (h : HalfArc) × (level : ℕ) × IsMade h level t

-- The place is in one of the triangles between the inner points, from the first one on, and the
-- outer points.
abbrev pub InTubeFrom : List Point → List Point → Vector → Type 0
InTubeFrom [] outer z = ⊥
InTubeFrom (v ∷ after) outer z = InTube v (bays after outer) z

abbrev pub InTubeOf : Tube → Vector → Type 0
InTubeOf t z = InTubeFrom t.inner.items t.outer.items z

-- The point of a number. Beyond the last one it is not meant.
abbrev pub nth : List Point → ℕ → Point
nth ps i = get_or ps i (record { x = pos 0; y = pos 0 })

-- The place is in the triangle of inner points i and i + 1 and the outer point over them.
abbrev pub InBay : List Point → List Point → Vector → ℕ → Type 0
InBay inner outer z i =
    InTriangle z (point (nth inner i)) (point (nth inner (suc i))) (point (nth outer i))

-- The place is in the triangle of outer points i and i + 1 and the inner point between them.
abbrev pub InGap : List Point → List Point → Vector → ℕ → Type 0
InGap inner outer z i =
    InTriangle z (point (nth inner (suc i))) (point (nth outer i)) (point (nth outer (suc i)))

abbrev pub InSomeBay : List Point → List Point → Vector → Type 0
InSomeBay inner outer z = (i : ℕ) × (i < length outer) × InBay inner outer z i

abbrev pub InSomeGap : List Point → List Point → Vector → Type 0
InSomeGap inner outer z = (i : ℕ) × (suc i < length outer) × InGap inner outer z i

-- The three points are not collinear, and all four are close to each other: turns can tell whether
-- the last is in their triangle.
pub record IsTurnable (p q r at : Point) : Type 0 where
  pub bent : cross p q r ≡ pos 0 → ⊥
  pub first : AreClose p q
  pub second : AreClose p r
  pub third : AreClose q r
  pub p_at : AreClose p at
  pub q_at : AreClose q at
  pub r_at : AreClose r at

pub record AreTurnable (inner outer : List Point) (at : Point) : Type 0 where
  pub sizes : length inner ≡ suc (length outer)
  pub bays : (i : ℕ) → i < length outer
      → IsTurnable (nth inner i) (nth inner (suc i)) (nth outer i) at
  pub gaps : (i : ℕ) → suc i < length outer
      → IsTurnable (nth inner (suc i)) (nth outer i) (nth outer (suc i)) at

-- The point is on the line of each side or to its left.
pub record IsLeftOfSides (p q r at : Point) : Type 0 where
  pub first : pos 0 ≤ℤ cross p q at
  pub second : pos 0 ≤ℤ cross q r at
  pub third : pos 0 ≤ℤ cross r p at
