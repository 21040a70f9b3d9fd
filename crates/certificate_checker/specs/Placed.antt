-- Points by x, then y, and how far they were placed.
use Rattle.std.specs.Prelude.{◌≡◌, ◌↔◌, ◌⊎◌, ℕ, suc, ◌<◌, ◌≤◌, pos, min, Bool, Option, Some, None}
use Rattle.std.specs.Prelude.{List, [], ◌∷◌, length, get_or}
use Rattle.plane.specs.declared.kinds.Placed.{Placed}
use Rattle.plane.specs.declared.kinds.Point.{Point}
use Rattle.plane.specs.Faces.Halves.{Beside, Half}
use Rattle.plane.specs.Forms.Vectors.{Before}
use Rattle.certificate_checker.specs.declared.state.Spot.{Spot}
use Rattle.certificate_checker.specs.Marked.{IsMarked}
use Rattle.certificate_checker.specs.Rules.{IsInOwnCell, IsPointPlaced}
use Rattle.certificate_checker.specs.Subjects.{Subject, event, point_in, replay_of, sector_of}

abbrev pub spot_at : List Spot → ℕ → Spot
spot_at spots i = get_or spots i (record { at = record { x = pos 0; y = pos 0 }; number = 0 })

-- the points with their numbers, the first of which is j
abbrev pub spots_from : ℕ → List Placed → List Spot
spots_from j [] = []
spots_from j (p ∷ points) = record { at = p.at; number = j } ∷ spots_from (suc j) points

-- the spot is a point with its number
pub record IsPointOf (points : List Placed) (spot : Spot) : Type 0 where
  pub known : spot.number < length points
  pub at : spot.at ≡ point_in points spot.number

-- all points, each with its number, by x, then y
pub record AreSpots (points : List Placed) (spots : List Spot) : Type 0 where
  pub known : (i : ℕ) → i < length spots → IsPointOf points (spot_at spots i)
  pub all : (j : ℕ) → j < length points
      → (i : ℕ) × (i < length spots) × ((spot_at spots i).number ≡ j)
  pub order : (i j : ℕ) → i ≤ j → j < length spots
      → Before (spot_at spots j).at (spot_at spots i).at → ⊥

-- the point comes after the next event, if there is one
abbrev pub IsAfter : Option Point → Point → Type 0
IsAfter None p = ⊥
IsAfter (Some v) p = Before v p

-- all spots from n on come after event k; where there is none, none is left
abbrev pub IsLater : Subject → ℕ → ℕ → List Spot → Type 0
IsLater s k n spots =
    (i : ℕ) → n ≤ i → i < length spots
    → (k < length s.table) × Before (event s k).at (spot_at spots i).at

-- point j is in the cell where it is placed, and the half-edge bounds it
abbrev pub OfPoint : Subject → ℕ → Half → Type 0
OfPoint s j h = IsInOwnCell s j × Beside (replay_of s) h (sector_of s j)

-- the least bad point stays, or it is at most point j, which is not where it is placed
abbrev pub IsWorse : Subject → ℕ → ℕ → ℕ → Type 0
IsWorse s j old new =
    (IsPointPlaced s j × (new ≡ old)) ⊎ ((IsPointPlaced s j → ⊥) × (new ≡ min old j))

-- point j is where it is placed, or it is not and the least bad point is not after it
abbrev pub IsJudgedPoint : Subject → ℕ → ℕ → Type 0
IsJudgedPoint s bad j = IsPointPlaced s j ⊎ ((IsPointPlaced s j → ⊥) × (bad ≤ j))

-- one of the first n spots is a point in the cell where it is placed, and the half-edge bounds it
abbrev pub OfSpots : Subject → List Spot → ℕ → Half → Type 0
OfSpots s spots n h = (i : ℕ) × (i < n) × OfPoint s (spot_at spots i).number h

-- The first k events are passed, and so are exactly the first n spots; those that are left come
-- after these events.
pub record ArePlacedTo (s : Subject) (k n bad : ℕ) (spots : List Spot)
    (marks : List Bool) : Type 0 where
  pub sorted : AreSpots s.points spots
  pub within : n ≤ length spots
  pub later : (i j : ℕ) → n ≤ i → i < length spots → j < k
      → Before (event s j).at (spot_at spots i).at
  pub judged : (i : ℕ) → i < n → IsJudgedPoint s bad (spot_at spots i).number
  pub most : bad ≤ length s.points
  pub unplaced : bad < length s.points → IsPointPlaced s bad → ⊥
  pub size : length marks ≡ length s.claims.notes
  pub each : (h : Half) → IsMarked marks h ↔ OfSpots s spots n h
