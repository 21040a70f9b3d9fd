-- Points in order, with their numbers.
use Rattle.std.specs.Prelude.{◌≡◌, ℕ, suc, ◌<◌, List, length, slice_index_or}
use Rattle.plane.specs.declared.kinds.Point.{Point}
use Rattle.plane.specs.Forms.Vectors.{Before}
use Rattle.straight_predicates.specs.EdgeLists.{no_point}
use Rattle.point_location.specs.declared.numbered.Numbered.{Numbered}

abbrev pub nothing : Numbered
nothing = record { at = no_point; number = 0 }

-- All points, each with its number, and none comes before the one that stands before it.
pub record IsInOrder (points : List Point) (order : List Numbered) : Type 0 where
  pub known : (i : ℕ) → i < length order → (slice_index_or order i nothing).number < length points
  pub is : (i : ℕ) → i < length order
      → (slice_index_or order i nothing).at
      ≡ slice_index_or points (slice_index_or order i nothing).number no_point
  pub all : (j : ℕ) → j < length points
      → (i : ℕ) × (i < length order) × ((slice_index_or order i nothing).number ≡ j)
  pub rising : (i : ℕ) → suc i < length order
      → Before (slice_index_or order (suc i) nothing).at (slice_index_or order i nothing).at → ⊥
