-- Points by their faces: which point is the first of a face, and which two share one.
use Rattle.std.specs.Prelude.{◌≡◌, ◌⊎◌, ℕ, suc, ◌<◌, Option, Some, None, List, length, slice_index}
use Rattle.area_search.specs.declared.settled.owners.Shared.{Shared}

-- Of the first k points, i is the first in its face.
pub record IsFirstOf (faces : List ℕ) (k f i : ℕ) : Type 0 where
  pub there : i < k
  pub face : slice_index faces i ≡ f
  pub first : (j : ℕ) → j < i → slice_index faces j ≡ f → ⊥

-- none of the first k points lies in the face
abbrev pub IsFree : List ℕ → ℕ → ℕ → Type 0
IsFree faces k f = (j : ℕ) → j < k → slice_index faces j ≡ f → ⊥

-- The entry of each face is one more than the first point in it, of the first k points; 0 where it
-- has none.
abbrev pub AreOwners : List ℕ → ℕ → List ℕ → Type 0
AreOwners faces k owners =
    (f : ℕ) → f < length owners
    → ((slice_index owners f ≡ 0) × IsFree faces k f)
    ⊎ ((i : ℕ) × (slice_index owners f ≡ suc i) × IsFirstOf faces k f i)

-- Points i and j, i the lesser one, lie in one face; j is one of the first k.
pub record Share (faces : List ℕ) (k i j : ℕ) : Type 0 where
  pub order : i < j
  pub there : j < k
  pub one : slice_index faces i ≡ slice_index faces j

-- of all that share a face, the least first one, and the least second one with it
pub record IsLeastShare (faces : List ℕ) (k i j : ℕ) : Type 0 where
  pub share : Share faces k i j
  pub no_first : (a b : ℕ) → a < i → Share faces k a b → ⊥
  pub no_second : (b : ℕ) → b < j → Share faces k i b → ⊥

abbrev pub AreShared : List ℕ → ℕ → Option Shared → Type 0
AreShared faces k None = (a b : ℕ) → Share faces k a b → ⊥
AreShared faces k (Some s) = IsLeastShare faces k s.first s.second
