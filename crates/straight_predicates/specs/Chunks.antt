-- Lists in chunks.
use Rattle.std.specs.Prelude.{◌≡◌, ℕ, ◌+◌, ◌<◌, ◌≤◌, List, [], ◌∷◌, ◌++◌, length, take}
use Rattle.std.specs.Prelude.{slice_index_or}

-- The chunks one after another.
abbrev pub joined : {T : Type 0} → List (List T) → List T
joined [] = []
joined (b ∷ bs) = b ++ joined bs

-- The place of the list is that place of the chunk, and of its end only where it is the end of all.
pub record IsAt {T : Type 0} (chunks : List (List T)) (place chunk offset : ℕ) : Type 0 where
  pub known : chunk < length chunks
  pub is : length (joined (take chunk chunks)) + offset ≡ place
  pub within : offset ≤ length (slice_index_or chunks chunk [])
  pub inside : place < length (joined chunks) → offset < length (slice_index_or chunks chunk [])

-- The first number of a chunk.
abbrev pub first_of : List (List ℕ) → ℕ → ℕ
first_of chunks b = slice_index_or (slice_index_or chunks b []) 0 0
