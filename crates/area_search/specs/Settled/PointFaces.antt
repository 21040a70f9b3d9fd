-- Points by their faces, and edges under their places.
use Rattle.std.specs.Prelude.{◌≡◌, ℕ, ◌<◌, Option, Some, None, List, length, slice_index, ⊤}

-- the edge under the place is one of the first m
abbrev pub IsOver : ℕ → Option ℕ → Type 0
IsOver m None = ⊤
IsOver m (Some e) = e < m

-- the first point in face 0
abbrev pub IsFirstOutside : List ℕ → Option ℕ → Type 0
IsFirstOutside faces None = (j : ℕ) → j < length faces → slice_index faces j ≡ 0 → ⊥
IsFirstOutside faces (Some p) =
    (p < length faces) × (slice_index faces p ≡ 0) × ((j : ℕ) → j < p → slice_index faces j ≡ 0 → ⊥)
