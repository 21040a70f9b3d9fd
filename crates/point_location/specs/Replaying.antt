-- How far a replay has come.
use Rattle.std.specs.Prelude.{◌≡◌, ◌⊎◌, ℕ, ◌<◌, ◌≤◌, List, [], length, take, slice_index_or}
use Rattle.plane.specs.Lists.{Has}
use Rattle.plane.specs.Runs.Steps.{Step}
use Rattle.plane.specs.declared.kinds.Point.{Point}
use Rattle.plane.specs.Forms.Vectors.{Before}
use Rattle.plane.specs.Runs.Moves.{Move, live_from, no_move}

-- The first k events are applied.
pub record IsApplied (moves : List Move) (k : ℕ) (live : List ℕ) : Type 0 where
  pub known : k ≤ length moves
  pub values : live ≡ live_from [] (take k moves)

-- The first k events, and no others, come before the point, and they leave this live list.
pub record IsMoment (moves : List Move) (k : ℕ) (live : List ℕ) (at : Point) : Type 0 where
  pub known : k ≤ length moves
  pub values : live ≡ live_from [] (take k moves)
  pub passed : (j : ℕ) → j < k → Before (slice_index_or moves j no_move).at at
  pub coming : k < length moves → Before (slice_index_or moves k no_move).at at → ⊥

-- The edge ends or starts at the step.
abbrev pub EndsOrStarts : Step → ℕ → Type 0
EndsOrStarts s e = Has e s.ending ⊎ Has e s.starting
