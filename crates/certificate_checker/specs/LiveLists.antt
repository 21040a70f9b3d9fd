-- The live list of a replay.
use Rattle.std.specs.Prelude.{◌≡◌, ℕ, zero, suc, ◌+◌, ◌-◌, ◌*◌, ◌<◌, ◌≤◌, List, length}
use Rattle.std.specs.Prelude.{slice_index_or}
use Rattle.plane.specs.Runs.Timetables.{Timed, no_event}
use Rattle.straight_predicates.specs.Chunks.{joined}

-- The edges, and how many it has room for.
pub record Live : Type 0 where
  pub edges : List ℕ
  pub most : ℕ

-- There are blocks for the most edges, half a block each, and a spare list for as many.
pub record IsKept (bs : List (List ℕ)) (room count most : ℕ) : Type 0 where
  pub some : 0 < length bs
  pub size : count ≡ length (joined bs)
  pub spare : most ≤ room
  pub blocks : most ≤ 512 * length bs

-- How many edges are live after the first k events.
abbrev pub live_count : List Timed → ℕ → ℕ
live_count table zero = 0
live_count table (suc k) =
    live_count table k - length (slice_index_or table k no_event).ending
    + length (slice_index_or table k no_event).starting
