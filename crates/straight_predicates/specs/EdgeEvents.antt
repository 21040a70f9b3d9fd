-- The events of edges' ends by the edges' numbers, and the most edges of one event.
use Rattle.std.specs.Prelude.{◌≡◌, ◌≢◌, ℕ, ◌+◌, ◌<◌, ◌≤◌, List, length, slice_index_or}
use Rattle.plane.specs.declared.kinds.Edge.{Edge}
use Rattle.plane.specs.Lists.{Has}
use Rattle.plane.specs.Runs.Timetables.{Timed, no_event}
use Rattle.straight_predicates.specs.EdgeLists.{edge_of}

abbrev pub event_of : List Timed → ℕ → Timed
event_of table k = slice_index_or table k no_event

-- For each edge the number of the event at its low end, and that of the event at its high end,
-- which are two.
pub record AreEventsOf (edges : List Edge) (table : List Timed) (low high : List ℕ) : Type 0 where
  pub low_count : length low ≡ length edges
  pub high_count : length high ≡ length edges
  pub low_within : (e : ℕ) → e < length edges → slice_index_or low e 0 < length table
  pub high_within : (e : ℕ) → e < length edges → slice_index_or high e 0 < length table
  pub low_at : (e : ℕ) → e < length edges
      → (event_of table (slice_index_or low e 0)).at ≡ (edge_of edges e).low
  pub high_at : (e : ℕ) → e < length edges
      → (event_of table (slice_index_or high e 0)).at ≡ (edge_of edges e).high
  pub apart : (e : ℕ) → e < length edges → slice_index_or low e 0 ≢ slice_index_or high e 0

-- The entry of each of these edges became the event, and no other entry changed.
pub record IsNoted (edges : List ℕ) (event : ℕ) (old new : List ℕ) : Type 0 where
  pub noted : (e : ℕ) → Has e edges → slice_index_or new e 0 ≡ event
  pub others : (e : ℕ) → (Has e edges → ⊥) → slice_index_or new e 0 ≡ slice_index_or old e 0

-- Each edge of the first k events has its event.
pub record AreNoted (edges_at : Timed → List ℕ) (table : List Timed) (k : ℕ)
    (events : List ℕ) : Type 0 where
  pub each : (j e : ℕ) → j < k → Has e (edges_at (event_of table j)) → slice_index_or events e 0 ≡ j

-- The number of edges that end or start at the event.
abbrev pub width : Timed → ℕ
width t = length t.starting + length t.ending

-- The greatest width among the first k events, and 0 where there is none.
pub record IsWidest (table : List Timed) (k n : ℕ) : Type 0 where
  pub most : (j : ℕ) → j < k → width (event_of table j) ≤ n
  pub some : 0 < n → (j : ℕ) × (j < k) × (width (event_of table j) ≡ n)
