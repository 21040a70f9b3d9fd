-- What is noted of the events of a run, for a mesh of them.
use Rattle.std.specs.Prelude.{◌≡◌, ℕ, ◌+◌, ◌<◌, ◌≤◌, List, length, slice_index, slice_index_or}
use Rattle.event_mesh.specs.Turned.{nth_step}
use Rattle.plane.specs.Lists.{Has}
use Rattle.plane.specs.Runs.Moves.{Move, no_move}
use Rattle.plane.specs.Runs.Steps.{Run, Step}
use Rattle.plane.specs.declared.kinds.Edge.{Edge}
use Rattle.area_search.specs.declared.settled.meshing.Noted.{Noted}

-- The steps are a complete run over some edges, which are so many.
abbrev pub HasEdges : ℕ → List Step → Type 0
HasEdges m steps = (E : ℕ → Edge) × Run m E steps

-- The number of edges that start or end at the event.
abbrev pub width : Move → ℕ
width v = length v.starting + v.ending

-- The greatest width among the first k events, and 0 where there is none.
pub record IsWidest (moves : List Move) (k n : ℕ) : Type 0 where
  pub most : (j : ℕ) → j < k → width (slice_index_or moves j no_move) ≤ n
  pub some : 0 < n → (j : ℕ) × (j < k) × (width (slice_index_or moves j no_move) ≡ n)

-- Of m edges each that starts or ends at one of the first k steps has the number of that step.
pub record HasNoted (m : ℕ) (steps : List Step) (k : ℕ) (noted : Noted) : Type 0 where
  pub low_count : length noted.low.items ≡ m
  pub high_count : length noted.high.items ≡ m
  pub low : (j e : ℕ) → j < k → Has e (nth_step steps j).starting
      → slice_index noted.low.items e ≡ j
  pub high : (j e : ℕ) → j < k → Has e (nth_step steps j).ending
      → slice_index noted.high.items e ≡ j
