-- The half-edges that begin at an event, as a list of numbers.
use Rattle.std.specs.Prelude.{ℕ, ◌+◌, ◌*◌, ◌^◌, ◌<◌, ◌≡◌, List, ◌++◌, length, map, slice_index}
use Rattle.half_edges.specs.HalfEdges.{HalfEdges}
use Rattle.half_edges.specs.Stars.{IsStar, IsLoose}
use Rattle.plane.specs.Faces.Halves.{number}
use Rattle.plane.specs.Faces.Classes.{starting_halves, ending_halves}

-- over the starting edges in their order, then under the ending ones in reverse order
abbrev pub fan_of : List ℕ → List ℕ → List ℕ
fan_of starting ending = map number (starting_halves starting ++ ending_halves ending)

-- both half-edges of each edge have a number of 32 bits
abbrev pub AreFew : List ℕ → Type 0
AreFew edges = (i : ℕ) → i < length edges → slice_index edges i < 2 ^ 31

-- the half-edges of the event are all that begin at one vertex, and none was linked with another
-- yet
pub record CanTurn (mesh : HalfEdges) (starting ending : List ℕ) : Type 0 where
  pub few_starting : AreFew starting
  pub few_ending : AreFew ending
  pub star : IsStar mesh (fan_of starting ending)
  pub loose : IsLoose mesh (fan_of starting ending)

-- the starting edges stand in the list
pub record IsOver (starting fan : List ℕ) (n : ℕ) : Type 0 where
  pub each : (i : ℕ) → i < n → slice_index fan i ≡ 2 * slice_index starting i + 1

-- the first n ending edges stand in the list, from its end on downwards
pub record IsUnder (ending fan : List ℕ) (n : ℕ) : Type 0 where
  pub each : (i j : ℕ) → j < n → i + j + 1 ≡ length fan
      → slice_index fan i ≡ 2 * slice_index ending j
