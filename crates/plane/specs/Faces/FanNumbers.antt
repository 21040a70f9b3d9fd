-- The half-edges round an event by their numbers, and the turn about it by a list of next numbers,
-- as a mesh keeps them.
use Rattle.std.specs.Prelude.{◌≡◌, ℕ, zero, suc, ◌+◌, ◌-◌, ◌*◌, ◌%◌, ◌<◌, List, map, length}
use Rattle.std.specs.Prelude.{slice_index}
use Rattle.plane.specs.Runs.Steps.{Step}
use Rattle.plane.specs.Faces.Halves.{number}
use Rattle.plane.specs.Faces.Classes.{fan}

-- the number of the other half-edge of the same edge: n + 1 where n is even, n - 1 where it is odd
abbrev pub twin_number : ℕ → ℕ
twin_number n = n + 1 - 2 * (n % 2)

-- the numbers of the half-edges that start at the step's event, counterclockwise from the direction
-- straight down
abbrev pub fan_numbers : Step → List ℕ
fan_numbers s = map number (fan s)

-- the place before k in a circle of n places: the last one comes before the first
abbrev pub place_before : ℕ → ℕ → ℕ
place_before n zero = n - 1
place_before n (suc k) = k

-- the turn, from a half-edge to the next one of its twin, goes through the list from the end, and
-- from the first to the last
abbrev pub TurnsRound : (ℕ → ℕ) → List ℕ → Type 0
TurnsRound next around =
    (k : ℕ) → k < length around
    → next (twin_number (slice_index around k))
    ≡ slice_index around (place_before (length around) k)
