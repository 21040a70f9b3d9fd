-- The timetable of edges: their ends by x, then y, and at each of them the edges that end and that
-- start there.
-- It is the one unknown of a replay besides the positions, and the edges give it: two timetables of
-- the same edges are equal.
use Rattle.std.specs.Prelude.{◌≡◌, ◌↔◌, ◌⊎◌, ℕ, suc, ◌+◌, ◌<◌, ◌≤◌, pos, ◌<ℤ◌, List, [], ◌∷◌, map}
use Rattle.std.specs.Prelude.{length, take, drop, get_or}
use Rattle.plane.specs.declared.kinds.Point.{Point}
use Rattle.plane.specs.Lists.{Each, Neighbours, Has}
use Rattle.plane.specs.Forms.Vectors.{Edge}
use Rattle.plane.specs.Runs.Positions.{turn_at}
use Rattle.plane.specs.Runs.Moves.{Move}
use Rattle.plane.specs.Runs.Sweeps.{IsEventList}

-- an event, with the edges that end and that start there
pub record Timed : Type 0 where
  pub at : Point
  pub ending : List ℕ
  pub starting : List ℕ

-- of two edges with one low end: b turns left from a, or it goes the same way and has the greater
-- number
abbrev pub BySlope : (ℕ → Edge) → ℕ → ℕ → Type 0
BySlope E a b = (pos 0 <ℤ turn_at E a (E b).high) ⊎ ((turn_at E a (E b).high ≡ pos 0) × (a < b))

-- exactly the edges of the point with numbers below m, each once: the starting ones by slope, the
-- ending ones by number
pub record IsTimed (m : ℕ) (E : ℕ → Edge) (t : Timed) : Type 0 where
  pub starting : (e : ℕ) → Has e t.starting ↔ ((e < m) × ((E e).low ≡ t.at))
  pub by_slope : Neighbours (BySlope E) t.starting
  pub ending : (e : ℕ) → Has e t.ending ↔ ((e < m) × ((E e).high ≡ t.at))
  pub by_number : Neighbours (λ a b. a < b) t.ending

-- the events are exactly the ends of the edges, by x, then y, and each has its edges
pub record IsTimetable (m : ℕ) (E : ℕ → Edge) (table : List Timed) : Type 0 where
  pub events : IsEventList m E (map (λ (t : Timed). t.at) table)
  pub timed : Each (IsTimed m E) table

-- the moves of a timetable at these positions
abbrev pub move_at : Timed → ℕ → Move
move_at t p = record { at = t.at; position = p; ending = length t.ending; starting = t.starting }

-- the moves of a whole timetable at these positions
abbrev pub moves_at : List Timed → List ℕ → List Move
moves_at [] positions = []
moves_at (t ∷ table) [] = []
moves_at (t ∷ table) (p ∷ positions) = move_at t p ∷ moves_at table positions

-- an event beyond the last one; it is not meant
abbrev pub no_event : Timed
no_event = record { at = record { x = pos 0; y = pos 0 }; ending = []; starting = [] }

-- the tests of an event at a position of the live list: a block of as many edges as end there, each
-- of which does, the edge before it strictly below the event, the edge after it strictly above,
-- and the starting edges strictly by slope
pub record PassesAt (E : ℕ → Edge) (now : List ℕ) (t : Timed) (p : ℕ) : Type 0 where
  pub block : (p + length t.ending) ≤ length now
  pub ends : (e : ℕ) → Has e (take (length t.ending) (drop p now)) → (E e).high ≡ t.at
  pub below : (i : ℕ) → p ≡ suc i → pos 0 <ℤ turn_at E (get_or now i 0) t.at
  pub above : (p + length t.ending) < length now
      → turn_at E (get_or now (p + length t.ending) 0) t.at <ℤ pos 0
  pub slopes : (i : ℕ) → suc i < length t.starting
      → pos 0 <ℤ turn_at E (get_or t.starting i 0) (E (get_or t.starting (suc i) 0)).high
