-- Timetables as lists of events, and the ends of edges from which they are made.
use Rattle.std.specs.Prelude.{◌≡◌, ◌⊎◌, ◌↔◌, ℕ, suc, ◌+◌, ◌<◌, ◌≤◌, true, false, cond, List, []}
use Rattle.std.specs.Prelude.{◌∷◌, ◌++◌, map, length, take, drop, slice_index_or}
use Rattle.std.specs.List.Sorted.{IsPermutation}
use Rattle.plane.specs.declared.kinds.Point.{Point}
use Rattle.plane.specs.declared.kinds.Edge.{Edge}
use Rattle.plane.specs.Lists.{Each, Has, Neighbours}
use Rattle.plane.specs.Forms.Vectors.{Before}
use Rattle.plane.specs.Runs.Timetables.{Timed, BySlope}
use Rattle.straight_predicates.specs.EdgeLists.{edge_of}
use Rattle.straight_predicates.specs.declared.slots.End.{End}
use Rattle.straight_predicates.specs.declared.slots.Slot.{Slot}
use Rattle.straight_predicates.specs.Slots.{AreSlots, IsSlot, slots_of, timed_at}
use Rattle.straight_predicates.specs.declared.timetable.Timetable.{Timetable}

-- The events of a timetable, with the edges of each.
abbrev pub table_of : Timetable → List Timed
table_of t = map (timed_at t.numbers.items) (slots_of t.stops.items)

-- The end is one of the edges' ends.
pub record IsEndOf (edges : List Edge) (z : End) : Type 0 where
  pub known : z.edge < length edges
  pub at : z.at ≡ cond z.starts (edge_of edges z.edge).low (edge_of edges z.edge).high

abbrev pub low_end : List Edge → ℕ → End
low_end edges e = record { at = (edge_of edges e).low; edge = e; starts = true }

abbrev pub high_end : List Edge → ℕ → End
high_end edges e = record { at = (edge_of edges e).high; edge = e; starts = false }

abbrev pub ends_of : ℕ → Edge → List End
ends_of e edge =
    record { at = edge.low; edge = e; starts = true }
    ∷ record { at = edge.high; edge = e; starts = false } ∷ []

-- All ends of edges, the first of which has number e.
abbrev pub all_ends : ℕ → List Edge → List End
all_ends e [] = []
all_ends e (edge ∷ edges) = ends_of e edge ++ all_ends (suc e) edges

-- By the point, and at one point by the edge's number.
abbrev pub ComesFirst : End → End → Type 0
ComesFirst y z = Before y.at z.at ⊎ ((y.at ≡ z.at) × (y.edge < z.edge))

-- Exactly the edges' ends, each once, in order.
pub record AreEndsOf (edges : List Edge) (ends : List End) : Type 0 where
  pub only : (z : End) → Has z ends → IsEndOf edges z
  pub all : (e : ℕ) → e < length edges → Has (low_end edges e) ends × Has (high_end edges e) ends
  pub rising : Neighbours ComesFirst ends
  pub size : length ends ≡ length edges + length edges

-- The first ends, of so many, are all that lie at the first one's point.
pub record IsGroup (ends : List End) (n : ℕ) : Type 0 where
  pub some : 0 < n
  pub within : n ≤ length ends
  pub one : (k : ℕ) (d : End) → k < n → (slice_index_or ends k d).at ≡ (slice_index_or ends 0 d).at
  pub next : (d : End) → n < length ends
      → (slice_index_or ends n d).at ≡ (slice_index_or ends 0 d).at → ⊥

-- The ends of one point, by number.
pub record IsGroupOf (edges : List Edge) (at : Point) (group : List End) : Type 0 where
  pub some : 0 < length group
  pub only : Each (λ (z : End). IsEndOf edges z × (z.at ≡ at)) group
  pub rising : Neighbours (λ (y z : End). y.edge < z.edge) group

-- The edges that end there and those that start there.
abbrev pub ending_of : List End → List ℕ
ending_of [] = []
ending_of (z ∷ zs) = cond z.starts (ending_of zs) (z.edge ∷ ending_of zs)

abbrev pub starting_of : List End → List ℕ
starting_of [] = []
starting_of (z ∷ zs) = cond z.starts (z.edge ∷ starting_of zs) (starting_of zs)

-- The numbers gained the edges that start, by slope.
pub record AddsStarting (edges : List Edge) (group : List End) (old new : List ℕ) : Type 0 where
  pub more : List ℕ
  pub numbers : new ≡ old ++ more
  pub permutation : IsPermutation (starting_of group) more
  pub by_slope : Neighbours (BySlope (edge_of edges)) more

-- The event holds exactly the edges whose ends are among these ends at its point, in order.
pub record IsTimedBy (E : ℕ → Edge) (ends : List End) (t : Timed) : Type 0 where
  pub starting : (e : ℕ)
      → Has e t.starting ↔ Has (record { at = t.at; edge = e; starts = true }) ends
  pub by_slope : Neighbours (BySlope E) t.starting
  pub ending : (e : ℕ) → Has e t.ending ↔ Has (record { at = t.at; edge = e; starts = false }) ends
  pub by_number : Neighbours (λ a b. a < b) t.ending

-- One event more was written, that of a group of ends.
pub record AddsEvent (E : ℕ → Edge) (group : List End) (old_slots : List Slot)
    (old_numbers : List ℕ) (new_slots : List Slot) (new_numbers : List ℕ) : Type 0 where
  pub slot : Slot
  pub more : List ℕ
  pub slots : new_slots ≡ old_slots ++ slot ∷ []
  pub numbers : new_numbers ≡ old_numbers ++ more
  pub size : length new_numbers ≡ length old_numbers + length group
  pub within : IsSlot (length new_numbers) slot
  pub at : (d : End) → slot.at ≡ (slice_index_or group 0 d).at
  pub timed : IsTimedBy E group (timed_at new_numbers slot)

-- The events so far are those of the ends that were passed, and come before all that are left.
pub record IsFilled (E : ℕ → Edge) (passed rest : List End) (table : List Timed) : Type 0 where
  pub rises : Neighbours Before (map (λ (t : Timed). t.at) table)
  pub left : (t : Timed) (z : End) → Has t table → Has z rest → Before t.at z.at
  pub timed : Each (IsTimedBy E passed) table
  pub all : (z : End) → Has z passed → (t : Timed) × Has t table × (t.at ≡ z.at)
  pub some : (t : Timed) → Has t table → (z : End) × Has z passed × (z.at ≡ t.at)

-- What writing the events keeps: the first i ends were passed.
pub record IsFilledTo (edges : List Edge) (ends : List End) (i : ℕ) (made : List Slot)
    (written : List ℕ) : Type 0 where
  pub within : i ≤ length ends
  pub table : IsFilled (edge_of edges) (take i ends) (drop i ends) (map (timed_at written) made)
  pub slots : AreSlots (length written) made
  pub numbers : length written ≡ i
  pub count : length made ≤ i
