-- The events of a timetable by their slots.
use Rattle.std.specs.Prelude.{ℕ, ◌-◌, ◌<◌, ◌≤◌, List, [], ◌∷◌, length, take, drop, slice_index_or}
use Rattle.plane.specs.Runs.Timetables.{Timed}
use Rattle.straight_predicates.specs.declared.slots.Slot.{Slot}
use Rattle.straight_predicates.specs.declared.stops.Stop.{Stop}

-- The numbers from one place of a list up to another.
abbrev pub part_of : List ℕ → ℕ → ℕ → List ℕ
part_of numbers from upto = take (upto - from) (drop from numbers)

abbrev pub timed_at : List ℕ → Slot → Timed
timed_at numbers s =
    record {
      at = s.at;
      ending = part_of numbers s.from s.middle;
      starting = part_of numbers s.middle s.upto;
    }

-- The slot's parts lie in a list of so many numbers.
pub record IsSlot (size : ℕ) (s : Slot) : Type 0 where
  pub first : s.from ≤ s.middle
  pub second : s.middle ≤ s.upto
  pub last : s.upto ≤ size

abbrev pub AreSlots : ℕ → List Slot → Type 0
AreSlots size slots = (k : ℕ) (d : Slot) → k < length slots → IsSlot size (slice_index_or slots k d)

-- The slots of events whose edges begin at this place.
abbrev pub slots_from : ℕ → List Stop → List Slot
slots_from from [] = []
slots_from from (s ∷ stops) =
    record { at = s.at; from = from; middle = s.middle; upto = s.upto } ∷ slots_from s.upto stops

-- The slots of all events of a timetable.
abbrev pub slots_of : List Stop → List Slot
slots_of stops = slots_from 0 stops

-- The place after the edges of events whose edges begin at this place.
abbrev pub end_from : ℕ → List Stop → ℕ
end_from from [] = from
end_from from (s ∷ stops) = end_from s.upto stops

-- The place after the edges of all events of a timetable.
abbrev pub end_of_stops : List Stop → ℕ
end_of_stops stops = end_from 0 stops
