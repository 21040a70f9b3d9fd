-- The slots of a list of stops.
use Rattle.std.proofs.Common.{◌≡◌, ℕ, zero, suc, ◌<◌, List, [], ◌∷◌, ◌++◌, length, get_or}
use Rattle.std.proofs.Common.{◌-◌, map, refl, arith, ap, sym, ◌∙◌, subst}
use Rattle.std.proofs.lemmas.List.{get_or-map, length-map}
use Rattle.plane.specs.Runs.Timetables.{Timed}
use Rattle.straight_predicates.specs.Slots.{AreSlots, IsSlot, end_from, slots_from, timed_at}
use Rattle.straight_predicates.specs.declared.slots.Slot.{Slot}
use Rattle.straight_predicates.specs.declared.stops.Stop.{Stop}

pub slots_length : (from : ℕ) (stops : List Stop) → length (slots_from from stops) ≡ length stops
slots_length from [] = refl
slots_length from (s ∷ stops) = let r = slots_length s.upto stops in omega (arith, r)

pub slots_push : (from : ℕ) (stops : List Stop) (s : Stop)
    → slots_from from (stops ++ s ∷ [])
    ≡ slots_from from stops
    ++ record { at = s.at; from = end_from from stops; middle = s.middle; upto = s.upto } ∷ []
slots_push from [] s = refl
slots_push from (t ∷ stops) s =
    ap (λ (ss : List Slot). record {
      at = t.at;
      from = from;
      middle = t.middle;
      upto = t.upto;
    } ∷ ss) (slots_push t.upto stops s)

pub end_push : (from : ℕ) (stops : List Stop) (s : Stop) → end_from from (stops ++ s ∷ []) ≡ s.upto
end_push from [] s = refl
end_push from (t ∷ stops) s = end_push t.upto stops s

-- the first slot begins at the place, and each other one where the one before ends
pub first_slot : (from : ℕ) (stops : List Stop) (e : Stop) (d : Slot) → 0 < length stops
    → get_or (slots_from from stops) 0 d
    ≡ record {
      at = (get_or stops 0 e).at;
      from = from;
      middle = (get_or stops 0 e).middle;
      upto = (get_or stops 0 e).upto;
    }
first_slot from [] e d l = absurd (omega (arith, l))
first_slot from (s ∷ stops) e d l = refl

pub next_slot : (from k : ℕ) (stops : List Stop) (e : Stop) (d : Slot) → suc k < length stops
    → get_or (slots_from from stops) (suc k) d
    ≡ record {
      at = (get_or stops (suc k) e).at;
      from = (get_or stops k e).upto;
      middle = (get_or stops (suc k) e).middle;
      upto = (get_or stops (suc k) e).upto;
    }
next_slot from k [] e d l = absurd (omega (arith, l))
next_slot from zero (s ∷ stops) e d l = first_slot s.upto stops e d (omega (arith, l))
next_slot from (suc k) (s ∷ stops) e d l = next_slot s.upto k stops e d (omega (arith, l))

pub later_slot : (k : ℕ) (stops : List Stop) (e : Stop) (d : Slot) → 0 < k → k < length stops
    → ◌≡◌ {A = Slot}
    (record {
      at = (get_or stops k e).at;
      from = (get_or stops (k - 1) e).upto;
      middle = (get_or stops k e).middle;
      upto = (get_or stops k e).upto;
    })
    (get_or (slots_from 0 stops) k d)
later_slot zero stops e d p l = absurd (omega (arith, p))
later_slot (suc k) stops e d p l =
    ap (λ (n : ℕ). record {
      at = (get_or stops (suc k) e).at;
      from = (get_or stops n e).upto;
      middle = (get_or stops (suc k) e).middle;
      upto = (get_or stops (suc k) e).upto;
    }) (one_less k) ∙ sym (next_slot 0 k stops e d l)
  where
    one_less : (k : ℕ) → suc k - 1 ≡ k
    one_less k = omega arith

module _ (numbers : List ℕ) (stops : List Stop) (k : ℕ)
    (l : k < length (map (timed_at numbers) (slots_from 0 stops))) where
  pub event_there : k < length stops
  event_there =
      let a = length-map (slots_from 0 stops) (timed_at numbers) in
      let b = slots_length 0 stops in
      omega (arith, l, a, b)

  slot_there : k < length (slots_from 0 stops)
  slot_there = let a = event_there in let b = slots_length 0 stops in omega (arith, a, b)

  pub event_is : (s : Slot) (e : Timed) → ((d : Slot) → s ≡ get_or (slots_from 0 stops) k d)
      → get_or (map (timed_at numbers) (slots_from 0 stops)) k e ≡ timed_at numbers s
  event_is s e h =
      get_or-map (timed_at numbers) (slots_from 0 stops) k s e slot_there
      ∙ ap (timed_at numbers) (sym (h s))

  pub slot_within : (s : Slot) → AreSlots (length numbers) (slots_from 0 stops)
      → ((d : Slot) → s ≡ get_or (slots_from 0 stops) k d) → IsSlot (length numbers) s
  slot_within s w h = subst (IsSlot (length numbers)) (sym (h s)) (w k s slot_there)
