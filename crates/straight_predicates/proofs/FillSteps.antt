-- The loop that writes the events, one group a turn.
use Rattle.std.proofs.Common.{◌≡◌, ℕ, suc, ◌+◌, ◌-◌, ◌<◌, ◌≤◌, List, [], ◌∷◌, ◌++◌}
use Rattle.std.proofs.Common.{length, map, take, drop, get_or, refl, arith, ap, sym, ◌∙◌, subst}
use Rattle.std.proofs.Common.{drop_of_length-le}
use Rattle.std.proofs.lemmas.List.{take_all, take-append-drop, take-append-le, drop-append-le}
use Rattle.std.proofs.lemmas.List.{length-append, length-drop, length-take-le, map-append}
use Rattle.std.proofs.lemmas.List.Elements.{All-push}
use Rattle.std.proofs.Math.Seq.{take-add}
use Rattle.plane.specs.declared.kinds.Edge.{Edge}
use Rattle.plane.specs.Forms.Vectors.{Before}
use Rattle.plane.specs.Runs.Timetables.{IsTimetable}
use Rattle.straight_predicates.specs.EdgeLists.{edge_of, AreSorted}
use Rattle.straight_predicates.specs.Slots.{AreSlots, IsSlot, part_of, timed_at}
use Rattle.straight_predicates.specs.Tables.{AddsEvent, AreEndsOf, IsFilled, IsFilledTo, IsGroup}
use Rattle.straight_predicates.specs.Tables.{IsGroupOf}
use Rattle.straight_predicates.specs.declared.slots.End.{End}
use Rattle.straight_predicates.specs.declared.slots.Slot.{Slot}
use Rattle.straight_predicates.proofs.Filling.{filled_more, filled_none, filled_all}
use Rattle.straight_predicates.proofs.Groups.{cut_group, drop_twice}

-- ---- slots whose numbers grow
part_kept : (numbers more : List ℕ) (from upto : ℕ) → from ≤ upto → upto ≤ length numbers
    → part_of (numbers ++ more) from upto ≡ part_of numbers from upto
part_kept numbers more from upto l m =
    let size = length-drop from numbers in
    let k : from ≤ length numbers = omega (arith, l, m) in
    let n : upto - from ≤ length (drop from numbers) = omega (arith, l, m, size) in
    ap (λ (ns : List ℕ). take (upto - from) ns) (drop-append-le from numbers more k)
    ∙ take-append-le (upto - from) (drop from numbers) more n

timed_kept : (numbers more : List ℕ) (s : Slot) → IsSlot (length numbers) s
    → timed_at (numbers ++ more) s ≡ timed_at numbers s
timed_kept numbers more s w =
    let a = w.first in
    let b = w.second in
    let c = w.last in
    let e = part_kept numbers more s.from s.middle a (omega (arith, b, c)) in
    let f = part_kept numbers more s.middle s.upto b c in
    λ i. record { at = s.at; ending = e i; starting = f i }

slots_kept : (numbers more : List ℕ) (slots : List Slot) → AreSlots (length numbers) slots
    → map (timed_at (numbers ++ more)) slots ≡ map (timed_at numbers) slots
slots_kept numbers more [] w = refl
slots_kept numbers more (s ∷ slots) w =
    let e = timed_kept numbers more s (w 0 s (omega arith)) in
    let r = slots_kept numbers more slots (λ k d l. w (suc k) d (omega (arith, l))) in
    λ i. e i ∷ r i

slot_grows : (old new : ℕ) (s : Slot) → old ≤ new → IsSlot old s → IsSlot new s
slot_grows old new s l w = record {
  first = w.first;
  second = w.second;
  last = let m = w.last in omega (arith, l, m);
}

-- ---- a group
pub bound : (ends : List End) (i n : ℕ) → i < length ends → IsGroup (drop i ends) n
    → i + n ≤ length ends
bound ends i n l g = let w = g.within in let s = length-drop i ends in omega (arith, w, s, l)

pub group_at : (edges : List Edge) (ends group : List End) (i n : ℕ) (d : End)
    → AreEndsOf edges ends → IsGroup (drop i ends) n → group ≡ take n (drop i ends)
    → IsGroupOf edges (get_or group 0 d).at group
group_at edges ends group i n d a g e =
    subst (λ zs. IsGroupOf edges (get_or zs 0 d).at zs) (sym e)
    (cut_group edges ends i n d a g).group

pub room_at : (edges : List Edge) (ends group : List End) (i n : ℕ) (slots : List Slot)
    (numbers : List ℕ) → AreEndsOf edges ends → i < length ends → IsGroup (drop i ends) n
    → group ≡ take n (drop i ends) → IsFilledTo edges ends i slots numbers
    → length numbers + length group ≤ length edges + length edges
room_at edges ends group i n slots numbers a l g e f =
    let b = bound ends i n l g in
    let s = a.size in
    let m = f.numbers in
    let size = ap length e ∙ length-take-le n (drop i ends) (let q = length-drop i ends in
    omega (arith, b, q)) in
    omega (arith, b, s, m, size)

pub begin : (edges : List Edge) (ends : List End) (slots : List Slot) (numbers : List ℕ)
    → slots ≡ [] → numbers ≡ [] → IsFilledTo edges ends 0 slots numbers
begin edges ends slots numbers e f =
    let start : IsFilledTo edges ends 0 [] [] = record {
      within = omega arith;
      table = filled_none (edge_of edges) ends;
      slots = λ k d l. absurd (omega (arith, l));
      numbers = refl;
      count = omega arith;
    } in
    subst (λ ss. IsFilledTo edges ends 0 ss numbers) (sym e)
    (subst (λ (ns : List ℕ). IsFilledTo edges ends 0 [] ns) (sym f) start)

module _ (edges : List Edge) (ends : List End) (i n : ℕ) (d : End) (slots : List Slot)
    (numbers : List ℕ) (new_slots : List Slot) (new_numbers : List ℕ)
    (a : AreEndsOf edges ends) (l : i < length ends) (g : IsGroup (drop i ends) n)
    (f : IsFilledTo edges ends i slots numbers) where
  done : AddsEvent (edge_of edges) (take n (drop i ends)) slots numbers new_slots new_numbers
      → IsFilledTo edges ends (i + n) new_slots new_numbers
  done e =
      let c = cut_group edges ends i n d a g in
      let b = bound ends i n l g in
      let size = e.size in
      let size_group : length (take n (drop i ends))
      ≡ n = length-take-le n (drop i ends) (let q = length-drop i ends in
      omega (arith, b, q)) in
      let old = f.numbers in
      let at = e.at d in
      record {
        within = b;
        table =
            subst (λ ts. IsFilled (edge_of edges) (take (i + n) ends) (drop (i + n) ends) ts)
            (sym table)
            (subst (λ zs. IsFilled (edge_of edges) zs (drop (i + n) ends)
            (map (timed_at numbers) slots ++ timed_at new_numbers e.slot ∷ []))
            (sym (take-add i n ends))
            (filled_more (edge_of edges) (take i ends) (take n (drop i ends)) (drop (i + n) ends)
            (map (timed_at numbers) slots) (timed_at new_numbers e.slot)
            (subst (λ zs. IsFilled (edge_of edges) (take i ends) zs (map (timed_at numbers) slots))
            (sym rest) f.table) e.timed
            (λ z k. c.here z k ∙ sym at) c.some
            (λ z k. subst (λ p. Before p z.at) (sym at) (c.later z k))));
        slots = subst (AreSlots (length new_numbers)) (sym e.slots)
            (All-push (IsSlot (length new_numbers)) slots e.slot
            (λ k b m. slot_grows (length numbers) (length new_numbers) _ (omega (arith, size))
            (f.slots k b m)) e.within);
        numbers = omega (arith, size, size_group, old);
        count = (let s = ap length e.slots ∙ length-append slots (e.slot ∷ []) in let m = f.count in
            let p = g.some in omega (arith, s, m, p));
      }
    where
      rest : take n (drop i ends) ++ drop (i + n) ends ≡ drop i ends
      rest = ap (λ zs. take n (drop i ends) ++ zs) (drop_twice i n ends)
          ∙ take-append-drop n (drop i ends)

      table : map (timed_at new_numbers) new_slots
          ≡ map (timed_at numbers) slots ++ timed_at new_numbers e.slot ∷ []
      table =
          ap (λ ss. map (timed_at new_numbers) ss) e.slots
          ∙ map-append (timed_at new_numbers) slots (e.slot ∷ [])
          ∙ ap (λ ts. ts ++ timed_at new_numbers e.slot ∷ [])
          (ap (λ (ns : List ℕ). map (timed_at ns) slots) e.numbers
          ∙ slots_kept numbers e.more slots f.slots)

  pub step : (group : List End) → group ≡ take n (drop i ends)
      → AddsEvent (edge_of edges) group slots numbers new_slots new_numbers
      → IsFilledTo edges ends (i + n) new_slots new_numbers
  step group q e =
      done (subst (λ zs. AddsEvent (edge_of edges) zs slots numbers new_slots new_numbers) q e)

pub table_at_end : (edges : List Edge) (ends : List End) (i : ℕ) (slots : List Slot)
    (numbers : List ℕ)
    → AreSorted edges → AreEndsOf edges ends → length ends ≤ i
    → IsFilledTo edges ends i slots numbers
    → IsTimetable (length edges) (edge_of edges) (map (timed_at numbers) slots)
table_at_end edges ends i slots numbers s a l f =
    filled_all edges ends (map (timed_at numbers) slots) s a
    (subst (λ zs. IsFilled (edge_of edges) zs [] (map (timed_at numbers) slots)) (take_all i ends l)
    (subst (λ zs. IsFilled (edge_of edges) (take i ends) zs (map (timed_at numbers) slots))
    (drop_of_length-le ends l) f.table))
