-- The edges at an event of a timetable.
use Rattle.std.proofs.Common.{◌≡◌, ℕ, zero, suc, ◌<◌, ◌==◌, Bool, true, false, refl, sym, ◌∙◌, inl}
use Rattle.std.proofs.Common.{inr, List, [], ◌∷◌, length, get_or, arith, ap, subst}
use Rattle.std.proofs.lemmas.Bool.Decides.{Decides-eqb}
use Rattle.plane.specs.declared.kinds.Edge.{Edge}
use Rattle.plane.specs.Lists.{Has}
use Rattle.plane.specs.Forms.Meets.{IsEnd}
use Rattle.plane.specs.Runs.Timetables.{Timed, IsTimed, IsTimetable, no_event}
use Rattle.straight_predicates.specs.EdgeLists.{edge_of, AreAllClose, IsCloseToAll}
use Rattle.straight_predicates.specs.Meetings.{AreClose, EdgesAreClose}
use Rattle.line_sweep.specs.Sweeping.{points_of}
use Rattle.line_sweep.proofs.PlaneLaws.{each_has, has_at}

map_has : (table : List Timed) (t : Timed) → Has t table → Has t.at (points_of table)
map_has [] t h = absurd h
map_has (u ∷ table) t (inl e) = inl (ap (λ (w : Timed). w.at) e)
map_has (u ∷ table) t (inr h) = inr (map_has table t h)

pub empty_is : (n : ℕ) (b : Bool) → b ≡ (n == 0) → b ≡ true → n ≡ 0
empty_is n b e h = (Decides-eqb n 0).0 (sym e ∙ h)

pub some_is : (n : ℕ) (b : Bool) → b ≡ (n == 0) → b ≡ false → 0 < n
some_is zero b e h = absurd (clash (sym ((Decides-eqb 0 0).1 refl) ∙ sym e ∙ h))
  where
    clash : true ≡ false → ⊥
    clash q = cc
some_is (suc n) b e h = omega arith

none_left : (xs : List ℕ) (e : ℕ) → Has e xs → 0 < length xs
none_left [] e h = absurd h
none_left (x ∷ xs) e h = omega arith

module _ (edges : List Edge) (table : List Timed) (k : ℕ)
    (t : IsTimetable (length edges) (edge_of edges) table) (l : k < length table) where
  pub event_timed : IsTimed (length edges) (edge_of edges) (get_or table k no_event)
  event_timed =
      each_has (IsTimed (length edges) (edge_of edges)) table (get_or table k no_event) t.timed
      (has_at table k no_event l)

  -- the event is an end of some edge
  event_end : (e : ℕ) × (e < length edges) × IsEnd (edge_of edges e) (get_or table k no_event).at
  event_end = t.events.events (get_or table k no_event).at
      (map_has table (get_or table k no_event) (has_at table k no_event l))

  pub close_event : AreAllClose edges → IsCloseToAll edges (get_or table k no_event).at
  close_event close =
      let (d, m, end) = event_end in
      record {
        ends = λ e i. (close e e i i).first;
        point = λ e i. near d e (close e d i m) end;
      }
    where
      near : (d e : ℕ) → EdgesAreClose (edge_of edges e) (edge_of edges d)
          → IsEnd (edge_of edges d) (get_or table k no_event).at
          → AreClose (edge_of edges e).low (get_or table k no_event).at
      near d e c (inl q) = subst (λ p. AreClose (edge_of edges e).low p) q c.low_low
      near d e c (inr q) = subst (λ p. AreClose (edge_of edges e).low p) q c.low_high

  pub start_end : 0 < length (get_or table k no_event).starting
      → (get_or (get_or table k no_event).starting 0 0 < length edges)
      × IsEnd (edge_of edges (get_or (get_or table k no_event).starting 0 0))
      (get_or table k no_event).at
  start_end n =
      let h = (event_timed.starting (get_or (get_or table k no_event).starting 0 0)).0
      (has_at (get_or table k no_event).starting 0 0 n) in
      (h.0, inl h.1)

  pub starting_below : (starting : List ℕ) → starting ≡ (get_or table k no_event).starting → (e : ℕ)
      → Has e starting → e < length edges
  starting_below starting q e h = ((event_timed.starting e).0 (subst (Has e) q h)).0

  -- where nothing starts, something ends
  pub some_end : length (get_or table k no_event).starting ≡ 0
      → 0 < length (get_or table k no_event).ending
  some_end n =
      let (e, m, end) = event_end in
      elim end [
        | inl q ↦ absurd
            (let p = none_left (get_or table k no_event).starting e
            ((event_timed.starting e).1 (m, q)) in omega (arith, p, n))
        | inr q ↦ none_left (get_or table k no_event).ending e ((event_timed.ending e).1 (m, q))
      ]

  pub end_end : 0 < length (get_or table k no_event).ending
      → (get_or (get_or table k no_event).ending 0 0 < length edges)
      × IsEnd (edge_of edges (get_or (get_or table k no_event).ending 0 0))
      (get_or table k no_event).at
  end_end n =
      let h = (event_timed.ending (get_or (get_or table k no_event).ending 0 0)).0
      (has_at (get_or table k no_event).ending 0 0 n) in
      (h.0, inr h.1)
