-- How the events of sorted ends make a timetable, group by group.
use Rattle.std.proofs.Common.{◌≡◌, ℕ, ◌⊎◌, inl, inr, Bool, true, false, cond, List, [], ◌∷◌, ◌++◌}
use Rattle.std.proofs.Common.{length, map, refl, ap, sym, ◌∙◌, subst}
use Rattle.std.proofs.lemmas.List.{map-append}
use Rattle.plane.specs.declared.kinds.Point.{Point}
use Rattle.plane.specs.declared.kinds.Edge.{Edge}
use Rattle.plane.specs.Forms.Vectors.{Before}
use Rattle.plane.specs.Lists.{First, Has, Neighbours}
use Rattle.plane.specs.Runs.Timetables.{Timed, IsTimed, IsTimetable}
use Rattle.plane.proofs.ListLemmas.Lists.{each_has, each_from, each_map, each_append, has_front}
use Rattle.plane.proofs.ListLemmas.Lists.{has_back, has_append, neighbours_append, last_from}
use Rattle.straight_predicates.specs.EdgeLists.{edge_of, AreSorted}
use Rattle.straight_predicates.specs.declared.slots.End.{End}
use Rattle.straight_predicates.specs.Tables.{AreEndsOf, IsEndOf, IsFilled, IsTimedBy}
use Rattle.straight_predicates.proofs.Ends.{never}

abbrev at_of : Timed → Point
at_of t = t.at

pub map_has : {X Y : Type 0} (f : X → Y) (x : X) (xs : List X) → Has x xs → Has (f x) (map f xs)
map_has f x [] h = absurd h
map_has f x (y ∷ xs) (inl q) = inl (ap f q)
map_has f x (y ∷ xs) (inr h) = inr (map_has f x xs h)

pub has_map : {X Y : Type 0} (f : X → Y) (y : Y) (xs : List X) → Has y (map f xs)
    → (x : X) × Has x xs × (y ≡ f x)
has_map f y [] h = absurd h
has_map f y (x ∷ xs) (inl q) = (x, inl refl, q)
has_map f y (x ∷ xs) (inr h) = let (z, k, q) = has_map f y xs h in (z, inr k, q)

-- ---- one event more
module _ (E : ℕ → Edge) (passed group later : List End) (table : List Timed) (t : Timed)
    (h : IsFilled E passed (group ++ later) table) (g : IsTimedBy E group t)
    (here : (z : End) → Has z group → z.at ≡ t.at) (some : (z : End) × Has z group)
    (after : (z : End) → Has z later → Before t.at z.at) where
  group_left : (u : Timed) (z : End) → Has u table → Has z group → Before u.at t.at
  group_left u z i k =
      subst (λ v. Before u.at v) (here z k) (h.left u z i (has_front z group later k))

  table_left : (u : Timed) → Has u table → Before u.at t.at
  table_left u i = group_left u some.0 i some.1

  new : (e : ℕ) (starts : Bool) → Has (record { at = t.at; edge = e; starts = starts }) passed → ⊥
  new e starts k =
      let (u, i, q) = h.all _ k in
      never t.at (subst (λ v. Before v t.at) q (table_left u i))

  more_rises : Neighbours Before (map at_of (table ++ t ∷ []))
  more_rises =
      subst (Neighbours Before) (sym (map-append at_of table (t ∷ [])))
      (neighbours_append Before (map at_of table) (t.at ∷ []) h.rises
      (last_from (λ v. First (Before v) (t.at ∷ [])) (map at_of table)
      (each_from (λ v. First (Before v) (t.at ∷ [])) (map at_of table)
      (λ v k. let (u, i, q) = has_map at_of v table k in
      subst (λ w. Before w t.at) (sym q) (table_left u i))))
      (tt, tt))

  both : (e : ℕ) (starts : Bool) (v : Point)
      → Has (record { at = v; edge = e; starts = starts }) (passed ++ group)
      → Has (record { at = v; edge = e; starts = starts }) passed
      ⊎ Has (record { at = v; edge = e; starts = starts }) group
  both e starts v k = has_append _ passed group k

  -- an event of the table holds none of the group
  old_only : (u : Timed) (e : ℕ) (starts : Bool) → Has u table
      → Has (record { at = u.at; edge = e; starts = starts }) (passed ++ group)
      → Has (record { at = u.at; edge = e; starts = starts }) passed
  old_only u e starts i k =
      elim (both e starts u.at k) [
        | inl l ↦ l
        | inr l ↦ absurd (never u.at (h.left u _ i (has_front _ group later l)))
      ]

  new_only : (e : ℕ) (starts : Bool)
      → Has (record { at = t.at; edge = e; starts = starts }) (passed ++ group)
      → Has (record { at = t.at; edge = e; starts = starts }) group
  new_only e starts k = elim (both e starts t.at k) [ inl l ↦ absurd (new e starts l) | inr l ↦ l ]

  old_timed : (u : Timed) → Has u table → IsTimedBy E passed u → IsTimedBy E (passed ++ group) u
  old_timed u i w = record {
    starting = λ e. (
      (λ k. has_front _ passed group ((w.starting e).0 k)),
      (λ k. (w.starting e).1 (old_only u e true i k)),
    );
    by_slope = w.by_slope;
    ending = λ e. (
      (λ k. has_front _ passed group ((w.ending e).0 k)),
      (λ k. (w.ending e).1 (old_only u e false i k)),
    );
    by_number = w.by_number;
  }

  new_timed : IsTimedBy E (passed ++ group) t
  new_timed = record {
    starting = λ e. (
      (λ k. has_back _ passed group ((g.starting e).0 k)),
      (λ k. (g.starting e).1 (new_only e true k)),
    );
    by_slope = g.by_slope;
    ending = λ e. (
      (λ k. has_back _ passed group ((g.ending e).0 k)),
      (λ k. (g.ending e).1 (new_only e false k)),
    );
    by_number = g.by_number;
  }

  pub filled_more : IsFilled E (passed ++ group) later (table ++ t ∷ [])
  filled_more = record {
    rises = more_rises;
    left = λ u z i k. elim (has_append u table (t ∷ []) i) [
      | inl j ↦ h.left u z j (has_back z group later k)
      | inr j ↦ elim j [
        | inl q ↦ subst (λ (w : Timed). Before w.at z.at) (sym q) (after z k)
        | inr n ↦ absurd n
      ]
    ];
    timed = each_append (IsTimedBy E (passed ++ group)) table (t ∷ [])
        (each_from (IsTimedBy E (passed ++ group)) table
        (λ u i. old_timed u i (each_has (IsTimedBy E passed) table u h.timed i)))
        (new_timed, tt);
    all = λ z k. elim (has_append z passed group k) [
      | inl l ↦ (let (u, i, q) = h.all z l in (u, has_front u table (t ∷ []) i, q))
      | inr l ↦ (t, has_back t table (t ∷ []) (inl refl), sym (here z l))
    ];
    some = λ u i. elim (has_append u table (t ∷ []) i) [
      | inl j ↦ (let (z, k, q) = h.some u j in (z, has_front z passed group k, q))
      | inr j ↦ elim j [
        | inl q ↦ (
          some.0,
          has_back some.0 passed group some.1,
          here some.0 some.1
              ∙ ap at_of (sym q),
        )
        | inr n ↦ absurd n
      ]
    ];
  }

pub filled_none : (E : ℕ → Edge) (ends : List End) → IsFilled E [] ends []
filled_none E ends = record {
  rises = tt;
  left = λ t z i k. absurd i;
  timed = tt;
  all = λ z k. absurd k;
  some = λ t i. absurd i;
}

-- ---- at the end
pub filled_all : (edges : List Edge) (ends : List End) (table : List Timed) → AreSorted edges
    → AreEndsOf edges ends → IsFilled (edge_of edges) ends [] table
    → IsTimetable (length edges) (edge_of edges) table
filled_all edges ends table s a f = record {
  events = record {
    rises = f.rises;
    ends = λ e l. (on_list _ ((a.all e l).0), on_list _ ((a.all e l).1));
    events = λ p k. (let (t, i, q) = has_map at_of p table k in let (z, j, w) = f.some t i in
        let b = a.only z j in (z.edge, b.known, side_of z z.starts refl b (w ∙ sym q)));
    edges = s;
  };
  timed = each_map (IsTimedBy (edge_of edges) ends) (IsTimed (length edges) (edge_of edges)) table
      (λ t w. record {
        starting = λ e. (
          (λ k. let b = a.only _ ((w.starting e).0 k) in (b.known, sym b.at)),
          (λ k. (w.starting e).1
              (subst (λ (p : Point). Has (record { at = p; edge = e; starts = true }) ends) k.1
              (a.all e k.0).0)),
        );
        by_slope = w.by_slope;
        ending = λ e. (
          (λ k. let b = a.only _ ((w.ending e).0 k) in (b.known, sym b.at)),
          (λ k. (w.ending e).1
              (subst (λ (p : Point). Has (record { at = p; edge = e; starts = false }) ends) k.1
              (a.all e k.0).1)),
        );
        by_number = w.by_number;
      }) f.timed;
}
  where
    on_list : (z : End) → Has z ends → Has z.at (map at_of table)
    on_list z k =
        let (t, i, q) = f.all z k in
        subst (λ p. Has p (map at_of table)) q (map_has at_of t table i)

    side_of : {p : Point} (z : End) (b : Bool) → z.starts ≡ b → IsEndOf edges z → z.at ≡ p
        → ((edge_of edges z.edge).low ≡ p) ⊎ ((edge_of edges z.edge).high ≡ p)
    side_of z true e b q =
        inl (sym (b.at
        ∙ ap (λ (t : Bool). cond t (edge_of edges z.edge).low (edge_of edges z.edge).high) e) ∙ q)
    side_of z false e b q =
        inr (sym (b.at
        ∙ ap (λ (t : Bool). cond t (edge_of edges z.edge).low (edge_of edges z.edge).high) e) ∙ q)
