-- Writing the events of edges' ends, event by event.
use Rattle.std.proofs.Common.{◌≡◌, ◌≢◌, ℕ, zero, suc, ◌+◌, ◌<◌, List, [], ◌∷◌, map, length, take}
use Rattle.std.proofs.Common.{get_or, refl, arith, ap, sym, ◌∙◌, subst, inl, inr}
use Rattle.std.proofs.lemmas.Bool.{cases_lt, cases_eq}
use Rattle.std.proofs.lemmas.List.{get_or-set_other, take_more, length-map}
use Rattle.std.proofs.lemmas.Grind.{get_or-set_at}
use Rattle.std.proofs.Math.ListN.{get_or-map, set}
use Rattle.plane.specs.declared.kinds.Point.{Point}
use Rattle.plane.specs.declared.kinds.Edge.{Edge}
use Rattle.plane.specs.Lists.{Neighbours, Has, Once}
use Rattle.plane.specs.Forms.Vectors.{Before}
use Rattle.plane.specs.Runs.Timetables.{Timed, IsTimed, IsTimetable, no_event}
use Rattle.plane.proofs.ListLemmas.Lists.{each_has, has_append, has_front, has_back}
use Rattle.plane.proofs.ListLemmas.SortedLists.{has_at, sorted_once}
use Rattle.plane.proofs.MoveLemmas.MadeSteps.{never}
use Rattle.plane.proofs.MoveLemmas.OneTimetable.{before_trans}
use Rattle.straight_predicates.specs.EdgeLists.{edge_of}
use Rattle.straight_predicates.specs.EdgeEvents.{AreEventsOf, IsNoted, AreNoted, event_of}

-- ---- one event
pub none_noted : (event : ℕ) (old : List ℕ) → IsNoted [] event old old
none_noted event old = record { noted = λ e h. absurd h; others = λ e n. refl }

pub one_noted : (edges : List ℕ) (event : ℕ) (old new : List ℕ) (i x : ℕ) → i < length edges
    → x ≡ get_or edges i 0 → x < length new
    → IsNoted (take i edges) event old new
    → IsNoted (take (i + 1) edges) event old (set new x event)
one_noted edges event old new i x l q b is =
    let more = take_more edges i 0 l in
    record {
      noted = λ e h. elim (cases_eq e x) [
        | inl p ↦ get_or-set_at new x e event 0 p b
        | inr n ↦ get_or-set_other new x e event 0 n
            ∙ is.noted e
            (elim (has_append e (take i edges) (get_or edges i 0 ∷ [])
            (subst (λ (xs : List ℕ). Has e xs) more h)) [
              | inl k ↦ k
              | inr k ↦ elim k [ inl p ↦ absurd (n (p ∙ sym q)) | inr z ↦ absurd z ]
            ])
      ];
      others = λ e n.
          let far : e ≢ x = λ p. n
          (subst (λ (xs : List ℕ). Has e xs) (sym more)
          (has_back e (take i edges) (get_or edges i 0 ∷ []) (inl (p ∙ q)))) in
          get_or-set_other new x e event 0 far
          ∙ is.others e
          (λ k. n (subst (λ (xs : List ℕ). Has e xs) (sym more)
          (has_front e (take i edges) (get_or edges i 0 ∷ []) k)));
    }

-- ---- no two events lie at one point
once_places : {X : Type 0} (xs : List X) (d : X) (j k : ℕ) → Once xs → j < length xs → k < length xs
    → get_or xs j d ≡ get_or xs k d → j ≡ k
once_places [] d j k o a b e = absurd (omega (arith, a))
once_places (x ∷ xs) d zero zero o a b e = refl
once_places (x ∷ xs) d zero (suc k) o a b e =
    absurd (o.0 (subst (λ y. Has y xs) (sym e) (has_at xs k d (omega (arith, b)))))
once_places (x ∷ xs) d (suc j) zero o a b e =
    absurd (o.0 (subst (λ y. Has y xs) e (has_at xs j d (omega (arith, a)))))
once_places (x ∷ xs) d (suc j) (suc k) o a b e =
    ap (λ (n : ℕ). suc n) (once_places xs d j k o.1 (omega (arith, a)) (omega (arith, b)) e)

has_place : {X : Type 0} (xs : List X) (d x : X) → Has x xs
    → (k : ℕ) × (k < length xs) × (get_or xs k d ≡ x)
has_place [] d x h = absurd h
has_place (y ∷ xs) d x (inl e) = (0, omega arith, sym e)
has_place (y ∷ xs) d x (inr h) = let (k, l, e) = has_place xs d x h in (suc k, omega (arith, l), e)

point_at : (table : List Timed) (k : ℕ)
    → get_or (map (λ (t : Timed). t.at) table) k no_event.at ≡ (event_of table k).at
point_at table k = get_or-map (λ (t : Timed). t.at) table k no_event

events_apart : (table : List Timed) (j k : ℕ) → Neighbours Before (map (λ (t : Timed). t.at) table)
    → j < length table → k < length table
    → (event_of table j).at ≡ (event_of table k).at → j ≡ k
events_apart table j k h a b e =
    let n = length-map table (λ (t : Timed). t.at) in
    let once = sorted_once Before (λ p. Unit {0}) (λ p u b. never p b)
    (λ p q r a b c l n. before_trans p q r l n) (map (λ (t : Timed). t.at) table)
    (λ p i. tt) h in
    once_places (map (λ (t : Timed). t.at) table) no_event.at j k once (omega (arith, a, n))
    (omega (arith, b, n)) (point_at table j ∙ e ∙ sym (point_at table k))

event_at : (table : List Timed) (p : Point) → Has p (map (λ (t : Timed). t.at) table)
    → (k : ℕ) × (k < length table) × ((event_of table k).at ≡ p)
event_at table p h =
    let n = length-map table (λ (t : Timed). t.at) in
    let (k, l, e) = has_place (map (λ (t : Timed). t.at) table) no_event.at p h in
    (k, omega (arith, l, n), sym (point_at table k) ∙ e)

-- ---- event after event, of one kind of ends
pub nothing_noted : (edges_at : Timed → List ℕ) (table : List Timed) (events : List ℕ)
    → AreNoted edges_at table 0 events
nothing_noted edges_at table events = record { each = λ j e l h. absurd (omega (arith, l)) }

event_noted : (edges_at : Timed → List ℕ) (point : ℕ → Point) (table : List Timed) (k : ℕ)
    (old new : List ℕ)
    → Neighbours Before (map (λ (t : Timed). t.at) table)
    → ((j e : ℕ) → j < length table → Has e (edges_at (event_of table j))
    → point e ≡ (event_of table j).at)
    → k < length table → AreNoted edges_at table k old
    → IsNoted (edges_at (event_of table k)) k old new → AreNoted edges_at table (k + 1) new
event_noted edges_at point table k old new rises at l before is = record {
  each = λ j e b h. elim (cases_lt j k) [
    | inl c ↦ (
        let there = at j e (omega (arith, c, l)) h in
        is.others e (λ g. let q = events_apart table j k rises (omega (arith, c, l)) l (sym there
        ∙ at k e l g) in omega (arith, c, q)) ∙ before.each j e c h)
    | inr c ↦ (let q : j ≡ k = omega (arith, b, c) in
        is.noted e (subst (λ (i : ℕ). Has e (edges_at (event_of table i))) q h) ∙ sym q)
  ];
}

module _ (edges : List Edge) (table : List Timed)
    (is : IsTimetable (length edges) (edge_of edges) table) where
  timed_of : (k : ℕ) → k < length table → IsTimed (length edges) (edge_of edges) (event_of table k)
  timed_of k l =
      each_has (IsTimed (length edges) (edge_of edges)) table (event_of table k) is.timed
      (has_at table k no_event l)

  pub starting_known : (k e : ℕ) → k < length table → Has e (event_of table k).starting
      → e < length edges
  starting_known k e l h = (((timed_of k l).starting e).0 h).0

  pub ending_known : (k e : ℕ) → k < length table → Has e (event_of table k).ending
      → e < length edges
  ending_known k e l h = (((timed_of k l).ending e).0 h).0

  pub low_noted : (k : ℕ) (old new : List ℕ) → k < length table
      → AreNoted (λ (t : Timed). t.starting) table k old
      → IsNoted (event_of table k).starting k old new
      → AreNoted (λ (t : Timed). t.starting) table (k + 1) new
  low_noted k old new l before n =
      event_noted (λ (t : Timed). t.starting)
      (λ (e : ℕ). (edge_of edges e).low) table k old new is.events.rises
      (λ j e b h. (((timed_of j b).starting e).0 h).1) l before n

  pub high_noted : (k : ℕ) (old new : List ℕ) → k < length table
      → AreNoted (λ (t : Timed). t.ending) table k old → IsNoted (event_of table k).ending k old new
      → AreNoted (λ (t : Timed). t.ending) table (k + 1) new
  high_noted k old new l before n =
      event_noted (λ (t : Timed). t.ending)
      (λ (e : ℕ). (edge_of edges e).high) table k old new is.events.rises
      (λ j e b h. (((timed_of j b).ending e).0 h).1) l before n

  low_of : (low : List ℕ) → AreNoted (λ (t : Timed). t.starting) table (length table) low → (e : ℕ)
      → e < length edges
      → (get_or low e 0 < length table)
      × ((event_of table (get_or low e 0)).at ≡ (edge_of edges e).low)
  low_of low n e l =
      let (k, b, p) = event_at table (edge_of edges e).low (is.events.ends e l).0 in
      let q = n.each k e b (((timed_of k b).starting e).1 (l, sym p)) in
      (omega (arith, b, q), ap (λ (i : ℕ). (event_of table i).at) q ∙ p)

  high_of : (high : List ℕ) → AreNoted (λ (t : Timed). t.ending) table (length table) high → (e : ℕ)
      → e < length edges
      → (get_or high e 0 < length table)
      × ((event_of table (get_or high e 0)).at ≡ (edge_of edges e).high)
  high_of high n e l =
      let (k, b, p) = event_at table (edge_of edges e).high (is.events.ends e l).1 in
      let q = n.each k e b (((timed_of k b).ending e).1 (l, sym p)) in
      (omega (arith, b, q), ap (λ (i : ℕ). (event_of table i).at) q ∙ p)

  pub all_noted : (low high : List ℕ) → length low ≡ length edges → length high ≡ length edges
      → AreNoted (λ (t : Timed). t.starting) table (length table) low
      → AreNoted (λ (t : Timed). t.ending) table (length table) high
      → AreEventsOf edges table low high
  all_noted low high a b n k = record {
    low_count = a;
    high_count = b;
    low_within = λ e l. (low_of low n e l).0;
    high_within = λ e l. (high_of high k e l).0;
    low_at = λ e l. (low_of low n e l).1;
    high_at = λ e l. (high_of high k e l).1;
    apart = λ e l q. never (edge_of edges e).high
        (subst (λ p. Before p (edge_of edges e).high) (sym (low_of low n e l).1
        ∙ ap (λ (i : ℕ). (event_of table i).at) q ∙ (high_of high k e l).1) (is.events.edges e l));
  }
