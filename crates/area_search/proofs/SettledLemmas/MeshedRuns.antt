-- The mesh of a run: the events that are noted of its edges, and its events one after another.
use Rattle.std.proofs.Common.{◌≡◌, ℕ, zero, suc, ◌+◌, ◌-◌, ◌^◌, ◌<◌, ◌≤◌, List, [], ◌∷◌, ◌++◌}
use Rattle.std.proofs.Common.{length, max, take, drop, get_or, slice_index, refl, arith, ap, sym}
use Rattle.std.proofs.Common.{◌∙◌, subst, inl, inr, add-one}
use Rattle.std.proofs.lemmas.Bool.{cases_lt}
use Rattle.std.proofs.lemmas.List.{drop-drop, length-append, length-drop, length-take}
use Rattle.std.proofs.lemmas.List.{length-take-le}
use Rattle.std.proofs.Math.Seq.{drop-append_seam, take-append_seam}
use Rattle.plane.specs.declared.kinds.Edge.{Edge}
use Rattle.plane.specs.declared.kinds.Point.{Point}
use Rattle.plane.specs.Forms.Vectors.{Before}
use Rattle.plane.specs.Lists.{Has}
use Rattle.plane.specs.Runs.Moves.{Fit, Move, live_from, no_move, step_of, steps_from}
use Rattle.plane.specs.Runs.Steps.{GoodStep, Run, Step}
use Rattle.plane.specs.Runs.Sweeps.{IsEventList}
use Rattle.half_edges.specs.HalfEdges.{HalfEdges}
use Rattle.event_mesh.specs.Built.{AreEnds, IsMeshOf}
use Rattle.event_mesh.specs.Fans.{CanTurn}
use Rattle.event_mesh.specs.Turned.{IsEvent, IsEventAt, IsTurned, nth_step, points_of}
use Rattle.line_sweep.specs.Kinds.{ended_at}
use Rattle.straight_predicates.specs.EdgeEvents.{IsNoted}
use Rattle.area_search.specs.declared.settled.meshing.Noted.{Noted}
use Rattle.area_search.specs.Settled.Meshing.{HasNoted, IsWidest, width}
use Rattle.area_search.proofs.PlaneLaws.{events_apart, fits_at, never, part_is, run_events}
use Rattle.area_search.proofs.PlaneLaws.{run_good, step_is, steps_length}

-- ---- the widest event
pub widest_next : (moves : List Move) (k most new : ℕ) (v : Move) → get_or moves k no_move ≡ v
    → new ≡ max most (width v) → IsWidest moves k most → IsWidest moves (k + 1) new
widest_next moves k most new v q e is = record {
  most = λ j l. elim (cases_lt j k) [
    | inl c ↦ (let a = is.most j c in omega (arith, a, e))
    | inr c ↦ (let p : j ≡ k = omega (arith, l, c) in
        let w = ap (λ (i : ℕ). width (get_or moves i no_move)) p ∙ ap width q in
        omega (arith, w, e))
  ];
  some = λ p. elim (cases_lt most (width v)) [
    | inl c ↦ (k, omega arith, ap width q ∙ omega (arith, c, e))
    | inr c ↦ (let (j, l, w) = is.some (omega (arith, c, e, p)) in
        (j, omega (arith, l), w ∙ omega (arith, c, e)))
  ];
}

-- ---- the edges that end, as one list
ended_next : (steps : List Step) (k : ℕ) → k < length steps
    → ended_at (drop k steps) ≡ (nth_step steps k).ending ++ ended_at (drop (suc k) steps)
ended_next [] k l = absurd (omega (arith, l))
ended_next (s ∷ steps) zero l = refl
ended_next (s ∷ steps) (suc k) l = ended_next steps k (omega (arith, l))

take-bound : (n : ℕ) (es : List ℕ) → length (take n es) ≤ n
take-bound n es = let t = length-take n es in omega (arith, t)

-- ---- the place of a step
step_place : (steps : List Step) (s : Step) → Has s steps
    → (k : ℕ) × (k < length steps) × (nth_step steps k ≡ s)
step_place [] s h = absurd h
step_place (t ∷ steps) s (inl e) = (0, omega arith, sym e)
step_place (t ∷ steps) s (inr h) =
    let (k, l, e) = step_place steps s h in (suc k, omega (arith, l), e)

-- ---- one number more in a list of events
-- the entries of a vector, written through a slice of them
pub noted_through : (edges : List ℕ) (event : ℕ) (old new shown written : List ℕ) → shown ≡ old
    → new ≡ written → IsNoted edges event shown written → IsNoted edges event old new
noted_through edges event old new shown written a b is =
    subst (λ (xs : List ℕ). IsNoted edges event xs new) a
    (subst (λ (ys : List ℕ). IsNoted edges event shown ys) (sym b) is)

module _ (m : ℕ) (E : ℕ → Edge) (steps : List Step)
    (events : IsEventList m E (points_of steps)) where
  noted_next : (edges_at : Step → List ℕ) (point : ℕ → Point)
      → ((j e : ℕ) → j < length steps → Has e (edges_at (nth_step steps j))
      → point e ≡ (nth_step steps j).at)
      → (k : ℕ) (old new : List ℕ) → k < length steps
      → ((j e : ℕ) → j < k → Has e (edges_at (nth_step steps j)) → slice_index old e ≡ j)
      → IsNoted (edges_at (nth_step steps k)) k old new
      → (j e : ℕ) → j < k + 1 → Has e (edges_at (nth_step steps j)) → slice_index new e ≡ j
  noted_next edges_at point at k old new l before is j e b h = elim (cases_lt j k) [
    | inl c ↦ (
        let there = at j e (omega (arith, c, l)) h in
        is.others e (λ g. let q = events_apart steps j k events.rises (omega (arith, c, l)) l
        (sym there ∙ at k e l g) in omega (arith, c, q)) ∙ before j e c h)
    | inr c ↦ (let q : j ≡ k = omega (arith, b, c) in
        is.noted e (subst (λ (i : ℕ). Has e (edges_at (nth_step steps i))) q h) ∙ sym q)
  ]

module _ (m : ℕ) (E : ℕ → Edge) (vs : List Move) (run : Run m E (steps_from [] vs)) where
  abbrev steps : List Step
  steps = steps_from [] vs

  pub size : length (steps_from [] vs) ≡ length vs
  size = steps_length [] vs

  good : (k : ℕ) → k < length (steps_from [] vs) → GoodStep m E (nth_step (steps_from [] vs) k)
  good k l = run_good m E steps k run l

  pub events : IsEventList m E (points_of (steps_from [] vs))
  events = run_events m E steps run

  -- ---- the edges of an event are known, and one event more is noted
  module _ (k : ℕ) (starting ending : List ℕ)
      (event : IsEvent m E (steps_from [] vs) k starting ending) where
    pub event_starting : (e : ℕ) → Has e starting → e < m
    event_starting e h =
        (event.good.starting_only e (subst (λ (es : List ℕ). Has e es) (sym event.starting) h)).0

    pub event_ending : (e : ℕ) → Has e ending → e < m
    event_ending e h =
        (event.good.ending_only e (subst (λ (es : List ℕ). Has e es) (sym event.ending) h)).0

    pub noted_more : (old new : Noted) → HasNoted m (steps_from [] vs) k old
        → length new.low.items ≡ length old.low.items
        → length new.high.items ≡ length old.high.items
        → IsNoted starting k old.low.items new.low.items
        → IsNoted ending k old.high.items new.high.items
        → HasNoted m (steps_from [] vs) (k + 1) new
    noted_more old new has a b low high = record {
      low_count = a ∙ has.low_count;
      high_count = b ∙ has.high_count;
      low = noted_next m E steps events (λ (t : Step). t.starting) (λ (e : ℕ). (E e).low)
          (λ j e c h. ((good j c).starting_only e h).1) k old.low.items new.low.items event.within
          has.low
          (subst (λ (es : List ℕ). IsNoted es k old.low.items new.low.items)
          (sym event.starting) low);
      high = noted_next m E steps events (λ (t : Step). t.ending) (λ (e : ℕ). (E e).high)
          (λ j e c h. ((good j c).ending_only e h).1) k old.high.items new.high.items event.within
          has.high
          (subst (λ (es : List ℕ). IsNoted es k old.high.items new.high.items)
          (sym event.ending) high);
    }

  -- ---- all events are noted
  module _ (noted : Noted) (has : HasNoted m (steps_from [] vs) (length vs) noted) where
    at_low : (e : ℕ) → e < m
        → IsEventAt (steps_from [] vs) (slice_index noted.low.items e) (E e).low
    at_low e l =
        let (s, h, p) = (run.ends e l).0 in
        let (k, b, q) = step_place steps s h in
        let there : (E e).low ≡ (nth_step (steps_from [] vs) k).at = p
        ∙ ap (λ (t : Step). t.at) (sym q) in
        let z = size in
        let n = has.low k e (omega (arith, b, z)) ((good k b).starting_all e l there) in
        subst (λ (j : ℕ). IsEventAt (steps_from [] vs) j (E e).low) (sym n) (record {
          within = b;
          point = sym there;
        })

    at_high : (e : ℕ) → e < m
        → IsEventAt (steps_from [] vs) (slice_index noted.high.items e) (E e).high
    at_high e l =
        let (s, h, p) = (run.ends e l).1 in
        let (k, b, q) = step_place steps s h in
        let there : (E e).high ≡ (nth_step (steps_from [] vs) k).at = p
        ∙ ap (λ (t : Step). t.at) (sym q) in
        let z = size in
        let n = has.high k e (omega (arith, b, z)) ((good k b).ending_all e l there) in
        subst (λ (j : ℕ). IsEventAt (steps_from [] vs) j (E e).high) (sym n) (record {
          within = b;
          point = sym there;
        })

    pub noted_ends : AreEnds (length vs) noted.low.items noted.high.items
    noted_ends =
        let a = has.low_count in
        let z = size in
        record {
          pairs = has.high_count ∙ sym a;
          low_within = λ e l. let w = (at_low e (omega (arith, l, a))).within in
              omega (arith, w, z);
          high_within = λ e l. let w = (at_high e (omega (arith, l, a))).within in
              omega (arith, w, z);
          apart = λ e l q.
              let b : e < m = omega (arith, l, a) in
              never (E e).high
              (subst (λ p. Before p (E e).high) (sym (at_low e b).point
              ∙ ap (λ (i : ℕ). (nth_step steps i).at) q ∙ (at_high e b).point) (run.edges e b));
        }

    pub none_turned : ((E : ℕ → Edge) (steps : List Step) (events : ℕ) (low high : List ℕ)
        (mesh : HalfEdges) → IsMeshOf events low high (length low) mesh
        → ((e : ℕ) → e < length low → IsEventAt steps (slice_index low e) (E e).low)
        → ((e : ℕ) → e < length low → IsEventAt steps (slice_index high e) (E e).high)
        → IsTurned (length low) E steps mesh 0)
        → (mesh : HalfEdges)
        → IsMeshOf (length vs) noted.low.items noted.high.items (length noted.low.items) mesh
        → IsTurned m E (steps_from [] vs) mesh 0
    none_turned begin mesh is =
        let a = has.low_count in
        subst (λ (n : ℕ). IsTurned n E (steps_from [] vs) mesh 0) a
        (begin E steps (length vs) noted.low.items noted.high.items mesh is
        (λ e l. at_low e (omega (arith, l, a))) (λ e l. at_high e (omega (arith, l, a))))

  step_at : (k : ℕ) → k < length vs → (v : Move) → get_or vs k no_move ≡ v
      → nth_step (steps_from [] vs) k ≡ step_of (live_from [] (take k vs)) v
  step_at k l v is = step_is [] vs k l ∙ ap (λ (u : Move). step_of (live_from [] (take k vs)) u) is

  -- ---- one event more is turned
  module _ (fit : Fit [] vs) (k : ℕ) (l : k < length vs) (v : Move)
      (is : get_or vs k no_move ≡ v) where
    pub ending_size : length (nth_step (steps_from [] vs) k).ending ≡ v.ending
    ending_size =
        let now = live_from [] (take k vs) in
        let fits : (v.position + v.ending) ≤ length (live_from [] (take k vs)) = subst
        (λ (u : Move). (u.position + u.ending) ≤ length (live_from [] (take k vs))) is
        (fits_at [] vs k fit l) in
        let d = length-drop v.position now in
        ap (λ (s : Step). length s.ending) (step_at k l v is)
        ∙ length-take-le v.ending (drop v.position now) (omega (arith, fits, d))

    module _ (ended : List ℕ) (from : ℕ) (within : from ≤ length ended)
        (rest : drop from ended ≡ ended_at (drop k (steps_from [] vs))) where
      parts : drop from ended ≡ (nth_step (steps_from [] vs) k).ending
          ++ ended_at (drop (suc k) (steps_from [] vs))
      parts = rest ∙ ended_next steps k (let z = size in omega (arith, l, z))

      pub next_within : from + v.ending ≤ length ended
      next_within =
          let n = ap length parts
          ∙ length-append (nth_step steps k).ending (ended_at (drop (suc k) steps)) in
          let d = length-drop from ended in
          let e = ending_size in
          omega (arith, n, d, e, within)

      pub ending_is : take v.ending (drop from ended) ≡ (nth_step (steps_from [] vs) k).ending
      ending_is =
          ap (λ (n : ℕ). take n (drop from ended)) (sym ending_size)
          ∙ ap (λ (es : List ℕ). take (length (nth_step steps k).ending) es) parts
          ∙ take-append_seam (nth_step steps k).ending (ended_at (drop (suc k) steps))

      pub rest_next : drop (from + v.ending) ended ≡ ended_at (drop (suc k) (steps_from [] vs))
      rest_next =
          sym (drop-drop v.ending from ended)
          ∙ ap (λ (n : ℕ). drop n (drop from ended)) (sym ending_size)
          ∙ ap (λ (es : List ℕ). drop (length (nth_step steps k).ending) es) parts
          ∙ drop-append_seam (nth_step steps k).ending (ended_at (drop (suc k) steps))

      pub event_is : (starting ending : List ℕ) → starting ≡ v.starting
          → ending ≡ take v.ending (drop from ended)
          → IsEvent m E (steps_from [] vs) k starting ending
      event_is starting ending a b =
          let z = size in
          record {
            within = omega (arith, l, z);
            good = good k (omega (arith, l, z));
            starting = ap (λ (s : Step). s.starting) (step_at k l v is) ∙ sym a;
            ending = sym (b ∙ ending_is);
          }

-- ---- the same of a list of events
module _ (m : ℕ) (E : ℕ → Edge) (events : List Move) (run : Run m E (steps_from [] events)) where
  module _ (noted : Noted) (has : HasNoted m (steps_from [] events) (length events) noted) where
    pub listed_ends : (n : ℕ) (low high : List ℕ) → n ≡ length events → low ≡ noted.low.items
        → high ≡ noted.high.items → AreEnds n low high
    listed_ends n low high a b c =
        subst (λ (k : ℕ). AreEnds k low high) (sym a)
        (subst (λ (ls : List ℕ). AreEnds (length events) ls high) (sym b)
        (subst (λ (hs : List ℕ). AreEnds (length events) noted.low.items hs) (sym c)
        (noted_ends m E events run noted has)))

    pub listed_mesh : ((E : ℕ → Edge) (steps : List Step) (events : ℕ) (low high : List ℕ)
        (mesh : HalfEdges) → IsMeshOf events low high (length low) mesh
        → ((e : ℕ) → e < length low → IsEventAt steps (slice_index low e) (E e).low)
        → ((e : ℕ) → e < length low → IsEventAt steps (slice_index high e) (E e).high)
        → IsTurned (length low) E steps mesh 0)
        → (n : ℕ) (low high : List ℕ) (mesh : HalfEdges) → n ≡ length events → low ≡ noted.low.items
        → high ≡ noted.high.items → IsMeshOf n low high (length low) mesh
        → IsTurned m E (steps_from [] events) mesh 0
    listed_mesh begin n low high mesh a b c is =
        none_turned m E events run noted has begin mesh
        (subst (λ (hs : List ℕ). IsMeshOf (length events) noted.low.items hs
        (length noted.low.items) mesh) c
        (subst (λ (ls : List ℕ). IsMeshOf (length events) ls high (length ls) mesh) b
        (subst (λ (k : ℕ). IsMeshOf k low high (length low) mesh) a is)))

  -- how far the edges that end are passed
  module _ (fit : Fit [] events) (k : ℕ) (l : k < length events) (v : Move)
      (is : get_or events k no_move ≡ v)
      (ended : List ℕ) (from : ℕ) (within : from ≤ length ended)
      (rest : drop from ended ≡ ended_at (drop k (steps_from [] events))) where
    pub block_within : from + v.ending ≤ length ended
    block_within = next_within m E events run fit k l v is ended from within rest

    pub rest_after : drop (from + v.ending) ended ≡ ended_at (drop (k + 1) (steps_from [] events))
    rest_after = rest_next m E events run fit k l v is ended from within rest
        ∙ ap (λ (n : ℕ). ended_at (drop n (steps_from [] events))) (sym (add-one k))

    module _ (starting : List ℕ) (a : starting ≡ v.starting) where
      pub is_event : IsEvent m E (steps_from [] events) k starting
          (take ((from + v.ending) - from) (drop from ended))
      is_event = event_is m E events run fit k l v is ended from within rest starting
          (take ((from + v.ending) - from) (drop from ended)) a (part_is ended from v.ending)

      pub can_turn_event : ((n : ℕ) (F : ℕ → Edge) (steps : List Step) (mesh : HalfEdges) (j : ℕ)
          (starting ending : List ℕ)
          → n ≤ 2 ^ 31 → IsEventList n F (points_of steps) → IsTurned n F steps mesh j
          → IsEvent n F steps j starting ending → CanTurn mesh starting ending)
          → m < 2 ^ 31 → (mesh : HalfEdges) → IsTurned m E (steps_from [] events) mesh k
          → CanTurn mesh starting (take ((from + v.ending) - from) (drop from ended))
      can_turn_event can few mesh t =
          can m E (steps_from [] events) mesh k starting
          (take ((from + v.ending) - from) (drop from ended)) (omega (arith, few))
          (run_events m E (steps_from [] events) run) t is_event

      pub has_room : (room : ℕ) → IsWidest events (length events) room
          → length starting + length (take ((from + v.ending) - from) (drop from ended)) ≤ room
      has_room room w =
          let b = w.most k l in
          let c = ap width is in
          let d = ap length a in
          let e = take-bound ((from + v.ending) - from) (drop from ended) in
          omega (arith, b, c, d, e)

      pub turned_next : (old new : HalfEdges) → IsTurned m E (steps_from [] events) old k
          → ((n : ℕ) (F : ℕ → Edge) (steps : List Step) (j : ℕ) → IsEventList n F (points_of steps)
          → IsTurned n F steps old j
          → IsEvent n F steps j starting (take ((from + v.ending) - from) (drop from ended))
          → IsTurned n F steps new (suc j))
          → IsTurned m E (steps_from [] events) new (k + 1)
      turned_next old new t f =
          subst (λ (n : ℕ). IsTurned m E (steps_from [] events) new n) (sym (add-one k))
          (f m E (steps_from [] events) k (run_events m E (steps_from [] events) run) t is_event)

  pub all_turned : (mesh : HalfEdges) (k : ℕ) → k ≡ length events
      → IsTurned m E (steps_from [] events) mesh k
      → IsTurned m E (steps_from [] events) mesh (length (steps_from [] events))
  all_turned mesh k e t =
      subst (λ (n : ℕ). IsTurned m E (steps_from [] events) mesh n) (e
      ∙ sym (size m E events run)) t
