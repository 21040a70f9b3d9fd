-- Good moves of a timetable are a complete run; a move is good by tests at its position alone, and
-- good moves go on one by one.
use Rattle.std.proofs.Common.{◌≡◌, ℕ, zero, suc, ◌+◌, ◌<◌, ◌≤◌, ◌⊎◌, inl, inr, List, [], ◌∷◌, ◌++◌}
use Rattle.std.proofs.Common.{map, length, take, drop, get_or, refl, arith, ap, sym, ◌∙◌, subst}
use Rattle.std.proofs.lemmas.List.{length-take-le, length-drop, take-append-drop, length-map}
use Rattle.std.proofs.Math.Seq.{take-suc}
use Rattle.plane.specs.declared.kinds.Point.{Point}
use Rattle.plane.specs.Lists.{Each, Neighbours, Has, Once}
use Rattle.plane.specs.Forms.Vectors.{Edge, Before}
use Rattle.plane.specs.Runs.Steps.{Step, after, live, IsReplay, Replayed, Run, AtSome}
use Rattle.plane.specs.Runs.Moves.{Move, no_move, step_of, steps_from, live_from, made, Fit, Risen}
use Rattle.plane.specs.Runs.Moves.{IsGood, AreGood}
use Rattle.plane.specs.Runs.Timetables.{Timed, IsTimed, IsTimetable, move_at, moves_at, no_event}
use Rattle.plane.specs.Runs.Timetables.{PassesAt}
use Rattle.plane.proofs.ListLemmas.Lists.{has_front, has_back, once_front, once_back}
use Rattle.plane.proofs.Runs.Positions.{good_step_by_turns}
use Rattle.plane.proofs.Runs.Moments.{replays}
use Rattle.plane.proofs.Runs.LiveEdges.{live_started}
use Rattle.plane.proofs.MoveLemmas.MadeSteps.{never, live_made, all_made, replayed, front_once}
use Rattle.plane.proofs.MoveLemmas.MadeSteps.{front_empty}
use Rattle.plane.proofs.ListLemmas.SortedLists.{first_before, has_at, room}
use Rattle.plane.proofs.MoveLemmas.OneTimetable.{point_of, whole, starting_once, before_trans}

-- ---- good moves
pub good_more : (m : ℕ) (E : ℕ → Edge) (done : List Step) (vs : List Move) (v : Move)
    → AreGood m E done vs → IsGood m E (made done vs) v → AreGood m E done (vs ++ (v ∷ []))
good_more m E done [] v h k = (k, tt)
good_more m E done (u ∷ vs) v h k = (h.0, good_more m E (step_of (live done) u ∷ done) vs v h.1 k)

pub good_fit : (m : ℕ) (E : ℕ → Edge) (done : List Step) (vs : List Move) → AreGood m E done vs
    → Fit (live done) vs
good_fit m E done [] h = tt
good_fit m E done (v ∷ vs) h = (h.0.fits, good_fit m E (step_of (live done) v ∷ done) vs h.1)

pub good_risen : (m : ℕ) (E : ℕ → Edge) (done : List Step) (vs : List Move) → Risen done
    → AreGood m E done vs → Risen (made done vs)
good_risen m E done [] r h = r
good_risen m E done (v ∷ vs) r h =
    good_risen m E (step_of (live done) v ∷ done) vs (h.0.once, h.0.later, r) h.1

-- ---- the live list of good moves
module _ (m : ℕ) (E : ℕ → Edge) (vs : List Move) (good : AreGood m E [] vs) where
  pub good_known : (e : ℕ) → Has e (live_from [] vs) → (e < m) × AtSome (E e).low (made [] vs)
  good_known e k =
      live_started m E (made [] vs) e (replayed m E [] vs tt good)
      (subst (λ (xs : List ℕ). Has e xs) (sym (live_made [] vs)) k)

  pub good_once : ((e : ℕ) → e < m → Before (E e).low (E e).high) → Once (live_from [] vs)
  good_once edges =
      subst (λ (xs : List ℕ). Once xs) (live_made [] vs)
      (front_once m E edges (made [] vs) (replayed m E [] vs tt good)
      (good_risen m E [] vs tt good))

  pub good_room : ((e : ℕ) → e < m → Before (E e).low (E e).high) → length (live_from [] vs) ≤ m
  good_room edges = room m (live_from [] vs) (good_once edges) (λ e k. (good_known e k).0)

-- ---- the points of steps and of moves
abbrev pub point_at : Step → Point
point_at s = s.at

abbrev place_of : Move → Point
place_of v = v.at

steps_points : (now : List ℕ) (vs : List Move) → map point_at (steps_from now vs) ≡ map place_of vs
steps_points now [] = refl
steps_points now (v ∷ vs) =
    ap (λ (ps : List Point). v.at ∷ ps) (steps_points (after (step_of now v)) vs)

moves_points : (table : List Timed) (ps : List ℕ) → length ps ≡ length table
    → map place_of (moves_at table ps) ≡ map point_of table
moves_points [] ps e = refl
moves_points (t ∷ table) [] e = absurd (omega (arith, e))
moves_points (t ∷ table) (p ∷ ps) e =
    ap (λ (qs : List Point). t.at ∷ qs) (moves_points table ps (omega (arith, e)))

at_some : (p : Point) (steps : List Step) → Has p (map point_at steps) → AtSome p steps
at_some p [] h = absurd h
at_some p (s ∷ steps) (inl e) = (s, inl refl, e)
at_some p (s ∷ steps) (inr h) = let (t, k, q) = at_some p steps h in (t, inr k, q)

pub has_point : (s : Step) (steps : List Step) → Has s steps → Has s.at (map point_at steps)
has_point s [] h = absurd h
has_point s (t ∷ steps) (inl e) = inl (ap point_at e)
has_point s (t ∷ steps) (inr h) = inr (has_point s steps h)

steps_rise : (steps : List Step) → Neighbours Before (map point_at steps)
    → Neighbours (λ s t. Before s.at t.at) steps
steps_rise [] h = tt
steps_rise (s ∷ []) h = (tt, tt)
steps_rise (s ∷ (t ∷ steps)) h = (h.0, steps_rise (t ∷ steps) h.1)

-- the steps made are those of the moves
kept : (s : Step) (done : List Step) (vs : List Move) → Has s done → Has s (made done vs)
kept s done [] h = h
kept s done (v ∷ vs) h = kept s (step_of (live done) v ∷ done) vs (inr h)

made_has : (s : Step) (done : List Step) (vs : List Move) → Has s (steps_from (live done) vs)
    → Has s (made done vs)
made_has s done [] h = absurd h
made_has s done (v ∷ vs) (inl e) = kept s (step_of (live done) v ∷ done) vs (inl e)
made_has s done (v ∷ vs) (inr h) = made_has s (step_of (live done) v ∷ done) vs h

-- ---- a complete run
module _ (m : ℕ) (E : ℕ → Edge) (table : List Timed) (ps : List ℕ) (is : IsTimetable m E table)
    (size : length ps ≡ length table) where
  abbrev vs : List Move
  vs = moves_at table ps

  abbrev steps : List Step
  steps = steps_from [] vs

  points : map point_at steps ≡ map point_of table
  points = steps_points [] vs ∙ moves_points table ps size

  at_step : (p : Point) → Has p (map point_of table) → AtSome p steps
  at_step p h = at_some p steps (subst (λ (qs : List Point). Has p qs) (sym points) h)

  at_made : (p : Point) → Has p (map point_of table) → AtSome p (made [] vs)
  at_made p h = let (s, k, q) = at_step p h in (s, made_has s [] vs k, q)

  pub timetable_run : AreGood m E [] vs → Run m E steps
  timetable_run good =
      let front = replayed m E [] vs tt good in
      let nothing = front_empty m E is.events.edges (made [] vs) front
      (good_risen m E [] vs tt good) (λ e l. at_made (E e).high (is.events.ends e l).1) in
      record {
        replays = subst (λ (xs : List Step). IsReplay m E [] xs) (all_made vs)
            (replays m E (made [] vs) [] front nothing);
        rises = steps_rise steps
            (subst (λ (qs : List Point). Neighbours Before qs) (sym points) is.events.rises);
        ends = λ e l. (
          at_step (E e).low (is.events.ends e l).0,
          at_step (E e).high (is.events.ends e l).1,
        );
        events = λ s h. is.events.events s.at
            (subst (λ (qs : List Point). Has s.at qs) points (has_point s steps h));
        edges = is.events.edges;
      }

-- ---- a move that passes its tests is good
once_block : (now : List ℕ) (p n : ℕ) → Once now → Once (take n (drop p now))
once_block now p n h =
    let later = once_back (take p now) (drop p now)
    (subst (λ (xs : List ℕ). Once xs) (sym (take-append-drop p now)) h) in
    once_front (take n (drop p now)) (drop n (drop p now))
    (subst (λ (xs : List ℕ). Once xs) (sym (take-append-drop n (drop p now))) later)

has_block : (now : List ℕ) (p n e : ℕ) → Has e (take n (drop p now)) → Has e now
has_block now p n e h =
    subst (λ (xs : List ℕ). Has e xs) (take-append-drop p now) (has_back e (take p now) (drop p now)
    (subst (λ (xs : List ℕ). Has e xs) (take-append-drop n (drop p now))
    (has_front e (take n (drop p now)) (drop n (drop p now)) h)))

block_length : (now : List ℕ) (p n : ℕ) → (p + n) ≤ length now → length (take n (drop p now)) ≡ n
block_length now p n h =
    length-take-le n (drop p now) (let l = length-drop p now in omega (arith, h, l))

pub passes_good : (m : ℕ) (E : ℕ → Edge) (done : List Step) (t : Timed) (p : ℕ)
    → ((e : ℕ) → e < m → Before (E e).low (E e).high) → Replayed m E done → Risen done
    → IsTimed m E t → ((s : Step) → Has s done → Before s.at t.at) → PassesAt E (live done) t p
    → IsGood m E done (move_at t p)
passes_good m E done t p edges h r is later test =
    let now = live done in
    let n = length t.ending in
    let once = front_once m E edges done h r in
    let block = test.block in
    let long = block_length now p n block in
    let ends : (e : ℕ) → Has e (take n (drop p now))
    → (e < m) × ((E e).high ≡ t.at) =
    λ e k. ((live_started m E done e h (has_block now p n e k)).0, test.ends e k) in
    record {
      fits = block;
      good = good_step_by_turns m E t.at now p n t.starting (omega (arith, block)) ends
          (whole m E t (take n (drop p now)) is (once_block now p n once) ends
          (omega (arith, long))) (once_block now p n once)
          (λ e k. (is.starting e).0 k) (λ e l q. (is.starting e).1 (l, q)) test.slopes test.below
          test.above;
      once = starting_once m E edges t is;
      later = later;
    }

-- ---- moves one by one
from_made : (s : Step) (done : List Step) (vs : List Move) → Has s (made done vs)
    → Has s done ⊎ Has s (steps_from (live done) vs)
from_made s done [] h = inl h
from_made s done (v ∷ vs) h = elim (from_made s (step_of (live done) v ∷ done) vs h) [
  | inl k ↦ elim k [ inl e ↦ inr (inl e) | inr i ↦ inl i ]
  | inr k ↦ inr (inr k)
]

-- of rising points the first k are before that of number k
first_points : (q : Point) (qs : List Point) (k : ℕ) (d : Point) → Neighbours Before qs
    → k < length qs → Has q (take k qs) → Before q (get_or qs k d)
first_points q [] k d h l i = absurd (omega (arith, l))
first_points q (x ∷ qs) zero d h l i = absurd i
first_points q (x ∷ qs) (suc k) d h l (inl e) =
    subst (λ (y : Point). Before y (get_or qs k d)) (sym e)
    (first_before Before (λ p. Unit {0}) (λ p u b. never p b)
    (λ p y r a b c n o. before_trans p y r n o) x (get_or qs k d) qs (λ z j. tt) h
    (has_at qs k d (omega (arith, l))))
first_points q (x ∷ qs) (suc k) d h l (inr i) = first_points q qs k d h.1 (omega (arith, l)) i

map_take : (us : List Move) (k : ℕ) → map place_of (take k us) ≡ take k (map place_of us)
map_take [] zero = refl
map_take [] (suc k) = refl
map_take (u ∷ us) zero = refl
map_take (u ∷ us) (suc k) = ap (λ (ps : List Point). u.at ∷ ps) (map_take us k)

map_at : (table : List Timed) (k : ℕ) → k < length table
    → get_or (map point_of table) k no_event.at ≡ (get_or table k no_event).at
map_at [] k l = absurd (omega (arith, l))
map_at (t ∷ table) zero l = refl
map_at (t ∷ table) (suc k) l = map_at table k (omega (arith, l))

timed_at : (m : ℕ) (E : ℕ → Edge) (table : List Timed) (k : ℕ) → k < length table
    → Each (IsTimed m E) table → IsTimed m E (get_or table k no_event)
timed_at m E [] k l h = absurd (omega (arith, l))
timed_at m E (t ∷ table) zero l h = h.0
timed_at m E (t ∷ table) (suc k) l h = timed_at m E table k (omega (arith, l)) h.1

pub moved_at : (table : List Timed) (ps : List ℕ) (k : ℕ) → length ps ≡ length table
    → k < length table
    → get_or (moves_at table ps) k no_move ≡ move_at (get_or table k no_event) (get_or ps k 0)
moved_at [] ps k e l = absurd (omega (arith, l))
moved_at (t ∷ table) [] k e l = absurd (omega (arith, e))
moved_at (t ∷ table) (p ∷ ps) zero e l = refl
moved_at (t ∷ table) (p ∷ ps) (suc k) e l =
    moved_at table ps k (omega (arith, e)) (omega (arith, l))

pub moves_length : (table : List Timed) (ps : List ℕ) → length ps ≡ length table
    → length (moves_at table ps) ≡ length table
moves_length [] ps e = refl
moves_length (t ∷ table) [] e = absurd (omega (arith, e))
moves_length (t ∷ table) (p ∷ ps) e =
    ap (λ (n : ℕ). suc n) (moves_length table ps (omega (arith, e)))

module _ (m : ℕ) (E : ℕ → Edge) (table : List Timed) (ps : List ℕ) (is : IsTimetable m E table)
    (size : length ps ≡ length table) (k : ℕ) (l : k < length table)
    (good : AreGood m E [] (take k (moves_at table ps))) where
  abbrev front : List Move
  front = take k (moves_at table ps)

  abbrev next : Timed
  next = get_or table k no_event

  passed : (s : Step) → Has s (made [] front) → Before s.at next.at
  passed s h = elim (from_made s [] front h) [
    | inl i ↦ absurd i
    | inr i ↦ (
        let q = steps_points [] front ∙ map_take (moves_at table ps) k
        ∙ ap (λ (ys : List Point). take k ys) (moves_points table ps size) in
        let there = subst (λ (ys : List Point). Has s.at ys) q
        (has_point s (steps_from [] front) i) in
        let n = length-map table point_of in
        subst (λ (y : Point). Before s.at y) (map_at table k l)
        (first_points s.at (map point_of table) k no_event.at is.events.rises
        (omega (arith, l, n)) there))
  ]

  pub table_goes_on : PassesAt E (live_from [] front) next (get_or ps k 0)
      → AreGood m E [] (take (suc k) (moves_at table ps))
  table_goes_on test =
      let e = live_made [] front in
      let here = subst (λ (now : List ℕ). PassesAt E now next (get_or ps k 0)) (sym e) test in
      let one = passes_good m E (made [] front) next (get_or ps k 0) is.events.edges
      (replayed m E [] front tt good) (good_risen m E [] front tt good)
      (timed_at m E table k l is.timed) passed here in
      let more = good_more m E [] front (get_or (moves_at table ps) k no_move) good
      (subst (λ (v : Move). IsGood m E (made [] front) v)
      (sym (moved_at table ps k size l)) one) in
      let n = moves_length table ps size in
      subst (λ (vs : List Move). AreGood m E [] vs)
      (sym (take-suc (moves_at table ps) k no_move (omega (arith, l, n)))) more
