-- What a sweep tests: all pairs first, or the new neighbours after each event.
-- Two bad neighbours after a step are two different edges.
use Rattle.std.proofs.Common.{◌≡◌, ℕ, zero, suc, ◌+◌, ◌<◌, ◌≤◌, ℤ, pos, ◌<ℤ◌, ◌≤ℤ◌, inl, inr, List}
use Rattle.std.proofs.Common.{[], ◌∷◌, ◌++◌, length, take, drop, get_or, refl, arith, ap, sym, ◌∙◌}
use Rattle.std.proofs.Common.{subst}
use Rattle.std.proofs.lemmas.Int.{ints, by_lt_z}
use Rattle.std.proofs.lemmas.List.{take-append-drop, length-drop}
use Rattle.plane.specs.declared.kinds.Point.{Point}
use Rattle.plane.specs.Forms.Vectors.{point, Edge, side}
use Rattle.plane.specs.Lists.{Each, First, Last, Neighbours, Joint, Has, Once}
use Rattle.plane.specs.Runs.Steps.{Step, after, live}
use Rattle.plane.specs.Forms.Weights.{Weight}
use Rattle.plane.specs.Forms.Meets.{Fine, Bad}
use Rattle.plane.specs.Runs.Sweeps.{IsEventList, trail, FinePair, Front, Clear, Made}
use Rattle.plane.specs.Runs.Sweeps.{SomeNeighbours}
use Rattle.plane.proofs.Sweep.SweepWords.{FallsUp, Fan, Ready}
use Rattle.plane.specs.Runs.Positions.{step_at, turn_at}
use Rattle.plane.proofs.Linear.EdgePlaces.{side-cross}
use Rattle.plane.proofs.Runs.Positions.{neighbours_by_index}
use Rattle.plane.proofs.Sweep.Pairs.{straight_on}
use Rattle.plane.proofs.ListLemmas.Lists.{has_front, has_back, first_map, first_append, first_from}
use Rattle.plane.proofs.ListLemmas.Lists.{last_from, each_from, neighbours_append, neighbours_front}
use Rattle.plane.proofs.ListLemmas.Lists.{neighbours_back, joint_from, each_has, has_three}
use Rattle.plane.proofs.Runs.LiveEdges.{live_started, side_through_low}
use Rattle.plane.proofs.Sweep.Fronts.{falls, live_rise}
use Rattle.plane.proofs.Sweep.Fans.{front_once}
use Rattle.plane.proofs.Sweep.Steps.{made_sides, known, next}
use Rattle.plane.proofs.Sweep.SweepEnd.{ready, fine_not_bad}
use Rattle.plane.proofs.Sweep.Finding.{clear_or, on_live_bad}

-- ---- what holds of the neighbours before a step and of the new neighbours holds of all neighbours
-- after it
pub tested : (R : ℕ → ℕ → Type 0) (m : ℕ) (E : ℕ → Edge) (now : List ℕ) (s : Step)
    → Neighbours R now → Made m E now s
    → Joint R s.below (s.starting ++ s.above) → Neighbours R s.starting → Joint R s.starting s.above
    → Neighbours R (after s)
tested R m E now s old k lower inner upper =
    let all = subst (λ xs. Neighbours R xs) k.is old in
    neighbours_append R s.below (s.starting ++ s.above)
    (neighbours_front R s.below (s.ending ++ s.above) all) lower
    (neighbours_append R s.starting s.above inner upper
    (neighbours_back R s.ending s.above (neighbours_back R s.below (s.ending ++ s.above) all)))

-- ---- tests of all pairs
abbrev pub AllFine : ℕ → (ℕ → Edge) → Type 0
AllFine m E = (a b : ℕ) → a < m → b < m → (a ≡ b → ⊥) → Fine (E a) (E b)

on_trail : (p : Point) (done : List Step) (coming : List Point) → Has p coming
    → Has p (trail done coming)
on_trail p [] coming k = k
on_trail p (s ∷ done) coming k = on_trail p done (s.at ∷ coming) (inr k)

-- then an event is on no live edge but as its end
pub all_clear : (w : ℤ) (m : ℕ) (E : ℕ → Edge) (pts : List Point) (done : List Step) (v : Point)
    (coming : List Point)
    → Weight w pts → IsEventList m E pts → AllFine m E
    → Front w m E pts done (v ∷ coming) → Clear E (live done) v
all_clear w m E pts done v coming h ev all f =
    let r = ready w m E pts h ev in
    elim (clear_or w m E pts done v coming r f) [
      | inl clear ↦ clear
      | inr o ↦
          let (d, l, end) = ev.events v
          (subst (λ ps. Has v ps) f.is (on_trail v done (v ∷ coming) (inl refl))) in
          let bad = on_live_bad w m E pts done v coming r f o d l end in
          absurd (fine_not_bad (E o.edge) (E d)
          (all o.edge d (live_started m E done o.edge f.replayed o.lives).0 l bad.0) bad.1)
    ]

pub once_neighbours : (R : ℕ → ℕ → Type 0) (xs : List ℕ) → Once xs
    → ((a b : ℕ) → Has a xs → Has b xs → (a ≡ b → ⊥) → R a b) → Neighbours R xs
once_neighbours R [] h f = tt
once_neighbours R (x ∷ []) h f = (tt, tt)
once_neighbours R (x ∷ (y ∷ ys)) h f = (
  f x y (inl refl) (inr (inl refl)) (λ e. h.0 (inl e)),
  once_neighbours R (y ∷ ys) h.1 (λ a b k l n. f a b (inr k) (inr l) n),
)

-- where the starting edges stand once, what holds of each two different edges holds of all
-- neighbours after a step
pub by_difference : (R : ℕ → ℕ → Type 0) (w : ℤ) (m : ℕ) (E : ℕ → Edge) (pts : List Point)
    (done : List Step) (s : Step) (coming : List Point)
    → Ready w m E pts
    → Front w m E pts done (s.at ∷ coming) → Made m E (live done) s → Once s.starting
    → ((a b : ℕ) → a < m → b < m → (a ≡ b → ⊥) → R a b) → Neighbours R (live done)
    → Neighbours R (after s)
by_difference R w m E pts done s coming r f k once all old =
    let sides = made_sides m E (live done) s (falls w m E pts done s.at coming r f) k in
    let is : (e : ℕ) → Has e (after s)
    → e < m = known m E (live done) s k (λ e i. (live_started m E done e f.replayed i).0) in
    let P : ℕ → Type 0 = λ e. pos 0 <ℤ side (E e) (point s.at) in
    let Q : ℕ → Type 0 = λ e. side (E e) (point s.at) <ℤ pos 0 in
    let Z : ℕ → Type 0 = λ e. side (E e) (point s.at) ≡ pos 0 in
    let N : ℕ → Type 0 = λ e. side (E e) (point s.at) ≤ℤ pos 0 in
    let zeros : Each Z s.starting = each_from Z s.starting
    (λ e i. side_through_low E e s.at (k.starting_only e i).1) in
    let firsts : First N (s.starting ++ s.above) = first_append N s.starting s.above
    (first_map Z N s.starting (λ e i (x : side (E e) (point s.at) ≡ pos 0). omega (arith, ints, x))
    (first_from Z s.starting zeros))
    (first_map Q N s.above (λ e i (x : side (E e) (point s.at) <ℤ pos 0). omega (arith, ints, x))
    (first_from Q s.above sides.above)) in
    let in_new : (e : ℕ) → Has e (s.starting ++ s.above)
    → Has e (after s) = λ e i. has_back e s.below (s.starting ++ s.above) i in
    let start_is : (e : ℕ) → Has e s.starting → e < m = λ e i. (k.starting_only e i).0 in
    tested R m E (live done) s old k
    (joint_from R P N s.below (s.starting ++ s.above)
    (λ a b ka kb x y. all a b (is a (has_front a s.below (s.starting ++ s.above) ka))
    (is b (in_new b kb)) (λ q. above_not E s.at a b q x y))
    (last_from P s.below sides.below) firsts)
    (once_neighbours R s.starting once (λ a b ka kb n. all a b (start_is a ka) (start_is b kb) n))
    (joint_from R Z Q s.starting s.above
    (λ a b ka kb x y. all a b (start_is a ka) (is b (in_new b (has_back b s.starting s.above kb)))
    (λ q. level_not E s.at a b q x y))
    (last_from Z s.starting zeros) (first_from Q s.above sides.above))
  where
    above_not : (E : ℕ → Edge) (p : Point) (a b : ℕ) → a ≡ b → pos 0 <ℤ side (E a) (point p)
        → side (E b) (point p) ≤ℤ pos 0 → ⊥
    above_not E p a b q x y =
        let z = subst (λ e. pos 0 <ℤ side (E e) (point p)) q x in omega (arith, ints, y, z)

    level_not : (E : ℕ → Edge) (p : Point) (a b : ℕ) → a ≡ b → side (E a) (point p) ≡ pos 0
        → side (E b) (point p) <ℤ pos 0 → ⊥
    level_not E p a b q x y =
        let z = subst (λ e. side (E e) (point p) ≡ pos 0) q x in omega (arith, ints, y, z)

-- so with all pairs tested the step goes on with no further test
pub next_all : (w : ℤ) (m : ℕ) (E : ℕ → Edge) (pts : List Point) (done : List Step) (s : Step)
    (coming : List Point)
    → Weight w pts → IsEventList m E pts → AllFine m E
    → Front w m E pts done (s.at ∷ coming) → Made m E (live done) s → Once s.starting
    → Front w m E pts (s ∷ done) coming
next_all w m E pts done s coming h ev all f k once =
    let r = ready w m E pts h ev in
    next w m E pts done s coming r f (all_clear w m E pts done s.at coming h ev all f) k
    (by_difference (FinePair E) w m E pts done s coming r f k once all f.fine)

-- ---- two bad neighbours after a step are two different edges
some_pair : (R S : ℕ → ℕ → Type 0) (xs : List ℕ) → SomeNeighbours S xs → Neighbours R xs
    → (a : ℕ) × (b : ℕ) × Has a xs × Has b xs × R a b × S a b
some_pair R S [] k n = absurd k
some_pair R S (x ∷ []) (inl k) n = absurd k
some_pair R S (x ∷ []) (inr k) n = absurd k
some_pair R S (x ∷ (y ∷ ys)) (inl k) n = (x, y, inl refl, inr (inl refl), n.0, k)
some_pair R S (x ∷ (y ∷ ys)) (inr k) n =
    let (a, b, i, j, q, u) = some_pair R S (y ∷ ys) k n.1 in (a, b, inr i, inr j, q, u)

pub bad_after_pair : (w : ℤ) (m : ℕ) (E : ℕ → Edge) (pts : List Point) (done : List Step) (s : Step)
    (coming : List Point)
    → Ready w m E pts → Front w m E pts done (s.at ∷ coming)
    → Made m E (live done) s → Once s.starting → SomeNeighbours (λ a b. Bad (E a) (E b)) (after s)
    → (a : ℕ) × (b : ℕ) × (a < m) × (b < m) × (a ≡ b → ⊥) × Bad (E a) (E b)
bad_after_pair w m E pts done s coming r f k once some =
    let D : ℕ → ℕ → Type 0 = λ a b. a ≡ b → ⊥ in
    let old : Neighbours D (live done) = once_neighbours D (live done)
    (front_once w m E pts done s.at coming r f) (λ a b i j n. n) in
    let apart = by_difference D w m E pts done s coming r f k once (λ a b la lb n. n) old in
    let is : (e : ℕ) → Has e (after s)
    → e < m = known m E (live done) s k (λ e i. (live_started m E done e f.replayed i).0) in
    let (a, b, i, j, n, bad) = some_pair D (λ a b. Bad (E a) (E b)) (after s) some apart in
    (a, b, is a i, is b j, n, bad)

-- ---- a cut by index
pub last_take : (P : ℕ → Type 0) (i d : ℕ) (xs : List ℕ) → i < length xs → P (get_or xs i d)
    → Last P (take (suc i) xs)
last_take P i d [] l h = absurd (omega (arith, l))
last_take P zero d (x ∷ xs) l h = h
last_take P (suc i) d (x ∷ []) l h = absurd (omega (arith, l))
last_take P (suc i) d (x ∷ (y ∷ ys)) l h = last_take P i d (y ∷ ys) (omega (arith, l)) h

pub first_drop : (P : ℕ → Type 0) (i d : ℕ) (xs : List ℕ) → i < length xs → P (get_or xs i d)
    → First P (drop i xs)
first_drop P i d [] l h = absurd (omega (arith, l))
first_drop P zero d (x ∷ xs) l h = h
first_drop P (suc i) d (x ∷ xs) l h = first_drop P i d xs (omega (arith, l)) h

-- what a binary search relies on: a test that is true at an index is true before it, one that is
-- false is false after it
pub true_down : (E : ℕ → Edge) (p : Point) (i j d : ℕ) (xs : List ℕ) → Neighbours (FallsUp E p) xs
    → i ≤ j → j < length xs → pos 0 <ℤ side (E (get_or xs j d)) (point p)
    → pos 0 <ℤ side (E (get_or xs i d)) (point p)
true_down E p i j d [] h k l t = absurd (omega (arith, l))
true_down E p zero zero d (x ∷ xs) h k l t = t
true_down E p (suc i) zero d (x ∷ xs) h k l t = absurd (omega (arith, k))
true_down E p zero (suc j) d (x ∷ []) h k l t = absurd (omega (arith, l))
true_down E p zero (suc j) d (x ∷ (y ∷ ys)) h k l t =
    h.0.above (true_down E p zero j d (y ∷ ys) h.1 (omega arith) (omega (arith, l)) t)
true_down E p (suc i) (suc j) d (x ∷ xs) h k l t =
    true_down E p i j d xs h.1 (omega (arith, k)) (omega (arith, l)) t

pub false_up : (E : ℕ → Edge) (p : Point) (i j d : ℕ) (xs : List ℕ) → Neighbours (FallsUp E p) xs
    → i ≤ j → j < length xs → side (E (get_or xs i d)) (point p) ≤ℤ pos 0
    → side (E (get_or xs j d)) (point p) ≤ℤ pos 0
false_up E p i j d xs h k l t = by_lt_z (pos 0) (side (E (get_or xs j d)) (point p))
    (λ (x : pos 0 <ℤ side (E (get_or xs j d)) (point p)). let y = true_down E p i j d xs h k l x in
    absurd (omega (arith, ints, t, y)))
    (λ x. x)

last_before : (P : ℕ → Type 0) (i d : ℕ) (xs : List ℕ) → i ≤ length xs
    → ((j : ℕ) → i ≡ suc j → P (get_or xs j d)) → Last P (take i xs)
last_before P zero d xs l h = tt
last_before P (suc i) d xs l h = last_take P i d xs (omega (arith, l)) (h i refl)

first_after : (P : ℕ → Type 0) (i d : ℕ) (xs : List ℕ) → (i < length xs → P (get_or xs i d))
    → First P (drop i xs)
first_after P zero d [] h = tt
first_after P zero d (x ∷ xs) h = h (omega arith)
first_after P (suc i) d [] h = tt
first_after P (suc i) d (x ∷ xs) h = first_after P i d xs (λ l. h (omega (arith, l)))

first_take : (P : ℕ → Type 0) (k : ℕ) (xs : List ℕ) → First P xs → First P (take k xs)
first_take P zero xs h = tt
first_take P (suc k) [] h = tt
first_take P (suc k) (x ∷ xs) h = h

get_drop : (i j d : ℕ) (xs : List ℕ) → get_or (drop i xs) j d ≡ get_or xs (i + j) d
get_drop zero j d xs = ap (λ n. get_or xs n d) (omega arith)
get_drop (suc i) j d [] = refl
get_drop (suc i) j d (x ∷ xs) =
    let e : suc (i + j) ≡ suc i + j = omega arith in
    get_drop i j d xs ∙ ap (λ n. get_or (x ∷ xs) n d) e

-- the step that two searches give: i is the place of the block of edges that end, k its length
abbrev pub step_at_index : {m : ℕ} {E : ℕ → Edge} (p : Point) (now : List ℕ) (i k : ℕ) → Fan m E p
    → Step
step_at_index p now i k fan = step_at p now i k fan.list

pub searched_made : (m : ℕ) (E : ℕ → Edge) (p : Point) (now : List ℕ) (i k d : ℕ) (fan : Fan m E p)
    → i + k ≤ length now
    → ((j : ℕ) → i ≡ suc j → pos 0 <ℤ side (E (get_or now j d)) (point p))
    → (i < length now → side (E (get_or now i d)) (point p) ≤ℤ pos 0)
    → ((j : ℕ) → k ≡ suc j → pos 0 ≤ℤ side (E (get_or now (i + j) d)) (point p))
    → (i + k < length now → side (E (get_or now (i + k) d)) (point p) <ℤ pos 0)
    → Made m E now (step_at_index p now i k fan)
searched_made m E p now i k d fan l a b c e =
    let size = length-drop i now in
    record {
      is = sym (ap (λ ys. take i now ++ ys) (take-append-drop k (drop i now))
          ∙ take-append-drop i now);
      below_last = last_before (λ x. pos 0 <ℤ side (E x) (point p)) i d now (omega (arith, l)) a;
      ending_first =
          first_take (λ x. side (E x) (point p) ≤ℤ pos 0) k (drop i now)
          (first_after (λ x. side (E x) (point p) ≤ℤ pos 0) i d now b);
      ending_last =
          last_before (λ x. pos 0 ≤ℤ side (E x) (point p)) k d (drop i now) (omega (arith, l, size))
          (λ j q. subst (λ x. pos 0 ≤ℤ side (E x) (point p)) (sym (get_drop i j d now)) (c j q));
      above_first =
          first_after (λ x. side (E x) (point p) <ℤ pos 0) k d (drop i now)
          (λ h. subst (λ x. side (E x) (point p) <ℤ pos 0) (sym (get_drop i k d now))
          (e (omega (arith, h, size))));
      starting_only = fan.only;
      starting_all = fan.all;
      sorted = fan.sorted;
    }

-- the same in the words of turns, for a list of starting edges
pub made_by_turns : (m : ℕ) (E : ℕ → Edge) (p : Point) (now : List ℕ) (i k : ℕ) (starting : List ℕ)
    → i + k ≤ length now
    → ((e : ℕ) → Has e starting → (e < m) × ((E e).low ≡ p))
    → ((e : ℕ) → e < m → (E e).low ≡ p → Has e starting)
    → ((j : ℕ) → suc j < length starting
    → pos 0 ≤ℤ turn_at E (get_or starting j 0) (E (get_or starting (suc j) 0)).high)
    → ((j : ℕ) → i ≡ suc j → pos 0 <ℤ turn_at E (get_or now j 0) p)
    → (i < length now → turn_at E (get_or now i 0) p ≤ℤ pos 0)
    → ((j : ℕ) → k ≡ suc j → pos 0 ≤ℤ turn_at E (get_or now (i + j) 0) p)
    → (i + k < length now → turn_at E (get_or now (i + k) 0) p <ℤ pos 0)
    → Made m E now (step_at p now i k starting)
made_by_turns m E p now i k starting l only all sorted a b c e =
    searched_made m E p now i k 0
    (record {
      list = starting;
      only = only;
      all = all;
      sorted = neighbours_by_index (λ x y. pos 0 ≤ℤ side (E x) (point (E y).high)) 0 starting
          (λ j h. let q = side-cross (E (get_or starting j 0))
          (E (get_or starting (suc j) 0)).high in let r = sorted j h in
          omega (arith, ints, q, r));
    }) l
    (λ j h. let q = side-cross (E (get_or now j 0)) p in let r = a j h in omega (arith, ints, q, r))
    (λ h. let q = side-cross (E (get_or now i 0)) p in let r = b h in omega (arith, ints, q, r))
    (λ j h. let q = side-cross (E (get_or now (i + j) 0)) p in let r = c j h in
    omega (arith, ints, q, r))
    (λ h. let q = side-cross (E (get_or now (i + k) 0)) p in let r = e h in
    omega (arith, ints, q, r))

-- only the edges of the block through the event are asked whether they end there
pub block_clear : (w : ℤ) (m : ℕ) (E : ℕ → Edge) (pts : List Point) (done : List Step) (s : Step)
    (coming : List Point)
    → Ready w m E pts → Front w m E pts done (s.at ∷ coming)
    → Made m E (live done) s → ((e : ℕ) → Has e s.ending → (E e).high ≡ s.at)
    → Clear E (live done) s.at
block_clear w m E pts done s coming h f k ends e i on =
    let sides = made_sides m E (live done) s (falls w m E pts done s.at coming h f) k in
    let line = (straight_on w (E e) (point s.at) (live_rise w m E pts done (s.at ∷ coming) h f e i)
    (omega (arith, ints)) on).line in
    elim (has_three e s.below s.ending s.above (subst (λ xs. Has e xs) k.is i)) [
      | inl b ↦ absurd
          (above_not _ (each_has (λ d. pos 0 <ℤ side (E d) (point s.at)) s.below e sides.below b)
          line)
      | inr r ↦ elim r [
        | inl b ↦ ends e b
        | inr b ↦ absurd
            (below_not _ (each_has (λ d. side (E d) (point s.at) <ℤ pos 0) s.above e sides.above b)
            line)
      ]
    ]
  where
    above_not : (z : ℤ) → pos 0 <ℤ z → z ≡ pos 0 → ⊥
    above_not z h k = omega (arith, ints)

    below_not : (z : ℤ) → z <ℤ pos 0 → z ≡ pos 0 → ⊥
    below_not z h k = omega (arith, ints)
