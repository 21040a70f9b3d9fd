-- Where no neighbours are bad and no event lies on a live edge but as its end, the next step is
-- good.
-- Then the sweep goes on, with all edges in order at the event.
use Rattle.std.proofs.Common.{◌≡◌, ℕ, ◌<◌, ℤ, pos, ◌<ℤ◌, ◌≤ℤ◌, inl, inr, List, ◌∷◌, ◌++◌, refl}
use Rattle.std.proofs.Common.{arith, sym, subst}
use Rattle.std.proofs.lemmas.Int.{ints}
use Rattle.plane.specs.declared.kinds.Point.{Point}
use Rattle.plane.specs.Forms.Vectors.{point, Edge, side, sweep, rise}
use Rattle.plane.specs.Lists.{Each, First, Neighbours, Has, Once}
use Rattle.plane.specs.Runs.Steps.{Step, before, after, Turns, GoodStep, AtSome, live}
use Rattle.plane.specs.Runs.Sweeps.{Lies, FinePair, Front, Clear, Made}
use Rattle.plane.proofs.Sweep.SweepWords.{Ready, FallsUp}
use Rattle.plane.proofs.ListLemmas.Lists.{each_has, each_from, has_front, has_back, has_three}
use Rattle.plane.proofs.ListLemmas.Lists.{first_map, first_append, first_from, last_from}
use Rattle.plane.proofs.ListLemmas.Lists.{neighbours_map, neighbours_append, neighbours_front}
use Rattle.plane.proofs.ListLemmas.Lists.{neighbours_back, joint_from, down_from_last}
use Rattle.plane.proofs.ListLemmas.Lists.{up_from_first, once_front, once_back}
use Rattle.plane.proofs.Linear.Vectors.{rise-is}
use Rattle.plane.proofs.Linear.Signs.{gap_at_most}
use Rattle.plane.proofs.Runs.LiveEdges.{live_started, is_live, side_through_low, side_through_high}
use Rattle.plane.proofs.Runs.LiveEdges.{has_below_before, has_above_before}
use Rattle.plane.proofs.Sweep.Pairs.{on_straight}
use Rattle.plane.proofs.Sweep.Fronts.{Cut, front_cut, first_least, Passes, passes, falls}
use Rattle.plane.proofs.Sweep.Fronts.{not_above_up, not_below_down}
use Rattle.plane.proofs.Sweep.Fans.{sorted_turns, front_once}

-- ---- the sides of the made step
pub record Sides (E : ℕ → Edge) (s : Step) : Type 0 where
  pub below : Each (λ e. pos 0 <ℤ side (E e) (point s.at)) s.below
  pub ending : Each (λ e. side (E e) (point s.at) ≡ pos 0) s.ending
  pub above : Each (λ e. side (E e) (point s.at) <ℤ pos 0) s.above

pub made_sides : (m : ℕ) (E : ℕ → Edge) (now : List ℕ) (s : Step) → Neighbours (FallsUp E s.at) now
    → Made m E now s → Sides E s
made_sides m E now s h k =
    let F = FallsUp E s.at in
    let all = subst (λ xs. Neighbours F xs) k.is h in
    let below = neighbours_front F s.below (s.ending ++ s.above) all in
    let others = neighbours_back F s.below (s.ending ++ s.above) all in
    let ending = neighbours_front F s.ending s.above others in
    let above = neighbours_back F s.ending s.above others in
    let P : ℕ → Type 0 = λ e. pos 0 <ℤ side (E e) (point s.at) in
    let N : ℕ → Type 0 = λ e. side (E e) (point s.at) ≤ℤ pos 0 in
    let L : ℕ → Type 0 = λ e. pos 0 ≤ℤ side (E e) (point s.at) in
    let Q : ℕ → Type 0 = λ e. side (E e) (point s.at) <ℤ pos 0 in
    let upto = up_from_first N s.ending
    (neighbours_map F (λ a b. N a → N b) s.ending
    (λ a b ka kb f. not_above_up E s.at a b f) ending) k.ending_first in
    let least = down_from_last L s.ending
    (neighbours_map F (λ a b. L b → L a) s.ending
    (λ a b ka kb f. not_below_down E s.at a b f) ending) k.ending_last in
    record {
      below = down_from_last P s.below
          (neighbours_map F (λ a b. P b → P a) s.below (λ a b ka kb f. f.above) below) k.below_last;
      ending = each_from (λ e. side (E e) (point s.at) ≡ pos 0) s.ending
          (λ e i. zero _ (each_has L s.ending e least i) (each_has N s.ending e upto i));
      above = up_from_first Q s.above
          (neighbours_map F (λ a b. Q a → Q b) s.above (λ a b ka kb f. f.below) above)
          k.above_first;
    }
  where
    zero : (z : ℤ) → pos 0 ≤ℤ z → z ≤ℤ pos 0 → z ≡ pos 0
    zero z h k = omega (arith, ints)

-- ---- the step is good
pub has_ending_before : (s : Step) (e : ℕ) → Has e s.ending → Has e (before s)
has_ending_before s e k = has_back e s.below (s.ending ++ s.above) (has_front e s.ending s.above k)

pub at_done : (w : ℤ) (m : ℕ) (E : ℕ → Edge) (done : List Step) (v p : Point) (coming : List Point)
    → Cut w m E done (v ∷ coming) → AtSome p done → sweep w (point p) <ℤ sweep w (point v)
at_done w m E done v p coming c (t, k, q) =
    subst (λ r. sweep w (point r) <ℤ sweep w (point v)) (sym q) (c.cut t v k (inl refl))

-- a live edge through the next event ends there
ends_there : (w : ℤ) (m : ℕ) (E : ℕ → Edge) (pts : List Point) (done : List Step) (v : Point)
    (coming : List Point) (e : ℕ)
    → Ready w m E pts → Front w m E pts done (v ∷ coming)
    → Clear E (live done) v → Has e (live done) → side (E e) (point v) ≡ pos 0 → (E e).high ≡ v
ends_there w m E pts done v coming e h f clear k zero =
    let c = front_cut w m E pts done (v ∷ coming) h f in
    let st = live_started m E done e f.replayed k in
    let l = at_done w m E done v (E e).low coming c st.1 in
    let u = first_least w v (E e).high coming c.rising (f.late e k) in
    clear e k (on_straight w (E e) (point v) (h.rises e st.0) (omega (arith, ints))
    (record { line = zero; low = omega (arith, ints, l); high = omega (arith, ints, u) }))

-- an edge that ends at the next event is live
ending_live : (w : ℤ) (m : ℕ) (E : ℕ → Edge) (pts : List Point) (done : List Step) (v : Point)
    (coming : List Point) (e : ℕ)
    → Ready w m E pts → Front w m E pts done (v ∷ coming)
    → e < m → (E e).high ≡ v → Has e (live done)
ending_live w m E pts done v coming e h f l q =
    let c = front_cut w m E pts done (v ∷ coming) h f in
    let r = rise-is w (E e) in
    let up = h.rises e l in
    let at : sweep w (point (E e).high)
    ≡ sweep w (point v) = subst (λ p. sweep w (point (E e).high) ≡ sweep w (point p)) q refl in
    is_live m E done e l f.replayed
    (elim (c.low e l) [
      | inl k ↦ k
      | inr k ↦ let x = first_least w v (E e).low coming c.rising k in
          absurd (omega (arith, ints, r, up, at, x))
    ])
    (λ k. let x = at_done w m E done v (E e).high coming c k in omega (arith, ints, x, at))

pub next_good : (w : ℤ) (m : ℕ) (E : ℕ → Edge) (pts : List Point) (done : List Step) (s : Step)
    (coming : List Point)
    → Ready w m E pts → Front w m E pts done (s.at ∷ coming)
    → Clear E (live done) s.at → Made m E (live done) s → Neighbours (FinePair E) s.starting
    → GoodStep m E s
next_good w m E pts done s coming h f clear k fine =
    let sides = made_sides m E (live done) s (falls w m E pts done s.at coming h f) k in
    let now : (e : ℕ) → Has e (before s)
    → Has e (live done) = λ e i. subst (λ xs. Has e xs) (sym k.is) i in
    let once = subst (λ xs. Once xs) k.is (front_once w m E pts done s.at coming h f) in
    record {
      ending_only = λ e i.
          let l = now e (has_ending_before s e i) in (
            (live_started m E done e f.replayed l).0,
            ends_there w m E pts done s.at coming e h f clear l
                (each_has (λ d. side (E d) (point s.at) ≡ pos 0) s.ending e sides.ending i),
          );
      ending_all = λ e l q.
          let zero = side_through_high E e s.at q in
          elim (has_three e s.below s.ending s.above
          (subst (λ xs. Has e xs) k.is (ending_live w m E pts done s.at coming e h f l q))) [
            | inl i ↦ absurd
                (above_not _ zero
                (each_has (λ d. pos 0 <ℤ side (E d) (point s.at)) s.below e sides.below i))
            | inr r ↦ elim r [
              | inl i ↦ i
              | inr i ↦ absurd
                  (below_not _ zero
                  (each_has (λ d. side (E d) (point s.at) <ℤ pos 0) s.above e sides.above i))
            ]
          ];
      ending_once = once_front s.ending s.above (once_back s.below (s.ending ++ s.above) once);
      starting_only = k.starting_only;
      starting_all = k.starting_all;
      turns = sorted_turns w m E s.at s.starting k.starting_only h.rises k.sorted fine;
      nearest_below = k.below_last;
      nearest_above = k.above_first;
    }
  where
    above_not : (z : ℤ) → z ≡ pos 0 → pos 0 <ℤ z → ⊥
    above_not z h k = omega (arith, ints)

    below_not : (z : ℤ) → z ≡ pos 0 → z <ℤ pos 0 → ⊥
    below_not z h k = omega (arith, ints)

-- ---- the sweep goes on
strict_above : (w : ℤ) (E : ℕ → Edge) (p : Point) (a b : ℕ) → Passes w E p a b
    → pos 0 <ℤ side (E a) (point p) → Lies w E p a b
strict_above w E p a b (inl g) h = inl g
strict_above w E p a b (inr (ea, eb)) h = absurd (omega (arith, ints, ea, h))

strict_below : (w : ℤ) (E : ℕ → Edge) (p : Point) (a b : ℕ) → Passes w E p a b
    → side (E a) (point p) <ℤ pos 0 → Lies w E p a b
strict_below w E p a b (inl g) h = inl g
strict_below w E p a b (inr (ea, eb)) h = absurd (omega (arith, ints, ea, h))

lies_across : (w : ℤ) (E : ℕ → Edge) (p : Point) (a b : ℕ) → pos 0 <ℤ rise w (E a)
    → pos 0 <ℤ rise w (E b) → pos 0 ≤ℤ side (E a) (point p) → side (E b) (point p) ≤ℤ pos 0
    → side (E b) (point p) <ℤ side (E a) (point p) → Lies w E p a b
lies_across w E p a b ra rb l u d =
    let g = gap_at_most w (E a) (E b) (point p) ra rb l u in inl (omega (arith, ints, g, d))

next_order : (w : ℤ) (E : ℕ → Edge) (s : Step) → ((e : ℕ) → Has e (after s) → pos 0 <ℤ rise w (E e))
    → Sides E s → ((e : ℕ) → Has e s.starting → (E e).low ≡ s.at)
    → Neighbours (Turns E) s.starting → Neighbours (Passes w E s.at) s.below
    → Neighbours (Passes w E s.at) s.above → Neighbours (Lies w E s.at) (after s)
next_order w E s up sides low turns below above =
    let R = Lies w E s.at in
    let P : ℕ → Type 0 = λ e. pos 0 <ℤ side (E e) (point s.at) in
    let Q : ℕ → Type 0 = λ e. side (E e) (point s.at) <ℤ pos 0 in
    let Z : ℕ → Type 0 = λ e. side (E e) (point s.at) ≡ pos 0 in
    let N : ℕ → Type 0 = λ e. side (E e) (point s.at) ≤ℤ pos 0 in
    let zeros : Each Z s.starting = each_from Z s.starting
    (λ e k. side_through_low E e s.at (low e k)) in
    let in_below : (e : ℕ) → Has e s.below
    → Has e (after s) = λ e k. has_front e s.below (s.starting ++ s.above) k in
    let in_new : (e : ℕ) → Has e (s.starting ++ s.above)
    → Has e (after s) = λ e k. has_back e s.below (s.starting ++ s.above) k in
    let firsts : First N (s.starting ++ s.above) = first_append N s.starting s.above
    (first_map Z N s.starting (λ e k (x : side (E e) (point s.at) ≡ pos 0). omega (arith, ints, x))
    (first_from Z s.starting zeros))
    (first_map Q N s.above (λ e k (x : side (E e) (point s.at) <ℤ pos 0). omega (arith, ints, x))
    (first_from Q s.above sides.above)) in
    neighbours_append R s.below (s.starting ++ s.above)
    (neighbours_map (Passes w E s.at) R s.below
    (λ a b ka kb x. strict_above w E s.at a b x (each_has P s.below a sides.below ka)) below)
    (joint_from R P N s.below (s.starting ++ s.above)
    (λ a b ka kb (x : pos 0 <ℤ side (E a) (point s.at)) (y : side (E b) (point s.at) ≤ℤ pos 0).
    lies_across w E s.at a b (up a (in_below a ka)) (up b (in_new b kb))
    (omega (arith, ints, x)) y (omega (arith, ints, x, y)))
    (last_from P s.below sides.below) firsts)
    (neighbours_append R s.starting s.above
    (neighbours_map (Turns E) R s.starting (λ a b ka kb t. inr (low a ka, low b kb, t)) turns)
    (joint_from R Z Q s.starting s.above
    (λ a b ka kb (x : side (E a) (point s.at) ≡ pos 0) (y : side (E b) (point s.at) <ℤ pos 0).
    lies_across w E s.at a b
    (up a (in_new a (has_front a s.starting s.above ka)))
    (up b (in_new b (has_back b s.starting s.above kb))) (omega (arith, ints, x))
    (omega (arith, ints, y)) (omega (arith, ints, x, y)))
    (last_from Z s.starting zeros) (first_from Q s.above sides.above))
    (neighbours_map (Passes w E s.at) R s.above
    (λ a b ka kb x. strict_below w E s.at a b x (each_has Q s.above a sides.above ka)) above))

-- the edges that are live after the step
pub known : (m : ℕ) (E : ℕ → Edge) (now : List ℕ) (s : Step) → Made m E now s
    → ((e : ℕ) → Has e now → e < m) → (e : ℕ) → Has e (after s) → e < m
known m E now s k old e i =
    let was : Has e (before s) → e < m = λ j. old e (subst (λ xs. Has e xs) (sym k.is) j) in
    elim (has_three e s.below s.starting s.above i) [
      | inl j ↦ was (has_below_before s e j)
      | inr r ↦ elim r [
        | inl j ↦ (k.starting_only e j).0
        | inr j ↦ was (has_above_before s e j)
      ]
    ]

-- the high end of an edge that is live after the step comes later
later : (p : Point) (v : Point) (coming : List Point) → Has p (v ∷ coming) → (p ≡ v → ⊥)
    → Has p coming
later p v coming (inl e) n = absurd (n e)
later p v coming (inr k) n = k

not_level : (E : ℕ → Edge) (e : ℕ) (v : Point) → (side (E e) (point v) ≡ pos 0 → ⊥) → (E e).high ≡ v
    → ⊥
not_level E e v n q = n (side_through_high E e v q)

starting_late : (w : ℤ) (m : ℕ) (E : ℕ → Edge) (done : List Step) (v : Point) (coming : List Point)
    (e : ℕ)
    → Cut w m E done (v ∷ coming) → e < m → (E e).low ≡ v → Has (E e).high coming
starting_late w m E done v coming e c l q =
    let r = rise-is w (E e) in
    let up = c.rises e l in
    let at : sweep w (point (E e).low)
    ≡ sweep w (point v) = subst (λ p. sweep w (point (E e).low) ≡ sweep w (point p)) q refl in
    later (E e).high v coming
    (elim (c.high e l) [
      | inl k ↦ let x = at_done w m E done v (E e).high coming c k in
          absurd (omega (arith, ints, r, up, at, x))
      | inr k ↦ k
    ])
    (λ i. let x : sweep w (point (E e).high)
    ≡ sweep w (point v) = subst (λ p. sweep w (point (E e).high) ≡ sweep w (point p)) i refl in
    omega (arith, ints, r, up, at, x))

next_late : (w : ℤ) (m : ℕ) (E : ℕ → Edge) (pts : List Point) (done : List Step) (s : Step)
    (coming : List Point)
    → Ready w m E pts → Front w m E pts done (s.at ∷ coming)
    → Made m E (live done) s → Sides E s → (e : ℕ) → Has e (after s) → Has (E e).high coming
next_late w m E pts done s coming h f k sides e i =
    let c = front_cut w m E pts done (s.at ∷ coming) h f in
    let old : Has e (before s)
    → Has (E e).high (s.at ∷ coming) = λ j. f.late e (subst (λ xs. Has e xs) (sym k.is) j) in
    elim (has_three e s.below s.starting s.above i) [
      | inl j ↦ later (E e).high s.at coming (old (has_below_before s e j))
          (not_level E e s.at
          (above_not _ (each_has (λ d. pos 0 <ℤ side (E d) (point s.at)) s.below e sides.below j)))
      | inr r ↦ elim r [
        | inl j ↦ let o = k.starting_only e j in starting_late w m E done s.at coming e c o.0 o.1
        | inr j ↦ later (E e).high s.at coming (old (has_above_before s e j))
            (not_level E e s.at
            (below_not _
            (each_has (λ d. side (E d) (point s.at) <ℤ pos 0) s.above e sides.above j)))
      ]
    ]
  where
    above_not : (z : ℤ) → pos 0 <ℤ z → z ≡ pos 0 → ⊥
    above_not z h k = omega (arith, ints)

    below_not : (z : ℤ) → z <ℤ pos 0 → z ≡ pos 0 → ⊥
    below_not z h k = omega (arith, ints)

low_upto : (w : ℤ) (m : ℕ) (E : ℕ → Edge) (done : List Step) (s : Step) (p : Point)
    (coming : List Point)
    → Cut w m E done (s.at ∷ coming) → AtSome p (s ∷ done)
    → sweep w (point p) ≤ℤ sweep w (point s.at)
low_upto w m E done s p coming c (t, inl k, q) =
    subst (λ r. sweep w (point r) ≤ℤ sweep w (point s.at)) (sym q)
    (subst (λ (u : Step). sweep w (point u.at) ≤ℤ sweep w (point s.at)) (sym k)
    (omega (arith, ints)))
low_upto w m E done s p coming c (t, inr k, q) =
    let x = at_done w m E done s.at p coming c (t, k, q) in omega (arith, ints, x)

-- the sweep goes on
pub next : (w : ℤ) (m : ℕ) (E : ℕ → Edge) (pts : List Point) (done : List Step) (s : Step)
    (coming : List Point)
    → Ready w m E pts → Front w m E pts done (s.at ∷ coming)
    → Clear E (live done) s.at → Made m E (live done) s → Neighbours (FinePair E) (after s)
    → Front w m E pts (s ∷ done) coming
next w m E pts done s coming h f clear k fine =
    let sides = made_sides m E (live done) s (falls w m E pts done s.at coming h f) k in
    let new = neighbours_front (FinePair E) s.starting s.above
    (neighbours_back (FinePair E) s.below (s.starting ++ s.above) fine) in
    let good = next_good w m E pts done s coming h f clear k new in
    let c = front_cut w m E pts done (s.at ∷ coming) h f in
    let st : (e : ℕ) → Has e (after s)
    → (e < m) × AtSome (E e).low (s ∷ done) =
    λ e i. live_started m E (s ∷ done) e (k.is, good, f.replayed) i in
    let pass = subst (λ xs. Neighbours (Passes w E s.at) xs) k.is
    (passes w m E pts done s.at coming h f) in
    record {
      replayed = (k.is, good, f.replayed);
      is = f.is;
      late = next_late w m E pts done s coming h f k sides;
      order = (
        next_order w E s (λ e i. h.rises e (st e i).0) sides
            (λ e i. (k.starting_only e i).1) good.turns
            (neighbours_front (Passes w E s.at) s.below (s.ending ++ s.above) pass)
            (neighbours_back (Passes w E s.at) s.ending s.above
            (neighbours_back (Passes w E s.at) s.below (s.ending ++ s.above) pass)),
        λ e i. low_upto w m E done s (E e).low coming c (st e i).1,
      );
      fine = fine;
    }
