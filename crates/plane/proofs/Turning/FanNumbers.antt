-- The fan of an event by numbers: which they are, that none stands twice, and that a list of next
-- numbers which turns round each fan
-- leads from each half-edge to its next one.
use Rattle.std.proofs.Common.{◌≡◌, ◌↔◌, ℕ, zero, suc, ◌+◌, ◌-◌, ◌*◌, ◌<◌, ℤ, inl, inr, List, []}
use Rattle.std.proofs.Common.{◌∷◌, ◌++◌, length, map, get_or, slice_index, refl, arith, ap, sym}
use Rattle.std.proofs.Common.{◌∙◌, subst}
use Rattle.std.proofs.lemmas.Int.{ints}
use Rattle.std.proofs.lemmas.List.{length-map, length-append, get_or_append_left, get_or-append-add}
use Rattle.std.proofs.Math.ListN.{get_or-map}
use Rattle.std.proofs.Math.Seq.{get_or-append_seam}
use Rattle.plane.specs.Forms.Vectors.{Edge, Before}
use Rattle.plane.specs.Lists.{Has, Once}
use Rattle.plane.specs.Runs.Steps.{Step, GoodStep, Run}
use Rattle.plane.specs.Faces.Replays.{no_step, replay}
use Rattle.plane.specs.Faces.Halves.{Half, under, over, edge_of, twin, number, half_of}
use Rattle.plane.specs.Faces.Classes.{starting_halves, ending_halves, fan, IsFirst, IsLast, Follows}
use Rattle.plane.specs.Faces.Classes.{FollowsRound, Next}
use Rattle.plane.specs.Faces.Directions.{origin}
use Rattle.plane.specs.Faces.FanNumbers.{twin_number, fan_numbers, place_before, TurnsRound}
use Rattle.plane.proofs.ListLemmas.Lists.{has_front, has_back, has_append, neighbours_map}
use Rattle.plane.proofs.Linear.EdgePlaces.{side-cross}
use Rattle.plane.proofs.MoveLemmas.MadeSteps.{once_append}
use Rattle.plane.proofs.MoveLemmas.Slopes.{StartsAt, slope_never, slope_trans}
use Rattle.plane.proofs.ListLemmas.SortedLists.{sorted_once, has_at}
use Rattle.plane.specs.Runs.Timetables.{BySlope}
use Rattle.plane.specs.Runs.Steps.{Turns}
use Rattle.plane.proofs.Turning.FanOrder.{outward_has, inward_has}
use Rattle.plane.proofs.Turning.Numbering.{half_number}
use Rattle.plane.proofs.Turning.NextExists.{twice}
use Rattle.plane.proofs.Turning.NextOnly.{some_next}
use Rattle.plane.proofs.Runs.Numbered.{good_at, has_nth}

-- ---- numbers
pub number_twin : (h : Half) → number (twin h) ≡ twin_number (number h)
number_twin (under e) = omega arith
number_twin (over e) = omega arith

pub number_below : (h : Half) (m : ℕ) → edge_of h < m → number h < 2 * m
number_below (under e) m l = omega (arith, l)
number_below (over e) m l = omega (arith, l)

pub below_number : (h : Half) (m : ℕ) → number h < 2 * m → edge_of h < m
below_number (under e) m l = omega (arith, l)
below_number (over e) m l = omega (arith, l)

pub number_one : (g h : Half) → number g ≡ number h → g ≡ h
number_one g h e = sym (half_number g) ∙ ap half_of e ∙ half_number h

-- ---- places in a list
abbrev nth : List Half → ℕ → Half
nth xs k = get_or xs k (under 0)

number_at : (xs : List Half) (k : ℕ) → slice_index (map number xs) k ≡ number (nth xs k)
number_at xs k = get_or-map number xs k (under 0)

place_of : (xs : List Half) (h : Half) → Has h xs → (k : ℕ) × (k < length xs) × (nth xs k ≡ h)
place_of [] h i = absurd i
place_of (x ∷ xs) h (inl e) = (0, omega arith, sym e)
place_of (x ∷ xs) h (inr i) = let (k, l, e) = place_of xs h i in (suc k, omega (arith, l), e)

once_place : (xs : List Half) (j k : ℕ) → Once xs → j < length xs → k < length xs
    → nth xs j ≡ nth xs k → j ≡ k
once_place [] j k o a b e = absurd (omega (arith, a))
once_place (x ∷ xs) zero zero o a b e = refl
once_place (x ∷ xs) zero (suc k) o a b e =
    absurd (o.0 (subst (λ (y : Half). Has y xs) (sym e) (has_at xs k (under 0) (omega (arith, b)))))
once_place (x ∷ xs) (suc j) zero o a b e =
    absurd (o.0 (subst (λ (y : Half). Has y xs) e (has_at xs j (under 0) (omega (arith, a)))))
once_place (x ∷ xs) (suc j) (suc k) o a b e =
    ap (λ (n : ℕ). suc n) (once_place xs j k o.1 (omega (arith, a)) (omega (arith, b)) e)

-- ---- what follows round
last_at : (x : Half) (xs : List Half) (g : Half) → IsLast g (x ∷ xs) → nth (x ∷ xs) (length xs) ≡ g
last_at x [] g e = sym e
last_at x (y ∷ ys) g l = last_at y ys g l

at_last : (x : Half) (xs : List Half) (g : Half) → nth (x ∷ xs) (length xs) ≡ g → IsLast g (x ∷ xs)
at_last x [] g e = sym e
at_last x (y ∷ ys) g e = at_last y ys g e

first_at : (xs : List Half) (h : Half) → IsFirst h xs → (0 < length xs) × (nth xs 0 ≡ h)
first_at [] h f = absurd f
first_at (x ∷ xs) h f = (omega arith, sym f)

follows_at : (xs : List Half) (g h : Half) → Follows xs g h
    → (k : ℕ) × (suc k < length xs) × (nth xs (suc k) ≡ h) × (nth xs k ≡ g)
follows_at [] g h f = absurd f
follows_at (x ∷ xs) g h (inl f) =
    let a = first_at xs h f.1 in let l = a.0 in (0, omega (arith, l), a.1, sym f.0)
follows_at (x ∷ xs) g h (inr f) =
    let (k, l, a, b) = follows_at xs g h f in (suc k, omega (arith, l), a, b)

at_follows : (xs : List Half) (k : ℕ) (g h : Half) → suc k < length xs → nth xs (suc k) ≡ h
    → nth xs k ≡ g → Follows xs g h
at_follows [] k g h l a b = absurd (omega (arith, l))
at_follows (x ∷ []) k g h l a b = absurd (omega (arith, l))
at_follows (x ∷ (y ∷ ys)) zero g h l a b = inl (sym b, sym a)
at_follows (x ∷ (y ∷ ys)) (suc k) g h l a b = inr (at_follows (y ∷ ys) k g h (omega (arith, l)) a b)

-- h at some place, and g at the one before it
abbrev Stands : List Half → Half → Half → Type 0
Stands xs g h =
    (k : ℕ) × (k < length xs) × (nth xs k ≡ h) × (nth xs (place_before (length xs) k) ≡ g)

round_at : (xs : List Half) (g h : Half) → FollowsRound xs g h → Stands xs g h
round_at xs g h (inl f) = let (k, l, a, b) = follows_at xs g h f in (suc k, l, a, b)
round_at [] g h (inr f) = absurd f.0
round_at (x ∷ xs) g h (inr f) =
    let e : suc (length xs) - 1 ≡ length xs = omega arith in
    (0, omega arith, sym f.1, ap (λ (k : ℕ). nth (x ∷ xs) k) e ∙ last_at x xs g f.0)

at_round : (xs : List Half) (g h : Half) (k : ℕ) → k < length xs → nth xs k ≡ h
    → nth xs (place_before (length xs) k) ≡ g → FollowsRound xs g h
at_round [] g h k l a b = absurd (omega (arith, l))
at_round (x ∷ xs) g h zero l a b =
    let e : length xs ≡ suc (length xs) - 1 = omega arith in
    inr (at_last x xs g (ap (λ (k : ℕ). nth (x ∷ xs) k) e ∙ b), sym a)
at_round (x ∷ xs) g h (suc k) l a b = inl (at_follows (x ∷ xs) k g h l a b)

pub round_is : (s : Step) (g h : Half) → FollowsRound (fan s) g h
    ↔ ((k : ℕ) × (k < length (fan_numbers s)) × (slice_index (fan_numbers s) k ≡ number h)
    × (slice_index (fan_numbers s) (place_before (length (fan_numbers s)) k) ≡ number g))
round_is s g h = (
  (λ f.
      let (k, l, a, b) = round_at (fan s) g h f in
      let n = length-map (fan s) number in (
        k,
        omega (arith, l, n),
        number_at (fan s) k ∙ ap number a,
        ap (λ (i : ℕ). slice_index (fan_numbers s) (place_before i k)) n
            ∙ number_at (fan s) (place_before (length (fan s)) k) ∙ ap number b,
      )),
  (λ z.
      let (k, l, a, b) = z in
      let n = length-map (fan s) number in
      at_round (fan s) g h k (omega (arith, l, n))
      (number_one (nth (fan s) k) h (sym (number_at (fan s) k) ∙ a))
      (number_one (nth (fan s) (place_before (length (fan s)) k)) g
      (sym (number_at (fan s) (place_before (length (fan s)) k))
      ∙ sym (ap (λ (i : ℕ). slice_index (fan_numbers s) (place_before i k)) n) ∙ b))),
)

-- ---- what the fan holds
has_outward : (h : Half) (es : List ℕ) → Has h (starting_halves es)
    → (e : ℕ) × Has e es × (h ≡ over e)
has_outward h [] i = absurd i
has_outward h (e ∷ es) (inl q) = (e, inl refl, q)
has_outward h (e ∷ es) (inr i) = let (d, j, q) = has_outward h es i in (d, inr j, q)

has_inward : (h : Half) (es : List ℕ) → Has h (ending_halves es)
    → (e : ℕ) × Has e es × (h ≡ under e)
has_inward h [] i = absurd i
has_inward h (e ∷ es) i = elim (has_append h (ending_halves es) (under e ∷ []) i) [
  | inl j ↦ (let (d, k, q) = has_inward h es j in (d, inr k, q))
  | inr j ↦ elim j [ inl q ↦ (e, inl refl, q) | inr n ↦ absurd n ]
]

is_over : Half → Type 0
is_over (under e) = ⊥
is_over (over e) = Unit {0}

over_not_under : (d e : ℕ) → over d ≡ under e → ⊥
unfolding is_over
over_not_under d e q = subst is_over q tt

outward_once : (es : List ℕ) → Once es → Once (starting_halves es)
outward_once [] o = tt
outward_once (e ∷ es) o = (
  (λ i. let (d, j, q) = has_outward (over e) es i in
      o.0 (subst (λ (x : ℕ). Has x es) (sym (ap edge_of q)) j)),
  outward_once es o.1,
)

inward_once : (es : List ℕ) → Once es → Once (ending_halves es)
inward_once [] o = tt
inward_once (e ∷ es) o =
    once_append (ending_halves es) (under e ∷ []) (inward_once es o.1) ((λ i. i), tt)
    (λ h i j. elim j [
      | inl q ↦ (let (d, k, p) = has_inward h es i in
          o.0 (subst (λ (x : ℕ). Has x es) (sym (ap edge_of (sym q ∙ p))) k))
      | inr n ↦ n
    ])

fan_once : (s : Step) → Once s.starting → Once s.ending → Once (fan s)
fan_once s a b =
    once_append (starting_halves s.starting) (ending_halves s.ending) (outward_once s.starting a)
    (inward_once s.ending b)
    (λ h i j. let (d, k, p) = has_outward h s.starting i in
    let (e, l, q) = has_inward h s.ending j in over_not_under d e (sym p ∙ q))

pub fan_is : (m : ℕ) (E : ℕ → Edge) (s : Step) → GoodStep m E s → (h : Half)
    → Has h (fan s) ↔ ((edge_of h < m) × (origin E h ≡ s.at))
fan_is m E s good h = ((λ i. only h i), (λ a. all h a.0 a.1))
  where
    only : (h : Half) → Has h (fan s) → (edge_of h < m) × (origin E h ≡ s.at)
    only h i = elim (has_append h (starting_halves s.starting) (ending_halves s.ending) i) [
      | inl j ↦ (let (e, k, q) = has_outward h s.starting j in
          subst (λ (x : Half). (edge_of x < m) × (origin E x ≡ s.at)) (sym q)
          (good.starting_only e k))
      | inr j ↦ (let (e, k, q) = has_inward h s.ending j in
          subst (λ (x : Half). (edge_of x < m) × (origin E x ≡ s.at)) (sym q)
          (good.ending_only e k))
    ]

    all : (h : Half) → edge_of h < m → origin E h ≡ s.at → Has h (fan s)
    all (under e) l q =
        has_back (under e) (starting_halves s.starting) (ending_halves s.ending)
        (inward_has e s.ending (good.ending_all e l q))
    all (over e) l q =
        has_front (over e) (starting_halves s.starting) (ending_halves s.ending)
        (outward_has e s.starting (good.starting_all e l q))

module _ (m : ℕ) (E : ℕ → Edge) (s : Step) (edges : (e : ℕ) → e < m → Before (E e).low (E e).high)
    (good : GoodStep m E s) where
  starting_once : Once s.starting
  starting_once =
      let at : (e : ℕ) → Has e s.starting
      → StartsAt E s.at e = λ e k. let g = good.starting_only e k in
      (g.1, edges e g.0) in
      sorted_once (BySlope E) (StartsAt E s.at) (slope_never E s.at)
      (slope_trans E s.at) s.starting at
      (neighbours_map (Turns E) (BySlope E) s.starting
      (λ a b i j t. let z = side-cross (E a) (E b).high in
      inl (omega (arith, ints, z, t))) good.turns)

  pub numbers_once : (j k : ℕ) → j < length (fan_numbers s) → k < length (fan_numbers s)
      → slice_index (fan_numbers s) j ≡ slice_index (fan_numbers s) k → j ≡ k
  numbers_once j k a b e =
      let n = length-map (fan s) number in
      once_place (fan s) j k (fan_once s starting_once good.ending_once) (omega (arith, a, n))
      (omega (arith, b, n))
      (number_one (nth (fan s) j) (nth (fan s) k) (sym (number_at (fan s) j) ∙ e
      ∙ number_at (fan s) k))

pub numbers_in : (s : Step) (k : ℕ) → k < length (fan_numbers s)
    → Has (half_of (slice_index (fan_numbers s) k)) (fan s)
numbers_in s k l =
    let n = length-map (fan s) number in
    subst (λ (x : Half). Has x (fan s))
    (sym (ap half_of (number_at (fan s) k) ∙ half_number (nth (fan s) k)))
    (has_at (fan s) k (under 0) (omega (arith, l, n)))

pub in_numbers : (s : Step) (h : Half) → Has h (fan s)
    → (k : ℕ) × (k < length (fan_numbers s)) × (slice_index (fan_numbers s) k ≡ number h)
in_numbers s h i =
    let n = length-map (fan s) number in
    let (k, l, e) = place_of (fan s) h i in
    (k, omega (arith, l, n), number_at (fan s) k ∙ ap number e)

-- ---- the numbers as a program writes them
outward_length : (es : List ℕ) → length (starting_halves es) ≡ length es
outward_length [] = refl
outward_length (e ∷ es) = ap (λ (n : ℕ). suc n) (outward_length es)

inward_length : (es : List ℕ) → length (ending_halves es) ≡ length es
inward_length [] = refl
inward_length (e ∷ es) =
    let a = inward_length es in
    let b = length-append (ending_halves es) (under e ∷ []) in omega (arith, a, b)

pub fan_length : (s : Step) → length (fan_numbers s) ≡ length s.starting + length s.ending
fan_length s =
    let n = length-map (fan s) number in
    let a = length-append (starting_halves s.starting) (ending_halves s.ending) in
    let b = outward_length s.starting in
    let c = inward_length s.ending in
    omega (arith, n, a, b, c)

outward_at : (es : List ℕ) (i : ℕ) → i < length es
    → nth (starting_halves es) i ≡ over (slice_index es i)
outward_at [] i l = absurd (omega (arith, l))
outward_at (e ∷ es) zero l = refl
outward_at (e ∷ es) (suc i) l = outward_at es i (omega (arith, l))

inward_at : (es : List ℕ) (i j : ℕ) → i + suc j ≡ length es
    → nth (ending_halves es) i ≡ under (slice_index es j)
inward_at [] i j q = absurd (omega (arith, q))
inward_at (e ∷ es) i zero q =
    let n = inward_length es in
    let at : i ≡ length (ending_halves es) = omega (arith, q, n) in
    ap (λ (k : ℕ). nth (ending_halves es ++ (under e ∷ [])) k) at
    ∙ get_or-append_seam (ending_halves es) (under e) [] (under 0)
inward_at (e ∷ es) i (suc j) q =
    let n = inward_length es in
    get_or_append_left (ending_halves es) (under e ∷ []) (under 0) i (omega (arith, q, n))
    ∙ inward_at es i j (omega (arith, q))

pub over_at : (s : Step) (i : ℕ) → i < length s.starting
    → slice_index (fan_numbers s) i ≡ 2 * slice_index s.starting i + 1
over_at s i l =
    let n = outward_length s.starting in
    let e = number_at (fan s) i
    ∙ ap number (get_or_append_left (starting_halves s.starting) (ending_halves s.ending)
    (under 0) i (omega (arith, l, n)) ∙ outward_at s.starting i l) in
    omega (arith, e)

pub under_at : (s : Step) (i j : ℕ) → i + suc j ≡ length s.ending
    → slice_index (fan_numbers s) (length s.starting + i) ≡ 2 * slice_index s.ending j
under_at s i j q =
    let n = outward_length s.starting in
    let place : length s.starting + i ≡ length (starting_halves s.starting)
    + i = omega (arith, n) in
    let e = ap (λ (k : ℕ). slice_index (fan_numbers s) k) place
    ∙ number_at (fan s) (length (starting_halves s.starting) + i)
    ∙ ap number (get_or-append-add (starting_halves s.starting) (ending_halves s.ending) i (under 0)
    ∙ inward_at s.ending i j q) in
    omega (arith, e)

-- ---- a run
module _ (w : ℤ) (m : ℕ) (E : ℕ → Edge) (steps : List Step) (run : Run m E steps) (next : ℕ → ℕ)
    (round : (k : ℕ) → k < length steps
    → TurnsRound next (fan_numbers (get_or steps k no_step))) where
  next_number : (h g : Half) → Next (replay w m E steps) h g → next (number h) ≡ number g
  next_number h g n =
      let s = get_or steps n.event no_step in
      let (k, l, a, b) = (round_is s g (twin h)).0 n.turn in
      let twins : twin_number (slice_index (fan_numbers s) k) ≡ number h = ap twin_number a
      ∙ sym (number_twin (twin h)) ∙ ap number (twice h) in
      sym (ap next twins) ∙ round n.event n.fits k l ∙ b

  pub next_number_is : (h g : Half) → edge_of h < m
      → (next (number h) ≡ number g) ↔ Next (replay w m E steps) h g
  next_number_is h g l = (
    (λ e.
        let k = some_next w m E steps run h l in
        subst (λ (x : Half). Next (replay w m E steps) h x)
        (number_one k.0 g (sym (next_number h k.0 k.2) ∙ e)) k.2),
    (λ n. next_number h g n),
  )

pub run_good : (m : ℕ) (E : ℕ → Edge) (steps : List Step) (k : ℕ) → Run m E steps → k < length steps
    → GoodStep m E (get_or steps k no_step)
run_good m E steps k run l = good_at m E [] steps k run.replays l

-- each event has a half-edge
pub run_filled : (m : ℕ) (E : ℕ → Edge) (steps : List Step) (k : ℕ) → Run m E steps
    → k < length steps → 0 < length (fan_numbers (get_or steps k no_step))
run_filled m E steps k run l =
    let s = get_or steps k no_step in
    let (e, f, q) = run.events s (has_nth steps k l) in
    let is = fan_is m E s (run_good m E steps k run l) in
    elim q [
      | inl low ↦ (let (i, b, w) = in_numbers s (over e) ((is (over e)).1 (f, low)) in
          omega (arith, b))
      | inr high ↦ (let (i, b, w) = in_numbers s (under e) ((is (under e)).1 (f, high)) in
          omega (arith, b))
    ]
