-- Each half-edge has exactly one next one and exactly one previous one.
-- The next one is exactly the first half-edge clockwise after the twin, among those that start in
-- one point with it.
use Rattle.std.proofs.Common.{◌≡◌, ℕ, ◌<◌, ◌⊎◌, inl, inr, List, [], ◌∷◌, refl, arith, ap, sym, ◌∙◌}
use Rattle.std.proofs.Common.{subst, ℤ, pos, ◌*ℤ◌, ◌-ℤ◌}
use Rattle.std.proofs.lemmas.Int.{ints}
use Rattle.plane.specs.Forms.Vectors.{Edge}
use Rattle.plane.specs.Runs.Steps.{Step, Run}
use Rattle.plane.specs.Faces.Replays.{Replay, replay}
use Rattle.plane.proofs.Runs.RunWords.{IsRun, IsLawful}
use Rattle.plane.specs.Faces.Halves.{Half, edge_of, twin}
use Rattle.plane.specs.Faces.Classes.{Next}
use Rattle.plane.specs.Faces.Directions.{Direction, direction, TurnsLeft, Precedes, Comes, origin}
use Rattle.plane.specs.Faces.Directions.{IsClockwiseNext}
use Rattle.plane.proofs.Algebra.Ring.{at, minus, num, times, vars, ring}
use Rattle.plane.proofs.Turning.Directions.{right_left}
use Rattle.plane.proofs.Turning.RunFans.{turns_at, next_is_clockwise}
use Rattle.plane.proofs.Turning.FanOrder.{next_fits}
use Rattle.plane.proofs.Runs.Numbered.{swept_run}
use Rattle.plane.proofs.Runs.Lawful.{swept_lawful}
use Rattle.plane.proofs.Turning.NextExists.{twice, next_some, previous_some}
use Rattle.plane.proofs.Turning.AnyWeight.{next_to}
use Rattle.plane.proofs.Runs.RunWeights.{run_weight}

-- ---- the order of directions is strict
turn_back : (ax ay bx by : ℤ) → (ax *ℤ by) -ℤ (ay *ℤ bx) ≡ pos 0 -ℤ ((bx *ℤ ay) -ℤ (by *ℤ ax))
turn_back ax ay bx by =
    ring (minus (times (at 0) (at 3)) (times (at 1) (at 2)))
    (minus (num (pos 0)) (minus (times (at 2) (at 1)) (times (at 3) (at 0))))
    (vars (ax ∷ ay ∷ bx ∷ by ∷ [])) refl

turns_once : (a b : Direction) → TurnsLeft a b → TurnsLeft b a → ⊥
turns_once a b h k = let e = turn_back a.x a.y b.x b.y in omega (arith, ints, e, h, k)

pub precedes_once : (a b : Direction) → Precedes a b → Precedes b a → ⊥
precedes_once a b (inl h) (inl k) = right_left a h.0 k.1
precedes_once a b (inl h) (inr (inl k, t)) = right_left b k.0 h.1
precedes_once a b (inl h) (inr (inr k, t)) = right_left a h.0 k.1
precedes_once a b (inr (inl h, t)) (inl k) = right_left a h.0 k.1
precedes_once a b (inr (inr h, t)) (inl k) = right_left b k.0 h.1
precedes_once a b (inr (h, t)) (inr (k, u)) = turns_once a b t u

module _ (m : ℕ) (E : ℕ → Edge) where
  once : (g h : Half) → Comes E g h → Comes E h g → ⊥
  once g h a b = precedes_once (direction E g) (direction E h) a b

  -- two half-edges neither of which comes after the other are one
  one_of : (g h : Half) → (g ≡ h) ⊎ Comes E g h → (h ≡ g) ⊎ Comes E h g → g ≡ h
  one_of g h (inl e) k = e
  one_of g h (inr a) (inl e) = sym e
  one_of g h (inr a) (inr b) = absurd (once g h a b)

  -- what does not come before what t comes after does not come before t
  before_turn : (t g : Half) → Comes E g t → (t ≡ g) ⊎ Comes E t g → ⊥
  before_turn t g a (inl e) = let b = subst (λ (x : Half). Comes E x t) (sym e) a in once t t b b
  before_turn t g a (inr b) = once g t a b

  low_part : (t g x : Half) → Comes E x t → ((x ≡ g) ⊎ Comes E x g) ⊎ ((x ≡ t) ⊎ Comes E t x)
      → (x ≡ g) ⊎ Comes E x g
  low_part t g x a (inl k) = k
  low_part t g x a (inr (inl e)) =
      let b = subst (λ (y : Half). Comes E y t) e a in absurd (once t t b b)
  low_part t g x a (inr (inr b)) = absurd (once x t a b)

  -- the first one clockwise after t is one
  pub clockwise_one : (t g h : Half) → edge_of g < m → edge_of h < m → IsClockwiseNext m E t g
      → IsClockwiseNext m E t h → g ≡ h
  clockwise_one t g h lg lh a b = cases a.turn b.turn
    where
      cases : (Comes E g t × ((x : Half) → edge_of x < m → origin E x ≡ origin E t
          → ((x ≡ g) ⊎ Comes E x g) ⊎ ((x ≡ t) ⊎ Comes E t x)))
          ⊎ ((x : Half) → edge_of x < m → origin E x ≡ origin E t
          → ((x ≡ g) ⊎ Comes E x g) × ((x ≡ t) ⊎ Comes E t x))
          → (Comes E h t × ((x : Half) → edge_of x < m → origin E x ≡ origin E t
          → ((x ≡ h) ⊎ Comes E x h) ⊎ ((x ≡ t) ⊎ Comes E t x)))
          ⊎ ((x : Half) → edge_of x < m → origin E x ≡ origin E t
          → ((x ≡ h) ⊎ Comes E x h) × ((x ≡ t) ⊎ Comes E t x))
          → g ≡ h
      cases (inl u) (inl v) =
          one_of g h (low_part t h g u.0 (v.1 g lg a.start)) (low_part t g h v.0 (u.1 h lh b.start))
      cases (inl u) (inr v) = absurd (before_turn t g u.0 (turned (v g lg a.start).1))
        where
          turned : (g ≡ t) ⊎ Comes E t g → (t ≡ g) ⊎ Comes E t g
          turned (inl e) = inl (sym e)
          turned (inr k) = inr k
      cases (inr u) (inl v) = absurd (before_turn t h v.0 (turned (u h lh b.start).1))
        where
          turned : (h ≡ t) ⊎ Comes E t h → (t ≡ h) ⊎ Comes E t h
          turned (inl e) = inl (sym e)
          turned (inr k) = inr k
      cases (inr u) (inr v) = one_of g h (v g lg a.start).0 (u h lh b.start).0

  -- after one half-edge at most comes a given one, clockwise
  pub clockwise_from_one : (t u g : Half) → edge_of t < m → edge_of u < m → IsClockwiseNext m E t g
      → IsClockwiseNext m E u g → t ≡ u
  clockwise_from_one t u g lt lu a b = cases a.turn b.turn
    where
      at_u : origin E u ≡ origin E t
      at_u = sym b.start ∙ a.start

      high_part : (t x : Half) → Comes E g x → ((x ≡ g) ⊎ Comes E x g) ⊎ ((x ≡ t) ⊎ Comes E t x)
          → (x ≡ t) ⊎ Comes E t x
      high_part t x k (inl (inl e)) =
          let c = subst (λ (y : Half). Comes E g y) e k in absurd (once g g c c)
      high_part t x k (inl (inr c)) = absurd (once g x k c)
      high_part t x k (inr h) = h

      back : (x y : Half) → (x ≡ y) ⊎ Comes E y x → (y ≡ x) ⊎ Comes E y x
      back x y (inl e) = inl (sym e)
      back x y (inr k) = inr k

      cases : (Comes E g t × ((x : Half) → edge_of x < m → origin E x ≡ origin E t
          → ((x ≡ g) ⊎ Comes E x g) ⊎ ((x ≡ t) ⊎ Comes E t x)))
          ⊎ ((x : Half) → edge_of x < m → origin E x ≡ origin E t
          → ((x ≡ g) ⊎ Comes E x g) × ((x ≡ t) ⊎ Comes E t x))
          → (Comes E g u × ((x : Half) → edge_of x < m → origin E x ≡ origin E u
          → ((x ≡ g) ⊎ Comes E x g) ⊎ ((x ≡ u) ⊎ Comes E u x)))
          ⊎ ((x : Half) → edge_of x < m → origin E x ≡ origin E u
          → ((x ≡ g) ⊎ Comes E x g) × ((x ≡ u) ⊎ Comes E u x))
          → t ≡ u
      cases (inl k) (inl n) =
          one_of t u (back u t (high_part t u n.0 (k.1 u lu at_u)))
          (back t u (high_part u t k.0 (n.1 t lt (sym at_u))))
      cases (inl k) (inr n) = absurd (before_turn t g k.0 (n t lt (sym at_u)).0)
      cases (inr k) (inl n) = absurd (before_turn u g n.0 (k u lu at_u).0)
      cases (inr k) (inr n) = one_of t u (back u t (k u lu at_u).1) (back t u (n t lt (sym at_u)).1)

module _ (v : ℤ) (m : ℕ) (E : ℕ → Edge) (steps : List Step) (run : Run m E steps) where
  abbrev r : Replay
  r = replay v m E steps

  -- the same with a weight of the run
  heavy : (w : ℤ) × IsRun (replay w m E steps) × IsLawful (replay w m E steps)
  heavy =
      let u = run_weight m E steps [] run in
      (u.weight, swept_run u.weight m E steps u.swept, swept_lawful u.weight m E steps u.swept)

  pub next_clockwise_is : (h g : Half) → Next r h g → IsClockwiseNext m E (twin h) g
  next_clockwise_is h g n =
      let u = run_weight m E steps [] run in
      next_is_clockwise u.weight m E steps h g run u.swept (next_to v u.weight m E steps h g n)

  pub next_has : (h g : Half) → Next r h g → (edge_of g < m) × (edge_of (twin h) < m)
  next_has h g n =
      let u = heavy in
      next_fits (replay u.0 m E steps) u.1 u.2
      (λ k l. turns_at m E [] steps k run.replays l) run.edges h g
      (next_to v u.0 m E steps h g n)

  pub next_one : (h g f : Half) → Next r h g → Next r h f → g ≡ f
  next_one h g f a b =
      clockwise_one m E (twin h) g f (next_has h g a).0 (next_has h f b).0 (next_clockwise_is h g a)
      (next_clockwise_is h f b)

  pub previous_one : (h f g : Half) → Next r h g → Next r f g → h ≡ f
  previous_one h f g a b =
      let e = clockwise_from_one m E (twin h) (twin f) g (next_has h g a).1 (next_has f g b).1
      (next_clockwise_is h g a) (next_clockwise_is f g b) in
      sym (twice h) ∙ ap twin e ∙ twice f

  pub some_next : (h : Half) → edge_of h < m → (g : Half) × (edge_of g < m) × Next r h g
  some_next h l =
      let u = heavy in
      let k = next_some (replay u.0 m E steps) u.1 u.2 h l in
      let n = next_to u.0 v m E steps h k.0 k.1 in
      (k.0, (next_has h k.0 n).0, n)

  pub some_previous : (g : Half) → edge_of g < m → (h : Half) × Next r h g
  some_previous g l =
      let u = heavy in
      let k = previous_some (replay u.0 m E steps) u.1 u.2 g l in
      (k.0, next_to u.0 v m E steps k.0 g k.1)

  -- the next half-edge is exactly the first one clockwise after the twin
  pub clockwise_is_next : (h g : Half) → edge_of h < m → edge_of g < m
      → IsClockwiseNext m E (twin h) g → Next r h g
  clockwise_is_next h g lh lg c =
      let k = some_next h lh in
      subst (λ (x : Half). Next r h x)
      (clockwise_one m E (twin h) k.0 g k.1 lg (next_clockwise_is h k.0 k.2) c) k.2
