-- A timetable repeats no edge at an event, and is the only one of its edges.
use Rattle.std.proofs.Common.{◌≡◌, ℕ, ◌<◌, ◌≤◌, ◌⊎◌, inl, inr, List, [], ◌∷◌, map, length, get_or}
use Rattle.std.proofs.Common.{drop, refl, arith, ap, sym, ◌∙◌, subst, suc, pos, ◌≤ℤ◌}
use Rattle.std.proofs.lemmas.Int.{ints}
use Rattle.plane.specs.declared.kinds.Point.{Point}
use Rattle.plane.specs.Lists.{Each, Has, Once}
use Rattle.plane.specs.Forms.Vectors.{Edge, Before}
use Rattle.plane.specs.Runs.Sweeps.{IsEventList}
use Rattle.plane.specs.Runs.Timetables.{Timed, BySlope, IsTimed, IsTimetable}
use Rattle.plane.proofs.MoveLemmas.MadeSteps.{never}
use Rattle.plane.proofs.MoveLemmas.Slopes.{StartsAt, slope_never, slope_trans}
use Rattle.plane.specs.Runs.Positions.{turn_at}
use Rattle.plane.proofs.Runs.Positions.{neighbours_at}
use Rattle.plane.proofs.ListLemmas.SortedLists.{same_sorted, sorted_once, all_of}

pub before_trans : (p q r : Point) → Before p q → Before q r → Before p r
before_trans p q r (inl a) (inl b) = inl (omega (arith, ints, a, b))
before_trans p q r (inl a) (inr b) = let x = b.0 in inl (omega (arith, ints, a, x))
before_trans p q r (inr a) (inl b) = let x = a.0 in inl (omega (arith, ints, b, x))
before_trans p q r (inr a) (inr b) =
    let x = a.1 in let y = b.1 in inr (a.0 ∙ b.0, omega (arith, ints, x, y))

abbrev pub point_of : Timed → Point
point_of t = t.at

pub ending_once : (m : ℕ) (E : ℕ → Edge) (t : Timed) → IsTimed m E t → Once t.ending
ending_once m E t h =
    sorted_once (λ a b. a < b) (λ a. Unit {0}) (λ a u l. omega (arith, l))
    (λ a b c u v w l k. omega (arith, l, k)) t.ending (λ e k. tt) h.by_number

-- a list of edges that end at an event, without repeats and as long as the list of all that do,
-- holds each of them
pub whole : (m : ℕ) (E : ℕ → Edge) (t : Timed) (xs : List ℕ) → IsTimed m E t → Once xs
    → ((e : ℕ) → Has e xs → (e < m) × ((E e).high ≡ t.at)) → length t.ending ≤ length xs
    → (e : ℕ) → e < m → (E e).high ≡ t.at → Has e xs
whole m E t xs h once here long e l q =
    all_of xs t.ending once (λ f k. (h.ending f).1 (here f k)) long e ((h.ending e).1 (l, q))

module _ (m : ℕ) (E : ℕ → Edge) (edges : (e : ℕ) → e < m → Before (E e).low (E e).high) where
  starts : (t : Timed) → IsTimed m E t → (e : ℕ) → Has e t.starting → StartsAt E t.at e
  starts t h e k = let s = (h.starting e).0 k in (s.1, edges e s.0)

  pub starting_once : (t : Timed) → IsTimed m E t → Once t.starting
  starting_once t h =
      sorted_once (BySlope E) (StartsAt E t.at) (slope_never E t.at) (slope_trans E t.at) t.starting
      (starts t h) h.by_slope

  same_starting : (t u : Timed) → IsTimed m E t → IsTimed m E u → t.at ≡ u.at
      → t.starting ≡ u.starting
  same_starting t u h k q =
      same_sorted (BySlope E) (StartsAt E t.at) (slope_never E t.at)
      (slope_trans E t.at) t.starting u.starting (starts t h)
      (λ e i. let s = starts u k e i in (s.0 ∙ sym q, s.1)) h.by_slope k.by_slope
      (λ e i. let s = (h.starting e).0 i in (k.starting e).1 (s.0, s.1 ∙ q))
      (λ e i. let s = (k.starting e).0 i in (h.starting e).1 (s.0, s.1 ∙ sym q))

  same_ending : (t u : Timed) → IsTimed m E t → IsTimed m E u → t.at ≡ u.at → t.ending ≡ u.ending
  same_ending t u h k q =
      same_sorted (λ a b. a < b) (λ a. Unit {0}) (λ a x l. omega (arith, l))
      (λ a b c x y z l r. omega (arith, l, r)) t.ending u.ending (λ e i. tt)
      (λ e i. tt) h.by_number k.by_number
      (λ e i. let s = (h.ending e).0 i in (k.ending e).1 (s.0, s.1 ∙ q))
      (λ e i. let s = (k.ending e).0 i in (h.ending e).1 (s.0, s.1 ∙ sym q))

  same_event : (t u : Timed) → IsTimed m E t → IsTimed m E u → t.at ≡ u.at → t ≡ u
  same_event t u h k q =
      let a = ap (λ (p : Point). record { at = p; ending = t.ending; starting = t.starting }) q in
      let b = ap (λ (es : List ℕ). record { at = u.at; ending = es; starting = t.starting })
      (same_ending t u h k q) in
      let c = ap (λ (es : List ℕ). record { at = u.at; ending = u.ending; starting = es })
      (same_starting t u h k q) in
      a ∙ b ∙ c

  same_events : (ts us : List Timed) → Each (IsTimed m E) ts → Each (IsTimed m E) us
      → map point_of ts ≡ map point_of us → ts ≡ us
  same_events [] [] h k q = refl
  same_events [] (u ∷ us) h k q =
      absurd (let n = ap (λ (ps : List Point). length ps) q in omega (arith, n))
  same_events (t ∷ ts) [] h k q =
      absurd (let n = ap (λ (ps : List Point). length ps) q in omega (arith, n))
  same_events (t ∷ ts) (u ∷ us) h k q =
      let head = same_event t u h.0 k.0 (ap (λ (ps : List Point). get_or ps 0 t.at) q) in
      let tail = same_events ts us h.1 k.1 (ap (λ (ps : List Point). drop 1 ps) q) in
      subst (λ (x : Timed). t ∷ ts ≡ x ∷ us) head (ap (λ (xs : List Timed). t ∷ xs) tail)

-- neighbours by slope do not turn right
pub slopes_rise : (m : ℕ) (E : ℕ → Edge) (t : Timed) (i : ℕ) → IsTimed m E t
    → suc i < length t.starting
    → pos 0 ≤ℤ turn_at E (get_or t.starting i 0) (E (get_or t.starting (suc i) 0)).high
slopes_rise m E t i h l = elim (neighbours_at (BySlope E) 0 t.starting i l h.by_slope) [
  | inl x ↦ omega (arith, ints, x)
  | inr x ↦ (let z = x.0 in omega (arith, ints, z))
]

-- the points of two event lists of the same edges
same_points : (m : ℕ) (E : ℕ → Edge) (ps qs : List Point) → IsEventList m E ps → IsEventList m E qs
    → ps ≡ qs
same_points m E ps qs h k =
    same_sorted Before (λ p. Unit {0}) (λ p u l. never p l)
    (λ p q r x y z l n. before_trans p q r l n) ps qs (λ p i. tt) (λ p i. tt) h.rises k.rises
    (λ p i. holds p qs k (h.events p i)) (λ p i. holds p ps h (k.events p i))
  where
    holds : (p : Point) (rs : List Point) → IsEventList m E rs
        → (e : ℕ) × (e < m) × (((E e).low ≡ p) ⊎ ((E e).high ≡ p)) → Has p rs
    holds p rs g (e, l, inl q) = subst (λ (x : Point). Has x rs) q (g.ends e l).0
    holds p rs g (e, l, inr q) = subst (λ (x : Point). Has x rs) q (g.ends e l).1

pub one_timetable : (m : ℕ) (E : ℕ → Edge) (ts us : List Timed) → IsTimetable m E ts
    → IsTimetable m E us → ts ≡ us
one_timetable m E ts us h k =
    same_events m E h.events.edges ts us h.timed k.timed
    (same_points m E (map point_of ts) (map point_of us) h.events k.events)
