-- Which edges are live, by the steps that are done.
-- Two neighbours of a live list were in order at some event before, and are so at some event after.
use Rattle.std.proofs.Common.{◌≡◌, ℕ, ◌<◌, pos, ◌<ℤ◌, ◌≤ℤ◌, inl, inr, List, [], ◌∷◌, ◌++◌, refl}
use Rattle.std.proofs.Common.{arith, ap, sym, ◌∙◌, subst}
use Rattle.std.proofs.lemmas.Int.{ints}
use Rattle.plane.specs.declared.kinds.Point.{Point}
use Rattle.plane.specs.Forms.Vectors.{point, Edge, side}
use Rattle.plane.specs.Lists.{Each, First, Neighbours, Joint, Has}
use Rattle.plane.specs.Runs.Steps.{Step, before, after, Turns, GoodStep, IsReplay, AtSome, live}
use Rattle.plane.specs.Runs.Steps.{Replayed}
use Rattle.plane.proofs.Runs.MomentWords.{Began, Ends}
use Rattle.plane.proofs.ListLemmas.Lists.{each_from, has_front, has_back, has_three, first_map}
use Rattle.plane.proofs.ListLemmas.Lists.{first_append, first_from, last_from, neighbours_map}
use Rattle.plane.proofs.ListLemmas.Lists.{neighbours_append, neighbours_front, neighbours_back}
use Rattle.plane.proofs.ListLemmas.Lists.{joint_from}
use Rattle.plane.proofs.Linear.Vectors.{side-low, side-high}

-- ---- which edges are live
pub has_below : (s : Step) (e : ℕ) → Has e s.below → Has e (after s)
has_below s e k = has_front e s.below (s.starting ++ s.above) k

pub has_starting : (s : Step) (e : ℕ) → Has e s.starting → Has e (after s)
has_starting s e k = has_back e s.below (s.starting ++ s.above) (has_front e s.starting s.above k)

pub has_above : (s : Step) (e : ℕ) → Has e s.above → Has e (after s)
has_above s e k = has_back e s.below (s.starting ++ s.above) (has_back e s.starting s.above k)

pub has_below_before : (s : Step) (e : ℕ) → Has e s.below → Has e (before s)
has_below_before s e k = has_front e s.below (s.ending ++ s.above) k

pub has_above_before : (s : Step) (e : ℕ) → Has e s.above → Has e (before s)
has_above_before s e k = has_back e s.below (s.ending ++ s.above) (has_back e s.ending s.above k)

at_more : (p : Point) (s : Step) (steps : List Step) → AtSome p steps → AtSome p (s ∷ steps)
at_more p s steps (t, h, e) = (t, inr h, e)

-- a live edge is one of the edges, and its low end is the point of a step that is done
pub live_started : (m : ℕ) (E : ℕ → Edge) (done : List Step) (e : ℕ) → Replayed m E done
    → Has e (live done) → (e < m) × AtSome (E e).low done
live_started m E [] e h k = absurd k
live_started m E (s ∷ done) e h k =
    let old : Has e (before s) → (e < m) × AtSome (E e).low (s ∷ done) =
    λ b. let r = live_started m E done e h.2 (subst (λ xs. Has e xs) (sym h.0) b) in
    (r.0, at_more (E e).low s done r.1) in
    elim (has_three e s.below s.starting s.above k) [
      | inl b ↦ old (has_below_before s e b)
      | inr r ↦ elim r [
        | inl b ↦ let o = h.1.starting_only e b in (o.0, (s, inl refl, o.1))
        | inr b ↦ old (has_above_before s e b)
      ]
    ]

-- the high end of a live edge is the point of a step that is to do
pub live_ends : (m : ℕ) (E : ℕ → Edge) (now : List ℕ) (todo : List Step) (e : ℕ)
    → IsReplay m E now todo → Has e now → AtSome (E e).high todo
live_ends m E now [] e h k = absurd (subst (λ xs. Has e xs) h k)
live_ends m E now (s ∷ todo) e h k =
    elim (has_three e s.below s.ending s.above (subst (λ xs. Has e xs) h.0 k)) [
      | inl b ↦ at_more (E e).high s todo (live_ends m E (after s) todo e h.2 (has_below s e b))
      | inr r ↦ elim r [
        | inl b ↦ (s, inl refl, (h.1.ending_only e b).1)
        | inr b ↦ at_more (E e).high s todo (live_ends m E (after s) todo e h.2 (has_above s e b))
      ]
    ]

-- an edge whose low end is done and whose high end is not is live
pub is_live : (m : ℕ) (E : ℕ → Edge) (done : List Step) (e : ℕ) → e < m → Replayed m E done
    → AtSome (E e).low done → (AtSome (E e).high done → ⊥) → Has e (live done)
is_live m E [] e l h (s, k, q) n = absurd k
is_live m E (s ∷ done) e l h (t, inl k, q) n =
    has_starting s e (h.1.starting_all e l (q ∙ ap (λ (u : Step). u.at) k))
is_live m E (s ∷ done) e l h (t, inr k, q) n =
    let old = subst (λ xs. Has e xs) h.0
    (is_live m E done e l h.2 (t, k, q) (λ i. n (at_more (E e).high s done i))) in
    elim (has_three e s.below s.ending s.above old) [
      | inl b ↦ has_below s e b
      | inr r ↦ elim r [
        | inl b ↦ absurd (n (s, inl refl, (h.1.ending_only e b).1))
        | inr b ↦ has_above s e b
      ]
    ]

-- ---- how neighbours begin
pub side_through_low : (E : ℕ → Edge) (e : ℕ) (p : Point) → (E e).low ≡ p
    → side (E e) (point p) ≡ pos 0
side_through_low E e p h = subst (λ q. side (E e) (point q) ≡ pos 0) h (side-low (E e))

pub side_through_high : (E : ℕ → Edge) (e : ℕ) (p : Point) → (E e).high ≡ p
    → side (E e) (point p) ≡ pos 0
side_through_high E e p h = subst (λ q. side (E e) (point q) ≡ pos 0) h (side-high (E e))

began_more : (E : ℕ → Edge) (s : Step) (done : List Step) (a b : ℕ) → Began E done a b
    → Began E (s ∷ done) a b
began_more E s done a b h = record {
  step = h.step;
  passed = inr h.passed;
  lower = h.lower;
  upper = h.upper;
  apart = h.apart;
}

began_here : (E : ℕ → Edge) (s : Step) (done : List Step) (a b : ℕ)
    → pos 0 ≤ℤ side (E a) (point s.at) → side (E b) (point s.at) ≤ℤ pos 0
    → side (E b) (point s.at) <ℤ side (E a) (point s.at) → Began E (s ∷ done) a b
began_here E s done a b l u d = record {
  step = s;
  passed = inl refl;
  lower = l;
  upper = u;
  apart = inl d;
}

began_together : (m : ℕ) (E : ℕ → Edge) (s : Step) (done : List Step) (a b : ℕ) → GoodStep m E s
    → Has a s.starting → Has b s.starting → Turns E a b → Began E (s ∷ done) a b
began_together m E s done a b g ha hb t =
    let ea = (g.starting_only a ha).1 in
    let eb = (g.starting_only b hb).1 in
    let za = side_through_low E a s.at ea in
    let zb = side_through_low E b s.at eb in
    record {
      step = s;
      passed = inl refl;
      lower = omega (arith, ints, za);
      upper = omega (arith, ints, zb);
      apart = inr (ea, eb, t);
    }

pub begins : (m : ℕ) (E : ℕ → Edge) (done : List Step) → Replayed m E done
    → Neighbours (Began E done) (live done)
begins m E [] h = tt
begins m E (s ∷ done) h =
    let g = h.1 in
    let R = Began E (s ∷ done) in
    let old : Neighbours R (before s) = subst (λ xs. Neighbours R xs) h.0
    (neighbours_map (Began E done) R (live done) (λ a b ka kb r. began_more E s done a b r)
    (begins m E done h.2)) in
    let zero : (e : ℕ) → Has e s.starting
    → side (E e) (point s.at) ≡ pos 0 =
    λ e k. side_through_low E e s.at (g.starting_only e k).1 in
    let P : ℕ → Type 0 = λ e. pos 0 <ℤ side (E e) (point s.at) in
    let Q : ℕ → Type 0 = λ e. side (E e) (point s.at) <ℤ pos 0 in
    let Z : ℕ → Type 0 = λ e. side (E e) (point s.at) ≡ pos 0 in
    let N : ℕ → Type 0 = λ e. side (E e) (point s.at) ≤ℤ pos 0 in
    let zeros : Each Z s.starting = each_from Z s.starting zero in
    let below = neighbours_front R s.below (s.ending ++ s.above) old in
    let above = neighbours_back R s.ending s.above
    (neighbours_back R s.below (s.ending ++ s.above) old) in
    let starting = neighbours_map (Turns E) R s.starting
    (λ a b ka kb t. began_together m E s done a b g ka kb t) g.turns in
    let upper : Joint R s.starting s.above = joint_from R Z Q s.starting s.above
    (λ a b ka kb (x : side (E a) (point s.at) ≡ pos 0) (y : side (E b) (point s.at) <ℤ pos 0).
    began_here E s done a b (omega (arith, ints, x)) (omega (arith, ints, y))
    (omega (arith, ints, x, y)))
    (last_from Z s.starting zeros) g.nearest_above in
    let firsts : First N (s.starting ++ s.above) = first_append N s.starting s.above
    (first_map Z N s.starting (λ e k (x : side (E e) (point s.at) ≡ pos 0). omega (arith, ints, x))
    (first_from Z s.starting zeros))
    (first_map Q N s.above (λ e k (x : side (E e) (point s.at) <ℤ pos 0). omega (arith, ints, x))
    g.nearest_above) in
    let lower : Joint R s.below (s.starting ++ s.above) = joint_from R P N s.below
    (s.starting ++ s.above)
    (λ a b ka kb (x : pos 0 <ℤ side (E a) (point s.at)) (y : side (E b) (point s.at) ≤ℤ pos 0).
    began_here E s done a b (omega (arith, ints, x)) y (omega (arith, ints, x, y)))
    g.nearest_below firsts in
    neighbours_append R s.below (s.starting ++ s.above) below lower
    (neighbours_append R s.starting s.above starting upper above)

-- ---- how neighbours end
ends_more : (E : ℕ → Edge) (s : Step) (todo : List Step) (a b : ℕ) → Ends E todo a b
    → Ends E (s ∷ todo) a b
ends_more E s todo a b h = record {
  step = h.step;
  comes = inr h.comes;
  lower = h.lower;
  upper = h.upper;
  apart = h.apart;
}

ends_here : (E : ℕ → Edge) (s : Step) (todo : List Step) (a b : ℕ)
    → pos 0 ≤ℤ side (E a) (point s.at) → side (E b) (point s.at) ≤ℤ pos 0
    → side (E b) (point s.at) <ℤ side (E a) (point s.at) → Ends E (s ∷ todo) a b
ends_here E s todo a b l u d = record {
  step = s;
  comes = inl refl;
  lower = l;
  upper = u;
  apart = inl d;
}

ends_together : (m : ℕ) (E : ℕ → Edge) (s : Step) (todo : List Step) (a b : ℕ) → GoodStep m E s
    → Has a s.ending → Has b s.ending → Ends E (s ∷ todo) a b
ends_together m E s todo a b g ha hb =
    let ea = (g.ending_only a ha).1 in
    let eb = (g.ending_only b hb).1 in
    let za = side_through_high E a s.at ea in
    let zb = side_through_high E b s.at eb in
    record {
      step = s;
      comes = inl refl;
      lower = omega (arith, ints, za);
      upper = omega (arith, ints, zb);
      apart = inr (ea, eb);
    }

all_neighbours : (R : ℕ → ℕ → Type 0) (xs : List ℕ) → ((a b : ℕ) → Has a xs → Has b xs → R a b)
    → Neighbours R xs
all_neighbours R [] f = tt
all_neighbours R (x ∷ xs) f = (
  first_from (R x) xs (each_from (R x) xs (λ y k. f x y (inl refl) (inr k))),
  all_neighbours R xs (λ a b k l. f a b (inr k) (inr l)),
)

pub ends : (m : ℕ) (E : ℕ → Edge) (now : List ℕ) (todo : List Step) → IsReplay m E now todo
    → Neighbours (Ends E todo) now
ends m E now [] h = subst (λ xs. Neighbours (Ends E []) xs) (sym h) tt
ends m E now (s ∷ todo) h =
    let g = h.1 in
    let R = Ends E (s ∷ todo) in
    let new : Neighbours R (after s) = neighbours_map (Ends E todo) R (after s)
    (λ a b ka kb r. ends_more E s todo a b r) (ends m E (after s) todo h.2) in
    let zero : (e : ℕ) → Has e s.ending
    → side (E e) (point s.at) ≡ pos 0 =
    λ e k. side_through_high E e s.at (g.ending_only e k).1 in
    let P : ℕ → Type 0 = λ e. pos 0 <ℤ side (E e) (point s.at) in
    let Q : ℕ → Type 0 = λ e. side (E e) (point s.at) <ℤ pos 0 in
    let Z : ℕ → Type 0 = λ e. side (E e) (point s.at) ≡ pos 0 in
    let N : ℕ → Type 0 = λ e. side (E e) (point s.at) ≤ℤ pos 0 in
    let zeros : Each Z s.ending = each_from Z s.ending zero in
    let below = neighbours_front R s.below (s.starting ++ s.above) new in
    let above = neighbours_back R s.starting s.above
    (neighbours_back R s.below (s.starting ++ s.above) new) in
    let ending = all_neighbours R s.ending (λ a b ka kb. ends_together m E s todo a b g ka kb) in
    let upper : Joint R s.ending s.above = joint_from R Z Q s.ending s.above
    (λ a b ka kb (x : side (E a) (point s.at) ≡ pos 0) (y : side (E b) (point s.at) <ℤ pos 0).
    ends_here E s todo a b (omega (arith, ints, x)) (omega (arith, ints, y))
    (omega (arith, ints, x, y)))
    (last_from Z s.ending zeros) g.nearest_above in
    let firsts : First N (s.ending ++ s.above) = first_append N s.ending s.above
    (first_map Z N s.ending (λ e k (x : side (E e) (point s.at) ≡ pos 0). omega (arith, ints, x))
    (first_from Z s.ending zeros))
    (first_map Q N s.above (λ e k (x : side (E e) (point s.at) <ℤ pos 0). omega (arith, ints, x))
    g.nearest_above) in
    let lower : Joint R s.below (s.ending ++ s.above) = joint_from R P N s.below
    (s.ending ++ s.above)
    (λ a b ka kb (x : pos 0 <ℤ side (E a) (point s.at)) (y : side (E b) (point s.at) ≤ℤ pos 0).
    ends_here E s todo a b (omega (arith, ints, x)) y (omega (arith, ints, x, y)))
    g.nearest_below firsts in
    subst (λ xs. Neighbours R xs) (sym h.0)
    (neighbours_append R s.below (s.ending ++ s.above) below lower
    (neighbours_append R s.ending s.above ending upper above))
