-- Moves make the steps of a replay: by lists, by numbers, and the latest first.
-- What holds of a front part: no edge is live twice, live edges have begun and not ended, and
-- nothing is left at the end.
use Rattle.std.proofs.Common.{◌≡◌, ℕ, zero, suc, ◌<◌, ◌≤◌, inl, inr, List, [], ◌∷◌, ◌++◌, length}
use Rattle.std.proofs.Common.{take, get_or, refl, arith, ap, sym, ◌∙◌, subst}
use Rattle.std.proofs.lemmas.Int.{ints}
use Rattle.std.proofs.lemmas.List.{append-nil}
use Rattle.plane.specs.declared.kinds.Point.{Point}
use Rattle.plane.specs.Lists.{Has, Once}
use Rattle.plane.specs.Forms.Vectors.{Edge, Before}
use Rattle.plane.specs.Runs.Steps.{Step, before, after, live, onto, Replayed, AtSome}
use Rattle.plane.specs.Faces.Replays.{no_step, list_after}
use Rattle.plane.specs.Runs.Moves.{Move, no_move, step_of, steps_from, live_from, made, Risen}
use Rattle.plane.specs.Runs.Moves.{AreGood}
use Rattle.plane.proofs.ListLemmas.Lists.{has_front, has_back, has_append, has_three, once_front}
use Rattle.plane.proofs.ListLemmas.Lists.{once_back}
use Rattle.plane.proofs.ListLemmas.SortedLists.{room}
use Rattle.plane.proofs.Runs.Positions.{before-step_at}
use Rattle.plane.proofs.Runs.LiveEdges.{live_started, has_below_before, has_above_before}

-- ---- by lists and by numbers
pub live_made : (done : List Step) (vs : List Move) → live (made done vs) ≡ live_from (live done) vs
live_made done [] = refl
live_made done (v ∷ vs) = live_made (step_of (live done) v ∷ done) vs

pub onto_made : (done : List Step) (vs : List Move) (rest : List Step)
    → onto (made done vs) rest ≡ onto done (steps_from (live done) vs ++ rest)
onto_made done [] rest = refl
onto_made done (v ∷ vs) rest = onto_made (step_of (live done) v ∷ done) vs rest

pub made_more : (done : List Step) (vs : List Move) (v : Move)
    → made done (vs ++ (v ∷ [])) ≡ step_of (live (made done vs)) v ∷ made done vs
made_more done [] v = refl
made_more done (u ∷ vs) v = made_more (step_of (live done) u ∷ done) vs v

pub list_is : (now : List ℕ) (vs : List Move) (k : ℕ) → k ≤ length vs
    → list_after now (steps_from now vs) k ≡ live_from now (take k vs)
list_is now vs zero h = refl
list_is now [] (suc k) h = absurd (omega (arith, h))
list_is now (v ∷ vs) (suc k) h = list_is (after (step_of now v)) vs k (omega (arith, h))

pub step_is : (now : List ℕ) (vs : List Move) (k : ℕ) → k < length vs
    → get_or (steps_from now vs) k no_step
    ≡ step_of (live_from now (take k vs)) (get_or vs k no_move)
step_is now [] k h = absurd (omega (arith, h))
step_is now (v ∷ vs) zero h = refl
step_is now (v ∷ vs) (suc k) h = step_is (after (step_of now v)) vs k (omega (arith, h))

pub all_made : (vs : List Move) → onto (made [] vs) [] ≡ steps_from [] vs
all_made vs = onto_made [] vs [] ∙ append-nil (steps_from [] vs)

pub live_more : (now : List ℕ) (vs : List Move) (v : Move)
    → live_from now (vs ++ (v ∷ [])) ≡ after (step_of (live_from now vs) v)
live_more now [] v = refl
live_more now (u ∷ vs) v = live_more (after (step_of now u)) vs v

pub steps_more : (now : List ℕ) (vs : List Move) (v : Move)
    → steps_from now (vs ++ (v ∷ [])) ≡ steps_from now vs ++ (step_of (live_from now vs) v ∷ [])
steps_more now [] v = refl
steps_more now (u ∷ vs) v =
    ap (λ (steps : List Step). step_of now u ∷ steps) (steps_more (after (step_of now u)) vs v)

pub steps_length : (now : List ℕ) (vs : List Move) → length (steps_from now vs) ≡ length vs
steps_length now [] = refl
steps_length now (v ∷ vs) = ap (λ (n : ℕ). suc n) (steps_length (after (step_of now v)) vs)

-- ---- a front part
pub replayed : (m : ℕ) (E : ℕ → Edge) (done : List Step) (vs : List Move) → Replayed m E done
    → AreGood m E done vs → Replayed m E (made done vs)
replayed m E done [] h g = h
replayed m E done (v ∷ vs) h g =
    replayed m E (step_of (live done) v ∷ done) vs
    (sym (before-step_at v.at (live done) v.position v.ending v.starting), g.0.good, h) g.1

pub never : (p : Point) → Before p p → ⊥
never p (inl l) = omega (arith, ints, l)
never p (inr l) = let k = l.1 in omega (arith, ints, k)

pub crossed : (p q : Point) → Before p q → Before q p → ⊥
crossed p q (inl a) (inl b) = omega (arith, ints, a, b)
crossed p q (inl a) (inr b) = let e = b.0 in omega (arith, ints, a, e)
crossed p q (inr a) (inl b) = let e = a.0 in omega (arith, ints, b, e)
crossed p q (inr a) (inr b) = let x = a.1 in let y = b.1 in omega (arith, ints, x, y)

-- lists without repeats
pub once_apart : {X : Type 0} (xs ys : List X) (e : X) → Once (xs ++ ys) → Has e xs → Has e ys → ⊥
once_apart [] ys e h a b = a
once_apart (x ∷ xs) ys e h (inl q) b = h.0 (has_back x xs ys (subst (λ z. Has z ys) q b))
once_apart (x ∷ xs) ys e h (inr a) b = once_apart xs ys e h.1 a b

pub once_append : {X : Type 0} (xs ys : List X) → Once xs → Once ys
    → ((e : X) → Has e xs → Has e ys → ⊥) → Once (xs ++ ys)
once_append [] ys h k f = k
once_append (x ∷ xs) ys h k f = (
  (λ i. elim (has_append x xs ys i) [ inl a ↦ h.0 a | inr b ↦ f x (inl refl) b ]),
  once_append xs ys h.1 k (λ e a b. f e (inr a) b),
)

module _ (m : ℕ) (E : ℕ → Edge) (edges : (e : ℕ) → e < m → Before (E e).low (E e).high) where
  -- an edge that starts at a step is not live before it
  new : (s : Step) (done : List Step) (e : ℕ) → Replayed m E (s ∷ done) → Risen (s ∷ done)
      → Has e s.starting → Has e (live done) → ⊥
  new s done e h r a b =
      let (t, i, q) = (live_started m E done e h.2 b).1 in
      let here = (h.1.starting_only e a).1 in
      never t.at (subst (λ (p : Point). Before t.at p) (sym here ∙ q) (r.1 t i))

  pub front_once : (done : List Step) → Replayed m E done → Risen done → Once (live done)
  front_once [] h r = tt
  front_once (s ∷ done) h r =
      let old : Once (before s) = subst (λ (xs : List ℕ). Once xs) h.0 (front_once done h.2 r.2) in
      let rest = once_back s.below (s.ending ++ s.above) old in
      let was : (e : ℕ) → Has e (before s)
      → Has e (live done) = λ e i. subst (λ (xs : List ℕ). Has e xs) (sym h.0) i in
      once_append s.below (s.starting ++ s.above) (once_front s.below (s.ending ++ s.above) old)
      (once_append s.starting s.above r.0 (once_back s.ending s.above rest)
      (λ e a b. new s done e h r a (was e (has_above_before s e b))))
      (λ e a b. elim (has_append e s.starting s.above b) [
        | inl i ↦ new s done e h r i (was e (has_below_before s e a))
        | inr i ↦ once_apart s.below (s.ending ++ s.above) e old a (has_back e s.ending s.above i)
      ])

  -- so there is room for it in m places
  pub front_room : (done : List Step) → Replayed m E done → Risen done → length (live done) ≤ m
  front_room done h r =
      room m (live done) (front_once done h r) (λ e k. (live_started m E done e h k).0)

  -- an edge whose high end is done is not live
  pub front_ended : (done : List Step) (e : ℕ) → Replayed m E done → Risen done → Has e (live done)
      → AtSome (E e).high done → ⊥
  front_ended [] e h r a b = a
  front_ended (s ∷ done) e h r a (t, i, q) =
      let old : Once (before s) = subst (λ (xs : List ℕ). Once xs) h.0 (front_once done h.2 r.2) in
      let rest = once_back s.below (s.ending ++ s.above) old in
      let st = live_started m E (s ∷ done) e h a in
      let kept : Has e (before s) → (Has e s.ending → ⊥) → ⊥ =
      λ b out. elim i [
        | inl w ↦ out (h.1.ending_all e st.0 (q ∙ ap (λ (u : Step). u.at) w))
        | inr w ↦ front_ended done e h.2 r.2 (subst (λ (xs : List ℕ). Has e xs) (sym h.0) b)
            (t, w, q)
      ] in
      elim (has_three e s.below s.starting s.above a) [
        | inl b ↦ kept (has_below_before s e b)
            (λ k. once_apart s.below (s.ending ++ s.above) e old b (has_front e s.ending s.above k))
        | inr b ↦ elim b [
          | inl k ↦
              let o = h.1.starting_only e k in
              let low : Before s.at t.at = subst (λ (p : Point). Before p t.at) o.1
              (subst (λ (p : Point). Before (E e).low p) q (edges e o.0)) in
              elim i [
                | inl w ↦ never s.at (subst (λ (u : Step). Before s.at u.at) w low)
                | inr w ↦ crossed s.at t.at low (r.1 t w)
              ]
          | inr k ↦ kept (has_above_before s e k) (λ x. once_apart s.ending s.above e rest x k)
        ]
      ]

  -- where all ends are done nothing is live
  pub front_empty : (done : List Step) → Replayed m E done → Risen done
      → ((e : ℕ) → e < m → AtSome (E e).high done) → live done ≡ []
  front_empty done h r all =
      none (live done) (λ e k. front_ended done e h r k (all e (live_started m E done e h k).0))
    where
      none : (xs : List ℕ) → ((e : ℕ) → Has e xs → ⊥) → xs ≡ []
      none [] f = refl
      none (x ∷ xs) f = absurd (f x (inl refl))
