-- A moment of the replay of moves: the steps that are done and those to come, and what the live
-- list is.
use Rattle.std.proofs.Common.{◌≡◌, ℕ, zero, suc, ◌+◌, ◌<◌, ◌≤◌, ◌⊎◌, inl, inr, ℤ, pos, ◌<ℤ◌, List}
use Rattle.std.proofs.Common.{[], ◌∷◌, ◌++◌, length, take, drop, get_or, refl, arith, ap, sym, ◌∙◌}
use Rattle.std.proofs.Common.{subst}
use Rattle.std.proofs.lemmas.Int.{ints}
use Rattle.std.proofs.lemmas.List.{length-drop}
use Rattle.plane.specs.declared.kinds.Point.{Point}
use Rattle.plane.specs.declared.kinds.Edge.{Edge}
use Rattle.plane.specs.Lists.{Each, First, Neighbours}
use Rattle.plane.specs.Forms.Meets.{IsEnd, OnStraight}
use Rattle.plane.specs.Forms.Vectors.{point, rise, Before}
use Rattle.plane.specs.Runs.Moves.{Fit, Move, live_from, made, no_move, step_of, steps_from}
use Rattle.plane.specs.Runs.Steps.{Run, Step, after, live, onto}
use Rattle.point_location.proofs.PlaneLaws.{room, before_trans, onto_made, run_repeats_none}
use Rattle.point_location.proofs.PlaneLaws.{run_known, run_weight, rise-is, side-low, side-high}
use Rattle.point_location.proofs.PlaneLaws.{on_straight}

-- ---- live lists by number
pub fits_at : (now : List ℕ) (vs : List Move) (k : ℕ) → Fit now vs → k < length vs
    → (get_or vs k no_move).position + (get_or vs k no_move).ending ≤ length
    (live_from now (take k vs))
fits_at now [] k f l = absurd (omega (arith, l))
fits_at now (v ∷ vs) zero f l = f.0
fits_at now (v ∷ vs) (suc k) f l = fits_at (after (step_of now v)) vs k f.1 (omega (arith, l))

pub live_next : (now : List ℕ) (vs : List Move) (k : ℕ) → k < length vs
    → live_from now (take (suc k) vs) ≡ after
    (step_of (live_from now (take k vs)) (get_or vs k no_move))
live_next now [] k l = absurd (omega (arith, l))
live_next now (v ∷ vs) zero l = refl
live_next now (v ∷ vs) (suc k) l = live_next (after (step_of now v)) vs k (omega (arith, l))

-- ---- the steps that are done, and those to come
each_made : (P : Point → Type 0) (done : List Step) (vs : List Move) → Each (λ s. P s.at) done
    → ((j : ℕ) → j < length vs → P (get_or vs j no_move).at) → Each (λ s. P s.at) (made done vs)
each_made P done [] h f = h
each_made P done (v ∷ vs) h f =
    each_made P (step_of (live done) v ∷ done) vs (f 0 (omega arith), h)
    (λ j l. f (suc j) (omega (arith, l)))

each_coming : (P : Point → Type 0) (now : List ℕ) (vs : List Move)
    → ((j : ℕ) → j < length vs → P (get_or vs j no_move).at)
    → Each (λ s. P s.at) (steps_from now vs)
each_coming P now [] f = tt
each_coming P now (v ∷ vs) f = (
  f 0 (omega arith),
  each_coming P (after (step_of now v)) vs
      (λ j l. f (suc j) (omega (arith, l))),
)

taken : (vs : List Move) (k j : ℕ) → j < length (take k vs)
    → get_or (take k vs) j no_move ≡ get_or vs j no_move
taken [] zero j l = refl
taken [] (suc k) j l = refl
taken (v ∷ vs) zero j l = absurd (omega (arith, l))
taken (v ∷ vs) (suc k) zero l = refl
taken (v ∷ vs) (suc k) (suc j) l = taken vs k j (omega (arith, l))

taken_below : (vs : List Move) (k j : ℕ) → j < length (take k vs) → j < k
taken_below [] zero j l = absurd (omega (arith, l))
taken_below [] (suc k) j l = absurd (omega (arith, l))
taken_below (v ∷ vs) zero j l = absurd (omega (arith, l))
taken_below (v ∷ vs) (suc k) zero l = omega arith
taken_below (v ∷ vs) (suc k) (suc j) l =
    let r = taken_below vs k j (omega (arith, l)) in omega (arith, r)

dropped : (vs : List Move) (k j : ℕ) → get_or (drop k vs) j no_move ≡ get_or vs (k + j) no_move
dropped vs zero j = ap (λ (i : ℕ). get_or vs i no_move) (none j)
  where
    none : (j : ℕ) → j ≡ 0 + j
    none j = omega arith
dropped [] (suc k) j = refl
dropped (v ∷ vs) (suc k) j = dropped vs k j ∙ ap (λ (i : ℕ). get_or (v ∷ vs) i no_move) (shift k j)
  where
    shift : (k j : ℕ) → suc (k + j) ≡ suc k + j
    shift k j = omega arith

split : (now : List ℕ) (vs : List Move) (k : ℕ)
    → steps_from now (take k vs) ++ steps_from (live_from now (take k vs)) (drop k vs)
    ≡ steps_from now vs
split now vs zero = refl
split now [] (suc k) = refl
split now (v ∷ vs) (suc k) =
    ap (λ (ss : List Step). step_of now v ∷ ss) (split (after (step_of now v)) vs k)

-- ---- the events rise
rise_first : (p : Point) (now : List ℕ) (vs : List Move)
    → First (λ (t : Step). Before p t.at) (steps_from now vs)
    → Neighbours (λ (s t : Step). Before s.at t.at) (steps_from now vs)
    → (i : ℕ) → i < length vs → Before p (get_or vs i no_move).at
rise_first p now [] f n i l = absurd (omega (arith, l))
rise_first p now (u ∷ vs) f n zero l = f
rise_first p now (u ∷ vs) f n (suc i) l =
    before_trans p u.at _ f
    (rise_first u.at (after (step_of now u)) vs n.0 n.1 i (omega (arith, l)))

rise_at : (now : List ℕ) (vs : List Move)
    → Neighbours (λ (s t : Step). Before s.at t.at) (steps_from now vs) → (j i : ℕ) → j < i
    → i < length vs → Before (get_or vs j no_move).at (get_or vs i no_move).at
rise_at now [] n j i l k = absurd (omega (arith, k))
rise_at now (v ∷ vs) n j zero l k = absurd (omega (arith, l))
rise_at now (v ∷ vs) n zero (suc i) l k =
    rise_first v.at (after (step_of now v)) vs n.0 n.1 i (omega (arith, k))
rise_at now (v ∷ vs) n (suc j) (suc i) l k =
    rise_at (after (step_of now v)) vs n.1 j i (omega (arith, l)) (omega (arith, k))

-- ---- ends lie on their edges
end_on : (w : ℤ) (e : Edge) (v : Point) → pos 0 <ℤ rise w e → IsEnd e v → OnStraight e (point v)
end_on w e v up (inl q) =
    let r = rise-is w e in let s = side-low e in
    subst (λ p. OnStraight e (point p)) q
    (on_straight w e (point e.low) up (omega (arith, ints)) (record {
      line = s;
      low = omega (arith, ints);
      high = omega (arith, ints, r, up);
    }))
end_on w e v up (inr q) =
    let r = rise-is w e in let s = side-high e in
    subst (λ p. OnStraight e (point p)) q
    (on_straight w e (point e.high) up (omega (arith, ints)) (record {
      line = s;
      low = omega (arith, ints, r, up);
      high = omega (arith, ints);
    }))

module _ (m : ℕ) (E : ℕ → Edge) (vs : List Move) (run : Run m E (steps_from [] vs)) where
  pub live_room : (k : ℕ) → k ≤ length vs → length (live_from [] (take k vs)) ≤ m
  live_room k l =
      room m (live_from [] (take k vs)) (run_repeats_none m E vs k run l)
      (λ e h. run_known m E vs k e run l h)

  pub end_is_on : (e : ℕ) (v : Point) → e < m → IsEnd (E e) v → OnStraight (E e) (point v)
  end_is_on e v l end =
      let u = run_weight m E (steps_from [] vs) [] run in
      end_on u.weight (E e) v (u.swept.rises e l) end

  -- the run, cut at a moment
  pub cut_run : (k : ℕ)
      → Run m E (onto (made [] (take k vs)) (steps_from (live_from [] (take k vs)) (drop k vs)))
  cut_run k = subst (Run m E)
      (sym (onto_made [] (take k vs) (steps_from (live_from [] (take k vs)) (drop k vs))
      ∙ split [] vs k)) run

  pub later : (k : ℕ) (v : Point) → ((k < length vs) → Before v (get_or vs k no_move).at) → (j : ℕ)
      → k ≤ j → j < length vs → Before v (get_or vs j no_move).at
  later k v f j l h = elim (equal_or_less k j l) [
    | inl e ↦ subst (λ (i : ℕ). Before v (get_or vs i no_move).at) e (f (omega (arith, h, l)))
    | inr b ↦ before_trans v (get_or vs k no_move).at _ (f (omega (arith, h, l)))
        (rise_at [] vs run.rises k j b h)
  ]
    where
      equal_or_less : (k j : ℕ) → k ≤ j → (k ≡ j) ⊎ (k < j)
      equal_or_less zero zero l = inl refl
      equal_or_less zero (suc j) l = inr (omega arith)
      equal_or_less (suc k) zero l = absurd (omega (arith, l))
      equal_or_less (suc k) (suc j) l =
          elim (equal_or_less k j (omega (arith, l))) [
            | inl e ↦ inl (ap (λ (n : ℕ). suc n) e)
            | inr b ↦ inr (omega (arith, b))
          ]

  module _ (k : ℕ) (v : Point) (l : k ≤ length vs) (passed : (j : ℕ) → j < k
      → Before (get_or vs j no_move).at v) (coming : k < length vs
      → Before v (get_or vs k no_move).at) where
    pub done_before : Each (λ s. Before s.at v) (made [] (take k vs))
    done_before =
        each_made (λ p. Before p v) [] (take k vs) tt
        (λ j h. subst (λ (u : Move). Before u.at v) (sym (taken vs k j h))
        (passed j (taken_below vs k j h)))

    pub todo_after : Each (λ s. Before v s.at) (steps_from (live_from [] (take k vs)) (drop k vs))
    todo_after = each_coming (λ p. Before v p) (live_from [] (take k vs)) (drop k vs)
        (λ j h. subst (λ (u : Move). Before v u.at) (sym (dropped vs k j))
        (later k v coming (k + j) (omega arith) (let n = length-drop k vs in
        omega (arith, h, n))))
