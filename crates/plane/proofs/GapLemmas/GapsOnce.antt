-- Gaps move by move, and no gap is closed twice where no live list repeats an edge.
use Rattle.std.proofs.Common.{◌≡◌, ℕ, suc, ◌+◌, ◌<◌, ◌≤◌, ◌⊎◌, Bool, true, cond, Option, Some, None}
use Rattle.std.proofs.Common.{inl, inr, List, [], ◌∷◌, ◌++◌, length, take, drop, refl, arith}
use Rattle.std.proofs.Common.{append_assoc, ap, sym, ◌∙◌, subst, get_or}
use Rattle.std.proofs.lemmas.List.{append-nil}
use Rattle.std.proofs.lemmas.List.Elements.{filter-append}
use Rattle.std.specs.List.{filter}
use Rattle.plane.specs.Lists.{Has, Once}
use Rattle.plane.specs.Runs.Steps.{Step, after}
use Rattle.plane.specs.Runs.Moves.{Move, step_of, live_from}
use Rattle.plane.specs.Runs.Gaps.{Gap, first_or, last_or, gaps_between, opened, is_real, next_gaps}
use Rattle.plane.specs.Runs.Gaps.{closed_at, gaps_from, closed_from, no_gap, open_gaps, closed_gaps}
use Rattle.plane.proofs.ListLemmas.Lists.{has_front, has_back, has_append, once_front, once_back}
use Rattle.plane.proofs.MoveLemmas.MadeSteps.{once_apart, once_append}
use Rattle.plane.proofs.GapLemmas.GapSides.{Sides, sides, beside}
use Rattle.plane.specs.Faces.Replays.{no_step}
use Rattle.plane.specs.Runs.Moves.{Fit, steps_from}
use Rattle.plane.proofs.GapLemmas.ClosedGaps.{closed_sides, closed_new, has_filter, filter_has}
use Rattle.plane.proofs.GapLemmas.ClosedGaps.{filter_once, whole_three, closed_was, after_move}
use Rattle.plane.proofs.GapLemmas.GapCells.{some_none, some_same}

-- ---- one move more
gaps_more : (k : ℕ) (now : List ℕ) (gaps : List Gap) (vs : List Move) (v : Move)
    → gaps_from k now gaps (vs ++ (v ∷ []))
    ≡ next_gaps (k + length vs) (live_from now vs) (gaps_from k now gaps vs) v
gaps_more k now gaps [] v =
    let e : k ≡ k + 0 = omega arith in ap (λ (i : ℕ). next_gaps i now gaps v) e
gaps_more k now gaps (u ∷ vs) v =
    let e : suc k + length vs ≡ k + suc (length vs) = omega arith in
    let s = after (step_of now u) in
    let g = next_gaps k now gaps u in
    gaps_more (suc k) s g vs v
    ∙ ap (λ (i : ℕ). next_gaps i (live_from s vs) (gaps_from (suc k) s g vs) v) e

closed_more : (k : ℕ) (now : List ℕ) (gaps : List Gap) (vs : List Move) (v : Move)
    → closed_from k now gaps (vs ++ (v ∷ []))
    ≡ closed_from k now gaps vs ++ closed_at (gaps_from k now gaps vs) v
closed_more k now gaps [] v = append-nil (closed_at gaps v)
closed_more k now gaps (u ∷ vs) v =
    let s = after (step_of now u) in
    let g = next_gaps k now gaps u in
    ap (λ (gs : List Gap). closed_at gaps u ++ gs) (closed_more (suc k) s g vs v)
    ∙ sym (append_assoc (closed_at gaps u) (closed_from (suc k) s g vs)
    (closed_at (gaps_from (suc k) s g vs) v))

pub open_more : (vs : List Move) (v : Move)
    → open_gaps (vs ++ (v ∷ [])) ≡ next_gaps (length vs) (live_from [] vs) (open_gaps vs) v
open_more vs v =
    let e : 0 + length vs ≡ length vs = omega arith in
    gaps_more 0 [] (no_gap ∷ []) vs v
    ∙ ap (λ (i : ℕ). next_gaps i (live_from [] vs) (open_gaps vs) v) e

pub all_closed_more : (vs : List Move) (v : Move)
    → closed_gaps (vs ++ (v ∷ [])) ≡ closed_gaps vs ++ closed_at (open_gaps vs) v
all_closed_more vs v = closed_more 0 [] (no_gap ∷ []) vs v

-- ---- the gaps of one event differ
-- the lower edge of each is l or an edge of the list
lower_in : (k : ℕ) (l : Option ℕ) (es : List ℕ) (u : Option ℕ) (g : Gap)
    → Has g (gaps_between k l es u)
    → (g.event ≡ k) × ((g.lower ≡ l) ⊎ ((e : ℕ) × Has e es × (g.lower ≡ Some e)))
lower_in k l [] u g (inl q) = (ap (λ (h : Gap). h.event) q, inl (ap (λ (h : Gap). h.lower) q))
lower_in k l [] u g (inr h) = absurd h
lower_in k l (e ∷ es) u g (inl q) = (ap (λ (h : Gap). h.event) q, inl (ap (λ (h : Gap). h.lower) q))
lower_in k l (e ∷ es) u g (inr h) =
    let r = lower_in k (Some e) es u g h in
    (r.0, inr (elim r.1 [ inl q ↦ (e, inl refl, q) | inr a ↦ (a.0, inr a.1, a.2) ]))

between_once : (k : ℕ) (l : Option ℕ) (es : List ℕ) (u : Option ℕ)
    → ((e : ℕ) → Has e es → l ≡ Some e → ⊥) → Once es → Once (gaps_between k l es u)
between_once k l [] u f h = ((λ a. a), tt)
between_once k l (e ∷ es) u f h = (
  (λ a. elim (lower_in k (Some e) es u (record { lower = l; upper = Some e; event = k }) a).1 [
    | inl q ↦ f e (inl refl) q
    | inr b ↦ f b.0 (inr b.1) b.2
  ]),
  between_once k (Some e) es u
      (λ d i q. h.0 (subst (λ (x : ℕ). Has x es) (sym (some_same e d q)) i)) h.1,
)

-- the last edge of a list is one of its edges
last_in : (l : Option ℕ) (es : List ℕ) (e : ℕ) → last_or l es ≡ Some e → (l ≡ Some e) ⊎ Has e es
last_in l [] e q = inl q
last_in l (d ∷ es) e q =
    elim (last_in (Some d) es e q) [
      | inl w ↦ inr (inl (sym (some_same d e w)))
      | inr h ↦ inr (inr h)
    ]

opened_once : (k : ℕ) (s : Step) → Once (after s) → Once (opened k s)
opened_once k s h =
    between_once k (last_or None s.below) s.starting (first_or None s.above)
    (λ e i q. elim (last_in None s.below e q) [
      | inl w ↦ some_none e (sym w)
      | inr b ↦ once_apart s.below (s.starting ++ s.above) e h b (has_front e s.starting s.above i)
    ])
    (once_front s.starting s.above (once_back s.below (s.starting ++ s.above) h))

opened_event : (k : ℕ) (s : Step) (g : Gap) → Has g (opened k s) → g.event ≡ k
opened_event k s g h = (lower_in k (last_or None s.below) s.starting (first_or None s.above) g h).0

-- ---- real gaps stay different
-- no real gap stands twice, and each was opened before k
record Differ (k : ℕ) (gaps : List Gap) : Type 0 where
  once : Once (filter is_real gaps)
  early : (g : Gap) → Has g gaps → is_real g ≡ true → g.event < k

real_append : (xs ys : List Gap)
    → filter is_real (xs ++ ys) ≡ filter is_real xs ++ filter is_real ys
real_append xs ys = filter-append is_real xs ys

module _ (k : ℕ) (now : List ℕ) (gaps : List Gap) (v : Move) (d : Differ k gaps) where
  abbrev low : List Gap
  low = take v.position gaps

  abbrev mid : List Gap
  mid = take (suc v.ending) (drop v.position gaps)

  abbrev top : List Gap
  top = drop (suc (v.position + v.ending)) gaps

  abbrev fresh : List Gap
  fresh = opened k (step_of now v)

  -- the real gaps in three parts
  parts : Once (filter is_real low ++ (filter is_real mid ++ filter is_real top))
  parts = subst (λ (gs : List Gap). Once gs)
      (ap (λ (gs : List Gap). filter is_real gs) (sym (whole_three v.position v.ending gaps))
      ∙ real_append low (mid ++ top)
      ∙ ap (λ (gs : List Gap). filter is_real low ++ gs) (real_append mid top)) d.once

  was : (g : Gap) → Has g (low ++ (mid ++ top)) → Has g gaps
  was g h = subst (λ (gs : List Gap). Has g gs) (whole_three v.position v.ending gaps) h

  was_low : (g : Gap) → Has g (filter is_real low) → Has g gaps × (is_real g ≡ true)
  was_low g h =
      let f = has_filter is_real low g h in (was g (has_front g low (mid ++ top) f.0), f.1)

  was_top : (g : Gap) → Has g (filter is_real top) → Has g gaps × (is_real g ≡ true)
  was_top g h =
      let f = has_filter is_real top g h in
      (was g (has_back g low (mid ++ top) (has_back g mid top f.0)), f.1)

  not_fresh : (g : Gap) → Has g gaps × (is_real g ≡ true) → Has g (filter is_real fresh) → ⊥
  not_fresh g a h =
      let l = d.early g a.0 a.1 in
      let e = opened_event k (step_of now v) g (has_filter is_real fresh g h).0 in
      omega (arith, l, e)

  later_differ : Once (after (step_of now v)) → Differ (suc k) (next_gaps k now gaps v)
  later_differ o = record {
    once =
        let R = filter is_real in
        let low_once = once_front (R low) (R mid ++ R top) parts in
        let top_once = once_back (R mid) (R top) (once_back (R low) (R mid ++ R top) parts) in
        let low_top : (g : Gap) → Has g (R low) → Has g (R top)
        → ⊥ = λ g a b. once_apart (R low) (R mid ++ R top) g parts a
        (has_back g (R mid) (R top) b) in
        subst (λ (gs : List Gap). Once gs)
        (sym (real_append low (fresh ++ top)
        ∙ ap (λ (gs : List Gap). R low ++ gs) (real_append fresh top)))
        (once_append (R low) (R fresh ++ R top) low_once
        (once_append (R fresh) (R top) (filter_once is_real fresh (opened_once k (step_of now v) o))
        top_once (λ g a b. not_fresh g (was_top g b) a))
        (λ g a b. elim (has_append g (R fresh) (R top) b) [
          | inl c ↦ not_fresh g (was_low g a) c
          | inr c ↦ low_top g a c
        ]));
    early = λ g h r. elim (after_move k now gaps v g h) [
      | inl a ↦ (let l = d.early g a r in omega (arith, l))
      | inr b ↦ (let e = opened_event k (step_of now v) g b in omega (arith, e))
    ];
  }

  -- what is closed now does not stay
  closed_gone : (g : Gap) → Has g (closed_at gaps v) → Has g (next_gaps k now gaps v) → ⊥
  closed_gone g c h =
      let R = filter is_real in
      let r = (closed_was gaps v g c).1 in
      let inside = once_back (R low) (R mid ++ R top) parts in
      elim (has_append g low (fresh ++ top) h) [
        | inl a ↦ once_apart (R low) (R mid ++ R top) g parts (filter_has is_real low g a r)
            (has_front g (R mid) (R top) c)
        | inr b ↦ elim (has_append g fresh top b) [
          | inl a ↦ not_fresh g (closed_was gaps v g c) (filter_has is_real fresh g a r)
          | inr a ↦ once_apart (R mid) (R top) g inside c (filter_has is_real top g a r)
        ]
      ]

-- what is closed later was there or is opened later
closed_later : (k : ℕ) (now : List ℕ) (gaps : List Gap) (vs : List Move) (g : Gap)
    → Has g (closed_from k now gaps vs) → Has g gaps ⊎ (k ≤ g.event)
closed_later k now gaps [] g h = absurd h
closed_later k now gaps (v ∷ vs) g h =
    elim (has_append g (closed_at gaps v)
    (closed_from (suc k) (after (step_of now v)) (next_gaps k now gaps v) vs) h) [
      | inl a ↦ inl (closed_was gaps v g a).0
      | inr b ↦ elim (closed_later (suc k) (after (step_of now v)) (next_gaps k now gaps v) vs g b) [
        | inl c ↦ elim (after_move k now gaps v g c) [
          | inl w ↦ inl w
          | inr o ↦ (let e = opened_event k (step_of now v) g o in inr (omega (arith, e)))
        ]
        | inr l ↦ inr (omega (arith, l))
      ]
    ]

closed_differ : (k : ℕ) (now : List ℕ) (gaps : List Gap) (vs : List Move) → Differ k gaps
    → ((j : ℕ) → j ≤ length vs → Once (live_from now (take j vs)))
    → Once (closed_from k now gaps vs)
closed_differ k now gaps [] d o = tt
closed_differ k now gaps (v ∷ vs) d o =
    let s = after (step_of now v) in
    let g = next_gaps k now gaps v in
    let once_now : Once s = first vs (o 1 (omega arith)) in
    let mid = take (suc v.ending) (drop v.position gaps) in
    once_append (closed_at gaps v) (closed_from (suc k) s g vs)
    (once_front (filter is_real mid) (filter is_real (drop (suc (v.position + v.ending)) gaps))
    (once_back (filter is_real (take v.position gaps))
    (filter is_real mid ++ filter is_real (drop (suc (v.position + v.ending)) gaps))
    (parts k now gaps v d)))
    (closed_differ (suc k) s g vs (later_differ k now gaps v d once_now)
    (λ j l. o (suc j) (omega (arith, l))))
    (λ x a b. elim (closed_later (suc k) s g vs x b) [
      | inl c ↦ closed_gone k now gaps v d x a c
      | inr l ↦ (let w = closed_was gaps v x a in let e = d.early x w.0 w.1 in omega (arith, l, e))
    ])
  where
    first : (us : List Move) → Once (live_from now (take 1 (v ∷ us))) → Once (after (step_of now v))
    first [] h = h
    first (u ∷ us) h = h

pub closed_once : (vs : List Move) → ((k : ℕ) → k ≤ length vs → Once (live_from [] (take k vs)))
    → Once (closed_gaps vs)
closed_once vs o =
    closed_differ 0 [] (no_gap ∷ []) vs (record {
      once = tt;
      early = λ g h r. absurd (unreal g h r);
    }) o
  where
    unreal : (g : Gap) → Has g (no_gap ∷ []) → is_real g ≡ true → ⊥
    unreal g (inl q) r = subst (λ (b : Bool). cond b ⊥ (Unit {0})) (sym (ap is_real q) ∙ r) tt
    unreal g (inr h) r = h

-- ---- the edges and the event of a closed gap
lower_has : (l : Option ℕ) (xs : List ℕ) (x : Sides) (d : ℕ) → Has x (beside l xs None)
    → x.0 ≡ Some d → (l ≡ Some d) ⊎ Has d xs
lower_has l [] x d (inl q) e = inl (sym (ap (λ (y : Sides). y.0) q) ∙ e)
lower_has l [] x d (inr n) e = absurd n
lower_has l (y ∷ ys) x d (inl q) e = inl (sym (ap (λ (z : Sides). z.0) q) ∙ e)
lower_has l (y ∷ ys) x d (inr h) e =
    elim (lower_has (Some y) ys x d h e) [
      | inl q ↦ inr (inl (sym (some_same y d q)))
      | inr k ↦ inr (inr k)
    ]

upper_has : (l : Option ℕ) (xs : List ℕ) (x : Sides) (e : ℕ) → Has x (beside l xs None)
    → x.1 ≡ Some e → Has e xs
upper_has l [] x e (inl q) r = absurd (some_none e (sym r ∙ ap (λ (y : Sides). y.1) q))
upper_has l [] x e (inr n) r = absurd n
upper_has l (y ∷ ys) x e (inl q) r = inl (some_same e y (sym r ∙ ap (λ (z : Sides). z.1) q))
upper_has l (y ∷ ys) x e (inr h) r = inr (upper_has (Some y) ys x e h r)

pub closed_edges : (vs : List Move) (g : Gap) (e : ℕ) → Fit [] vs → Has g (closed_gaps vs)
    → ((g.lower ≡ Some e) ⊎ (g.upper ≡ Some e))
    → (k : ℕ) × (k ≤ length vs) × Has e (live_from [] (take k vs))
closed_edges vs g e fit h q =
    let (k, l, i) = closed_sides (sides g) 0 [] (no_gap ∷ []) vs fit refl g h refl in (
      k,
      l,
      elim q [
        | inl a ↦ elim (lower_has None (live_from [] (take k vs)) (sides g) e i a)
            [ inl b ↦ absurd (some_none e (sym b)) | inr b ↦ b ]
        | inr a ↦ upper_has None (live_from [] (take k vs)) (sides g) e i a
      ],
    )

pub closed_event : (vs : List Move) (g : Gap) → Has g (closed_gaps vs) → g.event < length vs
closed_event vs g h = elim (closed_new g 0 [] (no_gap ∷ []) vs h).1 [
  | inl a ↦ absurd (bare a (closed_new g 0 [] (no_gap ∷ []) vs h).0)
  | inr a ↦ (let l = a.1 in
      let e = opened_event (0 + a.0) (get_or (steps_from [] vs) a.0 no_step) g a.2 in
      omega (arith, l, e))
]
  where
    bare : Has g (no_gap ∷ []) → is_real g ≡ true → ⊥
    bare (inl q) r = subst (λ (b : Bool). cond b ⊥ (Unit {0})) (sym (ap is_real q) ∙ r) tt
    bare (inr n) r = n
