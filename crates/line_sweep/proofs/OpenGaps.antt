-- The edges that end with a move, the neighbours between which gaps lie, and gaps one after
-- another.
use Rattle.std.proofs.Common.{◌≡◌, ◌⊎◌, ℕ, suc, ◌+◌, ◌<◌, ◌≤◌, inl, inr, Option, Some, None}
use Rattle.std.proofs.Common.{List, [], ◌∷◌, ◌++◌, length, take, drop}
use Rattle.std.proofs.Common.{get_or, refl, ap, sym, ◌∙◌, subst, append_assoc, add-one}
use Rattle.std.proofs.Common.{drop-cons, drop_of_length-le, ◌↔◌}
use Rattle.std.proofs.lemmas.List.{append-nil}
use Rattle.plane.specs.Lists.{Has}
use Rattle.plane.specs.Runs.Gaps.{Gap, gaps_between}
use Rattle.plane.specs.Runs.Moves.{Move, live_from, step_of, steps_from}
use Rattle.plane.specs.Runs.Steps.{after}
use Rattle.line_sweep.specs.Kinds.{ended_at}
use Rattle.line_sweep.specs.OpenGaps.{AreNeighbours}

-- ---- the edges that end
ended_from : (now : List ℕ) (vs : List Move) (v : Move)
    → ended_at (steps_from now (vs ++ v ∷ []))
    ≡ ended_at (steps_from now vs) ++ take v.ending (drop v.position (live_from now vs))
ended_from now [] v = append-nil (take v.ending (drop v.position now))
ended_from now (u ∷ vs) v =
    let s = step_of now u in
    ap (λ (es : List ℕ). s.ending ++ es) (ended_from (after s) vs v)
    ∙ sym (append_assoc s.ending (ended_at (steps_from (after s) vs))
    (take v.ending (drop v.position (live_from (after s) vs))))

pub ended_more : (moves : List Move) (v : Move)
    → ended_at (steps_from [] (moves ++ v ∷ []))
    ≡ ended_at (steps_from [] moves) ++ take v.ending (drop v.position (live_from [] moves))
ended_more moves v = ended_from [] moves v

-- ---- neighbours and gaps
pub neighbour_gap : (k : ℕ) (l : Option ℕ) (es : List ℕ) (u : Option ℕ) (d e : ℕ)
    → AreNeighbours l es u d e
    → (g : Gap) × Has g (gaps_between k l es u) × (g.lower ≡ Some d) × (g.upper ≡ Some e)
neighbour_gap k l [] u d e h = (record { lower = l; upper = u; event = k }, inl refl, h.0, h.1)
neighbour_gap k l (x ∷ es) u d e (inl h) =
    (record { lower = l; upper = Some x; event = k }, inl refl, h.0, ap (λ (y : ℕ). Some y) h.1)
neighbour_gap k l (x ∷ es) u d e (inr h) =
    let (g, i, a, b) = neighbour_gap k (Some x) es u d e h in (g, inr i, a, b)

some_same : (d e : ℕ) → Some d ≡ Some e → d ≡ e
some_same d e h = ap (λ (o : Option ℕ). or_zero o) h
  where
    or_zero : Option ℕ → ℕ
    or_zero None = 0
    or_zero (Some n) = n

pub gap_neighbour : (k : ℕ) (l : Option ℕ) (es : List ℕ) (u : Option ℕ) (g : Gap) (d e : ℕ)
    → Has g (gaps_between k l es u) → g.lower ≡ Some d → g.upper ≡ Some e → AreNeighbours l es u d e
gap_neighbour k l [] u g d e (inl q) a b =
    (sym (ap (λ (g : Gap). g.lower) q) ∙ a, sym (ap (λ (g : Gap). g.upper) q) ∙ b)
gap_neighbour k l [] u g d e (inr h) a b = absurd h
gap_neighbour k l (x ∷ es) u g d e (inl q) a b =
    inl (
      sym (ap (λ (g : Gap). g.lower) q)
          ∙ a,
      some_same x e (sym (ap (λ (g : Gap). g.upper) q) ∙ b),
    )
gap_neighbour k l (x ∷ es) u g d e (inr h) a b = inr (gap_neighbour k (Some x) es u g d e h a b)

-- ---- gaps that open, one after another
pub gaps_more : (gs new : List Gap) (g : Gap) (k : ℕ) (l : Option ℕ) (starting : List ℕ) (i : ℕ)
    (u : Option ℕ)
    → i < length starting → new ≡ gs ++ g ∷ []
    → g ≡ record { lower = l; upper = Some (get_or starting i 0); event = k }
    → new ++ gaps_between k (Some (get_or starting i 0)) (drop (i + 1) starting) u
    ≡ gs ++ gaps_between k l (drop i starting) u
gaps_more gs new g k l starting i u m q e =
    let x = get_or starting i 0 in
    let one : Gap = record { lower = l; upper = Some x; event = k } in
    let rest : List Gap = gaps_between k (Some x) (drop (i + 1) starting) u in
    ap (λ (hs : List Gap). hs ++ rest) (q ∙ ap (λ (h : Gap). gs ++ h ∷ []) e)
    ∙ append_assoc gs (one ∷ []) rest
    ∙ ap (λ (j : ℕ). gs ++ gaps_between k l (x ∷ drop j starting) u) (add-one i)
    ∙ ap (λ (es : List ℕ). gs ++ gaps_between k l es u) (sym (drop-cons starting i 0 m))

-- the last of them
pub gaps_end : (gs new total : List Gap) (g : Gap) (k : ℕ) (l : Option ℕ) (starting : List ℕ)
    (i : ℕ) (u : Option ℕ)
    → length starting ≤ i → new ≡ gs ++ g ∷ []
    → g ≡ record { lower = l; upper = u; event = k }
    → gs ++ gaps_between k l (drop i starting) u ≡ total → new ≡ total
gaps_end gs new total g k l starting i u m q e h =
    q ∙ ap (λ (h : Gap). gs ++ h ∷ []) e
    ∙ ap (λ (es : List ℕ). gs ++ gaps_between k l es u) (sym (drop_of_length-le starting m)) ∙ h

-- ---- neighbours that are tested, one after another
pub neighbours_left : (below upper : Option ℕ) (starting : List ℕ) (i d e : ℕ) → i < length starting
    → AreNeighbours (Some (get_or starting i 0)) (drop (i + 1) starting) upper d e
    → AreNeighbours below (drop i starting) upper d e
neighbours_left below upper starting i d e l h =
    subst (λ (es : List ℕ). AreNeighbours below es upper d e) (sym (drop-cons starting i 0 l))
    (inr (subst (λ (j : ℕ). AreNeighbours (Some (get_or starting i 0))
    (drop j starting) upper d e) (add-one i) h))

pub next_neighbours : (below upper : Option ℕ) (starting : List ℕ) (i d e : ℕ) → i < length starting
    → AreNeighbours below (drop i starting) upper d e
    → ((below ≡ Some d) × (Some (get_or starting i 0) ≡ Some e))
    ⊎ AreNeighbours (Some (get_or starting i 0)) (drop (i + 1) starting) upper d e
next_neighbours below upper starting i d e l h =
    by (subst (λ (es : List ℕ). AreNeighbours below es upper d e) (drop-cons starting i 0 l) h)
  where
    by : AreNeighbours below (get_or starting i 0 ∷ drop (suc i) starting) upper d e
        → ((below ≡ Some d) × (Some (get_or starting i 0) ≡ Some e))
        ⊎ AreNeighbours (Some (get_or starting i 0)) (drop (i + 1) starting) upper d e
    by (inl p) = inl (p.0, ap (λ (y : ℕ). Some y) p.1)
    by (inr q) =
        inr (subst (λ (j : ℕ). AreNeighbours (Some (get_or starting i 0))
        (drop j starting) upper d e) (sym (add-one i)) q)

-- the two that are tested next
pub next_pair : (below upper : Option ℕ) (starting : List ℕ) (i d e : ℕ) → i < length starting
    → below ≡ Some d → Some (get_or starting i 0) ≡ Some e
    → AreNeighbours below (drop i starting) upper d e
next_pair below upper starting i d e l a b =
    subst (λ (es : List ℕ). AreNeighbours below es upper d e) (sym (drop-cons starting i 0 l))
    (inl (a, some_same _ e b))

-- the two that are tested last
pub last_pair : (below upper : Option ℕ) (starting : List ℕ) (i d e : ℕ) → length starting ≤ i
    → AreNeighbours below (drop i starting) upper d e ↔ ((below ≡ Some d) × (upper ≡ Some e))
last_pair below upper starting i d e l = (
  (λ h. subst (λ (es : List ℕ). AreNeighbours below es upper d e)
      (drop_of_length-le starting l) h),
  λ p. subst (λ (es : List ℕ). AreNeighbours below es upper d e)
      (sym (drop_of_length-le starting l)) p,
)
