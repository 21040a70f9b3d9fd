-- Closed gaps are the neighbours of the live lists, and so what lies across a cell and what touches
-- the border.
use Rattle.std.proofs.Common.{◌≡◌, ◌↔◌, ℕ, zero, suc, ◌+◌, ◌<◌, ◌≤◌, ◌⊎◌, Bool, true, cond, Option}
use Rattle.std.proofs.Common.{Some, None, inl, inr, List, [], ◌∷◌, length, take, get_or, refl}
use Rattle.std.proofs.Common.{arith, ap, sym, ◌∙◌, subst, ℤ}
use Rattle.plane.specs.Lists.{Has}
use Rattle.plane.specs.Forms.Vectors.{Edge}
use Rattle.plane.specs.Runs.Moves.{Move, steps_from, live_from, Fit}
use Rattle.plane.specs.Faces.Replays.{no_step, Replay, replay}
use Rattle.plane.specs.Faces.Cells.{Sector, IsSector}
use Rattle.plane.specs.Faces.Halves.{Half, under, over, At, AtBefore}
use Rattle.plane.specs.Faces.Classes.{Across, Touches}
use Rattle.plane.specs.Runs.Gaps.{Gap, opened, has_side, is_real, no_gap, closed_gaps, Closes}
use Rattle.plane.specs.Runs.Gaps.{GapBetween, AtBorder}
use Rattle.plane.proofs.Turning.Numbering.{neighbours_across, first_touches, last_touches}
use Rattle.plane.proofs.Turning.ListPlaces.{at_less, at_one}
use Rattle.plane.proofs.MoveLemmas.MadeSteps.{list_is, steps_length}
use Rattle.plane.proofs.GapLemmas.GapSides.{Sides, beside}
use Rattle.plane.proofs.GapLemmas.ClosedGaps.{closed_new, new_closed, closed_sides, sides_closed}

-- ---- pairs of neighbours by place
pub some_none : (e : ℕ) → Some e ≡ None → ⊥
some_none e q = subst (λ (o : Option ℕ). is_there o) q tt
  where
    is_there : Option ℕ → Type 0
    is_there None = ⊥
    is_there (Some x) = Unit {0}

pub some_same : (d e : ℕ) → Some d ≡ Some e → d ≡ e
some_same d e q = ap (λ (o : Option ℕ). there o) q
  where
    there : Option ℕ → ℕ
    there None = d
    there (Some x) = x

pub pair_across : (l : Option ℕ) (xs : List ℕ) (d e : ℕ) → Has (Some d, Some e) (beside l xs None)
    → ((l ≡ Some d) × At xs 0 e) ⊎ ((i : ℕ) × At xs i d × At xs (suc i) e)
pair_across l [] d e (inl q) = absurd (some_none e (ap (λ (x : Sides). x.1) q))
pair_across l [] d e (inr k) = absurd k
pair_across l (x ∷ xs) d e (inl q) =
    inl (sym (ap (λ (y : Sides). y.0) q), some_same e x (ap (λ (y : Sides). y.1) q))
pair_across l (x ∷ xs) d e (inr k) = elim (pair_across (Some x) xs d e k) [
  | inl a ↦ inr (0, sym (some_same x d a.0), a.1)
  | inr b ↦ inr (suc b.0, b.1, b.2)
]

across_pair : (l : Option ℕ) (xs : List ℕ) (i d e : ℕ) → At xs i d → At xs (suc i) e
    → Has (Some d, Some e) (beside l xs None)
across_pair l [] i d e a b = absurd a
across_pair l (x ∷ []) zero d e a b = absurd b
across_pair l (x ∷ (y ∷ xs)) zero d e a b =
    inr (inl (ap (λ (z : ℕ). (Some z, Some e)) a ∙ ap (λ (z : ℕ). (Some x, Some z)) b))
across_pair l (x ∷ xs) (suc i) d e a b = inr (across_pair (Some x) xs i d e a b)

pair_first : (l : Option ℕ) (xs : List ℕ) (e : ℕ) → Has (None, Some e) (beside l xs None)
    → (l ≡ None) × At xs 0 e
pair_first l [] e (inl q) = absurd (some_none e (ap (λ (x : Sides). x.1) q))
pair_first l [] e (inr k) = absurd k
pair_first l (x ∷ xs) e (inl q) =
    (sym (ap (λ (y : Sides). y.0) q), some_same e x (ap (λ (y : Sides). y.1) q))
pair_first l (x ∷ xs) e (inr k) = absurd (some_none x (pair_first (Some x) xs e k).0)

first_pair : (xs : List ℕ) (e : ℕ) → At xs 0 e → Has (None, Some e) (beside None xs None)
first_pair [] e a = absurd a
first_pair (x ∷ xs) e a = inl (ap (λ (z : ℕ). (None, Some z)) a)

pair_last : (l : Option ℕ) (xs : List ℕ) (d : ℕ) → Has (Some d, None) (beside l xs None)
    → ((l ≡ Some d) × (xs ≡ [])) ⊎ ((i : ℕ) × (suc i ≡ length xs) × At xs i d)
pair_last l [] d (inl q) = inl (sym (ap (λ (x : Sides). x.0) q), refl)
pair_last l [] d (inr k) = absurd k
pair_last l (x ∷ xs) d (inl q) = absurd (some_none x (sym (ap (λ (y : Sides). y.1) q)))
pair_last l (x ∷ xs) d (inr k) = elim (pair_last (Some x) xs d k) [
  | inl a ↦ inr (0, ap (λ (ys : List ℕ). suc (length ys)) (sym a.1), sym (some_same x d a.0))
  | inr b ↦ (let q = b.1 in inr (suc b.0, omega (arith, q), b.2))
]

last_pair : (l : Option ℕ) (xs : List ℕ) (i d : ℕ) → suc i ≡ length xs → At xs i d
    → Has (Some d, None) (beside l xs None)
last_pair l [] i d q a = absurd a
last_pair l (x ∷ []) zero d q a = inr (inl (ap (λ (z : ℕ). (Some z, None)) a))
last_pair l (x ∷ (y ∷ xs)) zero d q a = absurd (omega (arith, q))
last_pair l (x ∷ xs) (suc i) d q a = inr (last_pair (Some x) xs i d (omega (arith, q)) a)

before_one : (xs : List ℕ) (i d e : ℕ) → AtBefore xs i d → AtBefore xs i e → d ≡ e
before_one xs zero d e a b = absurd a
before_one xs (suc i) d e a b = at_one xs i d e a b

-- ---- moves that leave nothing
module _ (vs : List Move) (fit : Fit [] vs) (end : live_from [] vs ≡ []) where
  abbrev now : ℕ → List ℕ
  now k = live_from [] (take k vs)

  closes : (l u : Option ℕ) → Closes vs l u
      → (k : ℕ) × (k ≤ length vs) × Has (l, u) (beside None (now k) None)
  closes l u (g, h, a, b) =
      closed_sides (l, u) 0 [] (no_gap ∷ []) vs fit refl g h (ap (λ (o : Option ℕ). (o, g.upper)) a
      ∙ ap (λ (o : Option ℕ). (l, o)) b)

  closed_by : (x : Sides) → has_side x.0 x.1 ≡ true → (k : ℕ) → k ≤ length vs
      → Has x (beside None (now k) None) → Closes vs x.0 x.1
  closed_by x r k l h =
      let (g, i, q) = sides_closed x 0 [] (no_gap ∷ []) vs fit end refl r k l h in
      (g, i, ap (λ (y : Sides). y.0) q, ap (λ (y : Sides). y.1) q)

  pub across_closed : (d e : ℕ)
      → Closes vs (Some d) (Some e)
      ↔ ((k : ℕ) × (i : ℕ) × (k ≤ length vs) × At (now k) i d × At (now k) (suc i) e)
  across_closed d e = (
    (λ c. let (k, l, h) = closes (Some d) (Some e) c in elim (pair_across None (now k) d e h) [
      | inl a ↦ absurd (some_none d (sym a.0))
      | inr b ↦ (k, b.0, l, b.1, b.2)
    ]),
    (λ a. let (k, i, l, x, y) = a in
        closed_by (Some d, Some e) refl k l (across_pair None (now k) i d e x y)),
  )

  pub lowest_closed : (e : ℕ)
      → Closes vs None (Some e) ↔ ((k : ℕ) × (k ≤ length vs) × At (now k) 0 e)
  lowest_closed e = (
    (λ c. let (k, l, h) = closes None (Some e) c in (k, l, (pair_first None (now k) e h).1)),
    (λ a. let (k, l, x) = a in closed_by (None, Some e) refl k l (first_pair (now k) e x)),
  )

  pub highest_closed : (d : ℕ)
      → Closes vs (Some d) None
      ↔ ((k : ℕ) × (i : ℕ) × (k ≤ length vs) × (suc i ≡ length (now k)) × At (now k) i d)
  highest_closed d = (
    (λ c. let (k, l, h) = closes (Some d) None c in elim (pair_last None (now k) d h) [
      | inl a ↦ absurd (some_none d (sym a.0))
      | inr b ↦ (k, b.0, l, b.1, b.2)
    ]),
    (λ a. let (k, i, l, q, x) = a in
        closed_by (Some d, None) refl k l (last_pair None (now k) i d q x)),
  )

  pub new_is_closed : (g : Gap)
      → Has g (closed_gaps vs)
      ↔ ((is_real g ≡ true) × (k : ℕ) × (k < length vs)
      × Has g (opened k (get_or (steps_from [] vs) k no_step)))
  new_is_closed g = (
    (λ h. let (r, c) = closed_new g 0 [] (no_gap ∷ []) vs h in elim c [
      | inl b ↦ absurd (not_real b r)
      | inr o ↦ (
        r,
        o.0,
        o.1,
        subst (λ (j : ℕ). Has g (opened j (get_or (steps_from [] vs) o.0 no_step)))
            (from_zero o.0) o.2,
      )
    ]),
    (λ a. let (r, k, l, o) = a in
        new_closed g 0 [] (no_gap ∷ []) vs fit end refl r
        (inr (
          k,
          l,
          subst (λ (j : ℕ). Has g (opened j (get_or (steps_from [] vs) k no_step)))
              (sym (from_zero k)) o,
        ))),
  )
    where
      from_zero : (k : ℕ) → 0 + k ≡ k
      from_zero k = omega arith

      not_real : Has g (no_gap ∷ []) → is_real g ≡ true → ⊥
      not_real (inl q) r = subst (λ (b : Bool). cond b ⊥ (Unit {0})) (sym (ap is_real q) ∙ r) tt
      not_real (inr k) r = k

  -- ---- cells
  module _ (w : ℤ) (m : ℕ) (E : ℕ → Edge) where
    abbrev r : Replay
    r = replay w m E (steps_from [] vs)

    same_list : (k : ℕ) → k ≤ length vs → r.list k ≡ now k
    same_list k l = list_is [] vs k l

    cell_across : (k i d e : ℕ) → k ≤ length vs → AtBefore (r.list k) i d → At (r.list k) i e
        → Closes vs (Some d) (Some e)
    cell_across k zero d e l a b = absurd a
    cell_across k (suc i) d e l a b =
        (across_closed d e).1 (
          k,
          i,
          l,
          subst (λ (xs : List ℕ). At xs i d) (same_list k l) a,
          subst (λ (xs : List ℕ). At xs (suc i) e) (same_list k l) b,
        )

    pub gap_across : (g h : Half) → GapBetween vs g h → Across r g h
    gap_across (over d) (under e) c =
        let (k, i, l, a, b) = (across_closed d e).0 c in
        let n = steps_length [] vs in
        neighbours_across r k (omega (arith, l, n)) i d e
        (subst (λ (xs : List ℕ). At xs i d) (sym (same_list k l)) a)
        (subst (λ (xs : List ℕ). At xs (suc i) e) (sym (same_list k l)) b)
    gap_across (over d) (over e) c = absurd c
    gap_across (under d) h c = absurd c

    fits_moves : (c : Sector) → IsSector r c → c.strip ≤ length vs
    fits_moves c C = let l = C.strip in let n = steps_length [] vs in omega (arith, l, n)

    pub across_gap : (g h : Half) → Across r g h → (g ≡ h) ⊎ (GapBetween vs g h ⊎ GapBetween vs h g)
    across_gap (over d) (under e) (c, C, a, b) =
        inr (inl (cell_across c.strip c.index d e (fits_moves c C) a b))
    across_gap (under e) (over d) (c, C, a, b) =
        inr (inr (cell_across c.strip c.index d e (fits_moves c C) b a))
    across_gap (under d) (under e) (c, C, a, b) =
        inl (ap (λ (x : ℕ). under x) (at_one (r.list c.strip) c.index d e a b))
    across_gap (over d) (over e) (c, C, a, b) =
        inl (ap (λ (x : ℕ). over x) (before_one (r.list c.strip) c.index d e a b))

    pub border_touches : (h : Half) → AtBorder vs h → Touches r h
    border_touches (under e) c =
        let (k, l, a) = (lowest_closed e).0 c in
        let n = steps_length [] vs in
        first_touches r k (omega (arith, l, n)) e
        (subst (λ (xs : List ℕ). At xs 0 e) (sym (same_list k l)) a)
    border_touches (over d) c =
        let (k, i, l, q, a) = (highest_closed d).0 c in
        let n = steps_length [] vs in
        last_touches r k (omega (arith, l, n)) i d (q
        ∙ ap (λ (xs : List ℕ). length xs) (sym (same_list k l)))
        (subst (λ (xs : List ℕ). At xs i d) (sym (same_list k l)) a)

    cell_low : (k i e : ℕ) → k ≤ length vs → At (r.list k) i e → ((i ≡ 0) ⊎ (i ≡ length (r.list k)))
        → Closes vs None (Some e)
    cell_low k i e l a (inl q) =
        (lowest_closed e).1 (
          k,
          l,
          subst (λ (xs : List ℕ). At xs 0 e) (same_list k l)
              (subst (λ (j : ℕ). At (r.list k) j e) q a),
        )
    cell_low k i e l a (inr q) = let n = at_less (r.list k) i e a in absurd (omega (arith, n, q))

    cell_high : (k i d : ℕ) → k ≤ length vs → AtBefore (r.list k) i d
        → ((i ≡ 0) ⊎ (i ≡ length (r.list k))) → Closes vs (Some d) None
    cell_high k zero d l a q = absurd a
    cell_high k (suc i) d l a (inl q) = absurd (omega (arith, q))
    cell_high k (suc i) d l a (inr q) =
        (highest_closed d).1 (
          k,
          i,
          l,
          q ∙ ap (λ (xs : List ℕ). length xs) (same_list k l),
          subst (λ (xs : List ℕ). At xs i d) (same_list k l) a,
        )

    pub touches_border : (h : Half) → Touches r h → AtBorder vs h
    touches_border (under e) (c, C, a, b) = cell_low c.strip c.index e (fits_moves c C) a b
    touches_border (over d) (c, C, a, b) = cell_high c.strip c.index d (fits_moves c C) a b
