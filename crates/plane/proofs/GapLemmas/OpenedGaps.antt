-- What is tested of the gaps that a step opens: where no two edges beside one are bad the sweep
-- goes on, the two are different edges, and
-- labels match at the step exactly where they agree beside each.
use Rattle.std.proofs.Common.{◌≡◌, ◌↔◌, ℕ, zero, suc, ◌<◌, Option, Some, None, inl, inr, List, []}
use Rattle.std.proofs.Common.{◌∷◌, ◌++◌, refl, ap, sym, ◌∙◌, subst}
use Rattle.plane.specs.declared.kinds.Point.{Point}
use Rattle.plane.specs.Forms.Vectors.{Edge}
use Rattle.plane.specs.Lists.{First, Last, Neighbours, Joint, Has, Once}
use Rattle.plane.specs.Runs.Steps.{Step, after, live}
use Rattle.plane.specs.Faces.Labels.{Labels, Match, last_label, first_label, MatchesAt}
use Rattle.plane.specs.Faces.Halves.{At}
use Rattle.plane.specs.Runs.Sweeps.{FinePair, Clear, Made, IsUnderWay}
use Rattle.plane.specs.Runs.Gaps.{Gap, first_or, last_or, gaps_between, opened, over_label}
use Rattle.plane.specs.Runs.Gaps.{under_label}
use Rattle.plane.proofs.ListLemmas.Lists.{has_front, has_back}
use Rattle.plane.proofs.Turning.ListPlaces.{at_has}
use Rattle.plane.proofs.Runs.LiveEdges.{live_started}
use Rattle.plane.proofs.Sweep.Steps.{known}
use Rattle.plane.proofs.Sweep.UnderWay.{goes_on}
use Rattle.plane.proofs.Sweep.NewNeighbours.{neighbours_differ}
use Rattle.plane.proofs.GapLemmas.GapSides.{Sides, sides, beside, sides_between, upto, onward}
use Rattle.plane.proofs.GapLemmas.GapSides.{beside_three}
use Rattle.plane.proofs.GapLemmas.ClosedGaps.{map_has}
use Rattle.plane.proofs.GapLemmas.GapCells.{some_none, pair_across}

abbrev gap : ℕ → Option ℕ → Option ℕ → Gap
gap k l u = record { lower = l; upper = u; event = k }

-- ---- the first gap and the last one
first_gap : (k : ℕ) (l : Option ℕ) (es : List ℕ) (u : Option ℕ)
    → Has (gap k l (first_or u es)) (gaps_between k l es u)
first_gap k l [] u = inl refl
first_gap k l (e ∷ es) u = inl refl

last_gap : (k : ℕ) (l : Option ℕ) (es : List ℕ) (u : Option ℕ)
    → Has (gap k (last_or l es) u) (gaps_between k l es u)
last_gap k l [] u = inl refl
last_gap k l (e ∷ es) u = inr (last_gap k (Some e) es u)

last_via : (P : ℕ → Type 0) (l : Option ℕ) (xs : List ℕ) → ((x : ℕ) → last_or l xs ≡ Some x → P x)
    → Last P xs
last_via P l [] f = tt
last_via P l (x ∷ []) f = f x refl
last_via P l (x ∷ (y ∷ ys)) f = last_via P (Some x) (y ∷ ys) f

first_via : (P : ℕ → Type 0) (xs ys : List ℕ)
    → ((y : ℕ) → first_or (first_or None ys) xs ≡ Some y → P y) → First P (xs ++ ys)
first_via P [] [] f = tt
first_via P [] (y ∷ ys) f = f y refl
first_via P (x ∷ xs) ys f = f x refl

-- ---- what holds of each two edges beside an opened gap holds of the new neighbours
module _ (R : ℕ → ℕ → Type 0) where
  -- of the two edges of each gap of the list
  abbrev Beside : List Gap → Type 0
  Beside gs = (g : Gap) (d e : ℕ) → Has g gs → g.lower ≡ Some d → g.upper ≡ Some e → R d e

  inner : (k : ℕ) (l : Option ℕ) (es : List ℕ) (u : Option ℕ) → Beside (gaps_between k l es u)
      → Neighbours R es
  inner k l [] u f = tt
  inner k l (e ∷ []) u f = (tt, tt)
  inner k l (e ∷ (d ∷ es)) u f = (
    f (gap k (Some e) (Some d)) e d (inr (inl refl)) refl refl,
    inner k (Some e) (d ∷ es) u (λ g a b h. f g a b (inr h)),
  )

  lower_joint : (k : ℕ) (s : Step) → Beside (opened k s) → Joint R s.below (s.starting ++ s.above)
  lower_joint k s f =
      last_via (λ x. First (R x) (s.starting ++ s.above)) None s.below (λ x p.
      first_via (R x) s.starting s.above (λ y q.
      f (gap k (last_or None s.below) (first_or (first_or None s.above) s.starting)) x y
      (first_gap k (last_or None s.below) s.starting (first_or None s.above)) p q))

  upper_joint : (k : ℕ) (s : Step) → Beside (opened k s) → Joint R s.starting s.above
  upper_joint k s f =
      last_via (λ x. First (R x) s.above) (last_or None s.below) s.starting (λ x p.
      first_via (R x) [] s.above (λ y q.
      f (gap k (last_or (last_or None s.below) s.starting) (first_or None s.above)) x y
      (last_gap k (last_or None s.below) s.starting (first_or None s.above)) p q))

-- ---- the edges beside an opened gap are neighbours after the step
at_neighbours : (R : ℕ → ℕ → Type 0) (xs : List ℕ) (i d e : ℕ) → At xs i d → At xs (suc i) e
    → Neighbours R xs → R d e
at_neighbours R [] i d e a b n = absurd a
at_neighbours R (x ∷ []) zero d e a b n = absurd b
at_neighbours R (x ∷ (y ∷ ys)) zero d e a b n =
    subst (λ (z : ℕ). R z e) (sym a) (subst (λ (z : ℕ). R x z) (sym b) n.0)
at_neighbours R (x ∷ xs) (suc i) d e a b n = at_neighbours R xs i d e a b n.1

opened_places : (k : ℕ) (s : Step) (g : Gap) (d e : ℕ) → Has g (opened k s) → g.lower ≡ Some d
    → g.upper ≡ Some e → (i : ℕ) × At (after s) i d × At (after s) (suc i) e
opened_places k s g d e h p q =
    let l = last_or None s.below in
    let u = first_or None s.above in
    let there : Has (sides g) (beside l s.starting u) = subst (λ xs. Has (sides g) xs)
    (sides_between k l s.starting u) (map_has (opened k s) g h) in
    let all : Has (sides g) (beside None (after s) None) =
    subst (λ xs. Has (sides g) xs) (sym (beside_three None s.below s.starting s.above None))
    (has_back (sides g) (upto None s.below) (beside l s.starting u ++ onward s.above None)
    (has_front (sides g) (beside l s.starting u) (onward s.above None) there)) in
    let pair = subst (λ (x : Sides). Has x (beside None (after s) None))
    (ap (λ (o : Option ℕ). (o, g.upper)) p ∙ ap (λ (o : Option ℕ). (Some d, o)) q) all in
    elim (pair_across None (after s) d e pair) [
      | inl a ↦ absurd (some_none d (sym a.0))
      | inr b ↦ b
    ]

module _ (m : ℕ) (E : ℕ → Edge) (pts : List Point) (done : List Step) (s : Step)
    (coming : List Point) (u : IsUnderWay m E pts done (s.at ∷ coming))
    (made : Made m E (live done) s) where
  pub opened_go_on : (k : ℕ) → Clear E (live done) s.at
      → ((g : Gap) (d e : ℕ) → Has g (opened k s) → g.lower ≡ Some d → g.upper ≡ Some e
      → FinePair E d e)
      → IsUnderWay m E pts (s ∷ done) coming
  opened_go_on k clear f =
      goes_on m E pts done s coming u clear made (lower_joint (FinePair E) k s f)
      (inner (FinePair E) k (last_or None s.below) s.starting (first_or None s.above) f)
      (upper_joint (FinePair E) k s f)

  pub opened_differ : (k : ℕ) (g : Gap) (d e : ℕ) → Once s.starting → Has g (opened k s)
      → g.lower ≡ Some d → g.upper ≡ Some e → (d < m) × (e < m) × (d ≡ e → ⊥)
  opened_differ k g d e once h p q =
      let (i, a, b) = opened_places k s g d e h p q in
      let is : (x : ℕ) → Has x (after s)
      → x < m = known m E (live done) s made
      (λ x j. (live_started m E done x u.front.replayed j).0) in (
        is d (at_has (after s) i d a),
        is e (at_has (after s) (suc i) e b),
        at_neighbours (λ x y. x ≡ y → ⊥) (after s) i d e a b
            (neighbours_differ m E pts done s coming u made once),
      )

-- ---- labels
module _ (a : Labels) where
  last_is : (l : Option ℕ) (xs : List ℕ)
      → last_label a (over_label a l) xs ≡ over_label a (last_or l xs)
  last_is l [] = refl
  last_is l (x ∷ xs) = last_is (Some x) xs

  first_is : (xs : List ℕ) → first_label a xs 0 ≡ under_label a (first_or None xs)
  first_is [] = refl
  first_is (x ∷ xs) = refl

  abbrev Agree : List Gap → Type 0
  Agree gs = (g : Gap) → Has g gs → over_label a g.lower ≡ under_label a g.upper

  match_gaps : (k : ℕ) (l : Option ℕ) (es : List ℕ) (u : Option ℕ)
      → Match a (over_label a l) es (under_label a u) → Agree (gaps_between k l es u)
  match_gaps k l [] u h g (inl q) =
      subst (λ (f : Gap). over_label a f.lower ≡ under_label a f.upper) (sym q) h
  match_gaps k l [] u h g (inr n) = absurd n
  match_gaps k l (e ∷ es) u h g (inl q) =
      subst (λ (f : Gap). over_label a f.lower ≡ under_label a f.upper) (sym q) h.0
  match_gaps k l (e ∷ es) u h g (inr i) = match_gaps k (Some e) es u h.1 g i

  gaps_match : (k : ℕ) (l : Option ℕ) (es : List ℕ) (u : Option ℕ) → Agree (gaps_between k l es u)
      → Match a (over_label a l) es (under_label a u)
  gaps_match k l [] u f = f (gap k l u) (inl refl)
  gaps_match k l (e ∷ es) u f =
      (f (gap k l (Some e)) (inl refl), gaps_match k (Some e) es u (λ g i. f g (inr i)))

  pub opened_match : (k : ℕ) (s : Step)
      → MatchesAt a s ↔ ((g : Gap) → Has g (opened k s)
      → over_label a g.lower ≡ under_label a g.upper)
  opened_match k s =
      let l = last_or None s.below in
      let u = first_or None s.above in
      let p = last_is None s.below in
      let q = first_is s.above in (
        (λ h. match_gaps k l s.starting u
            (subst (λ (x : ℕ). Match a x s.starting (under_label a u)) p
            (subst (λ (y : ℕ). Match a (last_label a 0 s.below) s.starting y) q h))),
        (λ f. subst (λ (y : ℕ). Match a (last_label a 0 s.below) s.starting y) (sym q)
            (subst (λ (x : ℕ). Match a x s.starting (under_label a u)) (sym p)
            (gaps_match k l s.starting u f))),
      )
