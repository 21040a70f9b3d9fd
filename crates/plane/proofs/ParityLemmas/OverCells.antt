-- How many chosen edges are above a place is, by parity, a property of its class of linked cells.
-- Each point has to be the end of an even number of the chosen edges.
use Rattle.std.proofs.Common.{◌≡◌, ℕ, zero, suc, ◌+◌, ◌-◌, ◌<◌, ◌≤◌, Bool, true, false, ◌⊎◌, ℤ, pos}
use Rattle.std.proofs.Common.{◌*ℤ◌, ◌<ℤ◌, ◌≤ℤ◌, inl, inr, List, [], ◌∷◌, ◌++◌, length, refl, arith}
use Rattle.std.proofs.Common.{ap, sym, ◌∙◌, subst}
use Rattle.std.proofs.lemmas.Int.{ints, by_lt_z}
use Rattle.plane.specs.declared.kinds.Point.{Point}
use Rattle.plane.specs.Forms.Vectors.{Vector, Place, point, Edge, side, sweep, Before}
use Rattle.plane.specs.Lists.{Has, Once}
use Rattle.plane.specs.Runs.Steps.{Step, before, after, onto, WeighedRun}
use Rattle.plane.specs.Faces.Replays.{Replay, IsOffEdges, replay}
use Rattle.plane.proofs.Runs.RunWords.{IsStrip}
use Rattle.plane.specs.Faces.Cells.{Sector, sector, strip, raised, Opens, Linked, JoinedByEdges}
use Rattle.plane.specs.Faces.Parity.{flip, both, differ, parity, is_under, crosses_vertical}
use Rattle.plane.specs.Faces.Parity.{same_point, ends_of, EvenEnds, among, chosen, parity_over}
use Rattle.plane.proofs.ParityLemmas.ParityWords.{is_after, crosses_sweep, numbers_below}
use Rattle.plane.proofs.Strips.CountBelow.{positive_is, not_positive}
use Rattle.plane.proofs.Strips.Heights.{Parts}
use Rattle.plane.proofs.Strips.OneCut.{sides, divided_parts}
use Rattle.plane.proofs.Runs.Moments.{moment}
use Rattle.plane.proofs.Runs.Meeting.{live_once}
use Rattle.plane.proofs.Strips.OneStrip.{strip_is, linked_keeps}
use Rattle.plane.proofs.Strips.Joins.{joined_keeps}
use Rattle.plane.proofs.Runs.Numbered.{nth, IsCut, cut_at, swept_run}
use Rattle.plane.proofs.Runs.Lawful.{swept_lawful}
use Rattle.plane.proofs.ParityLemmas.Wedges.{not_both}
use Rattle.plane.proofs.ParityLemmas.Parities.{both_false, both_differ, differ_equal, parity_append}
use Rattle.plane.proofs.ParityLemmas.Parities.{parity_ends, parity_differ, same_is, same_self}
use Rattle.plane.proofs.ParityLemmas.Parities.{Plain, crossings_agree, both_right}
use Rattle.plane.proofs.ParityLemmas.ByNumber.{by_test, is_among, not_among, numbers_map, members}
use Rattle.plane.proofs.ParityLemmas.ByNumber.{chosen_parity, chosen_has}
use Rattle.plane.proofs.ListLemmas.Lists.{once_front, once_back}

-- ---- the edges after the first i of a list
over_front : (c : ℕ → Bool) (i : ℕ) (xs ys : List ℕ) → i ≤ length xs
    → parity_over c i (xs ++ ys) ≡ differ (parity_over c i xs) (parity c ys)
over_front c zero xs ys h = parity_append c xs ys
over_front c (suc i) [] ys h = absurd (omega (arith, h))
over_front c (suc i) (x ∷ xs) ys h = over_front c i xs ys (omega (arith, h))

over_back : (c : ℕ → Bool) (i j : ℕ) (xs ys : List ℕ) → j ≡ length xs + i
    → parity_over c j (xs ++ ys) ≡ parity_over c i ys
over_back c i j [] ys e = ap (λ n. parity_over c n ys) (omega (arith, e))
over_back c i zero (x ∷ xs) ys e = absurd (omega (arith, e))
over_back c i (suc j) (x ∷ xs) ys e = over_back c i j xs ys (omega (arith, e))

over_both : (c : ℕ → Bool) (i k : ℕ) (xs ys zs : List ℕ) → i ≡ length xs + (length ys + k)
    → parity_over c i (xs ++ (ys ++ zs)) ≡ parity_over c k zs
over_both c i k xs ys zs e = over_back c (length ys + k) i xs (ys ++ zs) e
    ∙ over_back c k (length ys + k) ys zs refl

-- a step keeps the parity over a cell, along both ways from cell to cell
over_step : (c : ℕ → Bool) (s : Step) (i j : ℕ) → parity c s.ending ≡ parity c s.starting
    → ((i ≤ length s.below) × (j ≡ i))
    ⊎ ((length s.below + length s.ending ≤ i) × (j + length s.ending ≡ i + length s.starting))
    → parity_over c i (before s) ≡ parity_over c j (after s)
over_step c s i j even (inl way) =
    over_front c i s.below (s.ending ++ s.above) way.0
    ∙ ap (λ b. differ (parity_over c i s.below) b) (parity_append c s.ending s.above
    ∙ ap (λ b. differ b (parity c s.above)) even ∙ sym (parity_append c s.starting s.above))
    ∙ sym (over_front c i s.below (s.starting ++ s.above) way.0)
    ∙ ap (λ n. parity_over c n (after s)) (sym way.1)
over_step c s i j even (inr way) =
    let least = way.0 in
    let same = way.1 in
    let n = i - (length s.below + length s.ending) in
    over_both c i n s.below s.ending s.above (omega (arith, least))
    ∙ sym (over_both c j n s.below s.starting s.above (omega (arith, least, same)))

-- ---- the tests
both_swap : (a b : Bool) → both a b ≡ both b a
both_swap true b = sym (both_right b)
both_swap false b = sym (both_false b)

is_under_true : (e : Edge) (z : Vector) → side e z <ℤ pos 0 → is_under e z ≡ true
unfolding is_under
is_under_true e z h = positive_is _ (omega (arith, ints, h))

is_under_false : (e : Edge) (z : Vector) → pos 0 <ℤ side e z → is_under e z ≡ false
unfolding is_under
is_under_false e z h = not_positive _ (omega (arith, ints, h))

is_after_true : (w : ℤ) (p : Point) (z : Vector) → sweep w z <ℤ (sweep w (point p) *ℤ z.n)
    → is_after w p z ≡ true
unfolding is_after
is_after_true w p z h = positive_is _ (omega (arith, ints, h))

is_after_false : (w : ℤ) (p : Point) (z : Vector) → (sweep w (point p) *ℤ z.n) ≤ℤ sweep w z
    → is_after w p z ≡ false
unfolding is_after
is_after_false w p z h = not_positive _ (omega (arith, ints, h))

crosses_live : (w : ℤ) (z : Vector) (e : Edge) → is_after w e.low z ≡ false
    → is_after w e.high z ≡ true → crosses_sweep w z e ≡ is_under e z
crosses_live w z e h k = ap (λ b. both (flip b) (both (is_after w e.high z) (is_under e z))) h
    ∙ ap (λ b. both b (is_under e z)) k

crosses_late : (w : ℤ) (z : Vector) (e : Edge) → is_after w e.low z ≡ true
    → crosses_sweep w z e ≡ false
crosses_late w z e h = ap (λ b. both (flip b) (both (is_after w e.high z) (is_under e z))) h

crosses_early : (w : ℤ) (z : Vector) (e : Edge) → is_after w e.high z ≡ false
    → crosses_sweep w z e ≡ false
crosses_early w z e h = ap (λ b. both (flip (is_after w e.low z)) (both b (is_under e z))) h
    ∙ both_false (flip (is_after w e.low z))

-- the edges over a place, by its index
under_parts : (r : Replay) (z : Vector) (c : ℕ → Bool) (i : ℕ) (es : List ℕ)
    → Parts (sides r z) i es
    → parity (λ e. both (c e) (is_under (r.edge e) z)) es ≡ parity_over c i es
under_parts r z c zero [] h = refl
under_parts r z c (suc i) [] h = refl
under_parts r z c zero (e ∷ es) h =
    ap (λ b. differ (both (c e) b) (parity (λ e. both (c e) (is_under (r.edge e) z)) es))
    (is_under_true (r.edge e) z h.0)
    ∙ ap (λ b. differ b (parity (λ e. both (c e) (is_under (r.edge e) z)) es)) (both_right (c e))
    ∙ ap (λ b. differ (c e) b) (under_parts r z c zero es h.1)
under_parts r z c (suc i) (e ∷ es) h =
    ap (λ b. differ (both (c e) b) (parity (λ e. both (c e) (is_under (r.edge e) z)) es))
    (is_under_false (r.edge e) z h.0)
    ∙ ap (λ b. differ b (parity (λ e. both (c e) (is_under (r.edge e) z)) es)) (both_false (c e))
    ∙ under_parts r z c i es h.1

-- ---- even degrees at a step
starts_test : (m : ℕ) (E : ℕ → Edge) (c : ℕ → Bool) (p : Point) (xs : List ℕ) (end : Edge → Point)
    → ((e : ℕ) → Has e xs → end (E e) ≡ p) → ((e : ℕ) → e < m → end (E e) ≡ p → Has e xs)
    → (e : ℕ) → e < m → both (c e) (same_point p (end (E e))) ≡ both (among xs e) (c e)
starts_test m E c p xs end only all e l =
    both_swap (c e) (same_point p (end (E e))) ∙ ap (λ b. both b (c e))
    (by_test (same_point p (end (E e)))
    (λ h. h ∙ sym (is_among xs e (all e l (sym (same_is p (end (E e)) h)))))
    (λ h. h ∙ sym
    (not_among xs e
    (λ k. not_both (sym (same_self p) ∙ subst (λ q. same_point p q ≡ false) (only e k) h)))))

-- the chosen edges with an end at p: those that start there and those that end there
pub degree : (m : ℕ) (E : ℕ → Edge) (c : ℕ → Bool) (p : Point)
    → parity (same_point p) (ends_of (chosen c m E))
    ≡ differ (parity (λ e. both (c e) (same_point p (E e).low)) (numbers_below m))
    (parity (λ e. both (c e) (same_point p (E e).high)) (numbers_below m))
degree m E c p =
    parity_ends (same_point p) (chosen c m E)
    ∙ chosen_parity c m E (λ e. differ (same_point p e.low) (same_point p e.high))
    ∙ numbers_map m (λ e. both (c e) (differ (same_point p (E e).low) (same_point p (E e).high)))
    (λ e. differ (both (c e) (same_point p (E e).low)) (both (c e) (same_point p (E e).high)))
    (λ e l. both_differ (c e) (same_point p (E e).low) (same_point p (E e).high))
    ∙ parity_differ (λ e. both (c e) (same_point p (E e).low))
    (λ e. both (c e) (same_point p (E e).high)) (numbers_below m)

pub degree_step : (w : ℤ) (m : ℕ) (E : ℕ → Edge) (c : ℕ → Bool) (done todo : List Step) (s : Step)
    → WeighedRun w m E (onto done (s ∷ todo))
    → parity (same_point s.at) (ends_of (chosen c m E))
    ≡ differ (parity c s.starting) (parity c s.ending)
degree_step w m E c done todo s all =
    let g = (moment w m E done (s ∷ todo) all).todo_good.1 in
    let p = s.at in
    let starting = once_front s.starting s.above
    (once_back s.below (s.starting ++ s.above) (live_once w m E (s ∷ done) todo all)) in
    let low : parity (λ e. both (c e) (same_point p (E e).low)) (numbers_below m)
    ≡ parity c s.starting =
    numbers_map m (λ e. both (c e) (same_point p (E e).low)) (λ e. both (among s.starting e) (c e))
    (starts_test m E c p s.starting (λ e. e.low)
    (λ e k. (g.starting_only e k).1) g.starting_all)
    ∙ members m s.starting c starting (λ e k. (g.starting_only e k).0) in
    let high : parity (λ e. both (c e) (same_point p (E e).high)) (numbers_below m)
    ≡ parity c s.ending =
    numbers_map m (λ e. both (c e) (same_point p (E e).high)) (λ e. both (among s.ending e) (c e))
    (starts_test m E c p s.ending (λ e. e.high) (λ e k. (g.ending_only e k).1) g.ending_all)
    ∙ members m s.ending c g.ending_once (λ e k. (g.ending_only e k).0) in
    degree m E c p
    ∙ ap (λ b. differ b (parity (λ e. both (c e) (same_point p (E e).high)) (numbers_below m)))
    low ∙ ap (λ b. differ (parity c s.starting) b) high

pub even_step : (w : ℤ) (m : ℕ) (E : ℕ → Edge) (c : ℕ → Bool) (done todo : List Step) (s : Step)
    → WeighedRun w m E (onto done (s ∷ todo)) → EvenEnds (chosen c m E)
    → parity c s.ending ≡ parity c s.starting
even_step w m E c done todo s all even =
    sym (differ_equal (parity c s.starting) (parity c s.ending)
    (sym (degree_step w m E c done todo s all) ∙ even s.at))

module _ (w : ℤ) (m : ℕ) (E : ℕ → Edge) (steps : List Step) (swept : WeighedRun w m E steps) where
  abbrev r : Replay
  r = replay w m E steps

  -- the edges that a sweep line crosses are those of the live list
  live_test : (z : Vector) (k : ℕ) → IsStrip r k z → (e : ℕ) → e < m
      → crosses_sweep w z (E e) ≡ both (among (r.list k) e) (is_under (E e) z)
  live_test z k i e l =
      let run = swept_run w m E steps swept in
      let law = swept_lawful w m E steps swept in
      let b = run.begins e l in
      let d = run.ends e l in
      let lb = b.1 in
      let ld = d.1 in
      let low_is : (sweep w (point (r.step b.0).at) ≡ sweep w (point (E e).low)) = ap
      (λ p. sweep w (point p)) b.2 in
      let high_is : (sweep w (point (r.step d.0).at) ≡ sweep w (point (E e).high)) = ap
      (λ p. sweep w (point p)) d.2 in
      let not_live : (crosses_sweep w z (E e) ≡ false) → (Has e (r.list k) → ⊥)
      → crosses_sweep w z (E e) ≡ both (among (r.list k) e) (is_under (E e) z) =
      λ h n. h ∙ sym (ap (λ t. both t (is_under (E e) z)) (not_among (r.list k) e n)) in
      by_lt_z (pos b.0) (pos k)
      (λ (hb : pos b.0 <ℤ pos k).
      let early = subst (λ v. (v *ℤ z.n) ≤ℤ sweep w z) low_is
      (i.from b.0 (omega (arith, ints, hb))) in
      by_lt_z (pos d.0) (pos k)
      (λ (hd : pos d.0 <ℤ pos k).
      let past = subst (λ v. (v *ℤ z.n) ≤ℤ sweep w z) high_is
      (i.from d.0 (omega (arith, ints, hd))) in
      not_live (crosses_early w z (E e) (is_after_false w (E e).high z past))
      (λ h. let o = law.open_still k e i.fits h in
      let late = subst (λ v. sweep w z <ℤ (v *ℤ z.n)) (ap (λ p. sweep w (point p)) o.3)
      (i.to o.0 o.1 o.2) in
      less_not _ _ late past))
      (λ (hd : pos k ≤ℤ pos d.0).
      let late = subst (λ v. sweep w z <ℤ (v *ℤ z.n)) high_is
      (i.to d.0 (omega (arith, ints, hd)) ld) in
      crosses_live w z (E e) (is_after_false w (E e).low z early)
      (is_after_true w (E e).high z late)
      ∙ sym (ap (λ t. both t (is_under (E e) z))
      (is_among (r.list k) e
      (law.alive k e b.0 d.0 l (omega (arith, ints, hb)) b.2
      (omega (arith, ints, hd)) ld d.2)))))
      (λ (hb : pos k ≤ℤ pos b.0).
      let late = subst (λ v. sweep w z <ℤ (v *ℤ z.n)) low_is
      (i.to b.0 (omega (arith, ints, hb)) lb) in
      not_live (crosses_late w z (E e) (is_after_true w (E e).low z late))
      (λ h. let o = law.begun k e i.fits h in
      let past = subst (λ v. (v *ℤ z.n) ≤ℤ sweep w z) (ap (λ p. sweep w (point p)) o.2)
      (i.from o.0 o.1) in
      less_not _ _ late past))
    where
      less_not : (x y : ℤ) → x <ℤ y → y ≤ℤ x → ⊥
      less_not x y h k = omega (arith, ints)

  list_once : (k : ℕ) → k ≤ length steps → Once (r.list k)
  list_once k h =
      let q = cut_at steps k h in
      subst (λ (es : List ℕ). Once es) q.2.now
      (live_once w m E q.0 q.1
      (subst (λ (t : List Step). WeighedRun w m E t) (sym q.2.whole) swept))

  -- along the sweep line: the chosen edges over the place
  pub sweep_over : (c : ℕ → Bool) (z : Vector) → Place z → IsOffEdges r z
      → parity (crosses_sweep w z) (chosen c m E)
      ≡ parity_over c (sector r z).index (r.list (sector r z).strip)
  sweep_over c z P off =
      let run = swept_run w m E steps swept in
      let law = swept_lawful w m E steps swept in
      let k = strip r z in
      let i = strip_is r run z P in
      let es = r.list k in
      chosen_parity c m E (crosses_sweep w z)
      ∙ numbers_map m (λ e. both (c e) (crosses_sweep w z (E e)))
      (λ e. both (among es e) (both (c e) (is_under (E e) z)))
      (λ e l. ap (λ b. both (c e) b) (live_test z k i e l)
      ∙ both_turn (c e) (among es e) (is_under (E e) z))
      ∙ members m es (λ e. both (c e) (is_under (E e) z)) (list_once k i.fits)
      (λ e h. law.live k e i.fits h)
      ∙ under_parts r z c (raised r z es) es (divided_parts r z es (law.divided k z P off i))
    where
      both_turn : (a b d : Bool) → both a (both b d) ≡ both b (both a d)
      both_turn true b d = refl
      both_turn false b d = sym (both_false b)

  -- an opening keeps the parity
  abbrev pub over : (ℕ → Bool) → Sector → Bool
  over c d = parity_over c d.index (r.list d.strip)

  number_step : (c : ℕ → Bool) → EvenEnds (chosen c m E) → (k : ℕ) → k < length steps
      → parity c (nth steps k).ending ≡ parity c (nth steps k).starting
  number_step c even k h =
      let q = cut_at steps k (omega (arith, h)) in
      at q.0 q.1 q.2
    where
      at : (done todo : List Step) → IsCut steps k done todo
          → parity c (nth steps k).ending ≡ parity c (nth steps k).starting
      at done [] q = let size = q.size in absurd (omega (arith, size, h))
      at done (s ∷ todo) q =
          let here : s ≡ nth steps k = q.rest 0 (omega arith) ∙ ap (nth steps) (omega arith) in
          subst (λ (t : Step). parity c t.ending ≡ parity c t.starting) here
          (even_step w m E c done todo s
          (subst (λ (t : List Step). WeighedRun w m E t) (sym q.whole) swept) even)

  pub opens_over : (c : ℕ → Bool) → EvenEnds (chosen c m E) → (d e : Sector) → Opens r d e
      → over c d ≡ over c e
  opens_over c even d e o =
      let run = swept_run w m E steps swept in
      let k = d.strip in
      elim o [
        | inl x ↦
            ap (λ es. parity_over c d.index es) (run.before k x.fits)
            ∙ over_step c (nth steps k) d.index e.index (number_step c even k x.fits)
            (inl (x.low, x.kept))
            ∙ sym (ap (λ n. parity_over c e.index (r.list n)) x.next
            ∙ ap (λ es. parity_over c e.index es) (run.after k x.fits))
        | inr x ↦
            ap (λ es. parity_over c d.index es) (run.before k x.fits)
            ∙ over_step c (nth steps k) d.index e.index (number_step c even k x.fits)
            (inr (x.high, x.kept))
            ∙ sym (ap (λ n. parity_over c e.index (r.list n)) x.next
            ∙ ap (λ es. parity_over c e.index es) (run.after k x.fits))
      ]

  -- linked cells have one parity
  pub linked_over : (c : ℕ → Bool) → EvenEnds (chosen c m E) → (d e : Sector) → Linked r d e
      → over c d ≡ over c e
  linked_over c even = linked_keeps r (over c) (opens_over c even)

  -- along the vertical, too
  pub vertical_over : (c : ℕ → Bool) (z : Vector) → ((e : ℕ) → e < m → Before (E e).low (E e).high)
      → Place z → IsOffEdges r z → EvenEnds (chosen c m E)
      → parity (crosses_vertical z) (chosen c m E) ≡ over c (sector r z)
  vertical_over c z edges P off even =
      crossings_agree w z (chosen c m E) P
      (λ d k. let i = chosen_has c m E d k in
      subst (λ x. Plain w z x) (sym i.2) (record {
        rises = edges i.0 i.1;
        up = swept.rises i.0 i.1;
        off = off i.0 i.1;
      })) even
      ∙ sweep_over c z P off

  -- joined places are both inside or both not
  pub joined_inside : (c : ℕ → Bool) (p q : Vector)
      → ((e : ℕ) → e < m → Before (E e).low (E e).high) → EvenEnds (chosen c m E) → Place p
      → Place q → IsOffEdges r p → IsOffEdges r q → JoinedByEdges r p q
      → parity (crosses_vertical p) (chosen c m E) ≡ parity (crosses_vertical q) (chosen c m E)
  joined_inside c p q edges even P Q op oq j =
      vertical_over c p edges P op even
      ∙ joined_keeps r (swept_run w m E steps swept) (swept_lawful w m E steps swept) (over c)
      (opens_over c even) p q j P Q op
      ∙ sym (vertical_over c q edges Q oq even)
