-- The edges with one label on exactly one side have even degrees.
-- A place is inside over them exactly where its cell has that label.
use Rattle.std.proofs.Common.{◌≡◌, ℕ, zero, suc, ◌<◌, ◌≤◌, Bool, true, false, ◌⊎◌, ℤ, inl, inr}
use Rattle.std.proofs.Common.{List, [], ◌∷◌, ◌++◌, length, refl, arith, ap, sym, ◌∙◌, subst}
use Rattle.plane.specs.declared.kinds.Point.{Point}
use Rattle.plane.specs.Forms.Vectors.{Vector, Place, Edge, Before}
use Rattle.plane.specs.Lists.{Each, Has}
use Rattle.plane.specs.Runs.Steps.{Step, before, after, onto, AtSome, WeighedRun}
use Rattle.plane.specs.Faces.Labels.{Labels, Match, MatchesAt, label_at}
use Rattle.plane.specs.Faces.Replays.{Replay, IsOffEdges, replay}
use Rattle.plane.specs.Faces.Cells.{Sector, IsSector, sector, label_of}
use Rattle.plane.specs.Faces.Parity.{flip, both, differ, either, parity, crosses_vertical}
use Rattle.plane.specs.Faces.Parity.{same_point, ends_of, EvenEnds, same_number, chosen}
use Rattle.plane.specs.Faces.Parity.{parity_over, one_side}
use Rattle.plane.proofs.ParityLemmas.ParityWords.{numbers_below}
use Rattle.plane.proofs.ListLemmas.Lists.{each_has, each_from}
use Rattle.plane.proofs.Runs.Moments.{moment}
use Rattle.plane.proofs.LabelLemmas.MatchedLists.{live_match}
use Rattle.plane.proofs.Strips.Columns.{cell_is}
use Rattle.plane.proofs.Runs.Numbered.{nth, has_nth, index_of, IsCut, cut_at, swept_run}
use Rattle.plane.proofs.Runs.Lawful.{swept_lawful}
use Rattle.plane.proofs.ParityLemmas.Parities.{both_false, differ_false, differ_self, parity_append}
use Rattle.plane.proofs.ParityLemmas.Parities.{parity_none, same_is}
use Rattle.plane.proofs.ParityLemmas.ByNumber.{by_test, number_is, numbers_map}
use Rattle.plane.proofs.ParityLemmas.OverCells.{degree, degree_step, vertical_over}

-- ---- truth values
flip_back : (b : Bool) → flip (flip b) ≡ b
flip_back true = refl
flip_back false = refl

cancel_left : (x y z : Bool) → differ x y ≡ differ x z → y ≡ z
cancel_left true y z h = sym (flip_back y) ∙ ap flip h ∙ flip_back z
cancel_left false y z h = h

differ_swap : (x y : Bool) → differ x y ≡ differ y x
differ_swap true true = refl
differ_swap true false = refl
differ_swap false true = refl
differ_swap false false = refl

cancel_right : (x y z : Bool) → differ y x ≡ differ z x → y ≡ z
cancel_right x y z h = cancel_left x y z (differ_swap x y ∙ h ∙ differ_swap z x)

pass_over : (x y z : Bool) → differ x (differ (differ x y) z) ≡ differ y z
pass_over true true z = refl
pass_over true false true = refl
pass_over true false false = refl
pass_over false y z = refl

-- ---- labels along a list
pub match_parity : (a : Labels) (f l : ℕ) (xs : List ℕ) (r : ℕ) → Match a l xs r
    → differ (same_number f l) (parity (one_side a f) xs) ≡ same_number f r
match_parity a f l [] r h = differ_false (same_number f l) ∙ ap (same_number f) h
match_parity a f l (e ∷ xs) r h =
    ap (λ n. differ (same_number f n) (differ (one_side a f e) (parity (one_side a f) xs))) h.0
    ∙ pass_over (same_number f (a.below e)) (same_number f (a.above e)) (parity (one_side a f) xs)
    ∙ match_parity a f (a.above e) xs r h.1

-- the edges over a cell
pub match_over : (a : Labels) (f l i : ℕ) (xs : List ℕ) (r : ℕ) → Match a l xs r → i ≤ length xs
    → differ (same_number f (label_at a l i xs)) (parity_over (one_side a f) i xs) ≡ same_number f r
match_over a f l zero xs r h k = match_parity a f l xs r h
match_over a f l (suc i) [] r h k = absurd (omega (arith, k))
match_over a f l (suc i) (x ∷ xs) r h k = match_over a f (a.above x) i xs r h.1 (omega (arith, k))

-- as many edges with f on one side end at a step as start there, by parity
pub labels_step : (w : ℤ) (m : ℕ) (E : ℕ → Edge) (a : Labels) (f : ℕ) (done todo : List Step)
    (s : Step)
    → WeighedRun w m E (onto done (s ∷ todo)) → Each (MatchesAt a) (s ∷ done)
    → parity (one_side a f) s.starting ≡ parity (one_side a f) s.ending
labels_step w m E a f done todo s all k =
    let u = moment w m E done (s ∷ todo) all in
    let v = moment w m E (s ∷ done) todo all in
    let c = one_side a f in
    let old : Match a 0 (before s) 0 = subst (λ xs. Match a 0 xs 0) u.todo_good.0
    (live_match m E a done u.done_good k.1) in
    let new : Match a 0 (after s) 0 = live_match m E a (s ∷ done) v.done_good k in
    let same : parity c (after s) ≡ parity c (before s) = cancel_left (same_number f 0)
    (parity c (after s)) (parity c (before s)) (match_parity a f 0 (after s) 0 new
    ∙ sym (match_parity a f 0 (before s) 0 old)) in
    cancel_right (parity c s.above) (parity c s.starting) (parity c s.ending)
    (cancel_left (parity c s.below) (differ (parity c s.starting) (parity c s.above))
    (differ (parity c s.ending) (parity c s.above))
    (ap (λ b. differ (parity c s.below) b) (sym (parity_append c s.starting s.above))
    ∙ sym (parity_append c s.below (s.starting ++ s.above)) ∙ same
    ∙ parity_append c s.below (s.ending ++ s.above)
    ∙ ap (λ b. differ (parity c s.below) b) (parity_append c s.ending s.above)))

-- an edge with different labels on its sides has f on one side exactly where it has f on some side
pub one_side_is : (a : Labels) (f e : ℕ) → (a.below e ≡ a.above e → ⊥)
    → one_side a f e ≡ either (same_number f (a.below e)) (same_number f (a.above e))
one_side_is a f e n = by_test (same_number f (a.below e))
    (λ h. by_test (same_number f (a.above e))
    (λ k. absurd (n (sym (number_is f (a.below e) h) ∙ number_is f (a.above e) k)))
    (λ k. ap (λ b. differ b (same_number f (a.above e))) h ∙ ap flip k
    ∙ sym (ap (λ b. either b (same_number f (a.above e))) h)))
    (λ h. ap (λ b. differ b (same_number f (a.above e))) h
    ∙ sym (ap (λ b. either b (same_number f (a.above e))) h))

-- the step at a point, or none
step_at : (p : Point) (steps : List Step)
    → ((s : Step) × Has s steps × (p ≡ s.at))
    ⊎ ((s : Step) → Has s steps → same_point p s.at ≡ false)
step_at p [] = inr (λ s k. absurd k)
step_at p (t ∷ steps) = by_test (same_point p t.at)
    (λ h. inl (t, inl refl, same_is p t.at h))
    (λ h. elim (step_at p steps) [
      | inl (s, k, q) ↦ inl (s, inr k, q)
      | inr absent ↦ inr
          (λ s k. elim k [
            | inl e ↦ subst (λ (u : Step). same_point p u.at ≡ false) (sym e) h
            | inr l ↦ absent s l
          ])
    ])

module _ (w : ℤ) (m : ℕ) (E : ℕ → Edge) (steps : List Step) (a : Labels)
    (swept : WeighedRun w m E steps) (matches : Each (MatchesAt a) steps) where
  abbrev r : Replay
  r = replay w m E steps

  -- the labels match at all steps that are done
  done_match : (k : ℕ) (done todo : List Step) → k ≤ length steps → IsCut steps k done todo
      → Each (MatchesAt a) done
  done_match k done todo h q = each_from (λ t. MatchesAt a t) done (λ t i.
      let j = q.early t i in let b = j.1 in
      subst (λ (u : Step). MatchesAt a u) j.2
      (each_has (λ t. MatchesAt a t) steps (nth steps j.0) matches
      (has_nth steps j.0 (omega (arith, b, h)))))

  numbered_step : (f k : ℕ) → k < length steps
      → parity (same_point (nth steps k).at) (ends_of (chosen (one_side a f) m E)) ≡ false
  numbered_step f k h =
      let q = cut_at steps k (omega (arith, h)) in
      at q.0 q.1 q.2
    where
      at : (done todo : List Step) → IsCut steps k done todo
          → parity (same_point (nth steps k).at) (ends_of (chosen (one_side a f) m E)) ≡ false
      at done [] q = let size = q.size in absurd (omega (arith, size, h))
      at done (s ∷ todo) q =
          let here : s ≡ nth steps k = q.rest 0 (omega arith) ∙ ap (nth steps) (omega arith) in
          let all : WeighedRun w m E (onto done (s ∷ todo)) = subst
          (λ (t : List Step). WeighedRun w m E t) (sym q.whole) swept in
          let at_here : MatchesAt a s = subst (λ (t : Step). MatchesAt a t) (sym here)
          (each_has (λ t. MatchesAt a t) steps (nth steps k) matches (has_nth steps k h)) in
          let c = one_side a f in
          let same = labels_step w m E a f done todo s all
          (at_here, done_match k done (s ∷ todo) (omega (arith, h)) q) in
          subst (λ (t : Step). parity (same_point t.at) (ends_of (chosen c m E)) ≡ false) here
          (degree_step w m E c done todo s all ∙ ap (λ b. differ b (parity c s.ending)) same
          ∙ differ_self (parity c s.ending))

  -- even degrees
  pub face_even : (f : ℕ) → EvenEnds (chosen (one_side a f) m E)
  face_even f p = elim (step_at p steps) [
    | inl (s, k, q) ↦
        let i = index_of steps s k in
        subst (λ x. parity (same_point x) (ends_of (chosen (one_side a f) m E)) ≡ false)
        (sym (q ∙ ap (λ (t : Step). t.at) (sym i.2))) (numbered_step f i.0 i.1)
    | inr absent ↦
        let c = one_side a f in
        let none : (x : Point) → AtSome x steps
        → same_point p x ≡ false =
        λ x (s, k, q). subst (λ y. same_point p y ≡ false) (sym q) (absent s k) in
        degree m E c p
        ∙ ap (λ b. differ b (parity (λ e. both (c e) (same_point p (E e).high)) (numbers_below m)))
        (numbers_map m (λ e. both (c e) (same_point p (E e).low)) (λ e. false)
        (λ e l. ap (λ b. both (c e) b) (none (E e).low (swept.ends e l).0) ∙ both_false (c e))
        ∙ parity_none (λ e. false) (numbers_below m) (λ e k. refl))
        ∙ numbers_map m (λ e. both (c e) (same_point p (E e).high)) (λ e. false)
        (λ e l. ap (λ b. both (c e) b) (none (E e).high (swept.ends e l).1) ∙ both_false (c e))
        ∙ parity_none (λ e. false) (numbers_below m) (λ e k. refl)
  ]

  -- the edges over a cell with f on one side are odd in number exactly where the cell has the label
  -- f
  pub face_over : (f : ℕ) (d : Sector) → (f ≡ 0 → ⊥) → IsSector r d
      → parity_over (one_side a f) d.index (r.list d.strip) ≡ same_number f (label_of a r d)
  face_over f d n h =
      let q = cut_at steps d.strip h.strip in
      let c = one_side a f in
      let all : Match a 0 (r.list d.strip) 0 = subst (λ (es : List ℕ). Match a 0 es 0) q.2.now
      (live_match m E a q.0
      (moment w m E q.0 q.1
      (subst (λ (t : List Step). WeighedRun w m E t) (sym q.2.whole) swept)).done_good
      (done_match d.strip q.0 q.1 h.strip q.2)) in
      let border : same_number f 0 ≡ false = by_test (same_number f 0)
      (λ k. absurd (n (number_is f 0 k))) (λ k. k) in
      cancel_left (same_number f (label_of a r d)) (parity_over c d.index (r.list d.strip))
      (same_number f (label_of a r d))
      (match_over a f 0 d.index (r.list d.strip) 0 all h.index ∙ border
      ∙ sym (differ_self (same_number f (label_of a r d))))

  -- a place off all edges is inside over the edges with f on one side exactly where its cell has
  -- the label f
  pub polygon_inside : (f : ℕ) (z : Vector) → (f ≡ 0 → ⊥)
      → ((e : ℕ) → e < m → Before (E e).low (E e).high) → Place z → IsOffEdges r z
      → parity (crosses_vertical z) (chosen (one_side a f) m E)
      ≡ same_number f (label_of a r (sector r z))
  polygon_inside f z n edges P off =
      vertical_over w m E steps swept (one_side a f) z edges P off (face_even f)
      ∙ face_over f (sector r z) n
      (cell_is r (swept_run w m E steps swept) (swept_lawful w m E steps swept) z P)
