-- Matched labels, by numbers: each cell has one label, linked cells have one label, and a path
-- keeps it.
-- An outer place has the label 0 of the borders.
use Rattle.std.proofs.Common.{◌≡◌, ℕ, zero, suc, ◌+◌, ◌-◌, ◌<◌, ◌≤◌, List, ◌++◌, length, refl}
use Rattle.std.proofs.Common.{arith, ap, sym, ◌∙◌, inl, inr, subst}
use Rattle.plane.specs.Forms.Vectors.{Vector, Place}
use Rattle.plane.specs.Faces.Replays.{Replay, IsOffEdges}
use Rattle.plane.proofs.Runs.RunWords.{IsRun, IsLawful}
use Rattle.plane.specs.Faces.Cells.{label_of, Sector, IsSector, corner, sector, IsBorder, Opens}
use Rattle.plane.specs.Faces.Cells.{Linked, stays, onward, back, JoinedByEdges}
use Rattle.plane.proofs.Strips.OuterWords.{IsOuterByEdges}
use Rattle.plane.specs.Faces.Labels.{Labels, Match, label_at}
use Rattle.plane.specs.Faces.Halves.{IsMatched}
use Rattle.plane.proofs.LabelLemmas.LabelWords.{label_over}
use Rattle.plane.proofs.LabelLemmas.Matches.{match_highest, at_front, at_end, over_back}
use Rattle.plane.proofs.LabelLemmas.Matches.{sides_agree, step_match}
use Rattle.plane.proofs.Strips.Joins.{opens_from, opens_to, joined_linked}
use Rattle.plane.proofs.Strips.Outer.{outer_linked}

module _ (r : Replay) (run : IsRun r) (law : IsLawful r) (lab : Labels)
    (matched : IsMatched r lab) where
  -- all neighbours of each live list match, borders included
  pub labelled : (k : ℕ) → k ≤ r.steps → Match lab 0 (r.list k) 0
  labelled zero h = subst (λ (es : List ℕ). Match lab 0 es 0) (sym run.first) refl
  labelled (suc k) h =
      let l : k < r.steps = omega arith in
      subst (λ (es : List ℕ). Match lab 0 es 0) (sym (run.after k l))
      (step_match lab (r.step k)
      (subst (λ (es : List ℕ). Match lab 0 es 0) (run.before k l) (labelled k (omega arith)))
      (matched k l))

  -- a cell's lower side and its upper side have one label
  pub upper_label : (c : Sector) → IsSector r c
      → label_of lab r c ≡ label_over lab 0 c.index (r.list c.strip)
  upper_label c C = sides_agree lab 0 0 c.index (r.list c.strip) C.index (labelled c.strip C.strip)

  pub border_label : (c : Sector) → IsSector r c → IsBorder r c → label_of lab r c ≡ 0
  border_label c C (inl e) = ap (λ (i : ℕ). label_at lab 0 i (r.list c.strip)) e
  border_label c C (inr e) =
      ap (λ (i : ℕ). label_at lab 0 i (r.list c.strip)) e ∙ at_end lab 0 (r.list c.strip)
      ∙ match_highest lab 0 0 (r.list c.strip) (labelled c.strip C.strip)

  -- what opens keeps the label, so linked cells have one
  pub opens_label : (c d : Sector) → Opens r c d → label_of lab r c ≡ label_of lab r d
  opens_label c d (inl o) =
      let l = o.fits in
      let s = r.step c.strip in
      let kept = o.kept in
      let low = o.low in
      let f : (es zs : List ℕ) → es ≡ s.below ++ zs
      → label_at lab 0 c.index es ≡ label_at lab 0 c.index s.below = λ es zs e.
      ap (λ (xs : List ℕ). label_at lab 0 c.index xs) e ∙ at_front lab 0 c.index s.below zs low in
      let a = f (r.list c.strip) (s.ending ++ s.above) (run.before c.strip l) in
      let b = f (r.list d.strip) (s.starting ++ s.above) (ap r.list o.next ∙ run.after c.strip l) in
      a ∙ sym b ∙ ap (λ (i : ℕ). label_at lab 0 i (r.list d.strip)) (sym kept)
  opens_label c d (inr o) =
      let l = o.fits in
      let s = r.step c.strip in
      let m = c.index - (length s.below + length s.ending) in
      let high = o.high in
      let kept = o.kept in
      let f : (es ys : List ℕ) (n : ℕ) → es ≡ s.below ++ (ys ++ s.above)
      → n ≡ length s.below + (length ys + m)
      → label_over lab 0 n es ≡ label_over lab 0 m s.above = λ es ys n e h.
      ap (λ (xs : List ℕ). label_over lab 0 n xs) e
      ∙ over_back lab 0 n (length ys + m) s.below (ys ++ s.above) h
      ∙ over_back lab 0 (length ys + m) m ys s.above refl in
      let a = f (r.list c.strip) s.ending c.index (run.before c.strip l) (omega (arith, high)) in
      let b = f (r.list d.strip) s.starting d.index (ap r.list o.next ∙ run.after c.strip l)
      (omega (arith, high, kept)) in
      upper_label c (opens_from r run law c d (inr o)) ∙ a ∙ sym b
      ∙ sym (upper_label d (opens_to r run law c d (inr o)))

  pub linked_label : (c d : Sector) → Linked r c d → label_of lab r c ≡ label_of lab r d
  linked_label _ _ (stays c d e) = ap (label_of lab r) e
  linked_label _ _ (onward c x d o l) = opens_label c x o ∙ linked_label x d l
  linked_label _ _ (back c x d o l) = sym (opens_label x c o) ∙ linked_label x d l

  -- joined places have one label
  pub joined_label : (p q : Vector) → JoinedByEdges r p q → Place p → Place q → IsOffEdges r p
      → label_of lab r (sector r p) ≡ label_of lab r (sector r q)
  joined_label p q j P Q off =
      linked_label (sector r p) (sector r q) (joined_linked r run law p q j P Q off)

  -- an outer place has the border's label
  pub outer_label : (p : Vector) → Place p → IsOffEdges r p → IsOuterByEdges r p
      → label_of lab r (sector r p) ≡ 0
  outer_label p P off o = linked_label (sector r p) corner (outer_linked r run law p P off o)
