-- Labels that match along a list: its parts, its two ends, the labels of the places in it, and what
-- a step makes of it.
-- No run appears here; the laws by moments and the laws by numbers both stand on these.
use Rattle.std.proofs.Common.{◌≡◌, ℕ, zero, suc, ◌+◌, ◌≤◌, List, [], ◌∷◌, ◌++◌, length, refl, arith}
use Rattle.std.proofs.Common.{ap, sym, subst}
use Rattle.plane.specs.Runs.Steps.{Step, before, after}
use Rattle.plane.specs.Faces.Labels.{Labels, Match, MatchesAt, first_label, last_label, label_at}
use Rattle.plane.proofs.LabelLemmas.LabelWords.{label_over}

module _ (lab : Labels) where
  pub match_highest : (f g : ℕ) (es : List ℕ) → Match lab f es g → last_label lab f es ≡ g
  match_highest f g [] h = h
  match_highest f g (e ∷ es) h = match_highest (lab.above e) g es h.1

  pub match_lowest : (f g : ℕ) (es : List ℕ) → Match lab f es g → f ≡ first_label lab es g
  match_lowest f g [] h = h
  match_lowest f g (e ∷ es) h = h.0

  pub match_append : (f g h : ℕ) (xs ys : List ℕ) → Match lab f xs g → Match lab g ys h
      → Match lab f (xs ++ ys) h
  match_append f g h [] ys a b = subst (λ (x : ℕ). Match lab x ys h) (sym a) b
  match_append f g h (x ∷ xs) ys a b = (a.0, match_append (lab.above x) g h xs ys a.1 b)

  pub match_front : (f h : ℕ) (xs ys : List ℕ) → Match lab f (xs ++ ys) h
      → Match lab f xs (last_label lab f xs)
  match_front f h [] ys a = refl
  match_front f h (x ∷ xs) ys a = (a.0, match_front (lab.above x) h xs ys a.1)

  pub match_back : (f h : ℕ) (xs ys : List ℕ) → Match lab f (xs ++ ys) h
      → Match lab (last_label lab f xs) ys h
  match_back f h [] ys a = a
  match_back f h (x ∷ xs) ys a = match_back (lab.above x) h xs ys a.1

  pub at_front : (f i : ℕ) (xs ys : List ℕ) → i ≤ length xs
      → label_at lab f i (xs ++ ys) ≡ label_at lab f i xs
  at_front f zero xs ys h = refl
  at_front f (suc i) [] ys h = absurd (omega arith)
  at_front f (suc i) (x ∷ xs) ys h = at_front (lab.above x) i xs ys (omega arith)

  pub at_end : (f : ℕ) (es : List ℕ) → label_at lab f (length es) es ≡ last_label lab f es
  at_end f [] = refl
  at_end f (e ∷ es) = at_end (lab.above e) es

  pub over_back : (g n i : ℕ) (xs ys : List ℕ) → n ≡ length xs + i
      → label_over lab g n (xs ++ ys) ≡ label_over lab g i ys
  over_back g n i [] ys e = ap (λ (j : ℕ). label_over lab g j ys) (omega arith)
  over_back g zero i (x ∷ xs) ys e = absurd (omega arith)
  over_back g (suc n) i (x ∷ xs) ys e = over_back g n i xs ys (omega arith)

  -- the two sides of a cell have one label
  pub sides_agree : (f g i : ℕ) (es : List ℕ) → i ≤ length es → Match lab f es g
      → label_at lab f i es ≡ label_over lab g i es
  sides_agree f g zero [] l h = h
  sides_agree f g (suc i) [] l h = absurd (omega arith)
  sides_agree f g zero (e ∷ es) l h = h.0
  sides_agree f g (suc i) (e ∷ es) l h = sides_agree (lab.above e) g i es (omega arith) h.1

  -- where the edges before a step match and its new neighbours do, the edges after it match
  pub step_match : (s : Step) → Match lab 0 (before s) 0 → MatchesAt lab s → Match lab 0 (after s) 0
  step_match s all new =
      let l = last_label lab 0 s.below in
      let low = match_front 0 0 s.below (s.ending ++ s.above) all in
      let rest = match_back 0 0 s.below (s.ending ++ s.above) all in
      let high = match_back l 0 s.ending s.above rest in
      let top : Match lab (first_label lab s.above 0) s.above 0 = subst
      (λ (x : ℕ). Match lab x s.above 0)
      (match_lowest (last_label lab l s.ending) 0 s.above high) high in
      match_append 0 l 0 s.below (s.starting ++ s.above) low
      (match_append l (first_label lab s.above 0) 0 s.starting s.above new top)
