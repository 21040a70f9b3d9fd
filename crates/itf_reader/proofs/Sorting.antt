-- A stable sort by an order gives what an insertion in order gives.
use Rattle.std.proofs.Common.{◌≡◌, ◌<◌, ◌≤◌, ℕ, suc, zero, Bool, true, false, cond, List, [], ◌∷◌}
use Rattle.std.proofs.Common.{length, map, refl, ap, sym, ◌∙◌, arith, not, ◌&&◌}
use Rattle.std.specs.Prelude.{⊤}
use Rattle.std.specs.Cmp.{IsStrictWeakOrder, IsTotalOrder, then_total, on_total, nat_cmp_total}
use Rattle.std.specs.List.{filter}
use Rattle.std.specs.List.Sorted.{IsSortedBy, IsStableBy, ties}
use Rattle.std.proofs.lemmas.List.Sorted.{sorted_far, ranks_by}
use mathlib.Core.Bool.{true≢false}
use lib.ListN.{get_or}
use Rattle.itf_reader.specs.declared.findings.Finding.{Finding as CodeFinding}
use Rattle.itf_reader.specs.Findings.{Finding, rank, finding_cmp, is_before, finding_of}
use Rattle.itf_reader.specs.Findings.{findings_of, in_order, put_in, sorted}

pub by_test : {P : Type 0} (b : Bool) → (b ≡ true → P) → (b ≡ false → P) → P
by_test true f g = f refl
by_test false f g = g refl

module _ {X : Type 0} (lt : X → X → Bool) (o : IsStrictWeakOrder lt) where
  -- none of the elements is less than x
  abbrev NoneLess : X → List X → Type 0
  NoneLess x [] = ⊤
  NoneLess x (y ∷ ys) = (lt y x ≡ false) × NoneLess x ys

  -- none is less than one before it
  abbrev Ascends : List X → Type 0
  Ascends [] = ⊤
  Ascends (x ∷ xs) = NoneLess x xs × Ascends xs

  itself : (x : X) → lt x x ≡ false
  itself x = by_test (lt x x) (λ e. o.one_way x x e) (λ e. e)

  tie : (x y : X) → lt x y ≡ false → lt y x ≡ false → ties lt x y ≡ true
  tie x y a b = rw a (rw b refl)

  no_tie : (s t : Bool) → (not s && not t) ≡ true → (s ≡ false) × (t ≡ false)
  no_tie true t h = absurd (true≢false (sym h))
  no_tie false true h = absurd (true≢false (sym h))
  no_tie false false h = (refl, refl)

  -- what ties with two ties them
  one_place : (x y z : X) → lt y x ≡ true → ties lt z y ≡ true → ties lt z x ≡ false
  one_place x y z h k =
      by_test (ties lt z x)
      (λ e. absurd
      (true≢false (sym h
      ∙ o.chain y z x (no_tie (lt z y) (lt y z) k).1 (no_tie (lt z x) (lt x z) e).0)))
      (λ e. e)

  NoneLess-weaker : (x y : X) → lt y x ≡ false → (ys : List X) → NoneLess y ys → NoneLess x ys
  NoneLess-weaker x y h [] a = tt
  NoneLess-weaker x y h (z ∷ ys) a = (o.chain z y x a.0 h, NoneLess-weaker x y h ys a.1)

  NoneLess-put_in : (z x : X) (ys : List X) → lt x z ≡ false → NoneLess z ys
      → NoneLess z (put_in lt x ys)
  NoneLess-put_in z x [] h a = (h, tt)
  NoneLess-put_in z x (y ∷ ys) h a =
      by_test (lt y x) (λ e. rw e (a.0, NoneLess-put_in z x ys h a.1)) (λ e. rw e (h, a))

  Ascends-put_in : (x : X) (ys : List X) → Ascends ys → Ascends (put_in lt x ys)
  Ascends-put_in x [] a = (tt, tt)
  Ascends-put_in x (y ∷ ys) a =
      by_test (lt y x)
      (λ e. rw e (NoneLess-put_in y x ys (o.one_way y x e) a.0, Ascends-put_in x ys a.1))
      (λ e. rw e ((e, NoneLess-weaker x y e ys a.0), a))

  Ascends-sorted : (xs : List X) → Ascends (sorted lt xs)
  Ascends-sorted [] = tt
  Ascends-sorted (x ∷ xs) = Ascends-put_in x (sorted lt xs) (Ascends-sorted xs)

  abbrev kept : Bool → X → List X → List X
  kept b x xs = cond b (x ∷ xs) xs

  stands_first : (a b : Bool) (x y : X) (r : List X) → (b ≡ true → a ≡ false)
      → kept b y (kept a x r) ≡ kept a x (kept b y r)
  stands_first a false x y r h = refl
  stands_first a true x y r h = rw (h refl) refl

  stable-put_in : (z x : X) (ys : List X)
      → filter (ties lt z) (put_in lt x ys) ≡ filter (ties lt z) (x ∷ ys)
  stable-put_in z x [] = refl
  stable-put_in z x (y ∷ ys) =
      by_test (lt y x)
      (λ e. rw e (ap (kept (ties lt z y) y) (stable-put_in z x ys)
      ∙ stands_first (ties lt z x) (ties lt z y) x y (filter (ties lt z) ys)
      (one_place x y z e)))
      (λ e. rw e refl)

  stable-sorted : (z : X) (xs : List X) → filter (ties lt z) (sorted lt xs) ≡ filter (ties lt z) xs
  stable-sorted z [] = refl
  stable-sorted z (x ∷ xs) = stable-put_in z x (sorted lt xs)
      ∙ ap (kept (ties lt z x) x) (stable-sorted z xs)

  abbrev is_empty : List X → Bool
  is_empty [] = true
  is_empty (x ∷ xs) = false

  no_first : {P : Type 0} (x : X) (xs : List X) → [] ≡ x ∷ xs → P
  no_first x xs e = absurd (true≢false (ap is_empty e))

  abbrev head_or : X → List X → X
  head_or d [] = d
  head_or d (x ∷ xs) = x

  abbrev tail_of : List X → List X
  tail_of [] = []
  tail_of (x ∷ xs) = xs

  kept_true : (b : Bool) (x : X) (xs : List X) → b ≡ true → kept b x xs ≡ x ∷ xs
  kept_true b x xs e = ap (λ (c : Bool). kept c x xs) e

  kept_false : (b : Bool) (x : X) (xs : List X) → b ≡ false → kept b x xs ≡ xs
  kept_false b x xs e = ap (λ (c : Bool). kept c x xs) e

  -- where none of some elements is less than y, neither is the first that passes a test
  first_kept : (p : X → Bool) (x y : X) (r ys : List X) → filter p ys ≡ x ∷ r → NoneLess y ys
      → lt x y ≡ false
  first_kept p x y r [] e a = no_first x r e
  first_kept p x y r (z ∷ ys) e a =
      by_test (p z)
      (λ h. ap (λ (u : X). lt u y) (ap (head_or x) (sym e ∙ kept_true (p z) z (filter p ys) h))
      ∙ a.0)
      (λ h. first_kept p x y r ys (sym (kept_false (p z) z (filter p ys) h) ∙ e) a.1)

  abbrev SameTies : List X → List X → Type 0
  SameTies xs ys = (z : X) → filter (ties lt z) xs ≡ filter (ties lt z) ys

  -- the first of a list that ascends is not greater than that of one with the same ties
  not_greater : (x y : X) (xs ys : List X) → SameTies (x ∷ xs) (y ∷ ys) → NoneLess y ys
      → lt x y ≡ false
  not_greater x y xs ys e a =
      first_kept (ties lt x) x y (filter (ties lt x) xs) (y ∷ ys)
      (sym (e x) ∙ kept_true (ties lt x x) x (filter (ties lt x) xs)
      (tie x x (itself x) (itself x)))
      (itself y, a)

  same_first : (x y : X) (xs ys : List X) → SameTies (x ∷ xs) (y ∷ ys) → ties lt x y ≡ true → x ≡ y
  same_first x y xs ys e t =
      ap (head_or x)
      (sym (kept_true (ties lt x x) x (filter (ties lt x) xs) (tie x x (itself x) (itself x)))
      ∙ e x
      ∙ kept_true (ties lt x y) y (filter (ties lt x) ys) t)

  same_rest : (x : X) (xs ys : List X) → SameTies (x ∷ xs) (x ∷ ys) → SameTies xs ys
  same_rest x xs ys e z =
      by_test (ties lt z x)
      (λ h. ap tail_of (sym (kept_true (ties lt z x) x (filter (ties lt z) xs) h) ∙ e z
      ∙ kept_true (ties lt z x) x (filter (ties lt z) ys) h))
      (λ h. sym (kept_false (ties lt z x) x (filter (ties lt z) xs) h) ∙ e z
      ∙ kept_false (ties lt z x) x (filter (ties lt z) ys) h)

  one_order : (xs ys : List X) → Ascends xs → Ascends ys → SameTies xs ys → xs ≡ ys
  one_order [] [] a b e = refl
  one_order [] (y ∷ ys) a b e =
      no_first y (filter (ties lt y) ys) (e y
      ∙ kept_true (ties lt y y) y (filter (ties lt y) ys) (tie y y (itself y) (itself y)))
  one_order (x ∷ xs) [] a b e =
      no_first x (filter (ties lt x) xs) (sym (e x)
      ∙ kept_true (ties lt x x) x (filter (ties lt x) xs) (tie x x (itself x) (itself x)))
  one_order (x ∷ xs) (y ∷ ys) a b e =
      let t = tie x y (not_greater x y xs ys e b.0) (not_greater y x ys xs (λ z. sym (e z)) a.0) in
      let h = same_first x y xs ys e t in
      let f : SameTies (x ∷ xs) (x ∷ ys) = λ z. e z
      ∙ ap (λ (u : X). filter (ties lt z) (u ∷ ys)) (sym h) in
      ap (λ (l : List X). x ∷ l) (one_order xs ys a.1 b.1 (same_rest x xs ys f))
      ∙ ap (λ (u : X). u ∷ ys) h

  NoneLess-each : (x : X) (ys : List X) → ((k : ℕ) → k < length ys → lt (get_or ys k x) x ≡ false)
      → NoneLess x ys
  NoneLess-each x [] h = tt
  NoneLess-each x (y ∷ ys) h =
      (h zero (search arith), NoneLess-each x ys (λ k l. h (suc k) (search arith)))

  Ascends-each : (xs : List X)
      → ((i j : ℕ) (d : X) → i ≤ j → j < length xs → lt (get_or xs j d) (get_or xs i d) ≡ false)
      → Ascends xs
  Ascends-each [] h = tt
  Ascends-each (x ∷ xs) h = (
    NoneLess-each x xs (λ k l. h zero (suc k) x (search arith) (search arith)),
    Ascends-each xs (λ i j d l m. h (suc i) (suc j) d (search arith) (search arith)),
  )

  -- what a stable sort ensures has one answer
  pub stable_sort : (xs ys : List X) → IsSortedBy lt ys → IsStableBy lt xs ys → ys ≡ sorted lt xs
  stable_sort xs ys up stable =
      one_order ys (sorted lt xs) (Ascends-each ys (sorted_far lt o ys up)) (Ascends-sorted xs)
      (λ z. stable z ∙ sym (stable-sorted z xs))

-- a sort by what f gives of each element
module _ {X Y : Type 0} (lt : Y → Y → Bool) (f : X → Y) where
  abbrev pub by_value : X → X → Bool
  by_value x y = lt (f x) (f y)

  map-put_in : (x : X) (ys : List X) → map f (put_in by_value x ys) ≡ put_in lt (f x) (map f ys)
  map-put_in x [] = refl
  map-put_in x (y ∷ ys) =
      by_test (lt (f y) (f x))
      (λ e. rw e (ap (λ (l : List Y). f y ∷ l) (map-put_in x ys)))
      (λ e. rw e refl)

  pub map-sorted : (xs : List X) → map f (sorted by_value xs) ≡ sorted lt (map f xs)
  map-sorted [] = refl
  map-sorted (x ∷ xs) = map-put_in x (sorted by_value xs) ∙ ap (put_in lt (f x)) (map-sorted xs)

-- the findings
finding_cmp_total : IsTotalOrder finding_cmp
finding_cmp_total =
    then_total (on_total (λ (f : Finding). f.line) nat_cmp_total)
    (then_total (on_total (λ (f : Finding). f.column) nat_cmp_total)
    (on_total (λ (f : Finding). rank f.code) nat_cmp_total))

pub is_before_ranks : IsStrictWeakOrder (by_value is_before finding_of)
is_before_ranks = ranks_by finding_cmp_total finding_of

pub sort_in_order : (xs ys : List CodeFinding) → IsSortedBy (by_value is_before finding_of) ys
    → IsStableBy (by_value is_before finding_of) xs ys → findings_of ys ≡ in_order (findings_of xs)
sort_in_order xs ys up stable =
    ap findings_of (stable_sort (by_value is_before finding_of) is_before_ranks xs ys up stable)
    ∙ map-sorted is_before finding_of xs
