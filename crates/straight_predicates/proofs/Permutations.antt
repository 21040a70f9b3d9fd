-- What a list keeps when its elements change places.
use Rattle.std.proofs.Common.{◌≡◌, ℕ, suc, ◌+◌, ◌≤◌, inl, inr, Bool, true, false, cond, nat_eq}
use Rattle.std.proofs.Common.{List, [], ◌∷◌, map, get_or, refl, arith, sym, subst}
use Rattle.std.proofs.lemmas.Bool.Decides.{nat_tests}
use Rattle.std.specs.List.{Contains, sum_by}
use Rattle.std.specs.List.Sorted.{IsPermutation, IsSortedBy}
use Rattle.std.proofs.lemmas.List.Sorted.{Contains-permutation, sum_by-IsPermutation}
use Rattle.std.proofs.lemmas.List.Sorted.{IsPermutation-map}
use Rattle.std.proofs.lemmas.List.Sums.{sum_by-cons}
use Rattle.plane.specs.Lists.{Has, Neighbours, Once}
use Rattle.plane.proofs.ListLemmas.SortedLists.{has_at}

pub contains : {X : Type 0} (x : X) (xs : List X) → Has x xs → Contains xs x
contains x [] h = absurd h
contains x (y ∷ ys) (inl e) = (0, omega arith, sym e)
contains x (y ∷ ys) (inr h) = let (k, l, e) = contains x ys h in (suc k, omega (arith, l), e)

contained : {X : Type 0} (x : X) (xs : List X) → Contains xs x → Has x xs
contained x xs (k, l, e) = subst (λ y. Has y xs) e (has_at xs k x l)

pub has_permutation : {X : Type 0} (xs ys : List X) (x : X) → IsPermutation xs ys → Has x xs
    → Has x ys
has_permutation xs ys x p h = contained x ys (Contains-permutation xs ys x p (contains x xs h))

-- ---- no repeats, by counting
abbrev one_at : ℕ → ℕ → ℕ
one_at e n = cond (nat_eq n e) 1 0

abbrev count : ℕ → List ℕ → ℕ
count e ns = sum_by (one_at e) ns

one_same : (e n : ℕ) → n ≡ e → one_at e n ≡ 1
one_same e n h = let t : nat_eq n e ≡ true = grind (arith, nat_tests) in rw t refl

one_other : (e n : ℕ) → (n ≡ e → ⊥) → one_at e n ≡ 0
one_other e n h = by_test (nat_eq n e) refl
  where
    by_test : (t : Bool) → nat_eq n e ≡ t → ◌≡◌ {A = ℕ} (cond t 1 0) 0
    by_test true q = absurd (h (grind (arith, nat_tests)))
    by_test false q = refl

counts : (e : ℕ) (ns : List ℕ) → Has e ns → 1 ≤ count e ns
counts e [] h = absurd h
counts e (n ∷ ns) (inl q) = omega (arith, sum_by-cons (one_at e) n ns, one_same e n (sym q))
counts e (n ∷ ns) (inr h) = omega (arith, sum_by-cons (one_at e) n ns, counts e ns h)

counts_none : (e : ℕ) (ns : List ℕ) → (Has e ns → ⊥) → count e ns ≡ 0
counts_none e [] f = refl
counts_none e (n ∷ ns) f =
    omega (
      arith,
      sum_by-cons (one_at e) n ns,
      one_other e n (λ q. f (inl (sym q))),
      counts_none e ns (λ h. f (inr h)),
    )

-- an element of a list without repeats counts once, and any other not at all
counts_once : (e : ℕ) (ns : List ℕ) → Once ns → count e ns ≤ 1
counts_once e [] o = omega arith
counts_once e (n ∷ ns) o = by_test (counts_once e ns o.1) (nat_eq n e) refl
  where
    by_test : count e ns ≤ 1 → (t : Bool) → nat_eq n e ≡ t → count e (n ∷ ns) ≤ 1
    by_test r true q =
        let same : n ≡ e = grind (arith, nat_tests) in
        omega (
          arith,
          sum_by-cons (one_at e) n ns,
          one_same e n same,
          counts_none e ns (λ h. o.0 (subst (λ (i : ℕ). Has i ns) (sym same) h)),
        )
    by_test r false q =
        let other : n ≡ e → ⊥ = λ (w : n ≡ e). grind (arith, nat_tests) in
        omega (arith, sum_by-cons (one_at e) n ns, one_other e n other, r)

once_from : (ns : List ℕ) → ((e : ℕ) → count e ns ≤ 1) → Once ns
once_from [] f = tt
once_from (n ∷ ns) f = (
  (λ h. let a = f n in let b = counts n ns h in
      omega (arith, a, b, sum_by-cons (one_at n) n ns, one_same n n refl)),
  once_from ns (λ e. let a = f e in omega (arith, a, sum_by-cons (one_at e) n ns)),
)

pub once_permutation : {X : Type 0} (f : X → ℕ) (xs ys : List X) → IsPermutation xs ys
    → Once (map f xs) → Once (map f ys)
once_permutation f xs ys p o =
    once_from (map f ys) (λ e.
    let a = counts_once e (map f xs) o in
    let b = sum_by-IsPermutation (one_at e) (map f xs) (map f ys) (IsPermutation-map f xs ys p) in
    omega (arith, a, b))

-- ---- sorted by a test, from neighbour to neighbour
pub sorted_neighbours : {X : Type 0} (lt : X → X → Bool) (xs : List X) → IsSortedBy lt xs
    → Neighbours (λ x y. lt y x ≡ false) xs
sorted_neighbours lt [] h = tt
sorted_neighbours lt (x ∷ []) h = (tt, tt)
sorted_neighbours lt (x ∷ (y ∷ ys)) h = (
  h 0 x (omega arith) (omega arith),
  sorted_neighbours lt (y ∷ ys) (λ k d l m.
      subst (λ (n : ℕ). lt (get_or (x ∷ (y ∷ ys)) n d) (get_or (y ∷ ys) k d) ≡ false) (shift k)
      (h (suc k) d (omega arith) (omega (arith, m)))),
)
  where
    shift : (k : ℕ) → suc k + 1 ≡ suc (k + 1)
    shift k = omega arith
