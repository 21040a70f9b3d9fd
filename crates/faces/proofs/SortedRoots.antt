-- Half-edges in another order are the same ones.
use Rattle.std.proofs.Common.{ℕ, suc, ◌<◌, ◌↔◌, inl, inr, List, [], ◌∷◌, arith, sym, subst}
use Rattle.std.proofs.Common.{IsPermutation}
use Rattle.std.specs.List.{Contains}
use Rattle.std.specs.Prelude.{IfOk, Result, Ok, Err}
use Rattle.std.proofs.lemmas.List.Sorted.{Contains-permutation, IsPermutation-sym}
use Rattle.plane.specs.Lists.{Has}
use Rattle.plane.specs.Runs.Gaps.{Gap}
use Rattle.half_edges.specs.HalfEdges.{HalfEdges, size}
use Rattle.faces.specs.Ranking.{AreRanks, AreRooted}
use Rattle.faces.proofs.PlaneLaws.{has_at}

contains : (x : ℕ) (xs : List ℕ) → Has x xs → Contains xs x
contains x [] h = absurd h
contains x (y ∷ ys) (inl e) = (0, omega arith, sym e)
contains x (y ∷ ys) (inr h) = let (k, l, e) = contains x ys h in (suc k, omega (arith, l), e)

contained : (x : ℕ) (xs : List ℕ) → Contains xs x → Has x xs
contained x xs (k, l, e) = subst (λ y. Has y xs) e (has_at xs k x l)

pub has_permutation : (xs ys : List ℕ) (x : ℕ) → IsPermutation xs ys → Has x xs → Has x ys
has_permutation xs ys x p h = contained x ys (Contains-permutation xs ys x p (contains x xs h))

pub same_permutation : (xs ys : List ℕ) → IsPermutation xs ys → (x : ℕ) → Has x ys ↔ Has x xs
same_permutation xs ys p x =
    (has_permutation ys xs x (IsPermutation-sym xs ys p), has_permutation xs ys x p)

-- Ranks and roots know a list of roots only by its elements.
module _ (mesh : HalfEdges) (cells : List Gap) (roots sorted : List ℕ) (same : (h : ℕ)
    → Has h sorted ↔ Has h roots) where
  pub within_sorted : ((h : ℕ) → Has h roots → h < size mesh) → (h : ℕ) → Has h sorted
      → h < size mesh
  within_sorted f h k = f h ((same h).0 k)

  pub rooted_sorted : AreRooted mesh cells roots → AreRooted mesh cells sorted
  rooted_sorted f h l = let (r, k, w) = f h l in (r, (same r).1 k, w)

  pub ranks_sorted : (ranks : List ℕ) → AreRanks mesh cells sorted ranks
      → AreRanks mesh cells roots ranks
  ranks_sorted ranks a = record {
    sized = a.sized;
    small = a.small;
    root = λ h l. ((λ e. (same h).0 ((a.root h l).0 e)), (λ k. (a.root h l).1 ((same h).1 k)));
    less = a.less;
    near = a.near;
  }

  pub ranks_if_ok : {V E : Type 0} (items : V → List ℕ) (r : Result V E)
      → IfOk r (λ v. AreRanks mesh cells sorted (items v))
      → IfOk r (λ v. AreRanks mesh cells roots (items v))
  ranks_if_ok items (Ok v) a = ranks_sorted (items v) a
  ranks_if_ok items (Err e) a = a
