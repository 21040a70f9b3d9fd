-- All ends of edges, and what is so of them once they are sorted.
use Rattle.std.proofs.Common.{◌≡◌, ℕ, zero, suc, ◌+◌, ◌<◌, ◌≤◌, inl, inr, Bool}
use Rattle.std.proofs.Common.{true, false, cond, List, [], ◌∷◌, ◌++◌, length, map, take, get_or}
use Rattle.std.proofs.Common.{refl, arith, ap, sym, ◌∙◌, subst}
use Rattle.std.proofs.lemmas.Int.{ints}
use Rattle.std.specs.List.Sorted.{IsPermutation}
use Rattle.std.proofs.lemmas.List.{take_more, length-take-le}
use Rattle.std.proofs.lemmas.List.Sorted.{IsPermutation-sym, length_permutation}
use Rattle.plane.specs.declared.kinds.Point.{Point}
use Rattle.plane.specs.declared.kinds.Edge.{Edge}
use Rattle.plane.specs.Forms.Vectors.{Before}
use Rattle.plane.specs.Lists.{Has, Neighbours, Once}
use Rattle.straight_predicates.specs.EdgeLists.{edge_of, AreSorted}
use Rattle.straight_predicates.specs.Packing.{IsNotAfter}
use Rattle.straight_predicates.specs.Tables.{AreEndsOf, IsEndOf, ComesFirst, all_ends, ends_of}
use Rattle.straight_predicates.specs.declared.slots.End.{End}
use Rattle.straight_predicates.proofs.Permutations.{has_permutation, once_permutation}

pub never : (p : Point) → Before p p → ⊥
never p (inl l) = omega (arith, ints, l)
never p (inr l) = let k = l.1 in omega (arith, ints, k)

-- one edge more
pub ends_more : (k : ℕ) (edges : List Edge) (e : Edge)
    → all_ends k (edges ++ e ∷ []) ≡ all_ends k edges ++ ends_of (k + length edges) e
ends_more k [] e = ap (λ (n : ℕ). ends_of n e) (omega arith)
ends_more k (d ∷ edges) e =
    ap (λ zs. ends_of k d ++ zs) (ends_more (suc k) edges e
    ∙ ap (λ (n : ℕ). all_ends (suc k) edges ++ ends_of n e) (omega arith))

all_size : (k : ℕ) (edges : List Edge) → length (all_ends k edges) ≡ length edges + length edges
all_size k [] = refl
all_size k (e ∷ edges) = let r = all_size (suc k) edges in omega (arith, r)

-- the edge of an end
record Belongs (k : ℕ) (edges : List Edge) (z : End) : Type 0 where
  index : ℕ
  within : index < length edges
  edge : z.edge ≡ k + index
  at : z.at ≡ cond z.starts (edge_of edges index).low (edge_of edges index).high

all_only : (k : ℕ) (edges : List Edge) (z : End) → Has z (all_ends k edges) → Belongs k edges z
all_only k [] z h = absurd h
all_only k (e ∷ edges) z (inl q) = record {
  index = 0;
  within = omega arith;
  edge = ap (λ (y : End). y.edge) q ∙ omega arith;
  at = cc;
}
all_only k (e ∷ edges) z (inr (inl q)) =
    record {
      index = 0;
      within = omega arith;
      edge = ap (λ (y : End). y.edge) q ∙ omega arith;
      at = cc;
    }
all_only k (e ∷ edges) z (inr (inr h)) =
    let b = all_only (suc k) edges z h in
    record {
      index = suc b.index;
      within = let w = b.within in omega (arith, w);
      edge = let q = b.edge in omega (arith, q);
      at = b.at;
    }

all_low : (k : ℕ) (edges : List Edge) (i n : ℕ) → i < length edges → n ≡ k + i
    → Has (record { at = (edge_of edges i).low; edge = n; starts = true }) (all_ends k edges)
all_low k [] i n l q = absurd (omega (arith, l))
all_low k (e ∷ edges) zero n l q =
    inl (ap (λ (m : ℕ). record { at = e.low; edge = m; starts = true }) (omega (arith, q)))
all_low k (e ∷ edges) (suc i) n l q =
    inr (inr (all_low (suc k) edges i n (omega (arith, l)) (omega (arith, q))))

all_high : (k : ℕ) (edges : List Edge) (i n : ℕ) → i < length edges → n ≡ k + i
    → Has (record { at = (edge_of edges i).high; edge = n; starts = false }) (all_ends k edges)
all_high k [] i n l q = absurd (omega (arith, l))
all_high k (e ∷ edges) zero n l q =
    inr (inl (ap (λ (m : ℕ). record { at = e.high; edge = m; starts = false }) (omega (arith, q))))
all_high k (e ∷ edges) (suc i) n l q =
    inr (inr (all_high (suc k) edges i n (omega (arith, l)) (omega (arith, q))))

-- a number for each end
abbrev code : End → ℕ
code z = (z.edge + z.edge) + cond z.starts 1 0

code_least : (k : ℕ) (edges : List Edge) (n : ℕ) → Has n (map code (all_ends k edges)) → k + k ≤ n
code_least k [] n h = absurd h
code_least k (e ∷ edges) n (inl q) = omega (arith, q)
code_least k (e ∷ edges) n (inr (inl q)) = omega (arith, q)
code_least k (e ∷ edges) n (inr (inr h)) = let l = code_least (suc k) edges n h in omega (arith, l)

all_once : (k : ℕ) (edges : List Edge) → Once (map code (all_ends k edges))
all_once k [] = tt
all_once k (e ∷ edges) = (
  (λ h. elim h [
    | inl q ↦ omega (arith, q)
    | inr i ↦ (let l = code_least (suc k) edges _ i in omega (arith, l))
  ]),
  ((λ i. let l = code_least (suc k) edges _ i in omega (arith, l)), all_once (suc k) edges),
)

-- ---- in order
-- two ends of one point and one edge are one end
one_end : (edges : List Edge) → AreSorted edges → (y z : End) → IsEndOf edges y → IsEndOf edges z
    → y.at ≡ z.at → y.edge ≡ z.edge → code y ≡ code z
one_end edges s y z a b p q = by_side y.starts z.starts refl refl
  where
    sides : (edge_of edges y.edge).low ≡ (edge_of edges y.edge).high → ⊥
    sides w = never _ (subst (λ v. Before (edge_of edges y.edge).low v) (sym w) (s y.edge a.known))

    by_side : (i j : Bool) → y.starts ≡ i → z.starts ≡ j → code y ≡ code z
    by_side true true e f = code_same true e f
      where
        code_same : (i : Bool) → y.starts ≡ i → z.starts ≡ i → code y ≡ code z
        code_same i e f = cc
    by_side false false e f = cc
    by_side true false e f = absurd (sides (low_is e ∙ p ∙ high_is f))
      where
        low_is : y.starts ≡ true → (edge_of edges y.edge).low ≡ y.at
        low_is e = sym (a.at
            ∙ ap (λ (t : Bool). cond t (edge_of edges y.edge).low (edge_of edges y.edge).high) e)

        high_is : z.starts ≡ false → z.at ≡ (edge_of edges y.edge).high
        high_is f = b.at
            ∙ ap (λ (t : Bool). cond t (edge_of edges z.edge).low (edge_of edges z.edge).high) f
            ∙ ap (λ (n : ℕ). (edge_of edges n).high) (sym q)
    by_side false true e f = absurd (sides (low_is f ∙ sym p ∙ high_is e))
      where
        low_is : z.starts ≡ true → (edge_of edges y.edge).low ≡ z.at
        low_is f = sym (b.at
            ∙ ap (λ (t : Bool). cond t (edge_of edges z.edge).low (edge_of edges z.edge).high) f
            ∙ ap (λ (n : ℕ). (edge_of edges n).low) (sym q))

        high_is : y.starts ≡ false → y.at ≡ (edge_of edges y.edge).high
        high_is e = a.at
            ∙ ap (λ (t : Bool). cond t (edge_of edges y.edge).low (edge_of edges y.edge).high) e

rising : (edges : List Edge) → AreSorted edges → (zs : List End)
    → ((z : End) → Has z zs → IsEndOf edges z) → Once (map code zs)
    → Neighbours IsNotAfter zs → Neighbours ComesFirst zs
rising edges s [] f o h = tt
rising edges s (z ∷ []) f o h = (tt, tt)
rising edges s (y ∷ (z ∷ zs)) f o h = (
  elim h.0 [
    | inl l ↦ inl l
    | inr l ↦ inr (
      l.0,
      (let m = l.1 in
          let n : y.edge ≡ z.edge
          → ⊥ = λ q. o.0 (inl (one_end edges s y z (f y (inl refl)) (f z (inr (inl refl))) l.0 q)) in
          omega (arith, m, n)),
    )
  ],
  rising edges s (z ∷ zs) (λ w i. f w (inr i)) o.1 h.1,
)

from_zero : (n i : ℕ) → n ≡ 0 + i → n ≡ i
from_zero n i q = omega (arith, q)

pub sorted_all : (edges : List Edge) (zs : List End) → AreSorted edges
    → IsPermutation (all_ends 0 edges) zs → Neighbours IsNotAfter zs → AreEndsOf edges zs
sorted_all edges zs s p h =
    let only : (z : End) → Has z zs → IsEndOf edges z = λ z i.
    (let b = all_only 0 edges z
    (has_permutation zs (all_ends 0 edges) z (IsPermutation-sym (all_ends 0 edges) zs p) i) in
    let q : z.edge ≡ b.index = from_zero z.edge b.index b.edge in
    record {
      known = let w = b.within in omega (arith, w, q);
      at = b.at ∙ ap (λ (n : ℕ). cond z.starts (edge_of edges n).low (edge_of edges n).high)
          (sym q);
    }) in
    record {
      only = only;
      all = λ e l. (
        has_permutation (all_ends 0 edges) zs _ p (all_low 0 edges e e l (omega arith)),
        has_permutation (all_ends 0 edges) zs _ p (all_high 0 edges e e l (omega arith)),
      );
      rising = rising edges s zs only
          (once_permutation code (all_ends 0 edges) zs p (all_once 0 edges)) h;
      size = length_permutation (all_ends 0 edges) zs p ∙ all_size 0 edges;
    }

pub ends_step : (edges : List Edge) (i : ℕ) (d : Edge) (ends new : List End) → i < length edges
    → ends ≡ all_ends 0 (take i edges) → new ≡ ends ++ ends_of i (get_or edges i d)
    → new ≡ all_ends 0 (take (i + 1) edges)
ends_step edges i d ends new l e f =
    let size : length (take i edges) ≡ i = length-take-le i edges (omega (arith, l)) in
    f ∙ ap (λ zs. zs ++ ends_of i (get_or edges i d)) e
    ∙ ap (λ (n : ℕ). all_ends 0 (take i edges) ++ ends_of n (get_or edges i d)) (index size)
    ∙ sym (ends_more 0 (take i edges) (get_or edges i d))
    ∙ ap (λ es. all_ends 0 es) (sym (take_more edges i d l))
  where
    index : length (take i edges) ≡ i → i ≡ 0 + length (take i edges)
    index q = omega (arith, q)
