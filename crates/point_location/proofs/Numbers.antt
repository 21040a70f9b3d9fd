-- Points with their numbers, once they are sorted.
use Rattle.std.proofs.Common.{◌≡◌, ℕ, zero, suc, ◌+◌, ◌<◌, inl, inr, ℤ, true, false, List, [], ◌∷◌}
use Rattle.std.proofs.Common.{◌++◌, length, take, get_or, arith, ap, sym, ◌∙◌, subst, add-one}
use Rattle.std.specs.Ordering.{is_lt, int_cmp, ordering_then}
use Rattle.std.specs.declared.cmp.Ordering.{Ordering}
use Rattle.std.specs.List.Sorted.{IsPermutation, IsSortedByKey}
use Rattle.std.proofs.lemmas.List.Sorted.{IsPermutation-sym}
use Rattle.std.proofs.lemmas.List.{take_more, length-take-le}
use Rattle.plane.specs.declared.kinds.Point.{Point}
use Rattle.plane.specs.Forms.Vectors.{Before}
use Rattle.plane.specs.Lists.{Has}
use Rattle.straight_predicates.specs.EdgeLists.{no_point}
use Rattle.straight_predicates.proofs.Orders.{int_less, int_equal}
use Rattle.straight_predicates.proofs.Permutations.{has_permutation}
use Rattle.point_location.specs.declared.numbered.Numbered.{Numbered}
use Rattle.point_location.specs.Numbered.{IsInOrder, nothing}
use Rattle.point_location.proofs.PlaneLaws.{has_at}

-- all points with their numbers, the first of which is k
abbrev pub numbers_from : ℕ → List Point → List Numbered
numbers_from k [] = []
numbers_from k (p ∷ ps) = record { at = p; number = k } ∷ numbers_from (suc k) ps

numbers_more : (k : ℕ) (ps : List Point) (p : Point)
    → numbers_from k (ps ++ p ∷ []) ≡ numbers_from k ps ++ record {
      at = p;
      number = k + length ps;
    } ∷ []
numbers_more k [] p = ap (λ (n : ℕ). record { at = p; number = n } ∷ []) (none k)
  where
    none : (k : ℕ) → k ≡ k + 0
    none k = omega arith
numbers_more k (q ∷ ps) p =
    ap (λ (ns : List Numbered). record { at = q; number = k } ∷ ns) (numbers_more (suc k) ps p
    ∙ ap (λ (n : ℕ). numbers_from (suc k) ps ++ record { at = p; number = n } ∷ [])
    (shift k (length ps)))
  where
    shift : (k n : ℕ) → suc k + n ≡ k + suc n
    shift k n = omega arith

pub numbers_step : (points : List Point) (i : ℕ) (d : Point) (order order' : List Numbered)
    (p : Point)
    → i < length points → order ≡ numbers_from 0 (take i points) → p ≡ get_or points i d
    → order' ≡ order ++ record { at = p; number = i } ∷ []
    → order' ≡ numbers_from 0 (take (i + 1) points)
numbers_step points i d order order' p l e q f =
    f ∙ ap (λ (ns : List Numbered). ns ++ record { at = p; number = i } ∷ []) e
    ∙ ap (λ (n : ℕ). numbers_from 0 (take i points) ++ record { at = p; number = n } ∷ [])
    (size i (length (take i points)) (length-take-le i points (omega (arith, l))))
    ∙ sym (numbers_more 0 (take i points) p)
    ∙ ap (λ (u : Point). numbers_from 0 (take i points ++ u ∷ [])) q
    ∙ ap (numbers_from 0) (sym (take_more points i d l))
  where
    size : (i n : ℕ) → n ≡ i → i ≡ 0 + n
    size i n e = omega (arith, e)

-- the point of a number
record IsOf (k : ℕ) (points : List Point) (z : Numbered) : Type 0 where
  index : ℕ
  within : index < length points
  number : z.number ≡ k + index
  at : z.at ≡ get_or points index no_point

numbers_only : (k : ℕ) (ps : List Point) (z : Numbered) → Has z (numbers_from k ps) → IsOf k ps z
numbers_only k [] z h = absurd h
numbers_only k (p ∷ ps) z (inl q) =
    record {
      index = 0;
      within = omega arith;
      number = ap (λ (y : Numbered). y.number) q ∙ omega arith;
      at = ap (λ (y : Numbered). y.at) q;
    }
numbers_only k (p ∷ ps) z (inr h) =
    let b = numbers_only (suc k) ps z h in
    record {
      index = suc b.index;
      within = let w = b.within in omega (arith, w);
      number = let q = b.number in omega (arith, q);
      at = b.at;
    }

numbers_all : (k : ℕ) (ps : List Point) (j n : ℕ) → j < length ps → n ≡ k + j
    → Has (record { at = get_or ps j no_point; number = n }) (numbers_from k ps)
numbers_all k [] j n l q = absurd (omega (arith, l))
numbers_all k (p ∷ ps) zero n l q =
    inl (ap (λ (i : ℕ). record { at = p; number = i }) (omega (arith, q)))
numbers_all k (p ∷ ps) (suc j) n l q =
    inr (numbers_all (suc k) ps j n (omega (arith, l)) (omega (arith, q)))

place_in : (xs : List Numbered) (z : Numbered) → Has z xs
    → (i : ℕ) × (i < length xs) × (get_or xs i nothing ≡ z)
place_in [] z h = absurd h
place_in (x ∷ xs) z (inl e) = (0, omega arith, sym e)
place_in (x ∷ xs) z (inr h) = let (i, l, e) = place_in xs z h in (suc i, omega (arith, l), e)

-- ---- sorted by the key
abbrev pub key_of : Numbered → ℤ × ℤ
key_of z = (z.at.x, z.at.y)

abbrev pub key_cmp : ℤ × ℤ → ℤ × ℤ → Ordering
key_cmp x y = ordering_then (int_cmp x.0 y.0) (int_cmp x.1 y.1)

clash : true ≡ false → ⊥
clash q = cc

not_before : (y z : Numbered) → is_lt (key_cmp (key_of z) (key_of y)) ≡ false → Before z.at y.at → ⊥
not_before y z h (inl l) =
    clash (sym (ap (λ o. is_lt (ordering_then o (int_cmp z.at.y y.at.y)))
    (int_less z.at.x y.at.x l)) ∙ h)
not_before y z h (inr p) =
    clash (sym (ap (λ o. is_lt (ordering_then o (int_cmp z.at.y y.at.y)))
    (int_equal z.at.x y.at.x p.0) ∙ ap is_lt (int_less z.at.y y.at.y p.1)) ∙ h)

pub sorted_points : (points : List Point) (order : List Numbered)
    → IsPermutation (numbers_from 0 points) order → IsSortedByKey key_of key_cmp order
    → IsInOrder points order
sorted_points points order perm sorted =
    let of : (i : ℕ) → i < length order → IsOf 0 points (get_or order i nothing) =
    λ i l. numbers_only 0 points (get_or order i nothing)
    (has_permutation order (numbers_from 0 points) (get_or order i nothing)
    (IsPermutation-sym (numbers_from 0 points) order perm) (has_at order i nothing l)) in
    record {
      known = λ i l. let o = of i l in let w = o.within in let n = o.number in omega (arith, w, n);
      is = λ i l. let o = of i l in
          o.at ∙ ap (λ (n : ℕ). get_or points n no_point) (let n = o.number in omega (arith, n));
      all = λ j l.
          let (i, b, e) = place_in order (record { at = get_or points j no_point; number = j })
          (has_permutation (numbers_from 0 points) order _ perm
          (numbers_all 0 points j j l (omega arith))) in
          (i, b, ap (λ (z : Numbered). z.number) e);
      rising = λ i l. not_before (get_or order i nothing) (get_or order (suc i) nothing) (next i l);
    }
  where
    next : (i : ℕ) → suc i < length order
        → is_lt (key_cmp (key_of (get_or order (suc i) nothing)) (key_of (get_or order i nothing)))
        ≡ false
    next i l = subst
        (λ (n : ℕ). is_lt
        (key_cmp (key_of (get_or order n nothing)) (key_of (get_or order i nothing))) ≡ false)
        (add-one i) (sorted i nothing (omega (arith, l)) (omega (arith, l)))
