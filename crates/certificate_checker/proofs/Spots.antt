-- Points with their numbers, sorted by x, then y.
use Rattle.std.proofs.Common.{◌≡◌, ℕ, zero, suc, ◌+◌, ◌<◌, ◌≤◌, ℤ, inl, inr, true, false, List, []}
use Rattle.std.proofs.Common.{◌∷◌, ◌++◌, length, drop, get_or, arith, ap, sym, ◌∙◌, subst}
use Rattle.std.proofs.Common.{append_assoc, add-one, drop-cons}
use Rattle.std.specs.List.Sorted.{IsPermutation, IsSortedByKey}
use Rattle.std.proofs.lemmas.List.Sorted.{IsPermutation-sym}
use Rattle.std.specs.Ordering.{is_lt, int_cmp, ordering_then}
use Rattle.std.specs.declared.cmp.Ordering.{Ordering}
use Rattle.plane.specs.declared.kinds.Placed.{Placed}
use Rattle.plane.specs.declared.kinds.Point.{Point}
use Rattle.plane.specs.Forms.Vectors.{Before}
use Rattle.plane.specs.Lists.{Has, Neighbours}
use Rattle.straight_predicates.proofs.Permutations.{has_permutation, sorted_neighbours}
use Rattle.tubes.proofs.EdgeLemmas.{first_is}
use Rattle.tubes.specs.DrawnEdges.{comes_first}
use Rattle.certificate_checker.specs.declared.state.Spot.{Spot}
use Rattle.certificate_checker.specs.Placed.{AreSpots, spot_at, spots_from}
use Rattle.certificate_checker.specs.Subjects.{point_in}
use Rattle.certificate_checker.proofs.Placing.{after_all}
use Rattle.certificate_checker.proofs.PlaneLaws.{has_at, never}

abbrev pub key_of : Spot → ℤ × ℤ
key_of z = (z.at.x, z.at.y)

abbrev pub key_cmp : ℤ × ℤ → ℤ × ℤ → Ordering
key_cmp x y = ordering_then (int_cmp x.0 y.0) (int_cmp x.1 y.1)

clash : true ≡ false → ⊥
clash q = cc

not_first : (p q : Point) → comes_first p q ≡ false → Before p q → ⊥
not_first p q e b = clash (sym (first_is p q b) ∙ e)

-- ---- order from neighbour to neighbour
head_order : (z : Spot) (zs : List Spot) (j : ℕ)
    → Neighbours (λ x y. comes_first y.at x.at ≡ false) (z ∷ zs) → j < length zs
    → Before (spot_at zs j).at z.at → ⊥
head_order z [] j h l b = absurd (omega (arith, l))
head_order z (y ∷ zs) zero h l b = not_first y.at z.at h.0 b
head_order z (y ∷ zs) (suc j) h l b =
    head_order y zs j h.1 (omega (arith, l))
    (after_all (spot_at zs j).at z.at y.at b (not_first y.at z.at h.0))

in_order : (zs : List Spot) (i j : ℕ) → Neighbours (λ x y. comes_first y.at x.at ≡ false) zs → i ≤ j
    → j < length zs → Before (spot_at zs j).at (spot_at zs i).at → ⊥
in_order [] i j h l m b = absurd (omega (arith, m))
in_order (z ∷ zs) zero zero h l m b = never z.at b
in_order (z ∷ zs) zero (suc j) h l m b = head_order z zs j h (omega (arith, m)) b
in_order (z ∷ zs) (suc i) zero h l m b = absurd (omega (arith, l))
in_order (z ∷ zs) (suc i) (suc j) h l m b =
    in_order zs i j h.1 (omega (arith, l)) (omega (arith, m)) b

-- ---- the points in their order of numbers
record IsFrom (j : ℕ) (points : List Placed) (z : Spot) : Type 0 where
  index : ℕ
  within : index < length points
  number : z.number ≡ j + index
  at : z.at ≡ point_in points index

spots_only : (j : ℕ) (points : List Placed) (z : Spot) → Has z (spots_from j points)
    → IsFrom j points z
spots_only j [] z h = absurd h
spots_only j (p ∷ points) z (inl e) =
    record {
      index = 0;
      within = omega arith;
      number = (let q = ap (λ (w : Spot). w.number) e in omega (arith, q));
      at = ap (λ (w : Spot). w.at) e;
    }
spots_only j (p ∷ points) z (inr h) =
    let f = spots_only (suc j) points z h in
    record {
      index = suc f.index;
      within = (let w = f.within in omega (arith, w));
      number = (let q = f.number in omega (arith, q));
      at = f.at;
    }

spots_all : (j : ℕ) (points : List Placed) (i n : ℕ) → i < length points → n ≡ j + i
    → Has (record { at = point_in points i; number = n }) (spots_from j points)
spots_all j [] i n l e = absurd (omega (arith, l))
spots_all j (p ∷ points) zero n l e =
    inl (let q : n ≡ j = omega (arith, e) in ap (λ (k : ℕ). record { at = p.at; number = k }) q)
spots_all j (p ∷ points) (suc i) n l e =
    inr (spots_all (suc j) points i n (omega (arith, l)) (omega (arith, e)))

place_of : (z : Spot) (zs : List Spot) → Has z zs → (k : ℕ) × (k < length zs) × (spot_at zs k ≡ z)
place_of z [] h = absurd h
place_of z (y ∷ zs) (inl e) = (0, omega arith, sym e)
place_of z (y ∷ zs) (inr h) = let (k, l, e) = place_of z zs h in (suc k, omega (arith, l), e)

pub sorted_spots : (points : List Placed) (start zs : List Spot) → start ≡ spots_from 0 points
    → IsPermutation start zs → IsSortedByKey key_of key_cmp zs → AreSpots points zs
sorted_spots points start zs e p h = record {
  known = λ i l.
      (let f = spots_only 0 points (spot_at zs i)
      (subst (Has (spot_at zs i)) e
      (has_permutation zs start (spot_at zs i) (IsPermutation-sym start zs p)
      (has_at zs i _ l))) in
      let q : f.index ≡ (spot_at zs i).number = same f.index (spot_at zs i).number f.number in
      record {
        known = subst (λ (k : ℕ). k < length points) q f.within;
        at = f.at ∙ ap (point_in points) q;
      });
  all = λ j l.
      (let (k, m, q) = place_of _ zs
      (has_permutation start zs _ p (subst (Has _) (sym e) (spots_all 0 points j j l (none j)))) in
      (k, m, ap (λ (z : Spot). z.number) q));
  order = λ i j l m. in_order zs i j
      (sorted_neighbours (λ x y. is_lt (key_cmp (key_of x) (key_of y))) zs h) l m;
}
  where
    same : (i n : ℕ) → n ≡ 0 + i → i ≡ n
    same i n q = omega (arith, q)

    none : (j : ℕ) → j ≡ 0 + j
    none j = omega arith

pub spots_step : (points : List Placed) (i : ℕ) (spots new all : List Spot) (d : Placed)
    → i < length points → new ≡ spots ++ record { at = (get_or points i d).at; number = i } ∷ []
    → spots ++ spots_from i (drop i points) ≡ all
    → new ++ spots_from (i + 1) (drop (i + 1) points) ≡ all
spots_step points i spots new all d l e h =
    ap (λ (xs : List Spot). xs ++ spots_from (i + 1) (drop (i + 1) points)) e
    ∙ append_assoc spots (record { at = (get_or points i d).at; number = i } ∷ [])
    (spots_from (i + 1) (drop (i + 1) points))
    ∙ ap (λ (k : ℕ). spots ++ record {
      at = (get_or points i d).at;
      number = i;
    } ∷ spots_from k (drop k points)) (add-one i)
    ∙ ap (λ (ps : List Placed). spots ++ spots_from i ps) (sym (drop-cons points i d l))
    ∙ h
