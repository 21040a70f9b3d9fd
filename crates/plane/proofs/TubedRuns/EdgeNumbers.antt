-- Edges of an edge list by number: those of each curve stand together, in the order of its chains.
use Rattle.std.proofs.Common.{◌≡◌, ℕ, zero, suc, ◌+◌, ◌-◌, ◌<◌, ◌≤◌, List, [], ◌∷◌, ◌++◌, length}
use Rattle.std.proofs.Common.{get_or, length-append, refl, arith, ap, sym, ◌∙◌, subst}
use Rattle.std.proofs.lemmas.List.{get_or_append_left, get_or-append-add}
use Rattle.plane.specs.declared.kinds.Point.{Point}
use Rattle.plane.specs.declared.kinds.Curve.{Curve}
use Rattle.plane.specs.declared.kinds.CurveKind.TheVariants as kind
use Rattle.plane.specs.Tubes.Bays.{Bay}
use Rattle.plane.specs.CurveRuns.TubedRuns.{Part, inner, outer, Owned, chain, inner_corners}
use Rattle.plane.specs.CurveRuns.TubedRuns.{outer_corners, edges_of, edge_list, no_edge, first_edge}
use Rattle.plane.proofs.Windings.Under.{by_order}

-- the edges from number n on are those of the list
abbrev pub IsFrom : (ℕ → Owned) → ℕ → List Owned → Type 0
IsFrom f n [] = Unit {0}
IsFrom f n (o ∷ os) = (f n ≡ o) × IsFrom f (suc n) os

pub from_front : (f : ℕ → Owned) (n : ℕ) (xs ys : List Owned) → IsFrom f n (xs ++ ys)
    → IsFrom f n xs
from_front f n [] ys h = tt
from_front f n (x ∷ xs) ys h = (h.0, from_front f (suc n) xs ys h.1)

pub from_back : (f : ℕ → Owned) (n k : ℕ) (xs ys : List Owned) → k ≡ n + length xs
    → IsFrom f n (xs ++ ys) → IsFrom f k ys
from_back f n k [] ys e h = subst (λ (j : ℕ). IsFrom f j ys) (omega (arith, e)) h
from_back f n k (x ∷ xs) ys e h = from_back f (suc n) k xs ys (omega (arith, e)) h.1

pub from_at : (f : ℕ → Owned) (n k : ℕ) (os : List Owned) → IsFrom f n os → k < length os
    → f (n + k) ≡ get_or os k no_edge
from_at f n k [] h l = absurd (omega arith)
from_at f n zero (o ∷ os) h l = ap f (omega arith) ∙ h.0
from_at f n (suc k) (o ∷ os) h l = ap f (omega arith)
    ∙ from_at f (suc n) k os h.1 (omega (arith, l))

from_all : (f : ℕ → Owned) (n : ℕ) (os : List Owned)
    → ((k : ℕ) → k < length os → f (n + k) ≡ get_or os k no_edge) → IsFrom f n os
from_all f n [] h = tt
from_all f n (o ∷ os) h = (
  ap f (omega arith) ∙ h 0 (omega arith),
  from_all f (suc n) os (λ k l. ap f (omega arith) ∙ h (suc k) (omega (arith, l))),
)

from_moved : (f g : ℕ → Owned) (m n k : ℕ) (os : List Owned) → ((j : ℕ) → f (m + j) ≡ g j)
    → k ≡ m + n → IsFrom g n os → IsFrom f k os
from_moved f g m n k [] h e i = tt
from_moved f g m n k (o ∷ os) h e i =
    (ap f e ∙ h n ∙ i.0, from_moved f g m (suc n) (suc k) os h (omega (arith, e)) i.1)

abbrev pub nth : (ℕ → List Bay) → ℕ → List Curve → ℕ → Owned
nth bays j cs e = get_or (edge_list bays j cs) e no_edge

-- the edges of the curve of number n, of a list that begins with number j
module _ (bays : ℕ → List Bay) (no_curve : Curve) where
  abbrev group : List Curve → ℕ → ℕ → List Owned
  group cs i n = edges_of n (get_or cs i no_curve).kind (get_or cs i no_curve) (bays n)

  pub group_at : (j : ℕ) (cs : List Curve) (i n : ℕ) → i < length cs → n ≡ j + i
      → IsFrom (nth bays j cs) (first_edge bays j cs i) (group cs i n)
  group_at j [] i n l e = absurd (omega arith)
  group_at j (c ∷ cs) zero n l e =
      subst (λ (k : ℕ). IsFrom (nth bays j (c ∷ cs)) 0 (edges_of k c.kind c (bays k)))
      (omega (arith, e))
      (from_all (nth bays j (c ∷ cs)) 0 (edges_of j c.kind c (bays j))
      (λ k m. ap (nth bays j (c ∷ cs)) (omega arith)
      ∙ get_or_append_left (edges_of j c.kind c (bays j))
      (edge_list bays (suc j) cs) no_edge k m))
  group_at j (c ∷ cs) (suc i) n l e =
      from_moved (nth bays j (c ∷ cs)) (nth bays (suc j) cs) (length (edges_of j c.kind c (bays j)))
      (first_edge bays (suc j) cs i) _ (group cs i n)
      (λ k. get_or-append-add (edges_of j c.kind c (bays j)) (edge_list bays (suc j) cs) k no_edge)
      refl
      (group_at (suc j) cs i n (omega (arith, l)) (omega (arith, e)))

  pub group_fits : (j : ℕ) (cs : List Curve) (i n : ℕ) → i < length cs → n ≡ j + i
      → (first_edge bays j cs i + length (group cs i n)) ≤ length (edge_list bays j cs)
  group_fits j [] i n l e = absurd (omega arith)
  group_fits j (c ∷ cs) zero n l e =
      let f = length-append (edges_of j c.kind c (bays j)) (edge_list bays (suc j) cs) in
      let g : length (edges_of n c.kind c (bays n))
      ≡ length (edges_of j c.kind c (bays j)) =
      ap (λ (k : ℕ). length (edges_of k c.kind c (bays k))) (omega (arith, e)) in
      omega (arith, f, g)
  group_fits j (c ∷ cs) (suc i) n l e =
      let f = length-append (edges_of j c.kind c (bays j)) (edge_list bays (suc j) cs) in
      let g = group_fits (suc j) cs i n (omega (arith, l)) (omega (arith, e)) in
      omega (arith, f, g)

  -- edge e is one of the edges of a curve
  pub record IsIn (j : ℕ) (cs : List Curve) (e : ℕ) : Type 0 where
    pub index : ℕ
    pub curve : ℕ
    pub place : ℕ
    pub fits : index < length cs
    pub number : curve ≡ j + index
    pub there : place < length (group cs index curve)
    pub is : e ≡ first_edge bays j cs index + place

  pub group_of : (j : ℕ) (cs : List Curve) (e : ℕ) → e < length (edge_list bays j cs) → IsIn j cs e
  group_of j [] e l = absurd (omega arith)
  group_of j (c ∷ cs) e l =
      let f = length-append (edges_of j c.kind c (bays j)) (edge_list bays (suc j) cs) in
      by_order e (length (edges_of j c.kind c (bays j)))
      (λ (h : e < length (edges_of j c.kind c (bays j))). record {
        index = 0;
        curve = j;
        place = e;
        fits = omega arith;
        number = omega arith;
        there = h;
        is = omega arith;
      })
      (λ (h : length (edges_of j c.kind c (bays j)) ≤ e).
      let r = group_of (suc j) cs (e - length (edges_of j c.kind c (bays j)))
      (omega (arith, f, l, h)) in
      let a = r.number in
      let b = r.is in
      let g = r.fits in
      record {
        index = suc r.index;
        curve = r.curve;
        place = r.place;
        fits = omega (arith, g);
        number = omega (arith, a);
        there = r.there;
        is = omega (arith, b, h);
      })

-- ---- one curve's edges
pub chain_length : (i : ℕ) (part : Part) (p : Point) (qs : List Point)
    → length (chain i part p qs) ≡ length qs
chain_length i part p [] = refl
chain_length i part p (q ∷ qs) = ap (λ (n : ℕ). suc n) (chain_length i part q qs)

pub chain_owner : (i : ℕ) (part : Part) (p : Point) (qs : List Point) (k : ℕ) → k < length qs
    → ((get_or (chain i part p qs) k no_edge).curve ≡ i)
    × ((get_or (chain i part p qs) k no_edge).part ≡ part)
chain_owner i part p [] k l = absurd (omega arith)
chain_owner i part p (q ∷ qs) zero l = (refl, refl)
chain_owner i part p (q ∷ qs) (suc k) l = chain_owner i part q qs k (omega (arith, l))

pub inner_length : (bs : List Bay) → length (inner_corners bs) ≡ length bs
inner_length [] = refl
inner_length (b ∷ bs) = ap (λ (n : ℕ). suc n) (inner_length bs)

pub outer_length : (bs : List Bay) (q : Point)
    → length (outer_corners bs ++ q ∷ []) ≡ suc (length bs)
outer_length [] q = refl
outer_length (b ∷ bs) q = ap (λ (n : ℕ). suc n) (outer_length bs q)

pub arc_length : (i : ℕ) (c : Curve) (bs : List Bay)
    → length (edges_of i kind.HalfArc c bs) ≡ suc (length bs + length bs)
arc_length i c bs =
    let a = length-append (chain i inner c.from (inner_corners bs))
    (chain i outer c.from (outer_corners bs ++ c.to ∷ [])) in
    let b = chain_length i inner c.from (inner_corners bs) in
    let d = chain_length i outer c.from (outer_corners bs ++ c.to ∷ []) in
    let e = inner_length bs in
    let f = outer_length bs c.to in
    omega (arith, a, b, d, e, f)

-- what an edge of a curve is told by its place among them
pub arc_inner : (i : ℕ) (c : Curve) (bs : List Bay) (k : ℕ) → k < length bs
    → ((get_or (edges_of i kind.HalfArc c bs) k no_edge).curve ≡ i)
    × ((get_or (edges_of i kind.HalfArc c bs) k no_edge).part ≡ inner)
arc_inner i c bs k l =
    let b = chain_length i inner c.from (inner_corners bs) in
    let e = inner_length bs in
    let f = get_or_append_left (chain i inner c.from (inner_corners bs))
    (chain i outer c.from (outer_corners bs ++ c.to ∷ [])) no_edge k (omega (arith, b, e, l)) in
    let o = chain_owner i inner c.from (inner_corners bs) k (omega (arith, e, l)) in
    (ap (λ (w : Owned). w.curve) f ∙ o.0, ap (λ (w : Owned). w.part) f ∙ o.1)

pub arc_outer : (i : ℕ) (c : Curve) (bs : List Bay) (k : ℕ) → k < suc (length bs)
    → ((get_or (edges_of i kind.HalfArc c bs) (length bs + k) no_edge).curve ≡ i)
    × ((get_or (edges_of i kind.HalfArc c bs) (length bs + k) no_edge).part ≡ outer)
arc_outer i c bs k l =
    let b = chain_length i inner c.from (inner_corners bs) in
    let e = inner_length bs in
    let g = outer_length bs c.to in
    let f = ap (λ (n : ℕ). get_or (edges_of i kind.HalfArc c bs) (n + k) no_edge) (sym (b ∙ e))
    ∙ get_or-append-add (chain i inner c.from (inner_corners bs))
    (chain i outer c.from (outer_corners bs ++ c.to ∷ [])) k no_edge in
    let o = chain_owner i outer c.from (outer_corners bs ++ c.to ∷ []) k (omega (arith, g, l)) in
    (ap (λ (w : Owned). w.curve) f ∙ o.0, ap (λ (w : Owned). w.part) f ∙ o.1)
