-- The triangles of a tube: their windings add up to the turning of its bounds, and they tile it.
use Rattle.std.proofs.Common.{◌≡◌, List, [], ◌∷◌, ℤ, pos, ◌+ℤ◌, ◌<ℤ◌, ◌≤ℤ◌, ◌⊎◌, inl, inr, refl}
use Rattle.std.proofs.Common.{arith, ap, sym, ◌∙◌, subst}
use Rattle.std.proofs.lemmas.Int.{ints}
use Rattle.plane.specs.declared.kinds.Point.{Point}
use Rattle.plane.specs.Lists.{Has}
use Rattle.plane.specs.Forms.Vectors.{Vector, Place, Edge}
use Rattle.plane.specs.Tubes.Windings.{arrow, back, turning, total, Tile, round, IsLeftTile}
use Rattle.plane.specs.Tubes.Windings.{IsSteep, winding, Bay, strips, tiles, fence, bounds}
use Rattle.plane.specs.Tubes.Windings.{InSomeTile, IsTiled, IsClearOf}
use Rattle.plane.proofs.ListLemmas.Lists.{each_has}
use Rattle.plane.proofs.Windings.OneTriangle.{within_triangle, triangle_within, winding_once}
use Rattle.plane.proofs.Windings.OneTriangle.{turning_back}
use Rattle.plane.proofs.Windings.Tilings.{corners, IsShared, IsHeld, IsTiling, rounded}

-- ---- the sum over the bounds is the sum over the triangles: each diagonal counts once each way
strips_total : (w : ℤ) (z : Vector) (p u : Point) (ks : List Bay)
    → turning w z (arrow p u) +ℤ total (winding w z) (strips p u ks)
    ≡ total (turning w z) (fence p u ks)
strips_total w z p u [] = refl
strips_total w z p u (k ∷ ks) =
    let i = strips_total w z k.inner k.outer ks in
    let a = turning_back w z (arrow p u) in
    let b = turning_back w z (arrow p k.outer) in
    let c = turning_back w z (arrow k.inner k.outer) in
    omega (arith, ints, i, a, b)

pub tube_total : (w : ℤ) (z : Vector) (a : Point) (k : Bay) (ks : List Bay)
    → total (winding w z) (tiles a (k ∷ ks)) ≡ total (turning w z) (bounds a (k ∷ ks))
tube_total w z a k ks = let i = strips_total w z k.inner k.outer ks in omega (arith, ints, i)

-- ---- the triangles share their inner arrows
later_shared : (p u : Point) (k : Bay) (ks : List Bay) (g : Edge)
    → IsShared (strips k.inner k.outer ks) (fence k.inner k.outer ks) g
    → IsShared (strips p u (k ∷ ks)) (fence p u (k ∷ ks)) g
later_shared p u k ks g (inl h) = inl (inr (inr h))
later_shared p u k ks g (inr h) = inr (h.0, inr (inr h.1), h.2)

tube_later : (a : Point) (k : Bay) (ks : List Bay) (g : Edge)
    → IsShared (strips k.inner k.outer ks) (fence k.inner k.outer ks) g
    → IsShared (tiles a (k ∷ ks)) (bounds a (k ∷ ks)) g
tube_later a k ks g (inl h) = inl (inr (inr h))
tube_later a k ks g (inr h) = inr (h.0, inr h.1, h.2)

-- the first diagonal, from the inner point to the outer one
first_shared : (p u : Point) (ks : List Bay) → IsShared (strips p u ks) (fence p u ks) (arrow p u)
first_shared p u [] = inl (inl refl)
first_shared p u (k ∷ ks) = inr (_, inl refl, inl refl)

-- but for that diagonal's back, all arrows are shared
strips_shared : (p u : Point) (ks : List Bay) (t : Tile) → Has t (strips p u ks) → (e : Edge)
    → Has e (round t) → IsShared (strips p u ks) (fence p u ks) e ⊎ (e ≡ arrow u p)
strips_shared p u [] t h e m = absurd h
strips_shared p u (k ∷ ks) t (inl h) e m = first (subst (λ (x : Tile). Has e (round x)) h m)
  where
    first : Has e (round (record { a = u; b = p; c = k.outer }))
        → IsShared (strips p u (k ∷ ks)) (fence p u (k ∷ ks)) e ⊎ (e ≡ arrow u p)
    first (inl x) = inr x
    first (inr (inl x)) = inl (inr (_, inr (inl refl), inr (inr (inl (ap back x)))))
    first (inr (inr (inl x))) = inl (inl (inr (inl x)))
    first (inr (inr (inr x))) = absurd x
strips_shared p u (k ∷ ks) t (inr (inl h)) e m = second (subst (λ (x : Tile). Has e (round x)) h m)
  where
    second : Has e (round (record { a = p; b = k.inner; c = k.outer }))
        → IsShared (strips p u (k ∷ ks)) (fence p u (k ∷ ks)) e ⊎ (e ≡ arrow u p)
    second (inl x) = inl (inl (inl x))
    second (inr (inl x)) =
        inl (subst (λ (g : Edge). IsShared (strips p u (k ∷ ks)) (fence p u (k ∷ ks)) g) (sym x)
        (later_shared p u k ks (arrow k.inner k.outer) (first_shared k.inner k.outer ks)))
    second (inr (inr (inl x))) = inl (inr (_, inl refl, inr (inl (ap back x))))
    second (inr (inr (inr x))) = absurd x
strips_shared p u (k ∷ ks) t (inr (inr h)) e m = elim (strips_shared k.inner k.outer ks t h e m) [
  | inl s ↦ inl (later_shared p u k ks e s)
  | inr x ↦ inl (inr (_, inr (inl refl), inr (inl (ap back x))))
]

tube_shared : (a : Point) (k : Bay) (ks : List Bay) (t : Tile) → Has t (tiles a (k ∷ ks))
    → (e : Edge) → Has e (round t) → IsShared (tiles a (k ∷ ks)) (bounds a (k ∷ ks)) e
tube_shared a k ks t (inl h) e m = first (subst (λ (x : Tile). Has e (round x)) h m)
  where
    first : Has e (round (record { a = a; b = k.inner; c = k.outer }))
        → IsShared (tiles a (k ∷ ks)) (bounds a (k ∷ ks)) e
    first (inl x) = inl (inl x)
    first (inr (inl x)) =
        subst (λ (g : Edge). IsShared (tiles a (k ∷ ks)) (bounds a (k ∷ ks)) g) (sym x)
        (tube_later a k ks (arrow k.inner k.outer) (first_shared k.inner k.outer ks))
    first (inr (inr (inl x))) = inl (inr (inl x))
    first (inr (inr (inr x))) = absurd x
tube_shared a k ks t (inr h) e m = elim (strips_shared k.inner k.outer ks t h e m) [
  | inl s ↦ tube_later a k ks e s
  | inr x ↦ inr (_, inl refl, inr (inl (ap back x)))
]

-- ---- the corners are ends of bounds
more_held : (e f : Edge) (es : List Edge) (p : Point) → IsHeld es p → IsHeld (e ∷ f ∷ es) p
more_held e f es p h = (h.0, inr (inr h.1), h.2)

inner_held : (p u : Point) (ks : List Bay) → IsHeld (fence p u ks) p
inner_held p u [] = (_, inl refl, inl refl)
inner_held p u (k ∷ ks) = (_, inl refl, inl refl)

outer_held : (p u : Point) (ks : List Bay) → IsHeld (fence p u ks) u
outer_held p u [] = (_, inl refl, inr refl)
outer_held p u (k ∷ ks) = (_, inr (inl refl), inr refl)

is_held : (es : List Edge) (p q : Point) → p ≡ q → IsHeld es q → IsHeld es p
is_held es p q e h = subst (λ (x : Point). IsHeld es x) (sym e) h

strips_held : (p u : Point) (ks : List Bay) (t : Tile) → Has t (strips p u ks) → (c : Point)
    → Has c (corners t) → IsHeld (fence p u ks) c
strips_held p u [] t h c m = absurd h
strips_held p u (k ∷ ks) t (inl h) c m = first (subst (λ (x : Tile). Has c (corners x)) h m)
  where
    first : Has c (corners (record { a = u; b = p; c = k.outer })) → IsHeld (fence p u (k ∷ ks)) c
    first (inl x) = is_held (fence p u (k ∷ ks)) c u x (outer_held p u (k ∷ ks))
    first (inr (inl x)) = is_held (fence p u (k ∷ ks)) c p x (inner_held p u (k ∷ ks))
    first (inr (inr (inl x))) =
        is_held (fence p u (k ∷ ks)) c k.outer x (_, inr (inl refl), inl refl)
    first (inr (inr (inr x))) = absurd x
strips_held p u (k ∷ ks) t (inr (inl h)) c m = second (subst (λ (x : Tile). Has c (corners x)) h m)
  where
    second : Has c (corners (record { a = p; b = k.inner; c = k.outer }))
        → IsHeld (fence p u (k ∷ ks)) c
    second (inl x) = is_held (fence p u (k ∷ ks)) c p x (inner_held p u (k ∷ ks))
    second (inr (inl x)) = is_held (fence p u (k ∷ ks)) c k.inner x (_, inl refl, inr refl)
    second (inr (inr (inl x))) =
        is_held (fence p u (k ∷ ks)) c k.outer x (_, inr (inl refl), inl refl)
    second (inr (inr (inr x))) = absurd x
strips_held p u (k ∷ ks) t (inr (inr h)) c m =
    more_held _ _ _ c (strips_held k.inner k.outer ks t h c m)

tube_held : (a : Point) (k : Bay) (ks : List Bay) (t : Tile) → Has t (tiles a (k ∷ ks))
    → (c : Point) → Has c (corners t) → IsHeld (bounds a (k ∷ ks)) c
tube_held a k ks t (inl h) c m = first (subst (λ (x : Tile). Has c (corners x)) h m)
  where
    first : Has c (corners (record { a = a; b = k.inner; c = k.outer }))
        → IsHeld (bounds a (k ∷ ks)) c
    first (inl x) = is_held (bounds a (k ∷ ks)) c a x (inner_held a a (k ∷ ks))
    first (inr (inl x)) = is_held (bounds a (k ∷ ks)) c k.inner x (_, inl refl, inr refl)
    first (inr (inr (inl x))) =
        is_held (bounds a (k ∷ ks)) c k.outer x (_, inr (inl refl), inl refl)
    first (inr (inr (inr x))) = absurd x
tube_held a k ks t (inr h) c m = more_held _ _ _ c (strips_held k.inner k.outer ks t h c m)

pub tube_tiling : (a : Point) (k : Bay) (ks : List Bay)
    → IsTiling (tiles a (k ∷ ks)) (bounds a (k ∷ ks))
tube_tiling a k ks = record { arrows = tube_shared a k ks; held = tube_held a k ks }

-- ---- sums of windings
windings_least : (w : ℤ) (z : Vector) (ts : List Tile) → Place z → IsTiled w ts
    → pos 0 ≤ℤ total (winding w z) ts
windings_least w z [] Z h = omega (arith, ints)
windings_least w z (t ∷ ts) Z h =
    let i = windings_least w z ts Z h.1 in
    elim (winding_once w t z Z h.0.0) [
      | inl n ↦ omega (arith, ints, i, n)
      | inr n ↦ let k = n.0 in omega (arith, ints, i, k)
    ]

windings_one : (w : ℤ) (z : Vector) (ts : List Tile) → Place z → IsTiled w ts → (u : Tile)
    → Has u ts → winding w z u ≡ pos 1 → pos 1 ≤ℤ total (winding w z) ts
windings_one w z [] Z h u m n = absurd m
windings_one w z (t ∷ ts) Z h u (inl e) n =
    let i = windings_least w z ts Z h.1 in
    let k = subst (λ (x : Tile). winding w z x ≡ pos 1) e n in
    omega (arith, ints, i, k)
windings_one w z (t ∷ ts) Z h u (inr m) n =
    let i = windings_one w z ts Z h.1 u m n in
    elim (winding_once w t z Z h.0.0) [
      | inl k ↦ omega (arith, ints, i, k)
      | inr k ↦ let j = k.0 in omega (arith, ints, i, j)
    ]

windings_none : (w : ℤ) (z : Vector) (ts : List Tile) → Place z → IsTiled w ts
    → (InSomeTile ts z → ⊥) → total (winding w z) ts ≡ pos 0
windings_none w z [] Z h none = refl
windings_none w z (t ∷ ts) Z h none =
    let i = windings_none w z ts Z h.1 (λ s. none (s.0, inr s.1, s.2)) in
    elim (winding_once w t z Z h.0.0) [
      | inl n ↦ omega (arith, ints, i, n)
      | inr n ↦ absurd (none (t, inl refl, within_triangle t z Z h.0.0 n.1))
    ]

-- ---- the triangles tile the tube
-- in a triangle, off the bounds: the bounds go round the place
pub tube_round : (w : ℤ) (z : Vector) (a : Point) (k : Bay) (ks : List Bay) → Place z
    → IsTiled w (tiles a (k ∷ ks)) → IsClearOf (bounds a (k ∷ ks)) z
    → InSomeTile (tiles a (k ∷ ks)) z
    → pos 1 ≤ℤ total (turning w z) (bounds a (k ∷ ks))
tube_round w z a k ks Z tiled clear s =
    let left = (each_has (λ u. IsLeftTile u × IsSteep w u) (tiles a (k ∷ ks)) s.0 tiled s.1).0 in
    let r = rounded w z (tiles a (k ∷ ks)) (bounds a (k ∷ ks)) Z
    (tube_tiling a k ks) tiled clear s.0 s.1 (triangle_within s.0 z Z left s.2) in
    subst (λ (n : ℤ). pos 1 ≤ℤ n) (tube_total w z a k ks)
    (windings_one w z (tiles a (k ∷ ks)) Z tiled r.0 r.1 r.2)

-- in no triangle: they do not
pub tube_not_round : (w : ℤ) (z : Vector) (a : Point) (k : Bay) (ks : List Bay) → Place z
    → IsTiled w (tiles a (k ∷ ks)) → (InSomeTile (tiles a (k ∷ ks)) z → ⊥)
    → total (turning w z) (bounds a (k ∷ ks)) ≡ pos 0
tube_not_round w z a k ks Z tiled none =
    sym (tube_total w z a k ks) ∙ windings_none w z (tiles a (k ∷ ks)) Z tiled none

windings_some : (w : ℤ) (z : Vector) (ts : List Tile) → Place z → IsTiled w ts
    → pos 0 <ℤ total (winding w z) ts → InSomeTile ts z
windings_some w z [] Z h l = absurd (omega (arith, ints, l))
windings_some w z (t ∷ ts) Z h l = elim (winding_once w t z Z h.0.0) [
  | inl n ↦ let s = windings_some w z ts Z h.1 (omega (arith, ints, l, n)) in (s.0, inr s.1, s.2)
  | inr n ↦ (t, inl refl, within_triangle t z Z h.0.0 n.1)
]

-- if the bounds go round the place, it is in a triangle
pub tube_holds : (w : ℤ) (z : Vector) (a : Point) (k : Bay) (ks : List Bay) → Place z
    → IsTiled w (tiles a (k ∷ ks)) → pos 0 <ℤ total (turning w z) (bounds a (k ∷ ks))
    → InSomeTile (tiles a (k ∷ ks)) z
tube_holds w z a k ks Z tiled l =
    windings_some w z (tiles a (k ∷ ks)) Z tiled
    (subst (λ (n : ℤ). pos 0 <ℤ n) (sym (tube_total w z a k ks)) l)
