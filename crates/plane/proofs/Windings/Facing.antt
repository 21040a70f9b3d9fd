-- The turning of a tube's bounds round a place is given by the label over the edges that lie under
-- the place.
use Rattle.std.proofs.Common.{◌≡◌, ℕ, zero, suc, ◌<◌, List, [], ◌∷◌, map, ℤ, pos, negsuc, ◌*ℤ◌}
use Rattle.std.proofs.Common.{◌-ℤ◌, ◌⊎◌, inl, inr, refl, arith, ap, sym, ◌∙◌, subst}
use Rattle.std.proofs.lemmas.Int.{ints}
use Rattle.std.proofs.lemmas.Bool.Decides.{eqb_tells}
use Rattle.plane.specs.Lists.{Has, Once}
use Rattle.plane.specs.Forms.Vectors.{Vector, Edge}
use Rattle.plane.specs.Faces.Halves.{Half, under, over, edge_of}
use Rattle.plane.specs.Faces.Labels.{Labels, Match, last_label}
use Rattle.plane.specs.Tubes.Windings.{turning, total}
use Rattle.plane.specs.Tubes.Facing.{way, IsFaced}
use Rattle.plane.proofs.Windings.FacingWords.{one_at, change}
use Rattle.plane.proofs.Algebra.Laws.{product_comm, zero-product}
use Rattle.plane.proofs.Windings.OneTriangle.{turning_back}
use Rattle.plane.proofs.Algebra.Sums.{total_once, total_same}

-- ---- marks
pub mark_same : (t l : ℕ) → l ≡ t → one_at t l ≡ pos 1
mark_same t l e = subst (λ (x : ℕ). one_at t x ≡ pos 1) (sym e) (here t)
  where
    here : (t : ℕ) → one_at t t ≡ pos 1
    here zero = refl
    here (suc t) = here t

pub mark_other : (t l : ℕ) → (l ≡ t → ⊥) → one_at t l ≡ pos 0
mark_other zero zero h = absurd (h refl)
mark_other zero (suc l) h = refl
mark_other (suc t) zero h = refl
mark_other (suc t) (suc l) h = mark_other t l (λ e. h (ap suc e))

pub mark_is : (t l : ℕ) → ((l ≡ t) × (one_at t l ≡ pos 1)) ⊎ ((l ≡ t → ⊥) × (one_at t l ≡ pos 0))
mark_is t l = elim (eqb_tells l t) [
  | inl k ↦ inl (k.1, mark_same t l k.1)
  | inr k ↦ inr (k.1, mark_other t l k.1)
]

-- going up, the marks change by what the edges change
pub carries_change : (lab : Labels) (t f g : ℕ) (es : List ℕ) → Match lab f es g
    → total (change lab t) es ≡ one_at t g -ℤ one_at t f
carries_change lab t f g [] h = let e = ap (one_at t) h in omega (arith, ints, e)
carries_change lab t f g (e ∷ es) h =
    let i = carries_change lab t (lab.above e) g es h.1 in
    let k = ap (one_at t) h.0 in
    omega (arith, ints, i, k)

-- ---- half-edges that face the tube
edge_in : (h : Half) (hs : List Half) → Has h hs → Has (edge_of h) (map edge_of hs)
edge_in h [] m = absurd m
edge_in h (g ∷ hs) (inl e) = inl (ap edge_of e)
edge_in h (g ∷ hs) (inr m) = inr (edge_in h hs m)

one_side : (g h : Half) (hs : List Half) → Once (map edge_of hs) → Has g hs → Has h hs
    → edge_of g ≡ edge_of h → g ≡ h
one_side g h [] once a b e = absurd a
one_side g h (x ∷ hs) once (inl a) (inl b) e = a ∙ sym b
one_side g h (x ∷ hs) once (inl a) (inr b) e =
    absurd (once.0
    (subst (λ (d : ℕ). Has d (map edge_of hs)) (sym e ∙ ap edge_of a) (edge_in h hs b)))
one_side g h (x ∷ hs) once (inr a) (inl b) e =
    absurd (once.0 (subst (λ (d : ℕ). Has d (map edge_of hs)) (e ∙ ap edge_of b) (edge_in g hs a)))
one_side g h (x ∷ hs) once (inr a) (inr b) e = one_side g h hs once.1 a b e

under_not_over : (e : ℕ) → under e ≡ over e → ⊥
under_not_over e h =
    subst (λ (x : Half). elim x as (λ _. Type 0) [ under n ↦ Unit {0} | over n ↦ ⊥ ]) h tt

edge_has : (e : ℕ) (hs : List Half) → Has e (map edge_of hs) → Has (under e) hs ⊎ Has (over e) hs
edge_has e [] m = absurd m
edge_has e (under d ∷ hs) (inl x) = inl (inl (ap under x))
edge_has e (over d ∷ hs) (inl x) = inr (inl (ap over x))
edge_has e (h ∷ hs) (inr m) = elim (edge_has e hs m) [ inl k ↦ inl (inr k) | inr k ↦ inr (inr k) ]

module _ (w : ℤ) (m : ℕ) (E : ℕ → Edge) (z : Vector) (lab : Labels) (t : ℕ) (hs : List Half)
    (faced : IsFaced m lab t hs) where
  -- what an edge of a facing half-edge adds
  abbrev part : ℕ → ℤ
  part e = change lab t e *ℤ turning w z (E e)

  way_part : (h : Half) → Has h hs → turning w z (way E h) ≡ part (edge_of h)
  way_part (over e) k =
      let a = mark_same t (lab.above e) (faced.faces (over e) k) in
      let b = mark_other t (lab.below e)
      (λ q. under_not_over e
      (one_side (under e) (over e) hs faced.once
      (faced.only (under e) (faced.fits (over e) k) q) k refl)) in
      let c : change lab t e ≡ pos 1 = omega (arith, ints, a, b) in
      sym (ap (λ (n : ℤ). n *ℤ turning w z (E e)) c ∙ omega (arith, ints))
  way_part (under e) k =
      let a = mark_same t (lab.below e) (faced.faces (under e) k) in
      let b = mark_other t (lab.above e)
      (λ q. under_not_over e
      (one_side (under e) (over e) hs faced.once k
      (faced.only (over e) (faced.fits (under e) k) q) refl)) in
      let c : change lab t e ≡ negsuc 0 = omega (arith, ints, a, b) in
      turning_back w z (E e) ∙ sym (ap (λ (n : ℤ). n *ℤ turning w z (E e)) c ∙ omega (arith, ints))

  ways_total : (gs : List Half) → ((h : Half) → Has h gs → Has h hs)
      → total (turning w z) (map (way E) gs) ≡ total part (map edge_of gs)
  ways_total [] f = refl
  ways_total (g ∷ gs) f =
      let i = ways_total gs (λ h k. f h (inr k)) in
      let a = way_part g (f g (inl refl)) in
      omega (arith, ints, i, a)

  no_part : (e : ℕ) → e < m → (Has e (map edge_of hs) → ⊥) → part e ≡ pos 0
  no_part e l none =
      let a = mark_other t (lab.above e)
      (λ q. none (edge_in (over e) hs (faced.only (over e) l q))) in
      let b = mark_other t (lab.below e)
      (λ q. none (edge_in (under e) hs (faced.only (under e) l q))) in
      let c : change lab t e ≡ pos 0 = omega (arith, ints, a, b) in
      ap (λ (n : ℤ). n *ℤ turning w z (E e)) c ∙ zero-product (turning w z (E e))

  edges_fit : (e : ℕ) → Has e (map edge_of hs) → e < m
  edges_fit e k =
      elim (edge_has e hs k) [ inl h ↦ faced.fits (under e) h | inr h ↦ faced.fits (over e) h ]

  -- the edges of the list pass under z once, all others do not
  pub faced_turning : (lower : List ℕ) → Once lower
      → ((e : ℕ) → Has e lower → (e < m) × (turning w z (E e) ≡ pos 1))
      → ((e : ℕ) → e < m → (Has e lower → ⊥) → turning w z (E e) ≡ pos 0)
      → Match lab 0 lower (last_label lab 0 lower)
      → total (turning w z) (map (way E) hs) ≡ one_at t (last_label lab 0 lower)
  faced_turning lower once passed not_passed carries =
      let a = ways_total hs (λ h k. k) in
      let b = total_once m part (map edge_of hs) faced.once edges_fit no_part in
      let c = total_once m part lower once (λ e k. (passed e k).0)
      (λ e l k. ap (λ (n : ℤ). change lab t e *ℤ n) (not_passed e l k)
      ∙ product_comm (change lab t e) (pos 0) ∙ zero-product (change lab t e)) in
      let d = total_same part (change lab t) lower
      (λ e k. ap (λ (n : ℤ). change lab t e *ℤ n) (passed e k).1 ∙ omega (arith, ints)) in
      let f = carries_change lab t 0 (last_label lab 0 lower) lower carries in
      let g = mark_other t 0 (λ q. faced.some_label (sym q)) in
      omega (arith, ints, a, b, c, d, f, g)
