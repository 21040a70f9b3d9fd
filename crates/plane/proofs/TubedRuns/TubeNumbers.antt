-- Edges of a tube by number: its bounds are the arrows of its curve's edges, and the places of its
-- chains are those of its edges.
use Rattle.std.proofs.Common.{◌≡◌, ℕ, suc, ◌+◌, ◌<◌, ◌≤◌, Bool, true, false, List, [], ◌∷◌, ◌++◌}
use Rattle.std.proofs.Common.{map, length, ◌⊎◌, inl, inr, refl, arith, ap, ◌∙◌, subst}
use Rattle.plane.specs.declared.kinds.Point.{Point}
use Rattle.plane.specs.Lists.{Has, Once}
use Rattle.plane.specs.Forms.Vectors.{Vector, Between, point}
use Rattle.plane.specs.Tubes.Bays.{Bay, OnInner, OnOuter}
use Rattle.plane.specs.Tubes.Windings.{bounds}
use Rattle.plane.specs.CurveRuns.TubedRuns.{inner, outer, Owned, chain, inner_corners}
use Rattle.plane.specs.CurveRuns.TubedRuns.{outer_corners, inward, backward_edges, tube_edges}
use Rattle.plane.specs.CurveRuns.TubedRuns.{first_bay, later_bays}
use Rattle.plane.proofs.ListLemmas.Lists.{has_append, has_front, has_back}
use Rattle.plane.proofs.Windings.Under.{by_order}
use Rattle.plane.proofs.TubedRuns.EdgeNumbers.{IsFrom}
use Rattle.plane.proofs.OneTube.BackwardBays.{last_inner}
use Rattle.plane.proofs.TubedRuns.TubeBounds.{once_append, onward_bounds, backward_bounds, IsAmong}
use Rattle.plane.proofs.TubedRuns.TubeBounds.{onward_among, among_onward, onward_once}
use Rattle.plane.proofs.TubedRuns.TubeBounds.{backward_among, among_backward, backward_once}
use Rattle.plane.proofs.OneTube.TurnedTubes.{start, bays_from, split_bays}

pub whole_range : (s n k x : ℕ) → n ≡ s + k → IsAmong x s (suc (k + k))
    → IsAmong x s k ⊎ IsAmong x n (suc k)
whole_range s n k x e h =
    let a = h.0 in
    let b = h.1 in
    by_order x n (λ (l : x < n). inl (a, omega (arith, e, l)))
    (λ (l : n ≤ x). inr (l, omega (arith, e, b)))

in_range : (s n k x : ℕ) → n ≡ s + k → IsAmong x s k ⊎ IsAmong x n (suc k)
    → IsAmong x s (suc (k + k))
in_range s n k x e (inl h) = let a = h.0 in let b = h.1 in (a, omega (arith, b))
in_range s n k x e (inr h) =
    let a = h.0 in let b = h.1 in (omega (arith, a, e), omega (arith, b, e))

-- exactly those from its first one on
pub tube_among : (left : Bool) (s x : ℕ) (bs : List Bay) → Has x (tube_edges left s bs)
    → IsAmong x s (suc (length bs + length bs))
tube_among false s x bs h =
    in_range s (s + length bs) (length bs) x refl (onward_among s (s + length bs) x bs h)
tube_among true s x bs h =
    in_range s (s + length bs) (length bs) x refl
    (elim (has_append x (backward_edges s (suc (s + length bs)) bs) ((s + length bs) ∷ []) h) [
      | inl m ↦ elim (backward_among s (suc (s + length bs)) x bs m) [
        | inl i ↦ inl i
        | inr i ↦ (let a = i.0 in let b = i.1 in inr (omega (arith, a), omega (arith, b)))
      ]
      | inr m ↦ elim m [ inl e ↦ inr (omega (arith, e), omega (arith, e)) | inr v ↦ absurd v ]
    ])

pub among_tube : (left : Bool) (s x : ℕ) (bs : List Bay) → IsAmong x s (suc (length bs + length bs))
    → Has x (tube_edges left s bs)
among_tube false s x bs h =
    among_onward s (s + length bs) x bs (whole_range s (s + length bs) (length bs) x refl h)
among_tube true s x bs h = elim (whole_range s (s + length bs) (length bs) x refl h) [
  | inl i ↦ has_front x (backward_edges s (suc (s + length bs)) bs) ((s + length bs) ∷ [])
      (among_backward s (suc (s + length bs)) x bs (inl i))
  | inr i ↦
      let a = i.0 in
      let b = i.1 in
      by_order (s + length bs) x
      (λ (l : (s + length bs) < x). has_front x (backward_edges s (suc (s + length bs)) bs)
      ((s + length bs) ∷ [])
      (among_backward s (suc (s + length bs)) x bs (inr (omega (arith, l), omega (arith, b)))))
      (λ (l : x ≤ (s + length bs)). has_back x (backward_edges s (suc (s + length bs)) bs)
      ((s + length bs) ∷ []) (inl (omega (arith, a, l))))
]

pub tube_once : (left : Bool) (s : ℕ) (bs : List Bay) → Once (tube_edges left s bs)
tube_once false s bs = onward_once s (s + length bs) bs (omega arith)
tube_once true s bs =
    once_append (backward_edges s (suc (s + length bs)) bs) ((s + length bs) ∷ [])
    (backward_once s (suc (s + length bs)) bs (omega arith)) ((λ v. v), tt)
    (λ x m o. elim o [
      | inl e ↦ elim (backward_among s (suc (s + length bs)) x bs m) [
        | inl i ↦ (let a = i.1 in omega (arith, a, e))
        | inr i ↦ (let a = i.0 in omega (arith, a, e))
      ]
      | inr v ↦ v
    ])

-- ---- places of the chains
between_from : (f : ℕ → Owned) (n : ℕ) (o : Owned) (z : Vector) → f n ≡ o
    → Between z (point (f n).from) (point (f n).to) → Between z (point o.from) (point o.to)
between_from f n o z e h = subst (λ (x : Owned). Between z (point x.from) (point x.to)) e h

pub on_inner : (f : ℕ → Owned) (i s x : ℕ) (p : Point) (bs : List Bay) (z : Vector)
    → IsFrom f s (chain i inner p (inner_corners bs)) → IsAmong x s (length bs)
    → Between z (point (f x).from) (point (f x).to) → OnInner z p bs
on_inner f i s x p [] z h k b = (let a = k.0 in let c = k.1 in omega (arith, a, c))
on_inner f i s x p (d ∷ bs) z h k b =
    let a = k.0 in
    let c = k.1 in
    by_order s x
    (λ (l : s < x). inr
    (on_inner f i (suc s) x d.inner bs z h.1 (omega (arith, l), omega (arith, c)) b))
    (λ (l : x ≤ s). inl (between_from f x _ z (ap f (omega (arith, a, l)) ∙ h.0) b))

pub on_outer : (f : ℕ → Owned) (i n x : ℕ) (q e : Point) (bs : List Bay) (z : Vector)
    → IsFrom f n (chain i outer q (outer_corners bs ++ e ∷ [])) → IsAmong x n (suc (length bs))
    → Between z (point (f x).from) (point (f x).to) → OnOuter z q e bs
on_outer f i n x q e [] z h k b =
    let a = k.0 in let c = k.1 in between_from f x _ z (ap f (omega (arith, a, c)) ∙ h.0) b
on_outer f i n x q e (d ∷ bs) z h k b =
    let a = k.0 in
    let c = k.1 in
    by_order n x
    (λ (l : n < x). inr
    (on_outer f i (suc n) x d.outer e bs z h.1 (omega (arith, l), omega (arith, c)) b))
    (λ (l : x ≤ n). inl (between_from f x _ z (ap f (omega (arith, a, l)) ∙ h.0) b))

-- ---- the bounds in terms of the edges' numbers
pub oriented : (left : Bool) (f : ℕ → Owned) (i s : ℕ) (a e : Point) (b : Bay) (bs : List Bay)
    → IsFrom f s (chain i inner a (inner_corners (b ∷ bs)))
    → IsFrom f (s + length (b ∷ bs)) (chain i outer a (outer_corners (b ∷ bs) ++ e ∷ []))
    → last_inner a (b ∷ bs) ≡ e
    → bounds (start left a e) (first_bay (bays_from left a (b ∷ bs))
    ∷ later_bays (bays_from left a (b ∷ bs)))
    ≡ map (λ n. inward left (f n).part (f n).from (f n).to) (tube_edges left s (b ∷ bs))
oriented false f i s a e b bs h o q = onward_bounds f i s (s + length (b ∷ bs)) a a e (b ∷ bs) h o q
oriented true f i s a e b bs h o q =
    ap (λ (ks : List Bay). bounds e ks) (split_bays true a b bs)
    ∙ backward_bounds f i s (s + length (b ∷ bs)) a e b bs h o q
