-- The edges of a drawing and its tubes, in the words of `EdgesAndTubes`: the ends of a half arc,
-- and which half-edges are a tube's.
use Rattle.std.proofs.Common.{◌≡◌, ℕ, ◌<◌, ◌⊎◌, inl, inr, List, [], ◌∷◌, length, ap, sym, ◌∙◌}
use Rattle.std.proofs.Common.{subst}
use Rattle.plane.specs.declared.kinds.Point.{Point}
use Rattle.plane.specs.declared.kinds.Curve.{Curve}
use Rattle.plane.specs.Lists.{Has, Last}
use Rattle.plane.specs.Forms.Vectors.{Vector, Between, point, Edge}
use Rattle.plane.specs.Forms.Arcs.{HalfArc}
use Rattle.plane.specs.Rule.Curves.{arc}
use Rattle.plane.specs.Rule.BadPairs.{IsEndOf, HaveSameEnds}
use Rattle.plane.specs.Rule.Plans.{Plan, curve, IsStraight, IsHalfArc}
use Rattle.plane.specs.Faces.Halves.{Half, under, over, edge_of}
use Rattle.plane.specs.Tubes.Bays.{Bay}
use Rattle.plane.specs.Tubes.Facing.{tip}
use Rattle.plane.proofs.Settling.EdgesAndTubes.{DrawnTube, IsTubeOf, EdgeList, IsEdgeList}
use Rattle.plane.proofs.Linear.Signs.{between_back}
use Rattle.plane.proofs.HalfArcs.Turned.{OneArc}
use Rattle.plane.proofs.Windings.Enters.{Decided}
use Rattle.plane.proofs.Windings.CommonPlaces.{decide_number}
use Rattle.plane.proofs.TubedRuns.HalfArcLists.{decide_kind}

pub either_kind : (d : Plan) (i : ℕ) → i < length d.curves → IsStraight d i ⊎ IsHalfArc d i
either_kind d i l = elim (decide_kind (curve d i).kind) [
  | inl k ↦ inl (record { there = l; kind = k })
  | inr k ↦ inr (record { there = l; kind = k })
]

-- ---- ends of a half arc
pub tip_is : (b : Bay) (bs : List Bay) (e : Point) → Last (λ d. d.inner ≡ e) (b ∷ bs) → tip b bs ≡ e
tip_is b [] e h = h
tip_is b (c ∷ bs) e h = tip_is c bs e h

pub arc_ends : (m : ℕ) (E : ℕ → Edge) (c : Curve) (t : DrawnTube) → IsTubeOf m E c t → (p : Point)
    → (p ≡ t.arc.from) ⊎ (p ≡ tip t.bay t.bays) → IsEndOf c p
arc_ends m E c t is p h =
    let e = tip_is t.bay t.bays t.arc.to is.tube.ends in
    one is.is (elim h [ inl x ↦ inl x | inr x ↦ inr (x ∙ e) ])
  where
    one : OneArc t.arc (arc c) → (p ≡ t.arc.from) ⊎ (p ≡ t.arc.to) → IsEndOf c p
    one (inl e) (inl x) = inl (sym (x ∙ ap (λ (h : HalfArc). h.from) e))
    one (inl e) (inr x) = inr (sym (x ∙ ap (λ (h : HalfArc). h.to) e))
    one (inr e) (inl x) = inr (sym (x ∙ ap (λ (h : HalfArc). h.from) e))
    one (inr e) (inr x) = inl (sym (x ∙ ap (λ (h : HalfArc). h.to) e))

pub ends_arc : (m : ℕ) (E : ℕ → Edge) (c : Curve) (t : DrawnTube) → IsTubeOf m E c t → (p : Point)
    → IsEndOf c p → (p ≡ t.arc.from) ⊎ (p ≡ tip t.bay t.bays)
ends_arc m E c t is p h =
    let e = tip_is t.bay t.bays t.arc.to is.tube.ends in
    elim (one is.is h) [ inl x ↦ inl x | inr x ↦ inr (x ∙ sym e) ]
  where
    one : OneArc t.arc (arc c) → IsEndOf c p → (p ≡ t.arc.from) ⊎ (p ≡ t.arc.to)
    one (inl e) (inl x) = inl (sym x ∙ sym (ap (λ (h : HalfArc). h.from) e))
    one (inl e) (inr x) = inr (sym x ∙ sym (ap (λ (h : HalfArc). h.to) e))
    one (inr e) (inl x) = inr (sym x ∙ sym (ap (λ (h : HalfArc). h.to) e))
    one (inr e) (inr x) = inl (sym x ∙ sym (ap (λ (h : HalfArc). h.from) e))

-- ---- which half-edge is which
IsUnder : Half → Type 0
IsUnder (under a) = Unit {0}
IsUnder (over a) = ⊥

not_under : (g : Half) (b : ℕ) → g ≡ over b → IsUnder g → ⊥
unfolding IsUnder
not_under g b e h = subst IsUnder e h

pub decide_half : (g h : Half) → Decided (g ≡ h)
unfolding IsUnder
decide_half (under a) (under b) =
    elim (decide_number a b) [ inl e ↦ inl (ap under e) | inr n ↦ inr (λ e. n (ap edge_of e)) ]
decide_half (over a) (over b) =
    elim (decide_number a b) [ inl e ↦ inl (ap over e) | inr n ↦ inr (λ e. n (ap edge_of e)) ]
decide_half (under a) (over b) = inr (λ e. not_under (under a) b e tt)
decide_half (over a) (under b) = inr (λ e. not_under (under b) a (sym e) tt)

-- a tube's edge by its curve
pub of_tube : (d : Plan) (l : EdgeList) → IsEdgeList d l → (i : ℕ) → IsHalfArc d i → (e : ℕ)
    → e < l.edges → l.owner e ≡ i → (h : Half) × Has h (l.tube i).halves × (edge_of h ≡ e)
of_tube d l is i h e f o =
    let m = is.tube_only e f (subst (λ (j : ℕ). IsHalfArc d j) (sym o) h) in
    (m.0, subst (λ (j : ℕ). Has m.0 (l.tube j).halves) o m.1, m.2)

-- ---- a place between the ends of a half arc is on each straight with the same ends
pub moved : (a b p q : Point) (z : Vector) → a ≡ p → b ≡ q → Between z (point a) (point b)
    → Between z (point p) (point q)
moved a b p q z e f k =
    subst (λ (y : Point). Between z (point p) (point y)) f
    (subst (λ (x : Point). Between z (point x) (point b)) e k)

pub between_arc : (c : Curve) (h : HalfArc) (z : Vector) → OneArc h (arc c)
    → Between z (point c.from) (point c.to) → Between z (point h.from) (point h.to)
between_arc c h z (inl e) k =
    moved c.from c.to h.from h.to z (sym (ap (λ (x : HalfArc). x.from) e))
    (sym (ap (λ (x : HalfArc). x.to) e)) k
between_arc c h z (inr e) k =
    moved c.to c.from h.from h.to z (sym (ap (λ (x : HalfArc). x.from) e))
    (sym (ap (λ (x : HalfArc). x.to) e)) (between_back z (point c.from) (point c.to) k)

pub same_ends : (c d : Curve) (z : Vector) → HaveSameEnds c d
    → Between z (point d.from) (point d.to) → Between z (point c.from) (point c.to)
same_ends c d z (inl h) k = moved d.from d.to c.from c.to z (sym h.0) (sym h.1) k
same_ends c d z (inr h) k =
    between_back z (point c.to) (point c.from)
    (moved d.from d.to c.to c.from z (sym h.1) (sym h.0) k)
