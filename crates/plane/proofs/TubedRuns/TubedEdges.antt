-- The bounds of the tubes in a run over the edge list of a drawing: the half-edges that face a
-- tube, in the order of its bounds. No label is asked.
use Rattle.std.proofs.Common.{◌≡◌, ℕ, suc, ◌+◌, ◌<◌, List, [], ◌∷◌, ◌++◌, map, length, inl, inr}
use Rattle.std.proofs.Common.{refl, ap, sym, ◌∙◌, subst}
use Rattle.plane.specs.declared.kinds.Curve.{Curve}
use Rattle.plane.specs.declared.kinds.CurveKind.TheVariants as kind
use Rattle.plane.specs.Lists.{Has, Once}
use Rattle.plane.specs.Forms.Vectors.{Edge}
use Rattle.plane.specs.Rule.Plans.{Plan, curve}
use Rattle.plane.specs.Runs.Steps.{Step}
use Rattle.plane.specs.Faces.Halves.{Half, edge_of}
use Rattle.plane.specs.Tubes.Bays.{Bay}
use Rattle.plane.specs.Tubes.Windings.{bounds}
use Rattle.plane.specs.Tubes.Facing.{way}
use Rattle.plane.specs.CurveRuns.TubedRuns.{inner, outer, Owned, chain, inner_corners}
use Rattle.plane.specs.CurveRuns.TubedRuns.{outer_corners, owned, IsOfTube, IsTubedRun}
use Rattle.plane.specs.CurveRuns.TubedRuns.{third_is_left, inward, FacesTube, first_edge}
use Rattle.plane.specs.CurveRuns.TubedRuns.{tube_start, tube_bays, tube_edges, first_bay}
use Rattle.plane.specs.CurveRuns.TubedRuns.{later_bays}
use Rattle.plane.proofs.TubedRuns.EdgeNumbers.{IsFrom}
use Rattle.plane.proofs.OneTube.BackwardBays.{last_inner}
use Rattle.plane.proofs.TubedRuns.TubeBounds.{edges_back, map_same, map_twice, IsAmong}
use Rattle.plane.proofs.TubedRuns.TubeNumbers.{tube_among, among_tube, tube_once, oriented}
use Rattle.plane.proofs.TubedRuns.ArcEdges as arc

module _ (d : Plan) (bays : ℕ → List Bay) (m : ℕ) (E : ℕ → Edge) (steps : List Step) (within : ℕ
    → Half) (is : IsTubedRun d bays m E steps)
    (faced : (e : ℕ) → e < m → IsOfTube (owned d bays e).part
    → FacesTube d bays E e (within e)) where
  abbrev f : ℕ → Owned
  f e = owned d bays e

  abbrev first : ℕ → ℕ
  first i = first_edge bays 0 d.curves i

  module _ (i : ℕ) (l : i < length d.curves) (bent : (curve d i).kind ≡ kind.HalfArc) where
    abbrev c : Curve
    c = curve d i

    abbrev bs : List Bay
    bs = bays i

    abbrev IsIts : ℕ → Type 0
    IsIts x = IsAmong x (first i) (suc (length bs + length bs))

    its_curve : (x : ℕ) → IsIts x → (f x).curve ≡ i
    its_curve = arc.its_curve d bays m E steps is i l bent

    of_tube : (x : ℕ) → IsIts x → IsOfTube (f x).part
    of_tube = arc.of_tube d bays m E steps is i l bent

    below_m : (x : ℕ) → IsIts x → x < m
    below_m = arc.below_m d bays m E steps is i l bent

    -- each bound is the half-edge that faces the tube
    faces_at : (x : ℕ) → IsIts x
        → way E (within x) ≡ inward (third_is_left c) (f x).part (f x).from (f x).to
    faces_at x h = (faced x (below_m x h) (of_tube x h)).left
        ∙ ap (λ (j : ℕ). inward (third_is_left (curve d j)) (f x).part (f x).from (f x).to)
        (its_curve x h)

    pub edge_at : (x : ℕ) → IsIts x → edge_of (within x) ≡ x
    edge_at x h = (faced x (below_m x h) (of_tube x h)).edge

    abbrev numbers : List ℕ
    numbers = tube_edges (third_is_left c) (first i) bs

    abbrev halves : List Half
    halves = map within numbers

    -- the half-edges of the tube
    pub half_from : (ns : List ℕ) (h : Half) → Has h (map within ns)
        → (x : ℕ) × Has x ns × (h ≡ within x)
    half_from [] h k = absurd k
    half_from (n ∷ ns) h (inl e) = (n, inl refl, e)
    half_from (n ∷ ns) h (inr k) = let y = half_from ns h k in (y.0, inr y.1, y.2)

    pub half_in : (ns : List ℕ) (x : ℕ) → Has x ns → Has (within x) (map within ns)
    half_in [] x k = absurd k
    half_in (n ∷ ns) x (inl e) = inl (ap within e)
    half_in (n ∷ ns) x (inr k) = inr (half_in ns x k)

    pub its_bounds : bounds (tube_start c)
        (first_bay (tube_bays c bs) ∷ later_bays (tube_bays c bs)) ≡ map (way E) halves
    its_bounds =
        arc.with_bay d bays m E steps is i l bent
        (λ ks. bounds (tube_start c) (first_bay (tube_bays c ks) ∷ later_bays (tube_bays c ks))
        ≡ map (λ n. inward (third_is_left c) (f n).part (f n).from (f n).to)
        (tube_edges (third_is_left c) (first i) ks))
        (λ b rest e. oriented (third_is_left c) f i (first i) c.from c.to b rest
        (subst (λ (ks : List Bay). IsFrom f (first i) (chain i inner c.from (inner_corners ks))) e
        (arc.inner_from d bays m E steps is i l bent))
        (subst (λ (ks : List Bay). IsFrom f (first i + length ks)
        (chain i outer c.from (outer_corners ks ++ c.to ∷ []))) e
        (arc.outer_from d bays m E steps is i l bent))
        (subst (λ (ks : List Bay). last_inner c.from ks ≡ c.to) e
        (arc.ends_at d bays m E steps is i l bent)))
        ∙ sym (map_same (λ n. way E (within n))
        (λ n. inward (third_is_left c) (f n).part (f n).from (f n).to) numbers
        (λ n k. faces_at n (tube_among (third_is_left c) (first i) n bs k)))
        ∙ sym (map_twice (way E) within numbers)

    pub half_fits : (h : Half) → Has h halves → edge_of h < m
    half_fits h k =
        let x = half_from numbers h k in
        let a = tube_among (third_is_left c) (first i) x.0 bs x.1 in
        subst (λ (n : ℕ). n < m) (sym (ap edge_of x.2 ∙ edge_at x.0 a)) (below_m x.0 a)

    pub half_once : Once (map edge_of halves)
    half_once = subst Once
        (sym (edges_back within numbers
        (λ n k. edge_at n (tube_among (third_is_left c) (first i) n bs k))))
        (tube_once (third_is_left c) (first i) bs)

    pub facing : (x : ℕ) → x < m → (f x).curve ≡ i
        → Has (within x) halves × (edge_of (within x) ≡ x)
    facing x k e =
        let a = arc.owned_in d bays m E steps is i l bent x k e in
        (half_in numbers x (among_tube (third_is_left c) (first i) x bs a), edge_at x a)

    -- the curve of a half-edge of the tube
    pub half_curve : (h : Half) → Has h halves → (f (edge_of h)).curve ≡ i
    half_curve h k =
        let x = half_from numbers h k in
        let a = tube_among (third_is_left c) (first i) x.0 bs x.1 in
        ap (λ (n : ℕ). (f n).curve) (ap edge_of x.2 ∙ edge_at x.0 a) ∙ its_curve x.0 a
