-- A straight and the edge of its two ends have the same places, so edges are bad exactly where
-- their straights meet badly.
use Rattle.std.proofs.Common.{◌≡◌, ◌↔◌, ◌⊎◌, inl, inr, sym, ◌∙◌, subst}
use Rattle.plane.specs.declared.kinds.Point.{Point}
use Rattle.plane.specs.declared.kinds.Curve.{Curve}
use Rattle.plane.specs.declared.kinds.CurveKind.{CurveKind}
use Rattle.plane.specs.declared.kinds.CurveKind.TheVariants as kind
use Rattle.plane.specs.Forms.Vectors.{Vector, Place, Same, point, Edge}
use Rattle.plane.specs.Rule.Straights.{IsOnStraight}
use Rattle.plane.specs.Rule.Curves.{IsOnKind, IsOn, IsControl}
use Rattle.plane.specs.Forms.Segments.{IsEdgeOf}
use Rattle.plane.specs.Forms.Meets as edges
use Rattle.plane.specs.Rule.BadPairs.{StraightsMeet, IsEndOf}
use Rattle.plane.proofs.Linear.EdgePlaces.{place_point}
use Rattle.plane.proofs.Covers.SamePlace.{same_sym, same_trans}
use Rattle.plane.proofs.Linear.Signs.{between_back}
use Rattle.plane.proofs.Linear.Straights.{straight_between, between_straight}
use Rattle.plane.proofs.Covers.NotApart.{control_end, one_point}

-- ---- a straight from its other end
turned : (a b : Point) (z : Vector) → Place z → IsOnStraight (point a) (point b) z
    → IsOnStraight (point b) (point a) z
turned a b z Z on =
    let A = place_point a in
    let B = place_point b in
    between_straight (point b) (point a) z B A Z
    (between_back z (point a) (point b) (straight_between (point a) (point b) z A B Z on))

along : (a b p q : Point) (z : Vector) → a ≡ p → b ≡ q → IsOnStraight (point a) (point b) z
    → IsOnStraight (point p) (point q) z
along a b p q z e f on =
    subst (λ (y : Point). IsOnStraight (point p) (point y) z) f
    (subst (λ (x : Point). IsOnStraight (point x) (point b) z) e on)

edge_on : (e : Edge) (c : Curve) (z : Vector) → IsEdgeOf e c → Place z → edges.OnStraight e z
    → IsOnStraight (point c.from) (point c.to) z
edge_on e c z (inl h) Z on = along e.low e.high c.from c.to z h.0 h.1 on
edge_on e c z (inr h) Z on = turned c.to c.from z Z (along e.low e.high c.to c.from z h.0 h.1 on)

pub on_edge : (e : Edge) (c : Curve) (z : Vector) → IsEdgeOf e c → Place z
    → IsOnStraight (point c.from) (point c.to) z → edges.OnStraight e z
on_edge e c z (inl h) Z on = along c.from c.to e.low e.high z (sym h.0) (sym h.1) on
on_edge e c z (inr h) Z on =
    along c.to c.from e.low e.high z (sym h.0) (sym h.1) (turned c.from c.to z Z on)

pub on_edge_is : (e : Edge) (c : Curve) (z : Vector) → IsEdgeOf e c → c.kind ≡ kind.Straight
    → Place z → edges.OnStraight e z ↔ IsOn c z
on_edge_is e c z h k Z = (
  (λ on. subst (λ (k : CurveKind). IsOnKind k c z) (sym k) (edge_on e c z h Z on)),
  (λ on. on_edge e c z h Z (subst (λ (k : CurveKind). IsOnKind k c z) k on)),
)

-- ---- ends
end_of_edge : (e : Edge) (c : Curve) (p : Point) → IsEdgeOf e c → IsEndOf c p → edges.IsEnd e p
end_of_edge e c p (inl h) (inl k) = inl (h.0 ∙ k)
end_of_edge e c p (inl h) (inr k) = inr (h.1 ∙ k)
end_of_edge e c p (inr h) (inl k) = inr (h.1 ∙ k)
end_of_edge e c p (inr h) (inr k) = inl (h.0 ∙ k)

control_of : (c : Curve) (p : Point) (z : Vector) → Same z (point p) → (c.from ≡ p) ⊎ (c.to ≡ p)
    → IsControl c z
control_of c p z s (inl k) = inl (subst (λ (q : Point). Same z (point q)) (sym k) s)
control_of c p z s (inr k) = inr (subst (λ (q : Point). Same z (point q)) (sym k) s)

edge_end : (e : Edge) (c : Curve) (p : Point) → IsEdgeOf e c → edges.IsEnd e p → IsEndOf c p
edge_end e c p (inl h) (inl k) = inl (sym h.0 ∙ k)
edge_end e c p (inl h) (inr k) = inr (sym h.1 ∙ k)
edge_end e c p (inr h) (inl k) = inr (sym h.0 ∙ k)
edge_end e c p (inr h) (inr k) = inl (sym h.1 ∙ k)

common_from : (s t : Edge) (c d : Curve) (z : Vector) → IsEdgeOf s c → IsEdgeOf t d → Place z
    → IsControl c z × IsControl d z → edges.CommonEnd s t z
common_from s t c d z hs ht Z both =
    let (p, of_c, zp) = control_end c z both.0 in
    let (q, of_d, zq) = control_end d z both.1 in
    let e = one_point p q (same_trans (point p) z (point q) Z (same_sym z (point p) zp) zq) in
    record {
      at = p;
      of_first = end_of_edge s c p hs of_c;
      of_second = end_of_edge t d p ht (subst (λ (r : Point). IsEndOf d r) (sym e) of_d);
      is = zp;
    }

-- a common end of two edges is a control point of both straights
pub controls_from : (s t : Edge) (c d : Curve) (z : Vector) → IsEdgeOf s c → IsEdgeOf t d
    → edges.CommonEnd s t z → IsControl c z × IsControl d z
controls_from s t c d z hs ht e = (
  control_of c e.at z e.is (edge_end s c e.at hs e.of_first),
  control_of d e.at z e.is (edge_end t d e.at ht e.of_second),
)

pub bad_edges_is : (s t : Edge) (c d : Curve) → IsEdgeOf s c → IsEdgeOf t d → c.kind ≡ kind.Straight
    → d.kind ≡ kind.Straight → edges.Bad s t ↔ StraightsMeet c d
bad_edges_is s t c d hs ht kc kd = (
  (λ b. record {
    first = kc;
    second = kd;
    z = b.at;
    place = b.place;
    on_first = (on_edge_is s c b.at hs kc b.place).0 b.of_first;
    on_second = (on_edge_is t d b.at ht kd b.place).0 b.of_second;
    no_control = λ both. b.no_end (common_from s t c d b.at hs ht b.place both);
  }),
  (λ m. record {
    at = m.z;
    place = m.place;
    of_first = (on_edge_is s c m.z hs kc m.place).1 m.on_first;
    of_second = (on_edge_is t d m.z ht kd m.place).1 m.on_second;
    no_end = λ e. m.no_control (controls_from s t c d m.z hs ht e);
  }),
)
