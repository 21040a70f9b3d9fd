-- A rest from which nothing is left out has the faces of the drawing.
use Rattle.std.proofs.Common.{◌≡◌, inl, inr, ℕ, ◌<◌, Bool, true, false, pos, ◌<ℤ◌, ◌≤ℤ◌, length}
use Rattle.std.proofs.Common.{refl, sym, subst, ap, ◌∙◌}
use Rattle.plane.specs.declared.kinds.Curve.{Curve}
use Rattle.plane.specs.declared.kinds.CurveKind.{CurveKind}
use Rattle.plane.specs.declared.kinds.CurveKind.TheVariants as kind
use Rattle.plane.specs.Rule.CrossedCurves.{IsLost}
use Rattle.plane.specs.Rule.Cuts.{CrossesKind, CrossesOne}
use Rattle.plane.specs.Rule.Curves.{arc, Hits, IsOn}
use Rattle.plane.specs.Rule.HalfArcs.{bow, HitsHalfArc, power}
use Rattle.plane.specs.Rule.LeftOut.{IsClosed, IsRestOf}
use Rattle.plane.specs.Rule.Partition.{IsOff, Joined}
use Rattle.plane.specs.Rule.Places.{Vector, Place, point}
use Rattle.plane.specs.Rule.Plans.{Plan, curve, object}
use Rattle.plane.specs.Rule.Straights.{turn}
use Rattle.plane.proofs.FewerCurves.ClosedFaces.{stays_joined}
use Rattle.plane.proofs.FewerCurves.Paths.{joined_self, joined_through}
use Rattle.plane.proofs.FewerCurves.Rests.{fewer_off}
use Rattle.fault_lists.specs.declared.kinds.SideAt.{SideAt}
use Rattle.fault_lists.specs.FaultLists.{IsBeside}
use Rattle.fault_lists.specs.Sides.{end_on, is_first_kind, side_end}
use Rattle.fault_lists.proofs.FacesOfRest.{ends_off, fewer_crosses, outer_along}
use Rattle.area_search.specs.Faults.{IsEmptySide, straight, half_arc}

-- ---- lost places
-- what is joined to a lost place is lost
lost_along : (d : Plan) (z e : Vector) → Place z → Place e → Joined d z e → IsLost d z → IsLost d e
lost_along d z e Z E j lost = record {
  inner = λ o. lost.inner (outer_along d z e Z E j o);
  alone = λ k l h. lost.alone k l (joined_through d z e (point (object d k)) Z E j h);
}

-- a place of the two, with what holds of both
one_of : (P : Vector → Type 0) (b : Bool) (p q : Vector) → P p → P q → P (end_on b p q)
one_of P true p q a c = a
one_of P false p q a c = c

-- ---- empty sides
-- A segment that crosses the curve, with a lost end on that side.
pub record IsLostBeside (d : Plan) (i : ℕ) (left : Bool) : Type 0 where
  pub there : i < length d.curves
  pub p : Vector
  pub q : Vector
  pub crossing : CrossesOne d i p q
  pub lost : IsLost d (side_end (curve d i) left p q)

pub empty_is_lost : (d : Plan) (i : ℕ) (left : Bool) → IsEmptySide d i left → IsLostBeside d i left
empty_is_lost d i left (straight p q is x lost) =
    let h : CrossesKind (curve d i).kind d i p q × IsLost d (side_end (curve d i) left p q) =
    subst (λ (k : CurveKind). CrossesKind k d i p q
    × IsLost d (end_on (is_first_kind k (curve d i) left) p q)) (sym is.kind) (
      record {
        p_place = x.p_place;
        q_place = x.q_place;
        p_off = x.p_off;
        q_off = x.q_off;
        above = x.left;
        below = x.right;
        hits = x.hits;
        clear = x.clear;
      },
      lost,
    ) in
    record { there = is.there; p = p; q = q; crossing = h.0; lost = h.1 }
empty_is_lost d i left (half_arc p q is x lost) =
    let h : CrossesKind (curve d i).kind d i p q × IsLost d (side_end (curve d i) left p q) =
    subst (λ (k : CurveKind). CrossesKind k d i p q
    × IsLost d (end_on (is_first_kind k (curve d i) left) p q)) (sym is.kind) (x, lost) in
    record { there = is.there; p = p; q = q; crossing = h.0; lost = h.1 }

pub lost_is_empty : (d : Plan) (i : ℕ) (left : Bool) → IsLostBeside d i left → IsEmptySide d i left
lost_is_empty d i left h = by_kind (curve d i).kind refl h.crossing h.lost
  where
    by_kind : (k : CurveKind) → (curve d i).kind ≡ k → CrossesKind k d i h.p h.q
        → IsLost d (end_on (is_first_kind k (curve d i) left) h.p h.q) → IsEmptySide d i left
    by_kind kind.Straight e x lost = straight h.p h.q (record { there = h.there; kind = e })
        (record {
          p_place = x.p_place;
          q_place = x.q_place;
          p_off = x.p_off;
          q_off = x.q_off;
          left = x.above;
          right = x.below;
          hits = x.hits;
          clear = x.clear;
        }) lost
    by_kind kind.HalfArc e x lost = half_arc h.p h.q (record { there = h.there; kind = e }) x lost

-- the lost end is a place off the curves
pub lost_end : (d : Plan) (i : ℕ) (left : Bool) (h : IsLostBeside d i left)
    → Place (side_end (curve d i) left h.p h.q) × IsOff d (side_end (curve d i) left h.p h.q)
lost_end d i left h =
    let (P, Q, p_off, q_off) = ends_off (curve d i).kind d i h.p h.q h.crossing in
    one_of (λ v. Place v × IsOff d v) (is_first_kind (curve d i).kind (curve d i) left) h.p h.q
    (P, p_off) (Q, q_off)

module _ (d r : Plan) (out : ℕ → Bool) (rest : IsRestOf d r out) (kept : (i : ℕ)
    → i < length d.curves → out i ≡ true → ⊥) where
  same : (i k : ℕ) → k < length r.curves → rest.number k ≡ i → curve d i ≡ curve r k
  same i k l e = ap (λ (n : ℕ). curve d n) (sym e) ∙ rest.is k l

  -- all faces are closed
  pub all_closed : (z : Vector) → IsClosed d r out z
  all_closed z i l o q s Q S j off miss hit = kept i l o

  -- each curve of the drawing is one of the rest
  pub number_of : (i : ℕ) → i < length d.curves
      → (k : ℕ) × (k < length r.curves) × (rest.number k ≡ i)
  number_of i l = elim (rest.whole i l) [ inl o ↦ absurd (kept i l o) | inr k ↦ k ]

  whole_off : (z : Vector) → IsOff r z → IsOff d z
  whole_off z off i l on =
      let (k, m, e) = number_of i l in
      off k m (subst (λ (c : Curve). IsOn c z) (same i k m e) on)

  -- what crosses a curve of the rest crosses it in the drawing
  pub whole_crosses : (k : ℕ) (p q : Vector) → k < length r.curves → CrossesOne r k p q
      → CrossesOne d (rest.number k) p q
  whole_crosses k p q l x =
      subst (λ t. CrossesKind t d i p q) (ap (λ (c : Curve). c.kind) e) (by_kind (curve r k).kind x)
    where
      i : ℕ
      i = rest.number k

      e : curve r k ≡ curve d i
      e = sym (rest.is k l)

      other : (j : ℕ) → j < length d.curves → (j ≡ i → ⊥)
          → ((n : ℕ) → n < length r.curves → (n ≡ k → ⊥) → Hits (curve r n) p q → ⊥)
          → Hits (curve d j) p q → ⊥
      other j m ne clear hit =
          let (n, b, s) = number_of j m in
          clear n b (λ a. ne (sym s ∙ ap (λ (c : ℕ). rest.number c) a))
          (subst (λ (c : Curve). Hits c p q) (same j n b s) hit)

      by_kind : (t : CurveKind) → CrossesKind t r k p q → CrossesKind t d i p q
      by_kind kind.Straight y = record {
        p_place = y.p_place;
        q_place = y.q_place;
        p_off = whole_off p y.p_off;
        q_off = whole_off q y.q_off;
        above = subst (λ (c : Curve). pos 0 <ℤ turn (point c.from) (point c.to) p) e y.above;
        below = subst (λ (c : Curve). turn (point c.from) (point c.to) q <ℤ pos 0) e y.below;
        hits = subst (λ (c : Curve). Hits c p q) e y.hits;
        clear = λ j m ne. other j m ne y.clear;
      }
      by_kind kind.HalfArc y = record {
        p_place = y.p_place;
        q_place = y.q_place;
        p_off = whole_off p y.p_off;
        q_off = whole_off q y.q_off;
        p_away = subst (λ (c : Curve). pos 0 ≤ℤ bow (arc c) p) e y.p_away;
        q_away = subst (λ (c : Curve). pos 0 ≤ℤ bow (arc c) q) e y.q_away;
        inside = subst (λ (c : Curve). power (arc c) p <ℤ pos 0) e y.inside;
        outside = subst (λ (c : Curve). pos 0 <ℤ power (arc c) q) e y.outside;
        hits = subst (λ (c : Curve). HitsHalfArc (arc c) p q) e y.hits;
        clear = λ j m ne. other j m ne y.clear;
      }

  -- a side beside which a lost place is, is empty
  pub beside_lost : (s : SideAt) (z : Vector) → Place z → IsBeside d r out rest s z → IsLost d z
      → IsLostBeside d s.curve s.left
  beside_lost s z Z b lost =
      let (P, Q, p_off, q_off) = ends_off (curve r b.k).kind r b.k b.p b.q b.crossing in
      let end = side_end (curve r b.k) s.left b.p b.q in
      let E : Place end = one_of Place (is_first_kind (curve r b.k).kind (curve r b.k) s.left) b.p
      b.q P Q in
      let joined = (stays_joined d r out rest z end Z (all_closed z)).1 b.joined in
      record {
        there = subst (λ i. i < length d.curves) b.is (rest.there b.k b.there);
        p = b.p;
        q = b.q;
        crossing = subst (λ i. CrossesOne d i b.p b.q) b.is
            (whole_crosses b.k b.p b.q b.there b.crossing);
        lost = subst (λ (c : Curve). IsLost d (side_end c s.left b.p b.q))
            (sym (same s.curve b.k b.there b.is)) (lost_along d z end Z E joined lost);
      }

  -- the lost end of a segment that crosses a curve is beside it
  pub lost_beside : (s : SideAt) (h : IsLostBeside d s.curve s.left)
      → IsBeside d r out rest s (side_end (curve d s.curve) s.left h.p h.q)
  lost_beside s h =
      let (k, l, e) = number_of s.curve h.there in
      let end = side_end (curve d s.curve) s.left h.p h.q in
      let (Z, off) = lost_end d s.curve s.left h in
      record {
        k = k;
        there = l;
        is = e;
        p = h.p;
        q = h.q;
        crossing = fewer_crosses d r out rest k h.p h.q l
            (subst (λ i. CrossesOne d i h.p h.q) (sym e) h.crossing);
        joined = subst (λ (c : Curve). Joined r end (side_end c s.left h.p h.q))
            (same s.curve k l e) (joined_self r end Z (fewer_off d r out rest end off));
      }
