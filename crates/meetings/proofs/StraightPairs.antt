-- Two curves of a drawing that are bad: two straights by the edges of their ends.
use Rattle.std.proofs.Common.{◌≡◌, ◌↔◌, inl, inr, ℕ, zero, suc, ◌<◌, List, [], ◌∷◌, length, get_or}
use Rattle.std.proofs.Common.{arith, Bool, IsTrue, false, refl, sym, ◌∙◌, subst}
use Rattle.plane.specs.declared.kinds.Curve.{Curve}
use Rattle.plane.specs.declared.kinds.CurveKind.{CurveKind}
use Rattle.plane.specs.declared.kinds.CurveKind.TheVariants as kind
use Rattle.plane.specs.declared.kinds.Edge.{Edge}
use Rattle.plane.specs.declared.kinds.Point.{Point}
use Rattle.plane.specs.Forms.Meets.{Bad}
use Rattle.plane.specs.Forms.Segments.{IsEdgeOf}
use Rattle.plane.specs.Rule.BadPairs.{AreBad, IsBadPair, StraightsMeet, straights_meet, end_meets}
use Rattle.plane.specs.Rule.BadPairs.{crossed, one_arc}
use Rattle.plane.specs.Rule.Plans.{Plan, curve}
use Rattle.plane.specs.Rule.Windows.{IsDrawn, IsInside}
use Rattle.straight_predicates.specs.Meetings.{EdgesAreClose}
use Rattle.straight_predicates.proofs.WindowEdges.{window_close}
use Rattle.meetings.specs.CurvePairs.{AreBothStraight, HaveHalfArc}
use Rattle.meetings.specs.PlacedCurves.{ArePlaced}
use Rattle.meetings.proofs.BadCurves.{not_half_arc}
use Rattle.meetings.proofs.Choices.{clash}

-- ---- kinds
pub both_straight : (c d : Curve) (q : Bool) → (IsTrue q ↔ HaveHalfArc c d) → q ≡ false
    → AreBothStraight c d
both_straight c d q h f = (by c.kind (λ e. inl e), by d.kind (λ e. inr e))
  where
    by : (k : CurveKind) → (k ≡ kind.HalfArc → HaveHalfArc c d) → k ≡ kind.Straight
    by kind.Straight g = refl
    by kind.HalfArc g = clash (sym f ∙ h.1 (g refl))

-- ---- the edges
both_inside : (low high : Point) (e : Edge) (c : Curve) → IsDrawn low high c → IsEdgeOf e c
    → IsInside low high e.low × IsInside low high e.high
both_inside low high e c d (inl q) =
    (subst (IsInside low high) (sym q.0) d.from, subst (IsInside low high) (sym q.1) d.to)
both_inside low high e c d (inr q) =
    (subst (IsInside low high) (sym q.0) d.to, subst (IsInside low high) (sym q.1) d.from)

module _ (c d : Curve) (s t : Edge) (of_first : IsEdgeOf s c) (of_second : IsEdgeOf t d) where
  pub edges_close : ArePlaced c d → EdgesAreClose s t
  edges_close a =
      let p = both_inside a.low a.high s c a.first of_first in
      let q = both_inside a.low a.high t d a.second of_second in
      window_close a.low a.high s t a.narrow p.0 p.1 q.0 q.1

  pub straights_bad : (r : Bool) → AreBothStraight c d → (Bad s t ↔ StraightsMeet c d)
      → (IsTrue r ↔ Bad s t) → IsTrue r ↔ AreBad c d
  straights_bad r k e h = (λ y. straights_meet (e.0 (h.0 y)), λ b. h.1 (e.1 (by b)))
    where
      by : AreBad c d → StraightsMeet c d
      by (straights_meet m) = m
      by (end_meets m) =
          elim m.half_arc [
            | inl q ↦ absurd (not_half_arc c k.0 q)
            | inr q ↦ absurd (not_half_arc d k.1 q)
          ]
      by (crossed (inl m)) = absurd (not_half_arc d k.1 m.half_arc)
      by (crossed (inr m)) = absurd (not_half_arc c k.0 m.half_arc)
      by (one_arc m) = absurd (not_half_arc c k.0 m.first)

-- ---- by number
pub pair_bad : (d : Plan) (i j : ℕ) (c e x y : Curve) (r : Bool) → i < j → j < length d.curves
    → c ≡ get_or d.curves i x → e ≡ get_or d.curves j y → (IsTrue r ↔ AreBad c e)
    → IsTrue r ↔ IsBadPair d i j
pair_bad d i j c e x y r order there f g h =
    let p = f ∙ same d.curves i x _ (omega (arith, order, there)) in
    let q = g ∙ same d.curves j y _ there in
    let k = subst (λ (z : Curve). IsTrue r ↔ AreBad (curve d i) z) q
    (subst (λ (z : Curve). IsTrue r ↔ AreBad z e) p h) in
    ((λ t. record { order = order; there = there; bad = k.0 t }), (λ b. k.1 b.bad))
  where
    same : (cs : List Curve) (i : ℕ) (x y : Curve) → i < length cs → get_or cs i x ≡ get_or cs i y
    same [] i x y l = absurd (omega (arith, l))
    same (c ∷ cs) zero x y l = refl
    same (c ∷ cs) (suc i) x y l = same cs i x y (omega (arith, l))
