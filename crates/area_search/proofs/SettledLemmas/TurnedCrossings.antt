-- A segment that crosses a curve, the other way round.
use Rattle.std.proofs.Common.{◌≡◌, ◌↔◌, ℕ, pos, ◌-ℤ◌, [], ◌∷◌, refl, arith, ap, ◌∙◌}
use Rattle.std.proofs.lemmas.Int.{ints}
use Rattle.plane.proofs.Algebra.Ring.{Expr, at, num, minus, times, vars, ring}
use Rattle.plane.specs.Rule.CrossedCurves.{CrossesCurve}
use Rattle.plane.specs.Rule.CurveCrossings.{Crosses}
use Rattle.plane.specs.Rule.Curves.{Hits, HitsKind}
use Rattle.plane.specs.Rule.Places.{Place, Vector, point}
use Rattle.plane.specs.Rule.Plans.{Plan, curve}
use Rattle.plane.specs.Rule.Straights.{IsOnStraight, turn}
use Rattle.plane.specs.declared.kinds.Curve.{Curve}
use Rattle.plane.specs.declared.kinds.CurveKind.{CurveKind}
use Rattle.plane.specs.declared.kinds.CurveKind.TheVariants as kind
use Rattle.plane.specs.declared.kinds.Edge.{Edge}
use Rattle.plane.specs.declared.kinds.Point.{Point}
use Rattle.area_search.proofs.PlaneLaws.{between_back, between_straight, crosses_same}
use Rattle.area_search.proofs.PlaneLaws.{straight_between}

segment_back : (p q z : Vector) → Place p → Place q → Place z → IsOnStraight p q z
    → IsOnStraight q p z
segment_back p q z P Q Z h =
    between_straight q p z Q P Z (between_back z p q (straight_between p q z P Q Z h))

hits_kind_back : (k : CurveKind) (c : Curve) (p q : Vector) → Place p → Place q → HitsKind k c p q
    → HitsKind k c q p
hits_kind_back kind.Straight c p q P Q h =
    record {
      z = h.z;
      place = h.place;
      of_segment = segment_back p q h.z P Q h.place h.of_segment;
      of_curve = h.of_curve;
    }
hits_kind_back kind.HalfArc c p q P Q h = record {
  u = h.u;
  v = h.v;
  u_place = h.u_place;
  v_place = h.v_place;
  u_of_segment = segment_back p q h.u P Q h.u_place h.u_of_segment;
  v_of_segment = segment_back p q h.v P Q h.v_place h.v_of_segment;
  u_away = h.u_away;
  v_away = h.v_away;
  u_not_outside = h.u_not_outside;
  v_not_inside = h.v_not_inside;
}

hits_back : (c : Curve) (p q : Vector) → Place p → Place q → Hits c p q → Hits c q p
hits_back c = hits_kind_back c.kind c

turn-back : (a b : Point) (z : Vector)
    → turn (point b) (point a) z ≡ pos 0 -ℤ turn (point a) (point b) z
turn-back a b z =
    let AX = at 0 in
    let AY = at 1 in
    let BX = at 2 in let BY = at 3 in let X = at 4 in let Y = at 5 in let N = at 6 in
    let one = num (pos 1) in
    let D : Expr → Expr → Expr → Expr → Expr = λ a m b n. minus (times a n) (times b m) in
    let TURN : Expr → Expr → Expr → Expr
    → Expr = λ ax ay bx by. minus (times (D bx one ax one) (D Y N ay one))
    (times (D by one ay one) (D X N ax one)) in
    ring (TURN BX BY AX AY) (minus (num (pos 0)) (TURN AX AY BX BY))
    (vars (a.x ∷ a.y ∷ b.x ∷ b.y ∷ z.x ∷ z.y ∷ z.n ∷ [])) refl

-- of an edge whose low end is `from`, and of one whose low end is `to`
module _ (d : Plan) (e : Edge) (i : ℕ) (p q : Vector) where
  pub crosses_forth : e.low ≡ (curve d i).from → e.high ≡ (curve d i).to
      → Crosses d i p q ↔ CrossesCurve d e i p q
  crosses_forth low high = crosses_same d (λ j. e) i p q low high

  pub crosses_turned : e.low ≡ (curve d i).to → e.high ≡ (curve d i).from
      → Crosses d i p q ↔ CrossesCurve d e i q p
  crosses_turned low high =
      let t : (z : Vector) → turn (point e.low) (point e.high) z
      ≡ pos 0 -ℤ turn (point (curve d i).from) (point (curve d i).to) z =
      λ z. ap (λ (x : Point). turn (point x) (point e.high) z) low
      ∙ ap (λ (x : Point). turn (point (curve d i).to) (point x) z) high
      ∙ turn-back (curve d i).from (curve d i).to z in (
        (λ c.
            let a = t q in
            let b = t p in
            let x = c.left in
            let y = c.right in
            record {
              p_place = c.q_place;
              q_place = c.p_place;
              p_off = c.q_off;
              q_off = c.p_off;
              above = omega (arith, ints, a, y);
              below = omega (arith, ints, b, x);
              hits = hits_back (curve d i) p q c.p_place c.q_place c.hits;
              clear = λ j k n h. c.clear j k n (hits_back (curve d j) q p c.q_place c.p_place h);
            }),
        (λ c.
            let a = t q in
            let b = t p in
            let x = c.above in
            let y = c.below in
            record {
              p_place = c.q_place;
              q_place = c.p_place;
              p_off = c.q_off;
              q_off = c.p_off;
              left = omega (arith, ints, b, y);
              right = omega (arith, ints, a, x);
              hits = hits_back (curve d i) q p c.p_place c.q_place c.hits;
              clear = λ j k n h. c.clear j k n (hits_back (curve d j) p q c.q_place c.p_place h);
            }),
      )
