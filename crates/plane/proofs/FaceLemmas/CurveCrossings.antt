-- A segment crosses a straight as seen from `from` to `to` exactly where it crosses its edge: in
-- the same direction where the low end is
-- `from`, with its ends exchanged where it is `to`.
use Rattle.std.proofs.Common.{◌≡◌, ◌↔◌, ℕ, ◌<◌, ℤ, pos, ◌-ℤ◌, ◌<ℤ◌, [], ◌∷◌, length, refl, arith}
use Rattle.std.proofs.Common.{ap, sym, ◌∙◌, subst}
use Rattle.std.proofs.lemmas.Int.{ints}
use Rattle.plane.specs.declared.kinds.Point.{Point}
use Rattle.plane.specs.declared.kinds.Curve.{Curve}
use Rattle.plane.specs.declared.kinds.CurveKind.{CurveKind}
use Rattle.plane.specs.declared.kinds.CurveKind.TheVariants as kind
use Rattle.plane.specs.Forms.Vectors.{Vector, Place, point, Edge}
use Rattle.plane.specs.Rule.Straights.{turn}
use Rattle.plane.specs.Rule.Curves.{HitsStraight, HitsKind, Hits}
use Rattle.plane.specs.Rule.Plans.{Plan, curve}
use Rattle.plane.specs.Forms.Segments.{AreEdgesOf}
use Rattle.plane.specs.Rule.CrossedCurves.{CrossesCurve}
use Rattle.plane.specs.Rule.CurveCrossings.{Crosses}
use Rattle.plane.proofs.Algebra.Ring.{Expr, at, num, minus, times, vars, ring}
use Rattle.plane.proofs.Linear.Signs.{between_back}
use Rattle.plane.proofs.Linear.Straights.{straight_between, between_straight}

-- ---- the other way round
turn-back : (a b : Point) (z : Vector)
    → turn (point b) (point a) z ≡ pos 0 -ℤ turn (point a) (point b) z
turn-back a b z =
    let AX = at 0 in
    let AY = at 1 in
    let BX = at 2 in let BY = at 3 in let X = at 4 in let Y = at 5 in let N = at 6 in
    let one = num (pos 1) in
    let D : Expr → Expr → Expr → Expr → Expr = λ a m b n. minus (times a n) (times b m) in
    let TURN : Expr → Expr → Expr → Expr
    → Expr = λ ax ay bx by. minus (times (D bx one ax one) (D Y N ay one))
    (times (D by one ay one) (D X N ax one)) in
    ring (TURN BX BY AX AY) (minus (num (pos 0)) (TURN AX AY BX BY))
    (vars (a.x ∷ a.y ∷ b.x ∷ b.y ∷ z.x ∷ z.y ∷ z.n ∷ [])) refl

hits_back : (c : Curve) (p q : Vector) → c.kind ≡ kind.Straight → Place p → Place q → Hits c p q
    → Hits c q p
hits_back c p q k P Q h =
    let s = subst (λ (k : CurveKind). HitsKind k c p q) k h in
    let there : HitsStraight c q p = record {
      z = s.z;
      place = s.place;
      of_segment =
          between_straight q p s.z Q P s.place
          (between_back s.z p q (straight_between p q s.z P Q s.place s.of_segment));
      of_curve = s.of_curve;
    } in
    subst (λ (k : CurveKind). HitsKind k c q p) (sym k) there

-- ---- the two ties
module _ (d : Plan) (E : ℕ → Edge) (i : ℕ) where
  pub crosses_same : (p q : Vector) → (E i).low ≡ (curve d i).from → (E i).high ≡ (curve d i).to
      → Crosses d i p q ↔ CrossesCurve d (E i) i p q
  crosses_same p q low high =
      let t : (z : Vector) → turn (point (E i).low) (point (E i).high) z
      ≡ turn (point (curve d i).from) (point (curve d i).to) z =
      λ z. ap (λ (x : Point). turn (point x) (point (E i).high) z) low
      ∙ ap (λ (x : Point). turn (point (curve d i).from) (point x) z) high in (
        (λ c. record {
          p_place = c.p_place;
          q_place = c.q_place;
          p_off = c.p_off;
          q_off = c.q_off;
          above = subst (λ (z : ℤ). pos 0 <ℤ z) (sym (t p)) c.left;
          below = subst (λ (z : ℤ). z <ℤ pos 0) (sym (t q)) c.right;
          hits = c.hits;
          clear = c.clear;
        }),
        (λ c. record {
          p_place = c.p_place;
          q_place = c.q_place;
          p_off = c.p_off;
          q_off = c.q_off;
          left = subst (λ (z : ℤ). pos 0 <ℤ z) (t p) c.above;
          right = subst (λ (z : ℤ). z <ℤ pos 0) (t q) c.below;
          hits = c.hits;
          clear = c.clear;
        }),
      )

  pub crosses_back : (p q : Vector) → AreEdgesOf E d → i < length d.curves
      → (E i).low ≡ (curve d i).to → (E i).high ≡ (curve d i).from
      → Crosses d i p q ↔ CrossesCurve d (E i) i q p
  crosses_back p q all l low high =
      let t : (z : Vector) → turn (point (E i).low) (point (E i).high) z
      ≡ pos 0 -ℤ turn (point (curve d i).from) (point (curve d i).to) z =
      λ z. ap (λ (x : Point). turn (point x) (point (E i).high) z) low
      ∙ ap (λ (x : Point). turn (point (curve d i).to) (point x) z) high
      ∙ turn-back (curve d i).from (curve d i).to z in (
        (λ c.
            let a = t q in
            let b = t p in
            let x = c.left in
            let y = c.right in
            record {
              p_place = c.q_place;
              q_place = c.p_place;
              p_off = c.q_off;
              q_off = c.p_off;
              above = omega (arith, ints, a, y);
              below = omega (arith, ints, b, x);
              hits = hits_back (curve d i) p q (all.straight i l) c.p_place c.q_place c.hits;
              clear = λ j k n h. c.clear j k n
                  (hits_back (curve d j) q p (all.straight j k) c.q_place c.p_place h);
            }),
        (λ c.
            let a = t q in
            let b = t p in
            let x = c.above in
            let y = c.below in
            record {
              p_place = c.q_place;
              q_place = c.p_place;
              p_off = c.q_off;
              q_off = c.p_off;
              left = omega (arith, ints, b, y);
              right = omega (arith, ints, a, x);
              hits = hits_back (curve d i) q p (all.straight i l) c.p_place c.q_place c.hits;
              clear = λ j k n h. c.clear j k n
                  (hits_back (curve d j) p q (all.straight j k) c.q_place c.p_place h);
            }),
      )
