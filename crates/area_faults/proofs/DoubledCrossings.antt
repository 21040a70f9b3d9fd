-- A segment that crosses a straight in whole units crosses it in half units.
use Rattle.std.proofs.Common.{◌≡◌, ℕ, ◌<◌, length, pos, ◌*ℤ◌, [], ◌∷◌, refl, arith, sym, subst}
use Rattle.std.proofs.lemmas.Int.{ints}
use Rattle.plane.specs.declared.kinds.Curve.{Curve}
use Rattle.plane.specs.declared.kinds.CurveKind.TheVariants as kind
use Rattle.plane.specs.declared.kinds.Edge.{Edge}
use Rattle.plane.specs.declared.kinds.Point.{Point}
use Rattle.plane.specs.Rule.CrossedCurves.{CrossesCurve}
use Rattle.plane.specs.Rule.Curves.{Hits, HitsStraight}
use Rattle.plane.specs.Rule.Doubled.{IsDoubled, doubled, halved, twice, twice_curve}
use Rattle.plane.specs.Rule.Places.{Vector, Place, point}
use Rattle.plane.specs.Rule.Plans.{Plan, curve}
use Rattle.plane.specs.Rule.Straights.{IsOnStraight, turn}
use Rattle.plane.proofs.Algebra.Ring.{Expr, at, num, minus, times, vars, ring}
use Rattle.plane.proofs.Covers.SamePlace.{on_straight_same}
use Rattle.plane.proofs.FewerCurves.OneFace.{hits_straight, straight_hits}
use Rattle.plane.proofs.HalfUnits.DoubledCurves.{hits_halved}
use Rattle.plane.proofs.HalfUnits.DoubledForms.{halved_on, halved_place, there_and_back}
use Rattle.plane.proofs.HalfUnits.DoubledForms.{turn-halved}
use Rattle.plane.proofs.HalfUnits.DoubledPaths.{doubled_off}
use Rattle.plane.proofs.HalfUnits.HalvedCrossings.{IsHalfEdge}
use Rattle.plane.proofs.Linear.EdgePlaces.{place_point}

-- three numbers twice as great are the same place
turn-there : (a b z : Vector) → turn a b (halved (doubled z)) ≡ pos 2 *ℤ turn a b z
turn-there a b z =
    let D : Expr → Expr = λ n. times (num (pos 2)) n in
    let T : Expr → Expr → Expr → Expr = λ x y n.
    minus (times (minus (times (at 3) (at 2)) (times (at 0) (at 5)))
    (minus (times y (at 2)) (times (at 1) n)))
    (times (minus (times (at 4) (at 2)) (times (at 1) (at 5)))
    (minus (times x (at 2)) (times (at 0) n))) in
    ring (T (D (at 6)) (D (at 7)) (D (at 8))) (D (T (at 6) (at 7) (at 8)))
    (vars (a.x ∷ a.y ∷ a.n ∷ b.x ∷ b.y ∷ b.n ∷ z.x ∷ z.y ∷ z.n ∷ [])) refl

-- a place of a segment, in half units
on_twice : (a b z : Vector) → Place a → Place b → Place z → IsOnStraight a b z
    → IsOnStraight (doubled a) (doubled b) (doubled z)
on_twice a b z A B Z on =
    halved_on a b (doubled z)
    (on_straight_same a b z (halved (doubled z)) A B Z (halved_place (doubled z) Z)
    (there_and_back z) on)

module _ (d e : Plan) (double : IsDoubled d e) (straights : (k : ℕ) → k < length d.curves
    → (curve d k).kind ≡ kind.Straight) where
  module _ (k : ℕ) (l : k < length d.curves) (g E : Edge) (half : IsHalfEdge g E (curve d k))
      (p q : Vector) (x : CrossesCurve d g k p q) where
    turned : (z : Vector)
        → turn (point E.low) (point E.high) z
        ≡ pos 2 *ℤ turn (point g.low) (point g.high) (halved z)
    turned z =
        subst (λ (a : Point). turn (point a) (point E.high) z
        ≡ pos 2 *ℤ turn (point g.low) (point g.high) (halved z)) (sym half.low)
        (subst (λ (b : Point). turn (point (twice g.low)) (point b) z
        ≡ pos 2 *ℤ turn (point g.low) (point g.high) (halved z)) (sym half.high)
        (turn-halved (point g.low) (point g.high) z))

    is : curve e k ≡ twice_curve (curve d k)
    is = double.curves k l

    hit_twice : Hits (curve e k) (doubled p) (doubled q)
    hit_twice =
        let c = curve d k in
        let h = hits_straight c p q (straights k l) x.hits in
        let t : HitsStraight (twice_curve c) (doubled p) (doubled q) = record {
          z = doubled h.z;
          place = h.place;
          of_segment = on_twice p q h.z x.p_place x.q_place h.place h.of_segment;
          of_curve = on_twice (point c.from) (point c.to) h.z (place_point c.from)
              (place_point c.to) h.place h.of_curve;
        } in
        subst (λ (v : Curve). Hits v (doubled p) (doubled q)) (sym is)
        (straight_hits (twice_curve c) (doubled p) (doubled q) (straights k l) t)

    pub doubled_crossing : CrossesCurve e E k (doubled p) (doubled q)
    doubled_crossing =
        let tp = turned (doubled p) in
        let tq = turned (doubled q) in
        let up = turn-there (point g.low) (point g.high) p in
        let uq = turn-there (point g.low) (point g.high) q in
        let a = x.above in
        let b = x.below in
        record {
          p_place = x.p_place;
          q_place = x.q_place;
          p_off = (doubled_off d e double p x.p_place).0 x.p_off;
          q_off = (doubled_off d e double q x.q_place).0 x.q_off;
          above = omega (arith, ints, tp, up, a);
          below = omega (arith, ints, tq, uq, b);
          hits = hit_twice;
          clear = λ j m differ hit.
              let n : j < length d.curves = subst (λ (c : ℕ). j < c) double.count m in
              x.clear j n differ
              (hits_halved (curve d j) p q x.p_place x.q_place
              (subst (λ (c : Curve). Hits c (doubled p) (doubled q)) (double.curves j n) hit));
        }
