-- Places near a half arc: a place has a side where an equal place has one, and points on a half arc
-- with a tube have sides.
use Rattle.std.proofs.Common.{◌≡◌, ◌^◌, ℤ, pos, ◌+ℤ◌, ◌-ℤ◌, ◌*ℤ◌, ◌<ℤ◌, List, [], ◌∷◌, refl, arith}
use Rattle.std.proofs.lemmas.Int.{ints}
use Rattle.plane.proofs.Algebra.Ring.{at, minus, plus, ring, times, vars}
use Rattle.plane.specs.Lists.{Each}
use Rattle.plane.specs.Rule.Curves.{IsOn, arc}
use Rattle.plane.specs.Rule.HalfArcs.{HalfArc, HasCircle, HasSide}
use Rattle.plane.specs.Rule.Places.{Place, Same, Vector, point}
use Rattle.plane.specs.Rule.Turns.{AreNear}
use Rattle.plane.specs.Tubes.Bays.{Bay, IsTube}
use Rattle.plane.specs.declared.kinds.Curve.{Curve}
use Rattle.plane.specs.declared.kinds.CurveKind.TheVariants as kind
use Rattle.plane.specs.declared.kinds.Point.{Point}
use Rattle.area_search.proofs.PlaneLaws.{hits_alone, positive_factor, same_refl, segment_same}
use Rattle.area_search.proofs.PlaneLaws.{triangle_places, triangles_cover, tube_has_sides}

-- (x - f) n < k n leaves x - f < k, and so for f - x
below : (n x f k z : ℤ) → pos 0 <ℤ n → z ≡ x *ℤ n → (z -ℤ (f *ℤ n)) <ℤ (k *ℤ n) → (x -ℤ f) <ℤ k
below n x f k z p e l =
    let q = ring (times (at 0) (plus (minus (at 3) (at 1)) (at 2)))
    (minus (times (at 3) (at 0)) (minus (times (at 1) (at 0)) (times (at 2) (at 0))))
    (vars (n ∷ x ∷ f ∷ k ∷ [])) refl in
    let r = positive_factor n ((k -ℤ x) +ℤ f) p (omega (arith, ints, q, e, l)) in
    omega (arith, ints, r)

above : (n x f k z : ℤ) → pos 0 <ℤ n → z ≡ x *ℤ n → (pos 0 -ℤ (z -ℤ (f *ℤ n))) <ℤ (k *ℤ n)
    → (pos 0 -ℤ (x -ℤ f)) <ℤ k
above n x f k z p e l =
    let q = ring (times (at 0) (minus (plus (at 3) (at 1)) (at 2)))
    (plus (times (at 3) (at 0)) (minus (times (at 1) (at 0)) (times (at 2) (at 0))))
    (vars (n ∷ x ∷ f ∷ k ∷ [])) refl in
    let r = positive_factor n ((k +ℤ x) -ℤ f) p (omega (arith, ints, q, e, l)) in
    omega (arith, ints, r)

one : (x : ℤ) → x *ℤ pos 1 ≡ x
one x = omega (arith, ints)

pub same_side : (h : HalfArc) (z : Vector) (v : Point) → Place z → Same z (point v) → HasSide h z
    → HasSide h (point v)
same_side h z v p e s =
    let ex : z.x ≡ v.x *ℤ z.n = (let a = e.x in omega (arith, ints, a)) in
    let ey : z.y ≡ v.y *ℤ z.n = (let a = e.y in omega (arith, ints, a)) in
    let r = below z.n v.x h.from.x (pos (2 ^ 28)) z.x p ex s.right in
    let l = above z.n v.x h.from.x (pos (2 ^ 28)) z.x p ex s.left in
    let a = below z.n v.y h.from.y (pos (2 ^ 28)) z.y p ey s.above in
    let b = above z.n v.y h.from.y (pos (2 ^ 28)) z.y p ey s.below in
    record {
      circle = s.circle;
      right = omega (arith, ints, r);
      left = omega (arith, ints, l);
      above = omega (arith, ints, a);
      below = omega (arith, ints, b);
    }

pub arc_points_have_sides : (c : Curve) (bs : List Bay) (v : Point) → c.kind ≡ kind.HalfArc
    → HasCircle (arc c) → IsTube (arc c) bs
    → Each (λ (b : Bay). AreNear (2 ^ 28) (arc c).from b.outer
    × AreNear (2 ^ 28) (arc c).from b.inner) bs → IsOn c (point v) → HasSide (arc c) (point v)
arc_points_have_sides c bs v e circle tube near on =
    let P : Place (point v) = omega (arith, ints) in
    let h = triangles_cover c bs e tube (point v) (point v) P P ((hits_alone c (point v) P).1 on) in
    same_side (arc c) h.0 v h.1
    (segment_same (point v) (point v) h.0 P P h.1 (same_refl (point v)) h.2)
    (tube_has_sides (arc c) bs h.0 circle near h.1 ((triangle_places c.from bs h.0).0 h.3))

pub near_from : (h : HalfArc) (v : Point) → HasSide h (point v) → AreNear (2 ^ 32) h.from v
near_from h v s =
    let r = s.right in
    let l = s.left in
    let a = s.above in
    let b = s.below in
    record {
      x = record { above = omega (arith, ints, r, l); below = omega (arith, ints, r, l) };
      y = record { above = omega (arith, ints, a, b); below = omega (arith, ints, a, b) };
    }
