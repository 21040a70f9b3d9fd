-- The numbers of a circle from its points seen from the first one.
use Rattle.std.proofs.Common.{◌≡◌, ◌↔◌, ◌^◌, ℤ, ◌+ℤ◌, ◌*ℤ◌, ◌-ℤ◌, arith, ap, sym, ◌∙◌, to_z, of_z}
use Rattle.std.proofs.Common.{to_z-of_z, FitsSigned}
use Rattle.std.specs.Int.{w128}
use Rattle.std.proofs.lemmas.Int.{ints}
use Rattle.plane.specs.Numbers.{IsWithin}
use Rattle.plane.specs.declared.kinds.Point.{Point}
use Rattle.plane.specs.Rule.HalfArcs.{HasCircle, bend, circle_x, circle_y}
use Rattle.plane.specs.Rule.Turns.{AreNear}
use Rattle.plane.proofs.Algebra.Bounds.{within_product, within_sum}
use Rattle.arc_predicates.specs.Circles.{through}
use Rattle.arc_predicates.proofs.Sums.{within_by}

-- the other two points, seen from s
pub record AreSeen (s m e : Point) (wide tall third_x third_y : ℤ) : Type 0 where
  pub mx : wide ≡ m.x -ℤ s.x
  pub my : tall ≡ m.y -ℤ s.y
  pub ex : third_x ≡ e.x -ℤ s.x
  pub ey : third_y ≡ e.y -ℤ s.y

pub turn_is : (s m e : Point) (mx my ex ey d : ℤ) → AreSeen s m e mx my ex ey
    → d ≡ (mx *ℤ ey) -ℤ (my *ℤ ex) → d ≡ bend (through s m e)
unfolding bend
turn_is s m e mx my ex ey d seen q =
    let a = seen.mx in let b = seen.my in let f = seen.ex in let g = seen.ey in cc

pub centre_x_is : (s m e : Point) (mx my ex ey mm ee a : ℤ) → AreSeen s m e mx my ex ey
    → mm ≡ (mx *ℤ mx) +ℤ (my *ℤ my) → ee ≡ (ex *ℤ ex) +ℤ (ey *ℤ ey)
    → a ≡ (mm *ℤ ey) -ℤ (ee *ℤ my) → a ≡ circle_x (through s m e)
unfolding circle_x
centre_x_is s m e mx my ex ey mm ee a seen p q r =
    let t = seen.mx in let u = seen.my in let v = seen.ex in let w = seen.ey in cc

pub centre_y_is : (s m e : Point) (mx my ex ey mm ee b : ℤ) → AreSeen s m e mx my ex ey
    → mm ≡ (mx *ℤ mx) +ℤ (my *ℤ my) → ee ≡ (ex *ℤ ex) +ℤ (ey *ℤ ey)
    → b ≡ (mx *ℤ ee) -ℤ (ex *ℤ mm) → b ≡ circle_y (through s m e)
unfolding circle_y
centre_y_is s m e mx my ex ey mm ee b seen p q r =
    let t = seen.mx in let u = seen.my in let v = seen.ex in let w = seen.ey in cc

pub no_circle : (s m e : Point) (d : ℤ) → d ≡ bend (through s m e) → FitsSigned w128 d
    → of_z w128 d ≡ 0 → HasCircle (through s m e) → ⊥
no_circle s m e d q f z h = h.bent (sym q ∙ sym (to_z-of_z f) ∙ ap (to_z w128) z)

pub squares_within : (x y r : ℤ) → IsWithin (2 ^ 41) x → IsWithin (2 ^ 41) y
    → r ≡ (x *ℤ x) +ℤ (y *ℤ y) → IsWithin (2 ^ 83) r
squares_within x y r h k e =
    within_by (2 ^ 83) r _ e
    (within_sum (2 ^ 82) (2 ^ 82) _ _ (within_product (2 ^ 41) (2 ^ 41) x x h h)
    (within_product (2 ^ 41) (2 ^ 41) y y k k))

pub near_close : (p q : Point) → AreNear (2 ^ 26) p q → AreNear (2 ^ 41) p q
near_close p q h = record {
  x = record { above = omega (arith, ints, h.x.above); below = omega (arith, ints, h.x.below) };
  y = record { above = omega (arith, ints, h.y.above); below = omega (arith, ints, h.y.below) };
}

pub near_by : (p q : Point) (x y : ℤ) → x ≡ q.x -ℤ p.x → y ≡ q.y -ℤ p.y
    → (IsWithin (2 ^ 26) x × IsWithin (2 ^ 26) y) ↔ AreNear (2 ^ 26) p q
near_by p q x y e f = (
  (λ h. record {
    x = record {
      above = omega (arith, ints, e, h.0.low);
      below = omega (arith, ints, e, h.0.high);
    };
    y = record {
      above = omega (arith, ints, f, h.1.low);
      below = omega (arith, ints, f, h.1.high);
    };
  }),
  (λ h. (
    record { low = omega (arith, ints, e, h.x.above); high = omega (arith, ints, e, h.x.below) },
    record { low = omega (arith, ints, f, h.y.above); high = omega (arith, ints, f, h.y.below) },
  )),
)
