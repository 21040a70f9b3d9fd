-- A point on a circle, by its side.
use Rattle.std.proofs.Common.{◌≡◌, ◌↔◌, Bool, true, IsTrue, Some, ℤ, pos, ◌≤ℤ◌, refl, subst}
use Rattle.plane.specs.declared.kinds.Point.{Point}
use Rattle.plane.specs.Rule.HalfArcs.{HalfArc, bow}
use Rattle.plane.specs.Rule.Places.{Vector, point}
use Rattle.arc_predicates.specs.Circles.{IsSideOf, place}
use Rattle.arc_predicates.specs.declared.sides.Side.{Side}
use Rattle.arc_predicates.specs.declared.sides.Side.TheVariants as side
use Rattle.meetings.specs.CurvePairs.{IsOnCircle}

same_place : (p : Point) (x y : ℤ) → x ≡ p.x → y ≡ p.y → place x y (pos 1) ≡ point p
same_place p x y e f = cc

pub away_at : (r : Bool) (h : HalfArc) (p : Point) (x y : ℤ) → x ≡ p.x → y ≡ p.y
    → (IsTrue r ↔ (pos 0 ≤ℤ bow h (place x y (pos 1)))) → IsTrue r ↔ (pos 0 ≤ℤ bow h (point p))
away_at r h p x y e f k =
    subst (λ (z : Vector). IsTrue r ↔ (pos 0 ≤ℤ bow h z)) (same_place p x y e f) k

pub on_circle_at : (s : Side) (h : HalfArc) (p : Point) (x y : ℤ) → x ≡ p.x → y ≡ p.y
    → IsSideOf (Some s) h (place x y (pos 1)) → s ≡ side.On → IsTrue true ↔ IsOnCircle h (point p)
on_circle_at s h p x y e f k q =
    let there = subst (λ (t : Side). IsSideOf (Some t) h (point p)) q
    (subst (IsSideOf (Some s) h) (same_place p x y e f) k) in
    (λ t. record { side = there.0; circle = there.1 }, λ s. refl)
