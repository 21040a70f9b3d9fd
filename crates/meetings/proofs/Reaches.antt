-- Boxes that hold a curve, from what their sides go beyond.
use Rattle.std.proofs.Common.{◌≡◌, ◌^◌, [], ◌∷◌, ℤ, pos, ◌+ℤ◌, ◌-ℤ◌, ◌*ℤ◌, ◌≤ℤ◌, FitsSigned, refl}
use Rattle.std.proofs.Common.{ap, sym, ◌∙◌, subst, arith}
use Rattle.std.proofs.lemmas.Int.{ints}
use Rattle.std.specs.Int.{w128}
use borrow.Author.Differences.{fits_in}
use Rattle.plane.specs.declared.kinds.Point.{Point}
use Rattle.plane.specs.declared.kinds.Curve.{Curve}
use Rattle.plane.specs.Forms.Arcs.{facing}
use Rattle.plane.specs.Forms.Boxes.{Box, GoesBeyond, InBox}
use Rattle.plane.specs.Numbers.{IsWithin}
use Rattle.plane.specs.Rule.Curves.{arc}
use Rattle.plane.specs.Rule.HalfArcs.{HalfArc, HasCircle}
use Rattle.plane.specs.Rule.Places.{point}
use Rattle.plane.specs.Rule.Windows.{IsInside, IsShort}
use Rattle.plane.proofs.Algebra.Ring.{at, plus, minus, times, vars, ring}

pub same_products : (a b x y : ℤ) → a ≡ x → b ≡ y → (a *ℤ b) ≡ (x *ℤ y)
same_products a b x y e f = ap (λ (z : ℤ). z *ℤ b) e ∙ ap (λ (z : ℤ). x *ℤ z) f

pub facing_is : (c : Curve) (x y : ℤ) → x ≡ (c.third.x -ℤ c.from.x) *ℤ (c.third.x -ℤ c.to.x)
    → y ≡ (c.third.y -ℤ c.from.y) *ℤ (c.third.y -ℤ c.to.y) → facing (arc c) ≡ x +ℤ y
unfolding facing
facing_is c x y e f =
    let FX = at 0 in
    let FY = at 1 in let TX = at 2 in let TY = at 3 in let X = at 4 in let Y = at 5 in
    let r = ring
    (plus (times (minus X FX) (minus (minus X FX) (minus TX FX)))
    (times (minus Y FY) (minus (minus Y FY) (minus TY FY))))
    (plus (times (minus X FX) (minus X TX)) (times (minus Y FY) (minus Y TY)))
    (vars (c.from.x ∷ c.from.y ∷ c.to.x ∷ c.to.y ∷ c.third.x ∷ c.third.y ∷ [])) refl in
    r ∙ ap (λ (z : ℤ). z +ℤ ((c.third.y -ℤ c.from.y) *ℤ (c.third.y -ℤ c.to.y))) (sym e)
    ∙ ap (λ (z : ℤ). x +ℤ z) (sym f)

times_one : (a : ℤ) → (a *ℤ pos 1) ≡ a
times_one a = omega (arith, ints)

below : (a x p : ℤ) → pos 0 ≤ℤ x → (a +ℤ x) ≤ℤ p → (a *ℤ pos 1) ≤ℤ p
below a x p h k = let e = times_one a in omega (arith, ints, e, h, k)

above : (a x p : ℤ) → pos 0 ≤ℤ x → (p +ℤ x) ≤ℤ a → p ≤ℤ (a *ℤ pos 1)
above a x p h k = let e = times_one a in omega (arith, ints, e, h, k)

pub beyond_holds : (b : Box) (p : Point) → GoesBeyond p (pos 0) (pos 0) b → InBox b (point p)
beyond_holds b p g = record {
  left = below b.low.x (pos 0) p.x (omega (arith, ints)) g.left;
  right = above b.high.x (pos 0) p.x (omega (arith, ints)) g.right;
  under = below b.low.y (pos 0) p.y (omega (arith, ints)) g.under;
  over = above b.high.y (pos 0) p.y (omega (arith, ints)) g.over;
}

between : (a b z : ℤ) → IsWithin (10 ^ 18) a → IsWithin (10 ^ 18) b → a ≤ℤ z → z ≤ℤ b
    → IsWithin (10 ^ 18) z
between a b z h k l m = omega (arith, ints, h, k, l, m)

pub inside_short : (low high p : Point) → IsShort low → IsShort high → IsInside low high p
    → IsShort p
inside_short low high p a b i = record {
  x = between low.x high.x p.x a.x b.x i.left i.right;
  y = between low.y high.y p.y a.y b.y i.bottom i.top;
}

pub beyond : (p : Point) (x y left right under over : ℤ) → (left +ℤ x) ≤ℤ p.x → (p.x +ℤ x) ≤ℤ right
    → (under +ℤ y) ≤ℤ p.y → (p.y +ℤ y) ≤ℤ over
    → GoesBeyond p x y (record {
      low = record { x = left; y = under };
      high = record { x = right; y = over };
    })
beyond p x y left right under over h k l m = record { left = h; right = k; under = l; over = m }

pub sum_fits : (x y : ℤ) → IsWithin (2 ^ 82) x → IsWithin (2 ^ 82) y → FitsSigned w128 (x +ℤ y)
sum_fits x y h k = fits_in w128 _ (omega (arith, ints, h, k))

pub has_circle : (c h : HalfArc) → h ≡ c → HasCircle h → HasCircle c
has_circle c h e k = subst HasCircle e k
