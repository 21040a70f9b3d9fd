-- How far a circle reaches, by the sides of its triangle.
use Rattle.std.proofs.Common.{◌≡◌, ◌⊎◌, inl, inr, ℕ, ◌*◌, ◌^◌, ℤ, pos, ◌*ℤ◌, ◌≤ℤ◌, refl, subst}
use Rattle.plane.specs.declared.kinds.Curve.{Curve}
use Rattle.plane.specs.Forms.Boxes.{Box, GoesBeyond, HoldsCurve, sides, size, steps}
use Rattle.plane.specs.Rule.Curves.{arc}
use Rattle.plane.specs.Rule.HalfArcs.{HasCircle, bend}

product_is : (a b c : ℕ) (x y z : ℤ) → pos a ≡ x → pos b ≡ y → pos c ≡ z
    → pos (a * b * c) ≡ (x *ℤ y) *ℤ z
product_is a b c x y z e f g =
    subst (λ (u : ℤ). pos (a * b * c) ≡ (u *ℤ y) *ℤ z) e
    (subst (λ (v : ℤ). pos (a * b * c) ≡ (pos a *ℤ v) *ℤ z) f
    (subst (λ (w : ℤ). pos (a * b * c) ≡ (pos a *ℤ pos b) *ℤ w) g refl))

pub sides_are : (c : Curve) (x y z : ℕ) → pos x ≡ steps c.from c.to → pos y ≡ steps c.from c.third
    → pos z ≡ steps c.to c.third → pos (x * y * z) ≡ sides (arc c)
unfolding sides
sides_are c x y z e f g =
    product_is x y z (steps c.from c.to) (steps c.from c.third) (steps c.to c.third) e f g

-- the box that goes as far beyond the first end on all sides
pub far_holds : (c : Curve) (b : Box) (r : ℤ)
    → (sides (arc c) ≤ℤ (size (bend (arc c)) *ℤ r)) ⊎ (r ≡ pos (2 ^ 28)) → HasCircle (arc c)
    → ((bend (arc c) ≡ pos 0 → ⊥) → sides (arc c) ≤ℤ (size (bend (arc c)) *ℤ r)
    → GoesBeyond c.from r r b → HoldsCurve b c)
    → (HasCircle (arc c) → GoesBeyond c.from (pos (2 ^ 28)) (pos (2 ^ 28)) b → HoldsCurve b c)
    → GoesBeyond c.from r r b → HoldsCurve b c
far_holds c b r (inl h) k round far g = round k.bent h g
far_holds c b r (inr e) k round far g = far k (subst (λ (x : ℤ). GoesBeyond c.from x x b) e g)
