-- A half arc seen from one of its ends.
use Rattle.std.proofs.Common.{◌≡◌, ◌↔◌, ◌⊎◌, ◌^◌, inl, inr, Bool, true, false, IsTrue, Option, None}
use Rattle.std.proofs.Common.{Some, ℤ, refl, arith, ap, sym, ◌∙◌, subst}
use Rattle.std.specs.Bool.{beq}
use Rattle.std.proofs.lemmas.Int.{ints}
use Rattle.plane.specs.declared.kinds.Curve.{Curve}
use Rattle.plane.specs.declared.kinds.Point.{Point}
use Rattle.plane.specs.Forms.Bends.{from_other_end}
use Rattle.plane.specs.Rule.BadPairs.{IsEndOf}
use Rattle.plane.specs.Rule.Curves.{arc}
use Rattle.plane.specs.Rule.HalfArcs.{HalfArc, HasCircle}
use Rattle.plane.specs.Numbers.{IsNear}
use Rattle.plane.specs.Rule.Turns.{AreNear}
use Rattle.arc_predicates.specs.Circles.{IsCircleOf}
use Rattle.arc_predicates.specs.declared.circles.Circle.{Circle}
use Rattle.forks.specs.Zones.{IsSeenCircle, IsSeenFrom, SharesEnd}

abbrev pub Either : Type 0
Either = (h : HalfArc) → HasCircle h ↔ HasCircle (from_other_end h)

seen_has : Either → (c : Curve) (p : Point) (h : HalfArc) → IsSeenFrom c p h
    → HasCircle h ↔ HasCircle (arc c)
seen_has law c p h s = by_same s.same
  where
    by_same : (h ≡ arc c) ⊎ (h ≡ from_other_end (arc c)) → HasCircle h ↔ HasCircle (arc c)
    by_same (inl e) = subst (λ (k : HalfArc). HasCircle h ↔ HasCircle k) e ((λ x. x), (λ x. x))
    by_same (inr e) =
        let w = law (arc c) in
        ((λ x. w.1 (subst HasCircle e x)), (λ x. subst HasCircle (sym e) (w.0 x)))

-- the circle of the half arc as it stands, and from its other end
pub seen_from : Either → (c : Curve) (p : Point) (o : Option Circle) → c.from ≡ p
    → IsCircleOf o c.from c.to c.third → IsSeenCircle c p o
seen_from law c p None e n = λ h s x. n ((seen_has law c p h s).0 x)
seen_from law c p (Some k) e q = record {
  begins = ap (λ (h : HalfArc). h.from) q ∙ e;
  same = inl q;
}

pub seen_back : Either → (c : Curve) (p : Point) (o : Option Circle) → c.to ≡ p
    → IsCircleOf o c.to c.from c.third → IsSeenCircle c p o
seen_back law c p None e n = λ h s x. n ((law (arc c)).0 ((seen_has law c p h s).0 x))
seen_back law c p (Some k) e q = record {
  begins = ap (λ (h : HalfArc). h.from) q ∙ e;
  same = inr q;
}

pub other_end : (c : Curve) (p : Point) → IsEndOf c p → (c.from ≡ p → ⊥) → c.to ≡ p
other_end c p (inl e) n = absurd (n e)
other_end c p (inr e) n = e

wider : (a b : ℤ) → IsNear (2 ^ 40) a b → IsNear (2 ^ 41) a b
wider a b h = record { above = omega (arith, ints, h.above); below = omega (arith, ints, h.below) }

turned : (a b : ℤ) → IsNear (2 ^ 40) a b → IsNear (2 ^ 41) b a
turned a b h = record { above = omega (arith, ints, h.below); below = omega (arith, ints, h.above) }

pub close : (p q : Point) → AreNear (2 ^ 40) p q → AreNear (2 ^ 41) p q
close p q h = record { x = wider p.x q.x h.x; y = wider p.y q.y h.y }

pub close_back : (p q : Point) → AreNear (2 ^ 40) p q → AreNear (2 ^ 41) q p
close_back p q h = record { x = turned p.x q.x h.x; y = turned p.y q.y h.y }

-- ---- the common end
pub shared : (c s : Curve) (f t : Bool) → (IsTrue f ↔ IsEndOf c s.from)
    → (IsTrue t ↔ IsEndOf c s.to) → (f ≡ t → ⊥) → SharesEnd c s f
shared c s true true f t n = absurd (n refl)
shared c s false false f t n = absurd (n refl)
shared c s true false f t n = record {
  near = f.0 refl;
  far = λ e. let x : IsTrue false = t.1 e in cc;
}
shared c s false true f t n = record {
  near = t.0 refl;
  far = λ e. let x : IsTrue false = f.1 e in cc;
}

pub either_end : (c : Curve) (p : Point) (f t : Bool) → (IsTrue f ↔ (c.from ≡ p))
    → (IsTrue t ↔ (c.to ≡ p)) → f ≡ false → IsTrue t ↔ IsEndOf c p
either_end c p true t a b e = absurd (cc)
either_end c p false t a b e = ((λ x. inr (b.0 x)), back)
  where
    back : IsEndOf c p → IsTrue t
    back (inl q) = absurd (let x : IsTrue false = a.1 q in cc)
    back (inr q) = b.1 q

pub first_end : (c : Curve) (p : Point) (f : Bool) → (IsTrue f ↔ (c.from ≡ p)) → f ≡ true
    → IsTrue f ↔ IsEndOf c p
first_end c p f a e = ((λ x. inl (a.0 e)), (λ x. e))

pub is_same : {A : Type 0} (f : Bool) → (IsTrue f ↔ A) → f ≡ true → A
is_same f a e = a.0 e

pub is_other : {A : Type 0} (f : Bool) → (IsTrue f ↔ A) → f ≡ false → A → ⊥
is_other true a e x = cc
is_other false a e x = let y : IsTrue false = a.1 x in cc

pub unequal : (x y : Bool) → beq x y ≡ false → x ≡ y → ⊥
unequal true true e q = absurd (let x : true ≡ false = e in cc)
unequal false false e q = absurd (let x : true ≡ false = e in cc)
unequal true false e q = cc
unequal false true e q = cc
