-- Trial crossings by the sides of their two places.
use Rattle.std.proofs.Common.{◌≡◌, inl, inr, ℕ, ◌+◌, ◌<◌, Option, None, Some, ℤ, pos, ◌<ℤ◌, ◌≤ℤ◌}
use Rattle.std.proofs.Common.{arith, refl, sym, subst}
use Rattle.std.proofs.lemmas.Int.{ints}
use Rattle.plane.specs.declared.kinds.Curve.{Curve}
use Rattle.plane.specs.Rule.BadPairs.{IsTrialCrossing, sixteenth}
use Rattle.plane.specs.Rule.HalfArcs.{HalfArc, HasSide, bow, power}
use Rattle.plane.specs.Rule.Places.{Vector}
use Rattle.arc_predicates.specs.Circles.{IsSideOf, place}
use Rattle.arc_predicates.specs.Trials.{AreEitherSide, IsSideAway, IsTrial}
use Rattle.arc_predicates.specs.declared.sides.Side.{Side}
use Rattle.arc_predicates.specs.declared.sides.Side.TheVariants as side
use Rattle.plane.proofs.Strips.OneStrip.{by_last}

pub at_sixteenth : (c : Curve) (k : ℕ) (x y : ℤ) → x ≡ (sixteenth c k).x → y ≡ (sixteenth c k).y
    → place x y (pos 16) ≡ sixteenth c k
at_sixteenth c k x y e f = λ i. record { x = e i; y = f i; n = pos 16 }

pub side_with : (r : Option Side) (h : HalfArc) (z : Vector) → IsSideOf r h z → pos 0 ≤ℤ bow h z
    → IsSideAway r h z
side_with None h z s a = λ k b. s k
side_with (Some r) h z s a = (s.0, a, s.1)

pub trial_of : (p q : Option Side) (h : HalfArc) (u v : Vector) → IsSideAway p h u
    → IsSideAway q h v → AreEitherSide p q → IsTrialCrossing h u v
trial_of p q h u v a b (inl e) =
    let x : IsSideAway (Some side.Inside) h u = subst
    (λ (s : Option Side). IsSideAway s h u) e.0 a in
    let y : IsSideAway (Some side.Outside) h v = subst
    (λ (s : Option Side). IsSideAway s h v) e.1 b in
    record {
      first_side = x.0;
      second_side = y.0;
      first_away = x.1;
      second_away = y.1;
      changes = inl (x.2, y.2);
    }
trial_of p q h u v a b (inr e) =
    let x : IsSideAway (Some side.Outside) h u = subst
    (λ (s : Option Side). IsSideAway s h u) e.0 a in
    let y : IsSideAway (Some side.Inside) h v = subst
    (λ (s : Option Side). IsSideAway s h v) e.1 b in
    record {
      first_side = x.0;
      second_side = y.0;
      first_away = x.1;
      second_away = y.1;
      changes = inr (x.2, y.2);
    }

inside : (s : Option Side) (h : HalfArc) (z : Vector) → IsSideAway s h z → HasSide h z
    → pos 0 ≤ℤ bow h z → power h z <ℤ pos 0 → s ≡ Some side.Inside
inside None h z a k b l = absurd (a k b)
inside (Some side.Inside) h z a k b l = refl
inside (Some side.On) h z a k b l = let e = a.2 in absurd (omega (arith, ints, e, l))
inside (Some side.Outside) h z a k b l = let e = a.2 in absurd (omega (arith, ints, e, l))

outside : (s : Option Side) (h : HalfArc) (z : Vector) → IsSideAway s h z → HasSide h z
    → pos 0 ≤ℤ bow h z → pos 0 <ℤ power h z → s ≡ Some side.Outside
outside None h z a k b l = absurd (a k b)
outside (Some side.Inside) h z a k b l = let e = a.2 in absurd (omega (arith, ints, e, l))
outside (Some side.On) h z a k b l = let e = a.2 in absurd (omega (arith, ints, e, l))
outside (Some side.Outside) h z a k b l = refl

pub sides_of : (p q : Option Side) (h : HalfArc) (u v : Vector) → IsSideAway p h u
    → IsSideAway q h v → IsTrialCrossing h u v → AreEitherSide p q
sides_of p q h u v a b t = elim t.changes [
  | inl c ↦ inl (
    inside p h u a t.first_side t.first_away c.0,
    outside q h v b t.second_side t.second_away c.1,
  )
  | inr c ↦ inr (
    outside p h u a t.first_side t.first_away c.0,
    inside q h v b t.second_side t.second_away c.1,
  )
]

pub none_more : (c : Curve) (h : HalfArc) (n : ℕ) → ((k : ℕ) → k < n → IsTrial c h k → ⊥)
    → (IsTrial c h n → ⊥) → (k : ℕ) → k < n + 1 → IsTrial c h k → ⊥
none_more c h n f g k l =
    by_last k n (omega (arith, l)) (λ m. f k m)
    (λ e. subst (λ (j : ℕ). IsTrial c h j → ⊥) (sym e) g)
