-- The circle of a half arc from either end, and the points outside it by its numbers.
use Rattle.std.proofs.Common.{◌≡◌, ◌↔◌, ℕ, ◌^◌, ℤ, pos, ◌+ℤ◌, ◌*ℤ◌, ◌-ℤ◌, ◌<ℤ◌, [], ◌∷◌, refl}
use Rattle.std.proofs.Common.{arith}
use Rattle.std.proofs.lemmas.Int.{ints}
use Rattle.plane.specs.declared.kinds.Point.{Point}
use Rattle.plane.specs.Forms.Vectors.{point}
use Rattle.plane.specs.Rule.Turns.{AreNear}
use Rattle.plane.specs.Rule.HalfArcs.{HalfArc, HasCircle, bend, circle_x, circle_y, power}
use Rattle.plane.specs.Forms.Bends.{square, from_other_end}
use Rattle.plane.proofs.Algebra.Laws.{product_positive, positive_factor}
use Rattle.plane.proofs.Algebra.Ring.{Expr, at, num, plus, minus, times, vars, ring}

near_back : (m : ℕ) (a b : Point) → AreNear m a b → AreNear m b a
near_back m a b n = record {
  x = record { above = n.x.below; below = n.x.above };
  y = record { above = n.y.below; below = n.y.above };
}

pub bend-back : (h : HalfArc) → bend (from_other_end h) ≡ pos 0 -ℤ bend h
unfolding bend
bend-back h =
    let D : Expr → Expr → Expr → Expr
    → Expr = λ a b c e. minus (times (minus c a) (minus (at 5) b))
    (times (minus e b) (minus (at 4) a)) in
    ring (D (at 2) (at 3) (at 0) (at 1)) (minus (num (pos 0)) (D (at 0) (at 1) (at 2) (at 3)))
    (vars (h.from.x ∷ h.from.y ∷ h.to.x ∷ h.to.y ∷ h.third.x ∷ h.third.y ∷ [])) refl

circle_back : (h : HalfArc) → HasCircle h → HasCircle (from_other_end h)
circle_back h c = record {
  bent = λ e. c.bent (zero (bend (from_other_end h)) (bend h) (bend-back h) e);
  ends = near_back (2 ^ 26) h.from h.to c.ends;
  first = c.second;
  second = c.first;
}
  where
    zero : (a b : ℤ) → a ≡ pos 0 -ℤ b → a ≡ pos 0 → b ≡ pos 0
    zero a b e f = omega (arith, ints, e, f)

pub has_circle_back : (h : HalfArc) → HasCircle h ↔ HasCircle (from_other_end h)
has_circle_back h = (circle_back h, circle_back (from_other_end h))

-- ---- outside
module _ (h : HalfArc) (q : Point) where
  abbrev weighed : ℤ
  weighed = (circle_x h *ℤ (q.x -ℤ h.from.x)) +ℤ (circle_y h *ℤ (q.y -ℤ h.from.y))

  abbrev size : ℤ
  size = bend h *ℤ square h.from q

  power-is : power h (point q) ≡ bend h *ℤ (size -ℤ weighed)
  unfolding power
  power-is =
      let U : Expr → Expr → Expr = λ u v. minus u (times v (num (pos 1))) in
      let X = U (at 3) (at 5) in let Y = U (at 4) (at 6) in
      let V = minus (at 3) (at 5) in let W = minus (at 4) (at 6) in
      let D = at 0 in
      ring (times D
      (minus (times D (plus (times X X) (times Y Y)))
      (times (plus (times (at 1) X) (times (at 2) Y)) (num (pos 1)))))
      (times D (minus (times D (plus (times V V) (times W W)))
      (plus (times (at 1) V) (times (at 2) W))))
      (vars (bend h ∷ circle_x h ∷ circle_y h ∷ q.x ∷ q.y ∷ h.from.x ∷ h.from.y ∷ [])) refl

  left_of : (b p s w : ℤ) → p ≡ b *ℤ (s -ℤ w) → pos 0 <ℤ b → (pos 0 <ℤ p) ↔ (w <ℤ s)
  left_of b p s w e hb = (
    (λ k. let f = positive_factor b (s -ℤ w) hb (omega (arith, ints, e, k)) in
        omega (arith, ints, f)),
    (λ k. let f = product_positive b (s -ℤ w) hb (omega (arith, ints, k)) in
        omega (arith, ints, e, f)),
  )

  right_of : (b p s w : ℤ) → p ≡ b *ℤ (s -ℤ w) → b <ℤ pos 0 → (pos 0 <ℤ p) ↔ (s <ℤ w)
  right_of b p s w e hb =
      let t : b *ℤ (s -ℤ w) ≡ (pos 0 -ℤ b)
      *ℤ (w -ℤ s) =
      ring (times (at 0) (minus (at 1) (at 2)))
      (times (minus (num (pos 0)) (at 0)) (minus (at 2) (at 1))) (vars (b ∷ s ∷ w ∷ [])) refl in (
        (λ k. let f = positive_factor (pos 0 -ℤ b) (w -ℤ s) (omega (arith, ints, hb))
            (omega (arith, ints, e, t, k)) in omega (arith, ints, f)),
        (λ k. let f = product_positive (pos 0 -ℤ b) (w -ℤ s) (omega (arith, ints, hb))
            (omega (arith, ints, k)) in omega (arith, ints, e, t, f)),
      )

  pub outside_left : pos 0 <ℤ bend h → (pos 0 <ℤ power h (point q)) ↔ (weighed <ℤ size)
  outside_left b = left_of (bend h) (power h (point q)) size weighed power-is b

  pub outside_right : bend h <ℤ pos 0 → (pos 0 <ℤ power h (point q)) ↔ (size <ℤ weighed)
  outside_right b = right_of (bend h) (power h (point q)) size weighed power-is b
