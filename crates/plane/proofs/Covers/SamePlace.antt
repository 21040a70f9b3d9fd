-- Equal places: equality of places is an equivalence, and what holds of a place holds of an equal
-- one.
use Rattle.std.proofs.Common.{◌≡◌, ℤ, pos, ◌+ℤ◌, ◌*ℤ◌, ◌-ℤ◌, ◌<ℤ◌, [], ◌∷◌, refl, arith, ap, sym}
use Rattle.std.proofs.Common.{◌∙◌}
use Rattle.std.proofs.lemmas.Int.{ints}
use Rattle.plane.specs.Forms.Vectors.{Vector, Place, Same, Between, mix}
use Rattle.plane.specs.Rule.Straights.{IsOnStraight}
use Rattle.plane.proofs.Algebra.Ring.{at, num, plus, minus, times, vars, ring}
use Rattle.plane.proofs.Algebra.Scaling.{cancel_zero, product_of_zero}
use Rattle.plane.proofs.Linear.Signs.{mix_place}
use Rattle.plane.proofs.Linear.Straights.{straight_between, between_straight}

pub same_refl : (p : Vector) → Same p p
same_refl p = record { x = refl; y = refl }

pub same_sym : (p q : Vector) → Same p q → Same q p
same_sym p q h = record { x = sym h.x; y = sym h.y }

pub same_trans : (p q r : Vector) → Place q → Same p q → Same q r → Same p r
same_trans p q r Q h k = record {
  x = one p.x p.n q.x q.n r.x r.n Q h.x k.x;
  y = one p.y p.n q.y q.n r.y r.n Q h.y k.y;
}
  where
    one : (px pn qx qn rx rn : ℤ) → pos 0 <ℤ qn → px *ℤ qn ≡ qx *ℤ pn → qx *ℤ rn ≡ rx *ℤ qn
        → px *ℤ rn ≡ rx *ℤ pn
    one px pn qx qn rx rn Q e f =
        let i = ring (times (at 3) (minus (times (at 0) (at 5)) (times (at 4) (at 1))))
        (plus (times (minus (times (at 0) (at 3)) (times (at 2) (at 1))) (at 5))
        (times (minus (times (at 2) (at 5)) (times (at 4) (at 3))) (at 1)))
        (vars (px ∷ pn ∷ qx ∷ qn ∷ rx ∷ rn ∷ [])) refl in
        let a = zero_times ((px *ℤ qn) -ℤ (qx *ℤ pn)) rn (omega (arith, ints, e)) in
        let b = zero_times ((qx *ℤ rn) -ℤ (rx *ℤ qn)) pn (omega (arith, ints, f)) in
        let z = cancel_zero qn ((px *ℤ rn) -ℤ (rx *ℤ pn)) Q (omega (arith, ints, i, a, b)) in
        omega (arith, ints, z)
      where
        zero_times : (a b : ℤ) → a ≡ pos 0 → a *ℤ b ≡ pos 0
        zero_times a b e = ap (λ (v : ℤ). v *ℤ b) e ∙ omega (arith, ints)

-- ---- segments
pub between_of_same : (z m p q : Vector) → Place z → Same m z → Between z p q → Between m p q
between_of_same z m p q Z h b =
    record {
      s = b.s;
      t = b.t;
      s_least = b.s_least;
      t_least = b.t_least;
      some = b.some;
      is = same_trans m z (mix b.s p b.t q) Z h b.is;
    }

pub on_straight_same : (a b z m : Vector) → Place a → Place b → Place z → Place m → Same m z
    → IsOnStraight a b z → IsOnStraight a b m
on_straight_same a b z m A B Z M h on =
    between_straight a b m A B M (between_of_same z m a b Z h (straight_between a b z A B Z on))

-- the ends of a segment are on it
pub first_on : (p q : Vector) → Place p → Place q → IsOnStraight p q p
first_on p q P Q = between_straight p q p P Q P
    (record {
      s = pos 1;
      t = pos 0;
      s_least = omega (arith, ints);
      t_least = omega (arith, ints);
      some = omega (arith, ints);
      is = record { x = one p.x q.x p.n q.n; y = one p.y q.y p.n q.n };
    })
  where
    one : (px qx pn qn : ℤ)
        → px *ℤ ((pos 1 *ℤ pn) +ℤ (pos 0 *ℤ qn)) ≡ ((pos 1 *ℤ px) +ℤ (pos 0 *ℤ qx)) *ℤ pn
    one px qx pn qn = let O = num (pos 1) in let N = num (pos 0) in
        ring (times (at 0) (plus (times O (at 2)) (times N (at 3))))
        (times (plus (times O (at 0)) (times N (at 1))) (at 2))
        (vars (px ∷ qx ∷ pn ∷ qn ∷ [])) refl

pub last_on : (p q : Vector) → Place p → Place q → IsOnStraight p q q
last_on p q P Q = between_straight p q q P Q Q
    (record {
      s = pos 0;
      t = pos 1;
      s_least = omega (arith, ints);
      t_least = omega (arith, ints);
      some = omega (arith, ints);
      is = record { x = one p.x q.x p.n q.n; y = one p.y q.y p.n q.n };
    })
  where
    one : (px qx pn qn : ℤ)
        → qx *ℤ ((pos 0 *ℤ pn) +ℤ (pos 1 *ℤ qn)) ≡ ((pos 0 *ℤ px) +ℤ (pos 1 *ℤ qx)) *ℤ qn
    one px qx pn qn = let O = num (pos 1) in let N = num (pos 0) in
        ring (times (at 1) (plus (times N (at 2)) (times O (at 3))))
        (times (plus (times N (at 0)) (times O (at 1))) (at 3))
        (vars (px ∷ qx ∷ pn ∷ qn ∷ [])) refl

-- a mean of a place and an equal one is that place
pub between_same : (p q z : Vector) → Place p → Place q → Same p q → Between z p q → Same z q
between_same p q z P Q h b =
    same_trans z (mix b.s p b.t q) q (mix_place b.s p b.t q P Q b.s_least b.t_least b.some) b.is
    (record { x = one p.x p.n q.x q.n b.s b.t h.x; y = one p.y p.n q.y q.n b.s b.t h.y })
  where
    one : (px pn qx qn s t : ℤ) → px *ℤ qn ≡ qx *ℤ pn
        → ((s *ℤ px) +ℤ (t *ℤ qx)) *ℤ qn ≡ qx *ℤ ((s *ℤ pn) +ℤ (t *ℤ qn))
    one px pn qx qn s t e =
        let i = ring
        (minus (times (plus (times (at 4) (at 0)) (times (at 5) (at 2))) (at 3))
        (times (at 2) (plus (times (at 4) (at 1)) (times (at 5) (at 3)))))
        (times (at 4) (minus (times (at 0) (at 3)) (times (at 2) (at 1))))
        (vars (px ∷ pn ∷ qx ∷ qn ∷ s ∷ t ∷ [])) refl in
        let z = product_of_zero s ((px *ℤ qn) -ℤ (qx *ℤ pn)) (omega (arith, ints, e)) in
        omega (arith, ints, i, z)

pub segment_same : (p q z : Vector) → Place p → Place q → Place z → Same p q → IsOnStraight p q z
    → Same z q
segment_same p q z P Q Z h on = between_same p q z P Q h (straight_between p q z P Q Z on)
