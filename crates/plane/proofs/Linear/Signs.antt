-- What the signs of the forms say.
use Rattle.std.proofs.Common.{◌≡◌, ℤ, pos, ◌+ℤ◌, ◌*ℤ◌, ◌-ℤ◌, ◌<ℤ◌, ◌≤ℤ◌, ◌⊎◌, inl, inr, [], ◌∷◌}
use Rattle.std.proofs.Common.{refl, arith, ap, ◌∙◌}
use Rattle.std.proofs.lemmas.Int.{ints, by_lt_z}
use Rattle.plane.specs.declared.kinds.Point.{Point}
use Rattle.plane.specs.Forms.Vectors.{Vector, Place, point, mix, Between, Edge, side, sweep, up}
use Rattle.plane.specs.Forms.Vectors.{rise, gap, On, InSpan, foot, HitsEdge}
use Rattle.plane.proofs.Algebra.Laws.{product_positive, product_nonnegative, positive_factor}
use Rattle.plane.proofs.Algebra.Laws.{weight_at_most, product_comm, zero-product}
use Rattle.plane.proofs.Algebra.Ring.{Expr, at, num, plus, minus, times, vars, ring}
use Rattle.plane.proofs.Linear.Vectors.{side-mix, sweep-mix, side-up, sweep-up, gap-three}

-- cases on a sign
pub by_sign : {P : Type 0} (z : ℤ) → (z <ℤ pos 0 → P) → (z ≡ pos 0 → P) → (pos 0 <ℤ z → P) → P
by_sign {P} z f g h =
    by_lt_z z (pos 0) f
    (λ (l : pos 0 ≤ℤ z). by_lt_z (pos 0) z h (λ (k : z ≤ℤ pos 0). g (omega (arith, ints, l, k))))

-- ---- the place of e at the sweep value of z
pub foot-side : (w : ℤ) (e : Edge) (z : Vector) → side e (foot w e z) ≡ pos 0
foot-side w e z =
    side-mix e (rise w e) z (pos 0 -ℤ side e z) (up w)
    ∙ ap (λ v. (rise w e *ℤ side e z) +ℤ ((pos 0 -ℤ side e z) *ℤ v)) (side-up w e)
    ∙ ring (plus (times (at 0) (at 1)) (times (minus (num (pos 0)) (at 1)) (at 0))) (num (pos 0))
    (vars (rise w e ∷ side e z ∷ [])) refl

pub foot-sweep : (w : ℤ) (e : Edge) (z : Vector) → sweep w (foot w e z) ≡ rise w e *ℤ sweep w z
foot-sweep w e z =
    sweep-mix w (rise w e) z (pos 0 -ℤ side e z) (up w)
    ∙ ap (λ v. (rise w e *ℤ sweep w z) +ℤ ((pos 0 -ℤ side e z) *ℤ v)) (sweep-up w)
    ∙ ring (plus (times (at 0) (at 2)) (times (minus (num (pos 0)) (at 1)) (num (pos 0))))
    (times (at 0) (at 2)) (vars (rise w e ∷ side e z ∷ sweep w z ∷ [])) refl

pub foot-n : (w : ℤ) (e : Edge) (z : Vector) → (foot w e z).n ≡ rise w e *ℤ z.n
foot-n w e z =
    ring (plus (times (at 0) (at 2)) (times (minus (num (pos 0)) (at 1)) (num (pos 0))))
    (times (at 0) (at 2)) (vars (rise w e ∷ side e z ∷ z.n ∷ [])) refl

pub foot_place : (w : ℤ) (e : Edge) (z : Vector) → pos 0 <ℤ rise w e → Place z → Place (foot w e z)
foot_place w e z h k =
    let p = product_positive (rise w e) z.n h k in let e = foot-n w e z in omega (arith, ints, p, e)

-- ---- a place of a segment whose weights balance the two sides
least : (s n : ℤ) → pos 0 ≤ℤ s → pos 0 <ℤ n → s ≤ℤ (s *ℤ n)
least s n h k = weight_at_most s n h k

pub mix_place : (s : ℤ) (p : Vector) (t : ℤ) (q : Vector) → Place p → Place q → pos 0 ≤ℤ s
    → pos 0 ≤ℤ t → pos 0 <ℤ (s +ℤ t) → Place (mix s p t q)
mix_place s p t q hp hq hs ht h =
    let a = least s p.n hs hp in
    let b = least t q.n ht hq in
    omega (arith, ints, a, b)

pub mix_between : (s : ℤ) (p : Vector) (t : ℤ) (q : Vector) → pos 0 ≤ℤ s → pos 0 ≤ℤ t
    → pos 0 <ℤ (s +ℤ t) → Between (mix s p t q) p q
mix_between s p t q hs ht h = record {
  s = s;
  t = t;
  s_least = hs;
  t_least = ht;
  some = h;
  is = record { x = refl; y = refl };
}

-- a lower bound of the sweep values of both ends is one for all weights
pub span_low : (l s t a m b n : ℤ) → pos 0 ≤ℤ s → pos 0 ≤ℤ t → (l *ℤ m) ≤ℤ a → (l *ℤ n) ≤ℤ b
    → (l *ℤ ((s *ℤ m) +ℤ (t *ℤ n))) ≤ℤ ((s *ℤ a) +ℤ (t *ℤ b))
span_low l s t a m b n hs ht ha hb =
    let u = product_nonnegative s (a -ℤ (l *ℤ m)) hs (omega (arith, ints, ha)) in
    let v = product_nonnegative t (b -ℤ (l *ℤ n)) ht (omega (arith, ints, hb)) in
    let e = ring
    (plus (times (at 1) (minus (at 3) (times (at 0) (at 4))))
    (times (at 2) (minus (at 5) (times (at 0) (at 6)))))
    (minus (plus (times (at 1) (at 3)) (times (at 2) (at 5)))
    (times (at 0) (plus (times (at 1) (at 4)) (times (at 2) (at 6)))))
    (vars (l ∷ s ∷ t ∷ a ∷ m ∷ b ∷ n ∷ [])) refl in
    omega (arith, ints, u, v, e)

pub span_high : (l s t a m b n : ℤ) → pos 0 ≤ℤ s → pos 0 ≤ℤ t → a ≤ℤ (l *ℤ m) → b ≤ℤ (l *ℤ n)
    → ((s *ℤ a) +ℤ (t *ℤ b)) ≤ℤ (l *ℤ ((s *ℤ m) +ℤ (t *ℤ n)))
span_high l s t a m b n hs ht ha hb =
    let u = product_nonnegative s ((l *ℤ m) -ℤ a) hs (omega (arith, ints, ha)) in
    let v = product_nonnegative t ((l *ℤ n) -ℤ b) ht (omega (arith, ints, hb)) in
    let e = ring
    (plus (times (at 1) (minus (times (at 0) (at 4)) (at 3)))
    (times (at 2) (minus (times (at 0) (at 6)) (at 5))))
    (minus (times (at 0) (plus (times (at 1) (at 4)) (times (at 2) (at 6))))
    (plus (times (at 1) (at 3)) (times (at 2) (at 5))))
    (vars (l ∷ s ∷ t ∷ a ∷ m ∷ b ∷ n ∷ [])) refl in
    omega (arith, ints, u, v, e)

pub mix_in_span : (w : ℤ) (e : Edge) (s : ℤ) (p : Vector) (t : ℤ) (q : Vector) → pos 0 ≤ℤ s
    → pos 0 ≤ℤ t → InSpan w e p → InSpan w e q → InSpan w e (mix s p t q)
mix_in_span w e s p t q hs ht hp hq = record {
  low = rw (sweep-mix w s p t q)
      (span_low (sweep w (point e.low)) s t (sweep w p) p.n (sweep w q) q.n hs ht hp.low hq.low);
  high = rw (sweep-mix w s p t q)
      (span_high (sweep w (point e.high)) s t (sweep w p) p.n
      (sweep w q) q.n hs ht hp.high hq.high);
}

pub balanced_hit : (w : ℤ) (e : Edge) (s : ℤ) (p : Vector) (t : ℤ) (q : Vector) → Place p → Place q
    → InSpan w e p → InSpan w e q
    → pos 0 ≤ℤ s → pos 0 ≤ℤ t → pos 0 <ℤ (s +ℤ t) → (s *ℤ side e p) +ℤ (t *ℤ side e q) ≡ pos 0
    → HitsEdge w p q e
balanced_hit w e s p t q hp hq sp sq hs ht h zero =
    let span = mix_in_span w e s p t q hs ht sp sq in
    record {
      z = mix s p t q;
      place = mix_place s p t q hp hq hs ht h;
      between = mix_between s p t q hs ht h;
      on = record { line = side-mix e s p t q ∙ zero; low = span.low; high = span.high };
    }

cross_up : (a b : ℤ) → (b *ℤ a) +ℤ ((pos 0 -ℤ a) *ℤ b) ≡ pos 0
cross_up a b =
    ring (plus (times (at 1) (at 0)) (times (minus (num (pos 0)) (at 0)) (at 1))) (num (pos 0))
    (vars (a ∷ b ∷ [])) refl

pub cross_down : (a b : ℤ) → ((pos 0 -ℤ b) *ℤ a) +ℤ (a *ℤ b) ≡ pos 0
cross_down a b =
    ring (plus (times (minus (num (pos 0)) (at 1)) (at 0)) (times (at 0) (at 1))) (num (pos 0))
    (vars (a ∷ b ∷ [])) refl

both_zero : (a b : ℤ) → a ≡ pos 0 → (pos 1 *ℤ a) +ℤ (pos 0 *ℤ b) ≡ pos 0
both_zero a b e =
    ring (plus (times (num (pos 1)) (at 0)) (times (num (pos 0)) (at 1))) (at 0)
    (vars (a ∷ b ∷ [])) refl ∙ e

-- ---- without a hit the side does not change
pub side_kept : (w : ℤ) (e : Edge) (p q : Vector) → Place p → Place q → InSpan w e p → InSpan w e q
    → (HitsEdge w p q e → ⊥)
    → ((pos 0 <ℤ side e p) × (pos 0 <ℤ side e q)) ⊎ ((side e p <ℤ pos 0) × (side e q <ℤ pos 0))
side_kept w e p q hp hq sp sq miss =
    let hit : (s t : ℤ) → pos 0 ≤ℤ s → pos 0 ≤ℤ t → pos 0 <ℤ (s +ℤ t)
    → (s *ℤ side e p) +ℤ (t *ℤ side e q) ≡ pos 0 → HitsEdge w p q e =
    λ s t. balanced_hit w e s p t q hp hq sp sq in
    by_sign (side e p)
    (λ (a : side e p <ℤ pos 0). by_sign (side e q)
    (λ (b : side e q <ℤ pos 0). inr (a, b))
    (λ (b : side e q ≡ pos 0). absurd
    (miss (hit (side e q) (pos 0 -ℤ side e p) (omega (arith, ints, b)) (omega (arith, ints, a))
    (omega (arith, ints, a, b)) (cross_up (side e p) (side e q)))))
    (λ (b : pos 0 <ℤ side e q). absurd
    (miss (hit (side e q) (pos 0 -ℤ side e p) (omega (arith, ints, b)) (omega (arith, ints, a))
    (omega (arith, ints, a, b)) (cross_up (side e p) (side e q))))))
    (λ (a : side e p ≡ pos 0). absurd
    (miss (hit (pos 1) (pos 0) (omega (arith, ints)) (omega (arith, ints)) (omega (arith, ints))
    (both_zero (side e p) (side e q) a))))
    (λ (a : pos 0 <ℤ side e p). by_sign (side e q)
    (λ (b : side e q <ℤ pos 0). absurd
    (miss (hit (pos 0 -ℤ side e q) (side e p) (omega (arith, ints, b)) (omega (arith, ints, a))
    (omega (arith, ints, a, b)) (cross_down (side e p) (side e q)))))
    (λ (b : side e q ≡ pos 0). absurd
    (miss (hit (pos 0 -ℤ side e q) (side e p) (omega (arith, ints, b)) (omega (arith, ints, a))
    (omega (arith, ints, a, b)) (cross_down (side e p) (side e q)))))
    (λ (b : pos 0 <ℤ side e q). inl (a, b)))

-- ---- order on a sweep line
-- the gap is at most the difference of the sides, where a is not under p and b not over it
pub gap_at_most : (w : ℤ) (a b : Edge) (p : Vector) → pos 0 <ℤ rise w a → pos 0 <ℤ rise w b
    → pos 0 ≤ℤ side a p → side b p ≤ℤ pos 0 → gap w a b p ≤ℤ (side b p -ℤ side a p)
unfolding gap
gap_at_most w a b p ha hb sa sb =
    let u = weight_at_most (side a p) (rise w b) sa hb in
    let v = weight_at_most (pos 0 -ℤ side b p) (rise w a) (omega (arith, ints, sb)) ha in
    signs (rise w a) (rise w b) (side a p) (side b p) u v
  where
    signs : (ra rb sa sb : ℤ) → sa ≤ℤ (sa *ℤ rb) → (pos 0 -ℤ sb) ≤ℤ ((pos 0 -ℤ sb) *ℤ ra)
        → ((ra *ℤ sb) -ℤ (rb *ℤ sa)) ≤ℤ (sb -ℤ sa)
    signs ra rb sa sb u v =
        let e = ring (minus (times (at 0) (at 3)) (times (at 1) (at 2)))
        (minus (num (pos 0))
        (plus (times (at 2) (at 1)) (times (minus (num (pos 0)) (at 3)) (at 0))))
        (vars (ra ∷ rb ∷ sa ∷ sb ∷ [])) refl in
        omega (arith, ints, u, v, e)

-- a strictly below b: what is not under b is over a
pub over_lower : (w : ℤ) (a b : Edge) (z : Vector) → pos 0 <ℤ rise w a → pos 0 <ℤ rise w b
    → gap w a b z <ℤ pos 0 → pos 0 ≤ℤ side b z → pos 0 <ℤ side a z
unfolding gap
over_lower w a b z ha hb g h =
    let u = product_nonnegative (rise w a) (side b z) (omega (arith, ints, ha)) h in
    positive_factor (rise w b) (side a z) hb (omega (arith, ints, u, g))

chain : (x y z u : ℤ) → x ≡ pos 0 -ℤ y → y ≡ z → u ≡ pos 0 -ℤ z → pos 0 <ℤ u → pos 0 <ℤ x
chain x y z u e f g h = omega (arith, ints, e, f, g, h)

-- a gap that is 0 or below at two sweep values, and below at one, is below 0 between them
pub gap_between : (w : ℤ) (a b : Edge) (p q : Point) (z : Vector) → Place z
    → gap w a b (point p) ≤ℤ pos 0 → gap w a b (point q) ≤ℤ pos 0
    → (gap w a b (point p) <ℤ pos 0) ⊎ (gap w a b (point q) <ℤ pos 0)
    → (sweep w (point p) *ℤ z.n) <ℤ sweep w z → sweep w z <ℤ (sweep w (point q) *ℤ z.n)
    → gap w a b z <ℤ pos 0
gap_between w a b p q z hz gp gq one hp hq =
    sum_up (gap w a b z) (gap w a b (point p)) (gap w a b (point q)) (sweep w (point p))
    (sweep w (point q)) (sweep w z) z.n hz
    (gap-three w a b z (point p) (point q)) gp gq one hp hq
  where
    sum_up : (d dp dq tp tq s n : ℤ) → pos 0 <ℤ n
        → d *ℤ ((tq *ℤ pos 1) -ℤ (tp *ℤ pos 1))
        ≡ (dp *ℤ ((tq *ℤ n) -ℤ (s *ℤ pos 1))) +ℤ (dq *ℤ ((s *ℤ pos 1) -ℤ (tp *ℤ n)))
        → dp ≤ℤ pos 0 → dq ≤ℤ pos 0 → (dp <ℤ pos 0) ⊎ (dq <ℤ pos 0) → (tp *ℤ n) <ℤ s
        → s <ℤ (tq *ℤ n) → d <ℤ pos 0
    sum_up d dp dq tp tq s n hn e hdp hdq one hp hq =
        let a = (tq *ℤ n) -ℤ s in
        let b = s -ℤ (tp *ℤ n) in
        let ha : pos 0 <ℤ a = omega (arith, ints, hq) in
        let hb : pos 0 <ℤ b = omega (arith, ints, hp) in
        let i = ring (times (at 6) (minus (at 4) (at 3)))
        (plus (minus (times (at 4) (at 6)) (at 5)) (minus (at 5) (times (at 3) (at 6))))
        (vars (d ∷ dp ∷ dq ∷ tp ∷ tq ∷ s ∷ n ∷ [])) refl in
        let r : pos 0 <ℤ (tq -ℤ tp) = positive_factor n (tq -ℤ tp) hn
        (omega (arith, ints, i, ha, hb)) in
        let j = ring (times (minus (at 4) (at 3)) (minus (num (pos 0)) (at 0)))
        (minus (num (pos 0))
        (times (at 0) (minus (times (at 4) (num (pos 1))) (times (at 3) (num (pos 1))))))
        (vars (d ∷ dp ∷ dq ∷ tp ∷ tq ∷ s ∷ n ∷ [])) refl in
        let k = ring
        (plus (times (minus (times (at 4) (at 6)) (at 5)) (minus (num (pos 0)) (at 1)))
        (times (minus (at 5) (times (at 3) (at 6))) (minus (num (pos 0)) (at 2))))
        (minus (num (pos 0))
        (plus (times (at 1) (minus (times (at 4) (at 6)) (times (at 5) (num (pos 1)))))
        (times (at 2) (minus (times (at 5) (num (pos 1))) (times (at 3) (at 6))))))
        (vars (d ∷ dp ∷ dq ∷ tp ∷ tq ∷ s ∷ n ∷ [])) refl in
        let u = product_nonnegative a (pos 0 -ℤ dp) (omega (arith, ints, ha))
        (omega (arith, ints, hdp)) in
        let v = product_nonnegative b (pos 0 -ℤ dq) (omega (arith, ints, hb))
        (omega (arith, ints, hdq)) in
        let some : pos 0 <ℤ ((a *ℤ (pos 0 -ℤ dp)) +ℤ (b *ℤ (pos 0 -ℤ dq))) = elim one [
          | inl l ↦ let x = product_positive a (pos 0 -ℤ dp) ha (omega (arith, ints, l)) in
              omega (arith, ints, x, v)
          | inr l ↦ let x = product_positive b (pos 0 -ℤ dq) hb (omega (arith, ints, l)) in
              omega (arith, ints, x, u)
        ] in
        let f : pos 0 <ℤ ((tq -ℤ tp) *ℤ (pos 0 -ℤ d)) = chain _ _ _ _ j e k some in
        let y = positive_factor (tq -ℤ tp) (pos 0 -ℤ d) r f in
        omega (arith, ints, y)

-- ---- a place of e is between its ends
least_difference : (a b : ℤ) → a ≤ℤ b → pos 0 ≤ℤ (b -ℤ a)
least_difference a b h = omega (arith, ints)

positive_equal : (a b : ℤ) → a ≡ b → pos 0 <ℤ b → pos 0 <ℤ a
positive_equal a b e h = omega (arith, ints)

equal_down : (a b d : ℤ) → a -ℤ b ≡ pos 0 -ℤ d → d ≡ pos 0 → a ≡ b
equal_down a b d h e = omega (arith, ints)

equal_up : (a b d : ℤ) → a -ℤ b ≡ d → d ≡ pos 0 → a ≡ b
equal_up a b d h e = omega (arith, ints)

pub on_between : (w : ℤ) (e : Edge) (z : Vector) → pos 0 <ℤ rise w e → Place z → On w e z
    → Between z (point e.low) (point e.high)
unfolding side sweep rise
on_between w e z hr hz on =
    let W = at 0 in let X = at 1 in let Y = at 2 in let N = at 3 in
    let LX = at 4 in let LY = at 5 in let HX = at 6 in let HY = at 7 in
    let S = minus (times (plus (times W HX) HY) N) (plus (times W X) Y) in
    let T = minus (plus (times W X) Y) (times (plus (times W LX) LY) N) in
    let env = vars (w ∷ z.x ∷ z.y ∷ z.n ∷ e.low.x ∷ e.low.y ∷ e.high.x ∷ e.high.y ∷ []) in
    let D = minus (times (minus HX LX) (minus Y (times LY N)))
    (times (minus HY LY) (minus X (times LX N))) in
    let m : Expr → Expr → Expr = λ l h. plus (times S l) (times T h) in
    let one = num (pos 1) in
    let x = ring (minus (times X (m one one)) (times (m LX HX) N))
    (minus (num (pos 0)) (times D N)) env refl in
    let y = ring (minus (times Y (m one one)) (times (m LY HY) N)) (times (times W D) N) env refl in
    let sum = ring (plus S T) (times (minus (plus (times W HX) HY) (plus (times W LX) LY)) N) env
    refl in
    let most = product_positive (rise w e) z.n hr hz in
    let low = on.low in let high = on.high in
    let zero = ap (λ d. d *ℤ z.n) on.line ∙ zero-product z.n in
    let zero_up = ap (λ d. (w *ℤ d) *ℤ z.n) on.line
    ∙ ap (λ d. d *ℤ z.n) (product_comm w (pos 0) ∙ zero-product w) ∙ zero-product z.n in
    record {
      s = (((w *ℤ e.high.x) +ℤ e.high.y) *ℤ z.n) -ℤ ((w *ℤ z.x) +ℤ z.y);
      t = ((w *ℤ z.x) +ℤ z.y) -ℤ (((w *ℤ e.low.x) +ℤ e.low.y) *ℤ z.n);
      s_least = least_difference _ _ high;
      t_least = least_difference _ _ low;
      some = positive_equal _ _ sum most;
      is = record { x = equal_down _ _ _ x zero; y = equal_up _ _ _ y zero_up };
    }

pub between_back : (z p q : Vector) → Between z p q → Between z q p
between_back z p q h =
    let s = h.some in
    record {
      s = h.t;
      t = h.s;
      s_least = h.t_least;
      t_least = h.s_least;
      some = omega (arith, ints, s);
      is = record {
        x = ap (λ (n : ℤ). z.x *ℤ n) (omega (arith, ints)) ∙ h.is.x
            ∙ ap (λ (n : ℤ). n *ℤ z.n) (omega (arith, ints));
        y = ap (λ (n : ℤ). z.y *ℤ n) (omega (arith, ints)) ∙ h.is.y
            ∙ ap (λ (n : ℤ). n *ℤ z.n) (omega (arith, ints));
      };
    }
