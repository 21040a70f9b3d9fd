-- Equal places lie alike to a half arc, and its control points are on it.
use Rattle.std.proofs.Common.{◌≡◌, ℕ, ℤ, pos, ◌+ℤ◌, ◌*ℤ◌, ◌-ℤ◌, ◌<ℤ◌, ◌≤ℤ◌, [], ◌∷◌, refl, arith}
use Rattle.std.proofs.Common.{ap, sym, ◌∙◌}
use Rattle.std.proofs.lemmas.Int.{ints}
use Rattle.plane.specs.Rule.Places.{Vector, Place, Same, point}
use Rattle.plane.specs.Rule.HalfArcs.{HalfArc, wide, tall, off_x, off_y, bend, circle_x, circle_y}
use Rattle.plane.specs.Rule.HalfArcs.{power, bow, IsOnHalfArc}
use Rattle.plane.proofs.Algebra.Laws.{product_positive}
use Rattle.plane.proofs.Algebra.Ring.{Expr, at, num, plus, minus, times, vars, ring}
use Rattle.plane.proofs.Algebra.Scaling.{cancel_le, product_of_zero, times_le}

-- an offset of equal places
offset : (f z n m k : ℤ) → z *ℤ k ≡ m *ℤ n → k *ℤ (z -ℤ (f *ℤ n)) ≡ n *ℤ (m -ℤ (f *ℤ k))
offset f z n m k e =
    let i = ring
    (minus (times (at 4) (minus (at 1) (times (at 0) (at 2))))
    (times (at 2) (minus (at 3) (times (at 0) (at 4)))))
    (minus (times (at 1) (at 4)) (times (at 3) (at 2))) (vars (f ∷ z ∷ n ∷ m ∷ k ∷ [])) refl in
    omega (arith, ints, i, e)

-- the power in terms of the bend, the circle and the offsets
abbrev POWER : Expr → Expr → Expr → Expr → Expr → Expr → Expr
POWER d a b x y n =
    times d (minus (times d (plus (times x x) (times y y)))
    (times (plus (times a x) (times b y)) n))

abbrev shape : (d a b x y n : ℤ) → ℤ
shape d a b x y n = d *ℤ ((d *ℤ ((x *ℤ x) +ℤ (y *ℤ y))) -ℤ (((a *ℤ x) +ℤ (b *ℤ y)) *ℤ n))

scaled_shape : (d a b x y n k : ℤ)
    → (k *ℤ k) *ℤ shape d a b x y n ≡ shape d a b (k *ℤ x) (k *ℤ y) (k *ℤ n)
scaled_shape d a b x y n k =
    ring (times (times (at 6) (at 6)) (POWER (at 0) (at 1) (at 2) (at 3) (at 4) (at 5)))
    (POWER (at 0) (at 1) (at 2) (times (at 6) (at 3)) (times (at 6) (at 4))
    (times (at 6) (at 5)))
    (vars (d ∷ a ∷ b ∷ x ∷ y ∷ n ∷ k ∷ [])) refl

same_shape : (d a b x y n u v m : ℤ) → x ≡ u → y ≡ v → n ≡ m → shape d a b x y n ≡ shape d a b u v m
same_shape d a b x y n u v m e f g =
    ap (λ (w : ℤ). shape d a b w y n) e ∙ ap (λ (w : ℤ). shape d a b u w n) f
    ∙ ap (λ (w : ℤ). shape d a b u v w) g

swap : (a b : ℤ) → a *ℤ b ≡ b *ℤ a
swap a b = ring (times (at 0) (at 1)) (times (at 1) (at 0)) (vars (a ∷ b ∷ [])) refl

pub power_same : (h : HalfArc) (z m : Vector) → Same z m
    → (m.n *ℤ m.n) *ℤ power h z ≡ (z.n *ℤ z.n) *ℤ power h m
unfolding power
power_same h z m e =
    scaled_shape (bend h) (circle_x h) (circle_y h) (off_x h z) (off_y h z) z.n m.n
    ∙ same_shape (bend h) (circle_x h) (circle_y h) _ _ _ _ _ _
    (offset h.from.x z.x z.n m.x m.n e.x) (offset h.from.y z.y z.n m.y m.n e.y) (swap m.n z.n)
    ∙ sym (scaled_shape (bend h) (circle_x h) (circle_y h) (off_x h m) (off_y h m) m.n z.n)

chord_form : (d w t x y k : ℤ)
    → k *ℤ (pos 0 -ℤ (d *ℤ ((w *ℤ y) -ℤ (t *ℤ x))))
    ≡ pos 0 -ℤ (d *ℤ ((w *ℤ (k *ℤ y)) -ℤ (t *ℤ (k *ℤ x))))
chord_form d w t x y k =
    let F : Expr → Expr
    → Expr = λ x y. minus (num (pos 0))
    (times (at 0) (minus (times (at 1) y) (times (at 2) x))) in
    ring (times (at 5) (F (at 3) (at 4))) (F (times (at 5) (at 3)) (times (at 5) (at 4)))
    (vars (d ∷ w ∷ t ∷ x ∷ y ∷ k ∷ [])) refl

pub bow_same : (h : HalfArc) (z m : Vector) → Same z m → m.n *ℤ bow h z ≡ z.n *ℤ bow h m
unfolding bow
bow_same h z m e =
    chord_form (bend h) (wide h) (tall h) (off_x h z) (off_y h z) m.n
    ∙ ap (λ (v : ℤ). pos 0 -ℤ (bend h *ℤ ((wide h *ℤ v) -ℤ (tall h *ℤ (m.n *ℤ off_x h z)))))
    (offset h.from.y z.y z.n m.y m.n e.y)
    ∙ ap (λ (v : ℤ). pos 0 -ℤ (bend h *ℤ ((wide h *ℤ (z.n *ℤ off_y h m)) -ℤ (tall h *ℤ v))))
    (offset h.from.x z.x z.n m.x m.n e.x)
    ∙ sym (chord_form (bend h) (wide h) (tall h) (off_x h m) (off_y h m) z.n)

times_zero : (a : ℤ) → a *ℤ pos 0 ≡ pos 0
times_zero a = product_of_zero a (pos 0) refl

-- signs of numbers that are equal up to positive factors
pub same_least : (a b x y : ℤ) → pos 0 <ℤ a → pos 0 <ℤ b → a *ℤ x ≡ b *ℤ y → pos 0 ≤ℤ x → pos 0 ≤ℤ y
same_least a b x y A B e h =
    let p = times_le a (pos 0) x (omega (arith, ints, A)) h in
    cancel_le b (pos 0) y B (omega (arith, ints, p, e, times_zero a, times_zero b))

pub same_most : (a b x y : ℤ) → pos 0 <ℤ a → pos 0 <ℤ b → a *ℤ x ≡ b *ℤ y → x ≤ℤ pos 0 → y ≤ℤ pos 0
same_most a b x y A B e h =
    let p = times_le a x (pos 0) (omega (arith, ints, A)) h in
    cancel_le b y (pos 0) B (omega (arith, ints, p, e, times_zero a, times_zero b))

-- what holds of a place holds of an equal one
pub not_inside_same : (h : HalfArc) (z m : Vector) → Place z → Place m → Same z m
    → pos 0 ≤ℤ power h z → pos 0 ≤ℤ power h m
not_inside_same h z m Z M e p =
    same_least (m.n *ℤ m.n) (z.n *ℤ z.n) (power h z) (power h m) (product_positive m.n m.n M M)
    (product_positive z.n z.n Z Z) (power_same h z m e) p

pub not_outside_same : (h : HalfArc) (z m : Vector) → Place z → Place m → Same z m
    → power h z ≤ℤ pos 0 → power h m ≤ℤ pos 0
not_outside_same h z m Z M e p =
    same_most (m.n *ℤ m.n) (z.n *ℤ z.n) (power h z) (power h m) (product_positive m.n m.n M M)
    (product_positive z.n z.n Z Z) (power_same h z m e) p

pub away_same : (h : HalfArc) (z m : Vector) → Place z → Place m → Same z m → pos 0 ≤ℤ bow h z
    → pos 0 ≤ℤ bow h m
away_same h z m Z M e p = same_least m.n z.n (bow h z) (bow h m) M Z (bow_same h z m e) p

pub level : (a : ℤ) → a ≤ℤ pos 0 → pos 0 ≤ℤ a → a ≡ pos 0
level a h k = omega (arith, ints, h, k)

pub on_half_arc_same : (h : HalfArc) (z m : Vector) → Place z → Place m → Same z m → IsOnHalfArc h z
    → IsOnHalfArc h m
on_half_arc_same h z m Z M e on =
    let c = on.circle in
    record {
      circle = level (power h m) (not_outside_same h z m Z M e (omega (arith, ints, c)))
          (not_inside_same h z m Z M e (omega (arith, ints, c)));
      away = away_same h z m Z M e on.away;
    }

-- ---- the two control points
-- seen from `from`: wide, tall, third
abbrev BEND : Expr
BEND = minus (times (at 0) (at 3)) (times (at 1) (at 2))

abbrev CHORD : Expr
CHORD = plus (times (at 0) (at 0)) (times (at 1) (at 1))

abbrev THIRD : Expr
THIRD = plus (times (at 2) (at 2)) (times (at 3) (at 3))

abbrev CX : Expr
CX = minus (times CHORD (at 3)) (times THIRD (at 1))

abbrev CY : Expr
CY = minus (times (at 0) THIRD) (times (at 2) CHORD)

none : (a : ℤ) → a ≡ pos 0 → pos 0 ≤ℤ a
none a e = omega (arith, ints, e)

seen : (t f : ℤ) → t -ℤ (f *ℤ pos 1) ≡ t -ℤ f
seen t f = omega (arith, ints)

seen_zero : (f : ℤ) → f -ℤ (f *ℤ pos 1) ≡ pos 0
seen_zero f = omega (arith, ints)

abbrev given : HalfArc → ℕ → ℤ
given h = vars ((h.to.x -ℤ h.from.x) ∷ (h.to.y -ℤ h.from.y) ∷ (h.third.x -ℤ h.from.x)
    ∷ (h.third.y -ℤ h.from.y) ∷ [])

pub to-bow : (h : HalfArc) → bow h (point h.to) ≡ pos 0
unfolding bow bend
to-bow h =
    ap (λ (v : ℤ). pos 0 -ℤ (bend h *ℤ ((wide h *ℤ v) -ℤ (tall h *ℤ off_x h (point h.to)))))
    (seen h.to.y h.from.y)
    ∙ ap (λ (v : ℤ). pos 0 -ℤ (bend h *ℤ ((wide h *ℤ tall h) -ℤ (tall h *ℤ v))))
    (seen h.to.x h.from.x)
    ∙ ring (minus (num (pos 0)) (times BEND (minus (times (at 0) (at 1)) (times (at 1) (at 0)))))
    (num (pos 0)) (given h) refl

pub to_on : (h : HalfArc) → IsOnHalfArc h (point h.to)
unfolding power bend circle_x circle_y
to_on h = record {
  circle = same_shape (bend h) (circle_x h) (circle_y h) _ _ _ _ _ _ (seen h.to.x h.from.x)
      (seen h.to.y h.from.y) refl
      ∙ ring (POWER BEND CX CY (at 0) (at 1) (num (pos 1))) (num (pos 0)) (given h) refl;
  away = none (bow h (point h.to)) (to-bow h);
}

pub from-bow : (h : HalfArc) → bow h (point h.from) ≡ pos 0
unfolding bow
from-bow h =
    ap (λ (v : ℤ). pos 0 -ℤ (bend h *ℤ ((wide h *ℤ v) -ℤ (tall h *ℤ off_x h (point h.from)))))
    (seen_zero h.from.y)
    ∙ ap (λ (v : ℤ). pos 0 -ℤ (bend h *ℤ ((wide h *ℤ pos 0) -ℤ (tall h *ℤ v)))) (seen_zero h.from.x)
    ∙ ring (minus (num (pos 0))
    (times (at 0) (minus (times (at 1) (num (pos 0))) (times (at 2) (num (pos 0))))))
    (num (pos 0)) (vars (bend h ∷ wide h ∷ tall h ∷ [])) refl

pub from_on : (h : HalfArc) → IsOnHalfArc h (point h.from)
unfolding power
from_on h = record {
  circle = same_shape (bend h) (circle_x h) (circle_y h) _ _ _ _ _ _ (seen_zero h.from.x)
      (seen_zero h.from.y) refl
      ∙ ring (POWER (at 0) (at 1) (at 2) (num (pos 0)) (num (pos 0)) (num (pos 1))) (num (pos 0))
      (vars (bend h ∷ circle_x h ∷ circle_y h ∷ [])) refl;
  away = none (bow h (point h.from)) (from-bow h);
}
