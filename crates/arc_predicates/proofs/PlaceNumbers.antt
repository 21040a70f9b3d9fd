-- Places seen from the first point of a circle.
use Rattle.std.proofs.Common.{◌≡◌, ◌^◌, ◌+◌, ◌-◌, ◌≤◌, ℕ, [], ◌∷◌, Bool, IsTrue, ◌↔◌, inl, inr, ℤ}
use Rattle.std.proofs.Common.{pos, ◌+ℤ◌, ◌*ℤ◌, ◌-ℤ◌, ◌<ℤ◌, ◌≤ℤ◌, arith, ap, sym, ◌∙◌, subst, refl}
use Rattle.std.proofs.lemmas.Int.{ints}
use Rattle.plane.specs.Numbers.{IsNear, IsWithin}
use Rattle.plane.specs.declared.kinds.Curve.{Curve}
use Rattle.plane.specs.Rule.BadPairs.{sixteenth}
use Rattle.plane.specs.Rule.Turns.{AreNear}
use Rattle.plane.proofs.Algebra.Ring.{at, num, plus, minus, times, vars, ring}
use Rattle.plane.proofs.Algebra.Scaling.{times_le}
use Rattle.plane.specs.Rule.HalfArcs.{HalfArc, HasCircle, HasSide, bend, circle_x, circle_y, power}
use Rattle.plane.specs.Rule.HalfArcs.{bow, off_x, off_y, wide, tall, third_x, third_y}
use Rattle.plane.specs.Rule.Places.{Vector}
use Rattle.plane.proofs.Algebra.Bounds.{near_within, within_difference, within_product, within_sum}
use Rattle.arc_predicates.specs.Circles.{IsCloseTo, IsPart, IsShort, place, seen_power}
use Rattle.arc_predicates.proofs.Sums.{within_by}

pub part_within : (n : ℤ) → IsPart n → IsWithin (2 ^ 5) n
part_within n (inl e) = omega (arith, ints, e)
part_within n (inr e) = omega (arith, ints, e)

pub close_right : (h : HalfArc) (x y n : ℤ) → IsPart n → IsCloseTo h (place x y n)
    → IsWithin (2 ^ 45) (x -ℤ (h.from.x *ℤ n))
close_right h x y n (inl e) c =
    let r = c.right in
    let l = c.left in
    subst (λ (k : ℤ). (x -ℤ (h.from.x *ℤ k)) <ℤ (pos (2 ^ 41) *ℤ k)
    → (pos 0 -ℤ (x -ℤ (h.from.x *ℤ k))) <ℤ (pos (2 ^ 41) *ℤ k)
    → IsWithin (2 ^ 45) (x -ℤ (h.from.x *ℤ k))) (sym e) (λ a b. omega (arith, ints, a, b)) r l
close_right h x y n (inr e) c =
    let r = c.right in
    let l = c.left in
    subst (λ (k : ℤ). (x -ℤ (h.from.x *ℤ k)) <ℤ (pos (2 ^ 41) *ℤ k)
    → (pos 0 -ℤ (x -ℤ (h.from.x *ℤ k))) <ℤ (pos (2 ^ 41) *ℤ k)
    → IsWithin (2 ^ 45) (x -ℤ (h.from.x *ℤ k))) (sym e) (λ a b. omega (arith, ints, a, b)) r l

pub close_above : (h : HalfArc) (x y n : ℤ) → IsPart n → IsCloseTo h (place x y n)
    → IsWithin (2 ^ 45) (y -ℤ (h.from.y *ℤ n))
close_above h x y n p c =
    close_right (record {
      from = record { x = h.from.y; y = h.from.x };
      to = h.to;
      third = h.third;
    }) y x n p (record {
      right = c.above;
      left = c.below;
      above = c.right;
      below = c.left;
    })

short_by : (z n : ℤ) → IsPart n → IsShort z n → IsWithin (2 ^ 32) z
short_by z n (inl e) s =
    subst (λ (k : ℤ). IsShort z k → IsWithin (2 ^ 32) z) (sym e)
    (λ t. omega (arith, ints, t.0, t.1)) s
short_by z n (inr e) s =
    subst (λ (k : ℤ). IsShort z k → IsWithin (2 ^ 32) z) (sym e)
    (λ t. omega (arith, ints, t.0, t.1)) s

pub short_within : (z n : ℤ) → IsPart n → IsShort z n → IsWithin (2 ^ 32) z
short_within = short_by

-- ---- widths of a circle's numbers
wide_within : (h : HalfArc) → HasCircle h → IsWithin (2 ^ 26) (wide h)
wide_within h c = near_within (2 ^ 26) h.from.x h.to.x c.ends.x

tall_within : (h : HalfArc) → HasCircle h → IsWithin (2 ^ 26) (tall h)
tall_within h c = near_within (2 ^ 26) h.from.y h.to.y c.ends.y

third_x_within : (h : HalfArc) → HasCircle h → IsWithin (2 ^ 26) (third_x h)
third_x_within h c = near_within (2 ^ 26) h.from.x h.third.x c.first.x

third_y_within : (h : HalfArc) → HasCircle h → IsWithin (2 ^ 26) (third_y h)
third_y_within h c = near_within (2 ^ 26) h.from.y h.third.y c.first.y

pub bend_within : (h : HalfArc) → HasCircle h → IsWithin (2 ^ 53) (bend h)
unfolding bend
bend_within h c =
    within_difference (2 ^ 52) (2 ^ 52) _ _
    (within_product (2 ^ 26) (2 ^ 26) _ _ (wide_within h c) (third_y_within h c))
    (within_product (2 ^ 26) (2 ^ 26) _ _ (tall_within h c) (third_x_within h c))

squares : (x y : ℤ) → IsWithin (2 ^ 26) x → IsWithin (2 ^ 26) y
    → IsWithin (2 ^ 53) ((x *ℤ x) +ℤ (y *ℤ y))
squares x y h k =
    within_sum (2 ^ 52) (2 ^ 52) _ _ (within_product (2 ^ 26) (2 ^ 26) x x h h)
    (within_product (2 ^ 26) (2 ^ 26) y y k k)

pub circle_x_within : (h : HalfArc) → HasCircle h → IsWithin (2 ^ 80) (circle_x h)
unfolding circle_x
circle_x_within h c = within_difference (2 ^ 79) (2 ^ 79) _ _
    (within_product (2 ^ 53) (2 ^ 26) _ _ (squares _ _ (wide_within h c) (tall_within h c))
    (third_y_within h c))
    (within_product (2 ^ 53) (2 ^ 26) _ _ (squares _ _ (third_x_within h c) (third_y_within h c))
    (tall_within h c))

pub circle_y_within : (h : HalfArc) → HasCircle h → IsWithin (2 ^ 80) (circle_y h)
unfolding circle_y
circle_y_within h c = within_difference (2 ^ 79) (2 ^ 79) _ _
    (within_product (2 ^ 26) (2 ^ 53) _ _ (wide_within h c)
    (squares _ _ (third_x_within h c) (third_y_within h c)))
    (within_product (2 ^ 26) (2 ^ 53) _ _ (third_x_within h c)
    (squares _ _ (wide_within h c) (tall_within h c)))

pub far_within : (x y far : ℤ) → IsWithin (2 ^ 32) x → IsWithin (2 ^ 32) y
    → far ≡ (x *ℤ x) +ℤ (y *ℤ y) → IsWithin (2 ^ 65) far
far_within x y far h k e =
    within_by (2 ^ 65) far _ e
    (within_sum (2 ^ 64) (2 ^ 64) _ _ (within_product (2 ^ 32) (2 ^ 32) x x h h)
    (within_product (2 ^ 32) (2 ^ 32) y y k k))

pub ahead_within : (a b x y ahead : ℤ) → IsWithin (2 ^ 80) a → IsWithin (2 ^ 80) b
    → IsWithin (2 ^ 32) x → IsWithin (2 ^ 32) y → ahead ≡ (a *ℤ x) +ℤ (b *ℤ y)
    → IsWithin (2 ^ 113) ahead
ahead_within a b x y ahead h k f g e =
    within_by (2 ^ 113) ahead _ e
    (within_sum (2 ^ 112) (2 ^ 112) _ _ (within_product (2 ^ 80) (2 ^ 32) a x h f)
    (within_product (2 ^ 80) (2 ^ 32) b y k g))

pub over_within : (d ahead n far over : ℤ) → IsWithin (2 ^ 53) d → IsWithin (2 ^ 113) ahead
    → IsWithin (2 ^ 5) n → IsWithin (2 ^ 65) far → over ≡ (d *ℤ far) -ℤ (ahead *ℤ n)
    → IsWithin (2 ^ 126) over
over_within d ahead n far over h k f g e =
    let w : IsWithin (2 ^ 118 + 2 ^ 118) over = within_by (2 ^ 118 + 2 ^ 118) over _ e
    (within_difference (2 ^ 118) (2 ^ 118) _ _ (within_product (2 ^ 53) (2 ^ 65) d far h g)
    (within_product (2 ^ 113) (2 ^ 5) ahead n k f)) in
    omega (arith, ints, w)

-- ---- the power and the bow of a place that is seen so
pub seen_is : (d a b x y n far ahead over : ℤ) → far ≡ (x *ℤ x) +ℤ (y *ℤ y)
    → ahead ≡ (a *ℤ x) +ℤ (b *ℤ y) → over ≡ (d *ℤ far) -ℤ (ahead *ℤ n)
    → d *ℤ over ≡ seen_power d a b x y n
seen_is d a b x y n far ahead over e f g = cc

pub power_is : (h : HalfArc) (z : Vector) (d a b x y : ℤ) → d ≡ bend h → a ≡ circle_x h
    → b ≡ circle_y h → x ≡ off_x h z → y ≡ off_y h z → seen_power d a b x y z.n ≡ power h z
unfolding power
power_is h z d a b x y e f g i j = cc

pub bow_is : (h : HalfArc) (z : Vector) (d u v x y over : ℤ) → d ≡ bend h → u ≡ wide h → v ≡ tall h
    → x ≡ off_x h z → y ≡ off_y h z → over ≡ (u *ℤ y) -ℤ (v *ℤ x) → pos 0 -ℤ (d *ℤ over) ≡ bow h z
unfolding bow
bow_is h z d u v x y over e f g i j k = cc

pub has_side : (h : HalfArc) (x y n px py : ℤ) → HasCircle h → px ≡ x -ℤ (h.from.x *ℤ n)
    → py ≡ y -ℤ (h.from.y *ℤ n) → IsShort px n × IsShort py n → HasSide h (place x y n)
has_side h x y n px py c e f s = record {
  circle = c;
  right = subst (λ (z : ℤ). z <ℤ (pos (2 ^ 28) *ℤ n)) e s.0.0;
  left = subst (λ (z : ℤ). (pos 0 -ℤ z) <ℤ (pos (2 ^ 28) *ℤ n)) e s.0.1;
  above = subst (λ (z : ℤ). z <ℤ (pos (2 ^ 28) *ℤ n)) f s.1.0;
  below = subst (λ (z : ℤ). (pos 0 -ℤ z) <ℤ (pos (2 ^ 28) *ℤ n)) f s.1.1;
}

pub side_has : (h : HalfArc) (x y n px py : ℤ) → px ≡ x -ℤ (h.from.x *ℤ n)
    → py ≡ y -ℤ (h.from.y *ℤ n) → HasSide h (place x y n) → IsShort px n × IsShort py n
side_has h x y n px py e f s = (
  (
    subst (λ (z : ℤ). z <ℤ (pos (2 ^ 28) *ℤ n)) (sym e) s.right,
    subst (λ (z : ℤ). (pos 0 -ℤ z) <ℤ (pos (2 ^ 28) *ℤ n)) (sym e) s.left,
  ),
  (
    subst (λ (z : ℤ). z <ℤ (pos (2 ^ 28) *ℤ n)) (sym f) s.above,
    subst (λ (z : ℤ). (pos 0 -ℤ z) <ℤ (pos (2 ^ 28) *ℤ n)) (sym f) s.below,
  ),
)

pub near_over : (m : ℕ) (a b r : ℤ) → IsNear m a b → r ≡ b -ℤ a → IsWithin m r
near_over m a b r h e = within_by m r _ e (near_within m a b h)

pub near_wider : (a b : ℤ) → IsNear (2 ^ 32) a b → IsNear (2 ^ 41) a b
near_wider a b h = record {
  above = omega (arith, ints, h.above);
  below = omega (arith, ints, h.below);
}

pub near_much_wider : (a b : ℤ) → IsNear (2 ^ 26) a b → IsNear (2 ^ 41) a b
near_much_wider a b h = record {
  above = omega (arith, ints, h.above);
  below = omega (arith, ints, h.below);
}

-- a point is the place with one part
pub one_part : (x s r : ℤ) → r ≡ x -ℤ s → r ≡ x -ℤ (s *ℤ pos 1)
one_part x s r e = let o = one s in omega (arith, ints, e, o)
  where
    one : (a : ℤ) → a *ℤ pos 1 ≡ a
    one a = omega (arith, ints)

pub turned_within : (u v x y over : ℤ) → IsWithin (2 ^ 41) u → IsWithin (2 ^ 41) v
    → IsWithin (2 ^ 45) x → IsWithin (2 ^ 45) y → over ≡ (u *ℤ y) -ℤ (v *ℤ x)
    → IsWithin (2 ^ 126) over
turned_within u v x y over h k f g e =
    let w : IsWithin (2 ^ 86 + 2 ^ 86) over = within_by (2 ^ 86 + 2 ^ 86) over _ e
    (within_difference (2 ^ 86) (2 ^ 86) _ _ (within_product (2 ^ 41) (2 ^ 45) u y h g)
    (within_product (2 ^ 41) (2 ^ 45) v x k f)) in
    omega (arith, ints, w)

pub away_by : (b : Bool) (d z g : ℤ) → (IsTrue b ↔ ((d *ℤ z) ≤ℤ pos 0)) → pos 0 -ℤ (d *ℤ z) ≡ g
    → IsTrue b ↔ (pos 0 ≤ℤ g)
away_by b d z g h e =
    ((λ t. let k = h.0 t in omega (arith, ints, e, k)), (λ k. h.1 (omega (arith, ints, e, k))))

-- ---- places at sixteenths
weighed : (j k a b s : ℤ) → j +ℤ k ≡ pos 16
    → ((j *ℤ a) +ℤ (k *ℤ b)) -ℤ (s *ℤ pos 16) ≡ (j *ℤ (a -ℤ s)) +ℤ (k *ℤ (b -ℤ s))
weighed j k a b s e =
    ap (λ (n : ℤ). ((j *ℤ a) +ℤ (k *ℤ b)) -ℤ (s *ℤ n)) (sym e)
    ∙ ring (minus (plus (times (at 0) (at 2)) (times (at 1) (at 3)))
    (times (at 4) (plus (at 0) (at 1))))
    (plus (times (at 0) (minus (at 2) (at 4))) (times (at 1) (minus (at 3) (at 4))))
    (vars (j ∷ k ∷ a ∷ b ∷ s ∷ [])) refl

most : (j k u v : ℤ) → j +ℤ k ≡ pos 16 → pos 0 ≤ℤ j → pos 0 ≤ℤ k → u <ℤ pos (2 ^ 41)
    → v <ℤ pos (2 ^ 41) → ((j *ℤ u) +ℤ (k *ℤ v)) <ℤ pos (2 ^ 45)
most j k u v e hj hk hu hv =
    let p = times_le j u (pos (2 ^ 41 - 1)) hj (omega (arith, ints, hu)) in
    let q = times_le k v (pos (2 ^ 41 - 1)) hk (omega (arith, ints, hv)) in
    let r : (j *ℤ pos (2 ^ 41 - 1)) +ℤ (k *ℤ pos (2 ^ 41 - 1))
    ≡ (j +ℤ k) *ℤ pos (2 ^ 41 - 1) =
    ring (plus (times (at 0) (at 2)) (times (at 1) (at 2))) (times (plus (at 0) (at 1)) (at 2))
    (vars (j ∷ k ∷ pos (2 ^ 41 - 1) ∷ [])) refl in
    let t : (j +ℤ k) *ℤ pos (2 ^ 41 - 1)
    ≡ pos 16 *ℤ pos (2 ^ 41 - 1) = ap (λ (n : ℤ). n *ℤ pos (2 ^ 41 - 1)) e in
    omega (arith, ints, p, q, r, t)

least : (j k u v : ℤ) → (j *ℤ (pos 0 -ℤ u)) +ℤ (k *ℤ (pos 0 -ℤ v)) ≡ pos 0 -ℤ ((j *ℤ u) +ℤ (k *ℤ v))
least j k u v =
    ring (plus (times (at 0) (minus (num (pos 0)) (at 2)))
    (times (at 1) (minus (num (pos 0)) (at 3))))
    (minus (num (pos 0)) (plus (times (at 0) (at 2)) (times (at 1) (at 3))))
    (vars (j ∷ k ∷ u ∷ v ∷ [])) refl

parts : (k : ℕ) → k ≤ 16 → pos (16 - k) +ℤ pos k ≡ pos 16
parts k l = omega (arith, ints, l)

mean_right : (k : ℕ) (a b s : ℤ) → k ≤ 16 → IsNear (2 ^ 41) s a → IsNear (2 ^ 41) s b
    → (((pos (16 - k) *ℤ a) +ℤ (pos k *ℤ b)) -ℤ (s *ℤ pos 16)) <ℤ pos (2 ^ 45)
mean_right k a b s l h g =
    let w = weighed (pos (16 - k)) (pos k) a b s (parts k l) in
    let m = most (pos (16 - k)) (pos k) (a -ℤ s) (b -ℤ s) (parts k l) (omega (arith, ints))
    (omega (arith, ints)) (omega (arith, ints, h.below)) (omega (arith, ints, g.below)) in
    omega (arith, ints, w, m)

mean_left : (k : ℕ) (a b s : ℤ) → k ≤ 16 → IsNear (2 ^ 41) s a → IsNear (2 ^ 41) s b
    → (pos 0 -ℤ (((pos (16 - k) *ℤ a) +ℤ (pos k *ℤ b)) -ℤ (s *ℤ pos 16))) <ℤ pos (2 ^ 45)
mean_left k a b s l h g =
    let w = weighed (pos (16 - k)) (pos k) a b s (parts k l) in
    let n = least (pos (16 - k)) (pos k) (a -ℤ s) (b -ℤ s) in
    let m = most (pos (16 - k)) (pos k) (pos 0 -ℤ (a -ℤ s)) (pos 0 -ℤ (b -ℤ s)) (parts k l)
    (omega (arith, ints)) (omega (arith, ints)) (omega (arith, ints, h.above))
    (omega (arith, ints, g.above)) in
    omega (arith, ints, w, m, n)

pub sixteenth_close : (h : HalfArc) (c : Curve) (k : ℕ) → k ≤ 16 → AreNear (2 ^ 41) h.from c.from
    → AreNear (2 ^ 41) h.from c.to → IsCloseTo h (sixteenth c k)
sixteenth_close h c k l f t = record {
  right = mean_right k c.from.x c.to.x h.from.x l f.x t.x;
  left = mean_left k c.from.x c.to.x h.from.x l f.x t.x;
  above = mean_right k c.from.y c.to.y h.from.y l f.y t.y;
  below = mean_left k c.from.y c.to.y h.from.y l f.y t.y;
}
