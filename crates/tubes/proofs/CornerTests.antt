-- The conditions on the corners of a tube, as their tests take them.
use Rattle.std.proofs.Common.{rules, ◌≡◌, ◌↔◌, ◌^◌, ◌-◌, ◌<◌, ◌≤◌, ℕ, zero, suc, IsTrue, ℤ, pos}
use Rattle.std.proofs.Common.{negsuc, ◌+ℤ◌, ◌*ℤ◌, ◌-ℤ◌, ◌<ℤ◌, ◌≤ℤ◌, [], ◌∷◌, List, length, drop}
use Rattle.std.proofs.Common.{arith, ap, refl, sym, ◌∙◌, subst}
use Rattle.std.specs.Int.Signed.{lt_z}
use Rattle.std.specs.Prelude.{unsigned_abs}
use Rattle.std.proofs.lemmas.Int.{ints}
use Rattle.plane.specs.Forms.Arcs.{along, facing}
use Rattle.plane.specs.Forms.Vectors.{point}
use Rattle.plane.specs.Lists.{Each, First, Last, Neighbours}
use Rattle.plane.specs.Numbers.{IsNear, IsWithin}
use Rattle.plane.specs.Rule.HalfArcs.{HalfArc, bend}
use Rattle.plane.specs.Rule.Turns.{AreNear, cross}
use Rattle.plane.specs.Tubes.Bays.{AreBays, AreNext, Bay, IsBay, ahead_of_from, ahead_of_to, bays}
use Rattle.plane.specs.Tubes.Bays.{distance, outward}
use Rattle.plane.specs.declared.kinds.Point.{Point}
use Rattle.plane.proofs.Algebra.Bounds.{within_product, within_sum}
use Rattle.plane.proofs.Algebra.Laws.{product_positive}
use Rattle.plane.proofs.Algebra.Ring.{at, minus, num, ring, times, vars}
use Rattle.plane.proofs.Algebra.Scaling.{product_negative}
use Rattle.arc_predicates.specs.Circles.{half_arc}
use Rattle.arc_predicates.specs.declared.circles.Circle.{Circle}
use Rattle.straight_predicates.specs.Signs.{HasSign}
use Rattle.straight_predicates.specs.declared.turns.Turn.{Turn}
use Rattle.straight_predicates.specs.declared.turns.Turn.TheVariants as turn
use Rattle.tubes.specs.Holding.{nth}
use Rattle.tubes.specs.Making.{AreCorners, AreOutside, IsFar, IsUnder, bay}

-- ---- near points
pub near_by_sizes : (a b : ℤ) (m : ℕ) → (unsigned_abs (a -ℤ b) < m) ↔ IsNear m a b
near_by_sizes a b m = ((λ l. from_size (a -ℤ b) a b m refl l), (λ h. to_size (a -ℤ b) a b m refl h))
  where
    from_size : (z a b : ℤ) (m : ℕ) → z ≡ a -ℤ b → unsigned_abs z < m → IsNear m a b
    from_size (pos n) a b m e l = record {
      above = omega (arith, ints, e, l);
      below = omega (arith, ints, e, l);
    }
    from_size (negsuc n) a b m e l = record {
      above = omega (arith, ints, e, l);
      below = omega (arith, ints, e, l);
    }

    to_size : (z a b : ℤ) (m : ℕ) → z ≡ a -ℤ b → IsNear m a b → unsigned_abs z < m
    to_size (pos n) a b m e h = omega (arith, ints, e, h.above, h.below)
    to_size (negsuc n) a b m e h = omega (arith, ints, e, h.above, h.below)

-- ---- the turn of three points as the half arc goes
turned : (p q r : Point) (d : ℤ) → pos 0 -ℤ (d *ℤ cross p q r) ≡ d *ℤ cross q p r
turned p q r d = ring
    (minus (num (pos 0))
    (times (at 6)
    (minus (times (minus (at 2) (at 0)) (minus (at 5) (at 1)))
    (times (minus (at 3) (at 1)) (minus (at 4) (at 0))))))
    (times (at 6)
    (minus (times (minus (at 0) (at 2)) (minus (at 5) (at 3)))
    (times (minus (at 1) (at 3)) (minus (at 4) (at 2)))))
    (vars (p.x ∷ p.y ∷ q.x ∷ q.y ∷ r.x ∷ r.y ∷ d ∷ [])) refl

sign_times : (t : Turn) (d z : ℤ) → pos 0 <ℤ d → HasSign t z → HasSign t (d *ℤ z)
sign_times turn.Left d z l h = product_positive d z l h
sign_times turn.Straight d z l h = ap (λ z. d *ℤ z) h ∙ zero_of d
  where
    zero_of : (d : ℤ) → d *ℤ pos 0 ≡ pos 0
    zero_of d = omega (arith, ints)
sign_times turn.Right d z l h = product_negative d z l h

pub outward_left : (h : HalfArc) (d : ℤ) (p q r : Point) (t : Turn) → d ≡ bend h → pos 0 <ℤ d
    → HasSign t (cross q p r) → HasSign t (outward h p q r)
unfolding outward
outward_left h d p q r t e l s =
    subst (HasSign t) (ap (λ b. b *ℤ cross q p r) e ∙ sym (turned p q r (bend h)))
    (sign_times t d (cross q p r) l s)

pub outward_right : (h : HalfArc) (d : ℤ) (p q r : Point) (t : Turn) → d ≡ bend h → d <ℤ pos 0
    → HasSign t (cross p q r) → HasSign t (outward h p q r)
unfolding outward
outward_right h d p q r t e l s =
    subst (HasSign t) (flip d (cross p q r) ∙ ap (λ b. pos 0 -ℤ (b *ℤ cross p q r)) e)
    (sign_times t (pos 0 -ℤ d) (cross p q r) (omega (arith, ints, l)) s)
  where
    flip : (d z : ℤ) → (pos 0 -ℤ d) *ℤ z ≡ pos 0 -ℤ (d *ℤ z)
    flip d z = ring (times (minus (num (pos 0)) (at 0)) (at 1))
        (minus (num (pos 0)) (times (at 0) (at 1))) (vars (d ∷ z ∷ [])) refl

pub below_zero : (d : ℤ) → d ≤ℤ pos 0 → (d ≡ pos 0 → ⊥) → d <ℤ pos 0
below_zero (pos zero) l n = absurd (n refl)
below_zero (pos (suc d)) l n = absurd (omega (arith, ints, l))
below_zero (negsuc d) l n = omega (arith, ints)

pub outward_back : (h : HalfArc) (p q r : Point) → outward h q p r ≡ pos 0 -ℤ outward h p q r
unfolding outward
outward_back h p q r = ap (λ z. pos 0 -ℤ z) (sym (turned p q r (bend h)))

-- ---- sums
pub along_is : (k : Circle) (p : Point) (w t x y r : ℤ) → w ≡ k.m.x -ℤ k.s.x → t ≡ k.m.y -ℤ k.s.y
    → x ≡ p.x -ℤ k.s.x → y ≡ p.y -ℤ k.s.y → r ≡ (w *ℤ x) +ℤ (t *ℤ y)
    → r ≡ along (half_arc k) (point p)
unfolding along
along_is k p w t x y r e f g i j =
    let a = one k.s.x in
    let b = one k.s.y in
    j ∙ rw (e, f, g, i, a, b) refl
  where
    one : (z : ℤ) → z *ℤ pos 1 ≡ z
    one z = omega (arith, ints)

pub facing_is : (k : Circle) (x y u v r : ℤ) → x ≡ k.e.x -ℤ k.s.x → y ≡ k.e.y -ℤ k.s.y
    → u ≡ k.e.x -ℤ k.m.x → v ≡ k.e.y -ℤ k.m.y → r ≡ (x *ℤ u) +ℤ (y *ℤ v) → r ≡ facing (half_arc k)
unfolding facing
facing_is k x y u v r e f g i j =
    let a = less k.e.x k.m.x k.s.x in
    let b = less k.e.y k.m.y k.s.y in
    j ∙ rw (e, f, g, i, a, b) refl
  where
    less : (e m s : ℤ) → (e -ℤ s) -ℤ (m -ℤ s) ≡ e -ℤ m
    less e m s = omega (arith, ints)

pub squares_within : (x y s : ℤ) → IsWithin (2 ^ 29) x → IsWithin (2 ^ 29) y
    → s ≡ (x *ℤ x) +ℤ (y *ℤ y) → IsWithin (2 ^ 59) s
squares_within x y s h k e =
    subst (IsWithin (2 ^ 59)) (sym e)
    (within_sum (2 ^ 58) (2 ^ 58) _ _ (within_product (2 ^ 29) (2 ^ 29) x x h h)
    (within_product (2 ^ 29) (2 ^ 29) y y k k))

-- ---- neighbours among the bays
pub under_next : (h : HalfArc) (o v n w : Point) → IsUnder h o v n ↔ AreNext h (bay o v) (bay n w)
under_next h o v n w = (
  (λ u. record { under = u.under; first_far = u.first_far; second_far = u.second_far }),
  (λ u. record { under = u.under; first_far = u.first_far; second_far = u.second_far }),
)

next_split : (h : HalfArc) (vs os : List Point) (j : ℕ) → suc j < length os → length vs ≡ length os
    → Neighbours (AreNext h) (bays (drop j vs) (drop j os))
    ↔ (IsUnder h (nth os j) (nth vs j) (nth os (suc j))
    × Neighbours (AreNext h) (bays (drop (suc j) vs) (drop (suc j) os)))
next_split h [] (o ∷ os) j l e = absurd (omega (arith, e))
next_split h vs [] j l e = absurd (omega (arith, l))
next_split h (v ∷ []) (o ∷ os) zero l e = absurd (omega (arith, l, e))
next_split h (v ∷ (w ∷ vs)) (o ∷ []) zero l e = absurd (omega (arith, l))
next_split h (v ∷ (w ∷ vs)) (o ∷ (n ∷ os)) zero l e =
    let u = under_next h o v n w in ((λ p. (u.1 p.0, p.1)), (λ p. (u.0 p.0, p.1)))
next_split h (v ∷ vs) (o ∷ os) (suc j) l e =
    next_split h vs os j (omega (arith, l)) (omega (arith, e))

pub next_at : (h : HalfArc) (vs os : List Point) (i : ℕ) → 1 ≤ i → i < length os
    → length vs ≡ length os
    → Neighbours (AreNext h) (bays (drop (i - 1) vs) (drop (i - 1) os))
    ↔ (IsUnder h (nth os (i - 1)) (nth vs (i - 1)) (nth os i)
    × Neighbours (AreNext h) (bays (drop i vs) (drop i os)))
next_at h vs os i f l e =
    let s : suc (i - 1) ≡ i = omega (arith, f) in
    subst (λ i2. Neighbours (AreNext h) (bays (drop (i - 1) vs) (drop (i - 1) os))
    ↔ (IsUnder h (nth os (i - 1)) (nth vs (i - 1)) (nth os i2)
    × Neighbours (AreNext h) (bays (drop i2 vs) (drop i2 os)))) s
    (next_split h vs os (i - 1) (omega (arith, f, l)) e)

no_bays : (h : HalfArc) (vs : List Point) → Neighbours (AreNext h) (bays vs [])
no_bays h [] = tt
no_bays h (v ∷ vs) = tt

pub next_ends : (h : HalfArc) (vs os : List Point) (j : ℕ) → length os ≤ suc j
    → Neighbours (AreNext h) (bays (drop j vs) (drop j os))
next_ends h [] os zero l = tt
next_ends h [] os (suc j) l = tt
next_ends h (v ∷ vs) [] zero l = tt
next_ends h (v ∷ vs) [] (suc j) l = no_bays h (drop j vs)
next_ends h (v ∷ []) (o ∷ []) zero l = (tt, tt)
next_ends h (v ∷ (w ∷ vs)) (o ∷ []) zero l = (tt, tt)
next_ends h (v ∷ vs) (o ∷ (n ∷ os)) zero l = absurd (omega (arith, l))
next_ends h (v ∷ vs) (o ∷ os) (suc j) l = next_ends h vs os j (omega (arith, l))

-- ---- the first and the last bay
pub first_bays : (P : Point → Type 0) (vs os : List Point) → length vs ≡ length os
    → First (λ (b : Bay). P b.outer) (bays vs os) ↔ First P os
first_bays P [] [] e = ((λ h. h), (λ h. h))
first_bays P [] (o ∷ os) e = absurd (omega (arith, e))
first_bays P (v ∷ vs) [] e = absurd (omega (arith, e))
first_bays P (v ∷ vs) (o ∷ os) e = ((λ h. h), (λ h. h))

pub last_bays : (P : Point → Type 0) (vs os : List Point) → length vs ≡ length os
    → Last (λ (b : Bay). P b.outer) (bays vs os) ↔ Last P os
last_bays P [] [] e = ((λ h. h), (λ h. h))
last_bays P [] (o ∷ os) e = absurd (omega (arith, e))
last_bays P (v ∷ vs) [] e = absurd (omega (arith, e))
last_bays P (v ∷ []) (o ∷ []) e = ((λ h. h), (λ h. h))
last_bays P (v ∷ []) (o ∷ (n ∷ os)) e = absurd (omega (arith, e))
last_bays P (v ∷ (w ∷ vs)) (o ∷ []) e = absurd (omega (arith, e))
last_bays P (v ∷ (w ∷ vs)) (o ∷ (n ∷ os)) e = last_bays P (w ∷ vs) (n ∷ os) (omega (arith, e))

pub corners_are : (h : HalfArc) (vs os : List Point) → length vs ≡ length os
    → ((Each (AreNear (2 ^ 28) h.from) vs × Each (AreNear (2 ^ 28) h.from) os)
    × (AreBays h h.from (bays vs os) × AreOutside h vs os)) ↔ AreCorners h vs os
corners_are h vs os e =
    let f = first_bays (λ o. ahead_of_from h o ≤ℤ pos 0) vs os e in
    let l = last_bays (λ o. ahead_of_to h o ≤ℤ pos 0) vs os e in (
      (λ p. record {
        inner_near = p.0.0;
        outer_near = p.0.1;
        are_bays = p.1.0;
        are_next = p.1.1.next;
        first_clear = f.1 p.1.1.first;
        last_clear = l.1 p.1.1.last;
      }),
      (λ c. (
        (c.inner_near, c.outer_near),
        (
          c.are_bays,
          record {
            next = c.are_next;
            first = f.0 c.first_clear;
            last = l.0 c.last_clear;
          },
        ),
      )),
    )

-- ---- tests
pub lt_test : (a b : ℤ) → IsTrue (lt_z a b) ↔ (a <ℤ b)
lt_test a b = ((λ t. search rules), (λ l. search rules))

pub bay_is : (h : HalfArc) (v o w : Point)
    → (((along h (point v) <ℤ along h (point o)) × (along h (point o) <ℤ along h (point w)))
    × (pos 0 <ℤ outward h v w o)) ↔ IsBay h v (bay o w)
bay_is h v o w =
    ((λ p. record { up = p.0.0; on = p.0.1; over = p.1 }), (λ b. ((b.up, b.on), b.over)))

pub under_is : (h : HalfArc) (o v n : Point)
    → ((pos 0 <ℤ outward h n o v) × (IsFar h o (distance o n) × IsFar h n (distance o n)))
    ↔ IsUnder h o v n
under_is h o v n =
    let e = outward_back h o n v in (
      (λ p. let l = p.0 in record {
        under = omega (arith, ints, e, l);
        first_far = p.1.0;
        second_far = p.1.1;
      }),
      (λ u. let l = u.under in (omega (arith, ints, e, l), (u.first_far, u.second_far))),
    )

pub outside_is : (h : HalfArc) (vs os : List Point)
    → (Neighbours (AreNext h) (bays vs os)
    × (First (λ o. ahead_of_from h o ≤ℤ pos 0) os × Last (λ o. ahead_of_to h o ≤ℤ pos 0) os))
    ↔ AreOutside h vs os
outside_is h vs os =
    ((λ p. record { next = p.0; first = p.1.0; last = p.1.1 }), (λ a. (a.next, (a.first, a.last))))
