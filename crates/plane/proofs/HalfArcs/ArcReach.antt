-- Boxes that hold the cap of a half arc, or the places that have a side for it; and that a tube's
-- places have one.
use Rattle.std.proofs.Common.{◌≡◌, ◌^◌, ◌-◌, zero, suc, ℤ, pos, negsuc, ◌+ℤ◌, ◌*ℤ◌, ◌-ℤ◌, ◌<ℤ◌}
use Rattle.std.proofs.Common.{◌≤ℤ◌, ◌⊎◌, inl, inr, List, [], ◌∷◌, refl, arith, ap, sym, ◌∙◌, subst}
use Rattle.std.proofs.lemmas.Int.{ints}
use Rattle.plane.specs.declared.kinds.Point.{Point}
use Rattle.plane.specs.Rule.Turns.{AreNear}
use Rattle.plane.specs.Forms.Vectors.{Vector, Place, point}
use Rattle.plane.specs.Lists.{Each}
use Rattle.plane.specs.Forms.Arcs.{HalfArc, wide, tall, third_x, third_y, off_x, off_y, bend}
use Rattle.plane.specs.Forms.Arcs.{circle_x, circle_y, facing, power}
use Rattle.plane.specs.Rule.HalfArcs.{HasCircle, HasSide}
use Rattle.plane.specs.Tubes.Bays.{Bay, InTube}
use Rattle.plane.specs.Forms.Boxes.{Box, InBox, GoesBeyond, size, steps, sides, InCap}
use Rattle.plane.proofs.Algebra.Laws.{product_comm, product_positive, product_nonnegative}
use Rattle.plane.proofs.Algebra.Laws.{square_nonnegative}
use Rattle.plane.proofs.Algebra.Scaling.{times_le, cancel_le}
use Rattle.plane.proofs.Algebra.Ring.{at, num, plus, minus, times, vars, ring}
use Rattle.plane.proofs.Caps.Powers.{power-from, power-to}
use Rattle.plane.proofs.Caps.Pictures.{bow-from, bow-to}
use Rattle.plane.proofs.HalfArcs.ArcBoxes.{InBand, cap_in_disc, cap_in_box, root_most}
use Rattle.plane.proofs.HalfArcs.ArcBoxes.{circle_squares, inside_is_near}
use Rattle.plane.proofs.HalfArcs.Boxes.{HasPoint, tube_has, times_same, near_in}

-- ---- sizes
size_is : (a : ℤ) → ((size a ≡ a) × (pos 0 ≤ℤ a)) ⊎ ((size a ≡ pos 0 -ℤ a) × (a ≤ℤ pos 0))
size_is (pos n) = inl (refl, omega (arith, ints))
size_is (negsuc n) = inr (omega (arith, ints), omega (arith, ints))

pub size_least : (a : ℤ) → pos 0 ≤ℤ size a
size_least a = omega (arith, ints)

size_square : (a : ℤ) → size a *ℤ size a ≡ a *ℤ a
size_square a = elim (size_is a) [
  | inl k ↦ ap (λ (x : ℤ). x *ℤ x) k.0
  | inr k ↦ ap (λ (x : ℤ). x *ℤ x) k.0
      ∙ ring (times (minus (num (pos 0)) (at 0)) (minus (num (pos 0)) (at 0))) (times (at 0) (at 0))
      (vars (a ∷ [])) refl
]

-- two sides of a right triangle are longer than the third
sum_square : (a b : ℤ) → ((a *ℤ a) +ℤ (b *ℤ b)) ≤ℤ ((size a +ℤ size b) *ℤ (size a +ℤ size b))
sum_square a b =
    let e = ring (times (plus (at 0) (at 1)) (plus (at 0) (at 1)))
    (plus (plus (times (at 0) (at 0)) (times (at 1) (at 1)))
    (times (num (pos 2)) (times (at 0) (at 1)))) (vars (size a ∷ size b ∷ [])) refl in
    let p = product_nonnegative (size a) (size b) (size_least a) (size_least b) in
    let f = size_square a in
    let g = size_square b in
    omega (arith, ints, e, p, f, g)

square_above : (a : ℤ) → (a ≡ pos 0 → ⊥) → pos 0 <ℤ (a *ℤ a)
square_above (pos (suc n)) h =
    product_positive (pos (suc n)) (pos (suc n)) (omega (arith, ints)) (omega (arith, ints))
square_above (pos zero) h = absurd (h refl)
square_above (negsuc n) h =
    let p = product_positive (pos (suc n)) (pos (suc n)) (omega (arith, ints))
    (omega (arith, ints)) in
    let e = size_square (negsuc n) in
    omega (arith, ints, p, e)

size_above : (a : ℤ) → (a ≡ pos 0 → ⊥) → pos 0 <ℤ size a
size_above (pos (suc n)) h = omega (arith, ints)
size_above (pos zero) h = absurd (h refl)
size_above (negsuc n) h = omega (arith, ints)

-- ---- half arcs of less than half a turn: the ends' box, each side moved out by half the other
-- extent
-- one coordinate: twice z is in a band round f f + w
band_high : (z n f w s t x hi : ℤ) → pos 0 <ℤ n
    → ((pos 2 *ℤ (z -ℤ (f *ℤ n))) -ℤ (w *ℤ n)) ≤ℤ ((s +ℤ t) *ℤ n) → t ≤ℤ (pos 2 *ℤ x)
    → (f +ℤ x) ≤ℤ hi → ((f +ℤ w) +ℤ x) ≤ℤ hi
    → ((s ≡ w) ⊎ (s ≡ pos 0 -ℤ w)) → z ≤ℤ (hi *ℤ n)
band_high z n f w s t x hi hn band half first second is =
    let most : ((((f +ℤ f) +ℤ w) +ℤ s) +ℤ t) ≤ℤ
    (hi +ℤ hi) =
    elim is [
      | inl e ↦ omega (arith, ints, half, second, e)
      | inr e ↦ omega (arith, ints, half, first, e)
    ] in
    let k = times_same ((((f +ℤ f) +ℤ w) +ℤ s) +ℤ t) (hi +ℤ hi) n hn most in
    let e = ring (times (plus (plus (plus (plus (at 0) (at 0)) (at 1)) (at 2)) (at 3)) (at 4))
    (plus (plus (plus (times (at 0) (at 4)) (times (at 0) (at 4))) (times (at 1) (at 4)))
    (times (plus (at 2) (at 3)) (at 4))) (vars (f ∷ w ∷ s ∷ t ∷ n ∷ [])) refl in
    let g = ring (times (plus (at 0) (at 0)) (at 1))
    (plus (times (at 0) (at 1)) (times (at 0) (at 1))) (vars (hi ∷ n ∷ [])) refl in
    omega (arith, ints, band, k, e, g)

band_low : (z n f w s t x lo : ℤ) → pos 0 <ℤ n
    → (pos 0 -ℤ ((pos 2 *ℤ (z -ℤ (f *ℤ n))) -ℤ (w *ℤ n))) ≤ℤ ((s +ℤ t) *ℤ n) → t ≤ℤ (pos 2 *ℤ x)
    → (lo +ℤ x) ≤ℤ f → (lo +ℤ x) ≤ℤ (f +ℤ w)
    → ((s ≡ w) ⊎ (s ≡ pos 0 -ℤ w)) → (lo *ℤ n) ≤ℤ z
band_low z n f w s t x lo hn band half first second is =
    let least : (((lo +ℤ lo) +ℤ s) +ℤ t) ≤ℤ
    ((f +ℤ f) +ℤ w) =
    elim is [
      | inl e ↦ omega (arith, ints, half, first, e)
      | inr e ↦ omega (arith, ints, half, second, e)
    ] in
    let k = times_same (((lo +ℤ lo) +ℤ s) +ℤ t) ((f +ℤ f) +ℤ w) n hn least in
    let e = ring (times (plus (plus (plus (at 0) (at 0)) (at 1)) (at 2)) (at 3))
    (plus (plus (times (at 0) (at 3)) (times (at 0) (at 3)))
    (times (plus (at 1) (at 2)) (at 3))) (vars (lo ∷ s ∷ t ∷ n ∷ [])) refl in
    let g = ring (times (plus (plus (at 0) (at 0)) (at 1)) (at 2))
    (plus (plus (times (at 0) (at 2)) (times (at 0) (at 2))) (times (at 1) (at 2)))
    (vars (f ∷ w ∷ n ∷ [])) refl in
    omega (arith, ints, band, k, e, g)

either : (a : ℤ) → (size a ≡ a) ⊎ (size a ≡ pos 0 -ℤ a)
either a = elim (size_is a) [ inl k ↦ inl k.0 | inr k ↦ inr k.0 ]

turned : (q s t n : ℤ) → q ≤ℤ ((s +ℤ t) *ℤ n) → q ≤ℤ ((t +ℤ s) *ℤ n)
turned q s t n h =
    let e = ring (times (plus (at 0) (at 1)) (at 2)) (times (plus (at 1) (at 0)) (at 2))
    (vars (s ∷ t ∷ n ∷ [])) refl in
    omega (arith, ints, h, e)

pub flat_cap_in_box : (h : HalfArc) (x y : ℤ) (b : Box) (z : Vector) → Place z
    → (bend h ≡ pos 0 → ⊥) → pos 0 ≤ℤ facing h → size (h.to.y -ℤ h.from.y) ≤ℤ (pos 2 *ℤ x)
    → size (h.to.x -ℤ h.from.x) ≤ℤ (pos 2 *ℤ y)
    → GoesBeyond h.from x y b → GoesBeyond h.to x y b → InCap h z → InBox b z
flat_cap_in_box h x y b z hz bent half hx hy first second in_cap =
    let w = h.to.x -ℤ h.from.x in
    let t = h.to.y -ℤ h.from.y in
    let disc = cap_in_disc h z hz (square_above (bend h) bent) half in_cap.within in_cap.away in
    let lw = size_least w in
    let lt = size_least t in
    let i : InBand h (size w +ℤ size t) z = cap_in_box h (size w +ℤ size t) z hz
    (omega (arith, ints, lw, lt)) (sum_square w t) disc in
    let a = second.left in
    let c = second.right in
    let d = second.under in
    let e = second.over in
    record {
      left = band_low z.x z.n h.from.x w (size w) (size t) x b.low.x hz i.left hx first.left
          (omega (arith, ints, a)) (either w);
      right = band_high z.x z.n h.from.x w (size w) (size t) x b.high.x hz i.right hx first.right
          (omega (arith, ints, c)) (either w);
      under = band_low z.y z.n h.from.y t (size t) (size w) y b.low.y hz
          (turned _ (size w) (size t) z.n i.under) hy first.under (omega (arith, ints, d))
          (either t);
      over = band_high z.y z.n h.from.y t (size t) (size w) y b.high.y hz
          (turned _ (size w) (size t) z.n i.over) hy first.over (omega (arith, ints, e)) (either t);
    }

-- ---- half arcs of any size
product_most : (a b c d : ℤ) → pos 0 ≤ℤ a → a ≤ℤ b → pos 0 ≤ℤ c → c ≤ℤ d → (a *ℤ c) ≤ℤ (b *ℤ d)
product_most a b c d ha hab hc hcd =
    let p = times_le a c d ha hcd in
    let q = times_le d a b (omega (arith, ints, hc, hcd)) hab in
    let e = product_comm a d in
    let f = product_comm b d in
    omega (arith, ints, p, q, e, f)

squares_least : (a b : ℤ) → pos 0 ≤ℤ ((a *ℤ a) +ℤ (b *ℤ b))
squares_least a b =
    let p = square_nonnegative a in let q = square_nonnegative b in omega (arith, ints, p, q)

three_most : (a b c k l m : ℤ) → pos 0 ≤ℤ a → a ≤ℤ (k *ℤ k) → pos 0 ≤ℤ b → b ≤ℤ (l *ℤ l)
    → pos 0 ≤ℤ c → c ≤ℤ (m *ℤ m) → ((a *ℤ b) *ℤ c) ≤ℤ (((k *ℤ l) *ℤ m) *ℤ ((k *ℤ l) *ℤ m))
three_most a b c k l m ha one hb two hc three =
    let both = product_most a (k *ℤ k) b (l *ℤ l) ha one hb two in
    let all = product_most (a *ℤ b) ((k *ℤ k) *ℤ (l *ℤ l)) c (m *ℤ m)
    (product_nonnegative a b ha hb) both hc three in
    let f = ring (times (times (times (at 0) (at 0)) (times (at 1) (at 1))) (times (at 2) (at 2)))
    (times (times (times (at 0) (at 1)) (at 2)) (times (times (at 0) (at 1)) (at 2)))
    (vars (k ∷ l ∷ m ∷ [])) refl in
    omega (arith, ints, all, f)

circle_most : (h : HalfArc)
    → ((circle_x h *ℤ circle_x h) +ℤ (circle_y h *ℤ circle_y h)) ≤ℤ (sides h *ℤ sides h)
unfolding sides
circle_most h =
    let k = steps h.from h.to in
    let l = steps h.from h.third in
    let m = steps h.to h.third in
    let wx = third_x h -ℤ wide h in
    let wy = third_y h -ℤ tall h in
    let one = sum_square (wide h) (tall h) in
    let two = sum_square (third_x h) (third_y h) in
    let ex : wx ≡ h.third.x -ℤ h.to.x = omega (arith, ints) in
    let ey : wy ≡ h.third.y -ℤ h.to.y = omega (arith, ints) in
    let three : ((wx *ℤ wx) +ℤ (wy *ℤ wy)) ≤ℤ (m *ℤ m) = subst
    (λ (u : ℤ). ((u *ℤ u) +ℤ (wy *ℤ wy)) ≤ℤ (m *ℤ m)) (sym ex)
    (subst (λ (u : ℤ). (((h.third.x -ℤ h.to.x) *ℤ (h.third.x -ℤ h.to.x)) +ℤ (u *ℤ u)) ≤ℤ
    (m *ℤ m)) (sym ey) (sum_square (h.third.x -ℤ h.to.x) (h.third.y -ℤ h.to.y))) in
    let a = squares_least (wide h) (tall h) in
    let b = squares_least (third_x h) (third_y h) in
    let c = squares_least wx wy in
    subst (λ (u : ℤ). u ≤ℤ (sides h *ℤ sides h)) (sym (circle_squares h))
    (three_most _ _ _ k l m a one b two c three)

-- one coordinate X, seen from the first end: D X is at most the sides' product times n
leg_most : (a N X n r : ℤ) → pos 0 <ℤ a → pos 0 ≤ℤ N → pos 0 <ℤ n
    → ((a *ℤ a) *ℤ (X *ℤ X)) ≤ℤ ((N *ℤ N) *ℤ (n *ℤ n)) → N ≤ℤ (a *ℤ r) → X ≤ℤ (r *ℤ n)
leg_most a N X n r ha hN hn squares far =
    let e = ring (times (times (at 0) (at 1)) (times (at 0) (at 1)))
    (times (times (at 0) (at 0)) (times (at 1) (at 1))) (vars (a ∷ X ∷ [])) refl in
    let f = ring (times (times (at 0) (at 1)) (times (at 0) (at 1)))
    (times (times (at 0) (at 0)) (times (at 1) (at 1))) (vars (N ∷ n ∷ [])) refl in
    let root = root_most (a *ℤ X) (N *ℤ n) (product_nonnegative N n hN (omega (arith, ints, hn)))
    (omega (arith, ints, e, f, squares)) in
    let up = times_same N (a *ℤ r) n hn far in
    let g = ring (times (times (at 0) (at 1)) (at 2)) (times (at 0) (times (at 1) (at 2)))
    (vars (a ∷ r ∷ n ∷ [])) refl in
    cancel_le a X (r *ℤ n) ha (omega (arith, ints, root, up, g))

-- a bound of a sum of squares bounds each of them
one_of_two : (d a b c : ℤ) → pos 0 ≤ℤ d → pos 0 ≤ℤ b → (d *ℤ (a +ℤ b)) ≤ℤ c → (d *ℤ a) ≤ℤ c
one_of_two d a b c hd hb h =
    let p = product_nonnegative d b hd hb in
    let e = ring (times (at 0) (plus (at 1) (at 2)))
    (plus (times (at 0) (at 1)) (times (at 0) (at 2))) (vars (d ∷ a ∷ b ∷ [])) refl in
    omega (arith, ints, p, e, h)

swapped_sum : (d a b c : ℤ) → (d *ℤ (a +ℤ b)) ≤ℤ c → (d *ℤ (b +ℤ a)) ≤ℤ c
swapped_sum d a b c h =
    let e = ring (times (at 0) (plus (at 1) (at 2))) (times (at 0) (plus (at 2) (at 1)))
    (vars (d ∷ a ∷ b ∷ [])) refl in
    omega (arith, ints, e, h)

sides_least : (h : HalfArc) → pos 0 ≤ℤ sides h
unfolding sides
sides_least h =
    product_nonnegative _ _ (product_nonnegative _ _ (legs h.from h.to) (legs h.from h.third))
    (legs h.to h.third)
  where
    legs : (p q : Point) → pos 0 ≤ℤ steps p q
    legs p q =
        let a = size_least (q.x -ℤ p.x) in
        let b = size_least (q.y -ℤ p.y) in omega (arith, ints, a, b)

negated : (x : ℤ) → (pos 0 -ℤ x) *ℤ (pos 0 -ℤ x) ≡ x *ℤ x
negated x = ring (times (minus (num (pos 0)) (at 0)) (minus (num (pos 0)) (at 0)))
    (times (at 0) (at 0)) (vars (x ∷ [])) refl

pub circle_in_box : (h : HalfArc) (r : ℤ) (b : Box) (z : Vector) → Place z → (bend h ≡ pos 0 → ⊥)
    → sides h ≤ℤ (size (bend h) *ℤ r) → GoesBeyond h.from r r b → power h z ≤ℤ pos 0 → InBox b z
circle_in_box h r b z hz bent far beyond low =
    let D = size (bend h) in
    let X = off_x h z in
    let Y = off_y h z in
    let d2 : D *ℤ D ≡ bend h *ℤ bend h = size_square (bend h) in
    let near = inside_is_near h z (square_above (bend h) bent) low in
    let n2 = square_nonnegative z.n in
    let most = times_same_square (sides h) z.n _ (circle_most h) in
    let all : ((D *ℤ D) *ℤ ((X *ℤ X) +ℤ (Y *ℤ Y))) ≤ℤ ((sides h *ℤ sides h) *ℤ (z.n *ℤ z.n)) = subst
    (λ (u : ℤ). (u *ℤ ((X *ℤ X) +ℤ (Y *ℤ Y))) ≤ℤ ((sides h *ℤ sides h) *ℤ (z.n *ℤ z.n)))
    (sym d2) (both _ _ _ near most) in
    let dd = square_nonnegative D in
    let x2 = square_nonnegative X in
    let y2 = square_nonnegative Y in
    let of_x = one_of_two (D *ℤ D) (X *ℤ X) (Y *ℤ Y) _ dd y2 all in
    let of_y = one_of_two (D *ℤ D) (Y *ℤ Y) (X *ℤ X) _ dd x2
    (swapped_sum (D *ℤ D) (X *ℤ X) (Y *ℤ Y) _ all) in
    let leg : (u : ℤ) → ((D *ℤ D) *ℤ (u *ℤ u)) ≤ℤ ((sides h *ℤ sides h) *ℤ (z.n *ℤ z.n))
    → u ≤ℤ (r *ℤ z.n) =
    λ u k. leg_most D (sides h) u z.n r (size_above (bend h) bent) (sides_least h) hz k far in
    near_in b h.from r r z hz beyond
    (leg X of_x)
    (leg (pos 0 -ℤ X)
    (subst (λ (u : ℤ). ((D *ℤ D) *ℤ u) ≤ℤ ((sides h *ℤ sides h) *ℤ (z.n *ℤ z.n)))
    (sym (negated X)) of_x))
    (leg Y of_y)
    (leg (pos 0 -ℤ Y)
    (subst (λ (u : ℤ). ((D *ℤ D) *ℤ u) ≤ℤ ((sides h *ℤ sides h) *ℤ (z.n *ℤ z.n)))
    (sym (negated Y)) of_y))
  where
    times_same_square : (k n m : ℤ) → m ≤ℤ (k *ℤ k) → (m *ℤ (n *ℤ n)) ≤ℤ ((k *ℤ k) *ℤ (n *ℤ n))
    times_same_square k n m h =
        let p = times_le (n *ℤ n) m (k *ℤ k) (square_nonnegative n) h in
        let e = product_comm (n *ℤ n) m in
        let f = product_comm (n *ℤ n) (k *ℤ k) in
        omega (arith, ints, p, e, f)

    both : (a b c : ℤ) → a ≤ℤ b → b ≤ℤ c → a ≤ℤ c
    both a b c h k = omega (arith, ints, h, k)

-- ---- places with a side
pub side_in_box : (h : HalfArc) (b : Box) (z : Vector) → Place z
    → GoesBeyond h.from (pos (2 ^ 28)) (pos (2 ^ 28)) b → HasSide h z → InBox b z
side_in_box h b z hz beyond side =
    let r = side.right in
    let l = side.left in
    let o = side.above in
    let u = side.below in
    near_in b h.from (pos (2 ^ 28)) (pos (2 ^ 28)) z hz beyond (omega (arith, ints, r))
    (omega (arith, ints, l)) (omega (arith, ints, o)) (omega (arith, ints, u))

-- a tube with corners near the half arc's first end
abbrev near_box : Point → Box
near_box p = record {
  low = record { x = p.x -ℤ pos (2 ^ 28 - 1); y = p.y -ℤ pos (2 ^ 28 - 1) };
  high = record { x = p.x +ℤ pos (2 ^ 28 - 1); y = p.y +ℤ pos (2 ^ 28 - 1) };
}

near_has : (p q : Point) → AreNear (2 ^ 28) p q → HasPoint (near_box p) q
near_has p q near =
    let a = near.x.above in
    let b = near.x.below in
    let c = near.y.above in
    let d = near.y.below in
    record {
      left = omega (arith, ints, a);
      right = omega (arith, ints, b);
      under = omega (arith, ints, c);
      over = omega (arith, ints, d);
    }

corners_have : (p : Point) (bs : List Bay)
    → Each (λ b. AreNear (2 ^ 28) p b.outer × AreNear (2 ^ 28) p b.inner) bs
    → Each (λ b. HasPoint (near_box p) b.outer × HasPoint (near_box p) b.inner) bs
corners_have p [] each = tt
corners_have p (b ∷ rest) each =
    ((near_has p b.outer each.0.0, near_has p b.inner each.0.1), corners_have p rest each.1)

pub tube_has_sides : (h : HalfArc) (bs : List Bay) (z : Vector) → HasCircle h
    → Each (λ b. AreNear (2 ^ 28) h.from b.outer × AreNear (2 ^ 28) h.from b.inner) bs → Place z
    → InTube h.from bs z → HasSide h z
tube_has_sides h bs z circle near hz t =
    let i = tube_has (near_box h.from) z h.from bs hz (record {
      left = omega (arith, ints);
      right = omega (arith, ints);
      under = omega (arith, ints);
      over = omega (arith, ints);
    })
    (corners_have h.from bs near) t in
    record {
      circle = circle;
      right = high h.from.x z.x z.n hz i.right;
      left = low h.from.x z.x z.n hz i.left;
      above = high h.from.y z.y z.n hz i.over;
      below = low h.from.y z.y z.n hz i.under;
    }
  where
    high : (p z n : ℤ) → pos 0 <ℤ n → z ≤ℤ ((p +ℤ pos (2 ^ 28 - 1)) *ℤ n)
        → (z -ℤ (p *ℤ n)) <ℤ (pos (2 ^ 28) *ℤ n)
    high p z n hn h =
        let e = ring (times (plus (at 0) (minus (at 2) (num (pos 1)))) (at 1))
        (minus (plus (times (at 0) (at 1)) (times (at 2) (at 1))) (at 1))
        (vars (p ∷ n ∷ pos (2 ^ 28) ∷ [])) refl in
        omega (arith, ints, e, h, hn)

    low : (p z n : ℤ) → pos 0 <ℤ n → ((p -ℤ pos (2 ^ 28 - 1)) *ℤ n) ≤ℤ z
        → (pos 0 -ℤ (z -ℤ (p *ℤ n))) <ℤ (pos (2 ^ 28) *ℤ n)
    low p z n hn h =
        let e = ring (times (minus (at 0) (minus (at 2) (num (pos 1)))) (at 1))
        (plus (minus (times (at 0) (at 1)) (times (at 2) (at 1))) (at 1))
        (vars (p ∷ n ∷ pos (2 ^ 28) ∷ [])) refl in
        omega (arith, ints, e, h, hn)

-- ---- the ends of the half arc are in its cap
pub ends_in_cap : (h : HalfArc) → InCap h (point h.from) × InCap h (point h.to)
ends_in_cap h =
    let a = power-from h in
    let b = bow-from h in
    let c = power-to h in
    let e = bow-to h in (
      record {
        within = omega (arith, ints, a);
        away = omega (arith, ints, b);
      },
      record {
        within = omega (arith, ints, c);
        away = omega (arith, ints, e);
      },
    )
