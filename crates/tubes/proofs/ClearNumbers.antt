-- The numbers of the conditions on outer corners.
use Rattle.std.proofs.Common.{◌≡◌, ◌↔◌, ◌^◌, ◌*◌, ◌+◌, ℕ, zero, suc, ◌<◌, length, Bool, true, false}
use Rattle.std.proofs.Common.{not, IsTrue, ℤ, pos, ◌+ℤ◌, ◌*ℤ◌, ◌-ℤ◌, ◌<ℤ◌, ◌≤ℤ◌, [], ◌∷◌, List}
use Rattle.std.proofs.Common.{arith, ap, refl, ◌∙◌, subst}
use Rattle.std.proofs.lemmas.Int.{by_lt_z, ints}
use Rattle.plane.specs.Forms.Vectors.{point}
use Rattle.plane.specs.Lists.{First, Last}
use Rattle.plane.specs.Numbers.{IsWithin}
use Rattle.plane.specs.Rule.HalfArcs.{bend, power}
use Rattle.plane.specs.Tubes.Bays.{ahead_of_from, ahead_of_to}
use Rattle.plane.specs.declared.kinds.Point.{Point}
use Rattle.plane.proofs.Algebra.Bounds.{within_product, within_sum}
use Rattle.plane.proofs.Algebra.Ring.{at, minus, num, ring, times, vars}
use Rattle.arc_predicates.specs.Circles.{half_arc}
use Rattle.arc_predicates.specs.declared.circles.Circle.{Circle}
use Rattle.arc_predicates.proofs.PlaceNumbers.{bend_within, circle_x_within, circle_y_within}
use Rattle.arc_predicates.proofs.PlaceNumbers.{one_part, power_is, seen_is}
use Rattle.arc_predicates.proofs.Sums.{within_by}
use Rattle.tubes.specs.Holding.{nth}
use Rattle.tubes.specs.Making.{IsFar}

-- ---- widths of a circle's numbers
pub d_within : (k : Circle) → IsWithin (2 ^ 53) k.d
d_within k = within_by (2 ^ 53) k.d _ k.turn (bend_within (half_arc k) k.has)

pub a_within : (k : Circle) → IsWithin (2 ^ 80) k.a
a_within k = within_by (2 ^ 80) k.a _ k.centre_x (circle_x_within (half_arc k) k.has)

pub b_within : (k : Circle) → IsWithin (2 ^ 80) k.b
b_within k = within_by (2 ^ 80) k.b _ k.centre_y (circle_y_within (half_arc k) k.has)

pub sum_within : (m n : ℕ) (a b x y s : ℤ) → IsWithin m a → IsWithin m b → IsWithin n x
    → IsWithin n y → s ≡ (a *ℤ x) +ℤ (b *ℤ y) → IsWithin (m * n + m * n) s
sum_within m n a b x y s h i j k e =
    within_by (m * n + m * n) s _ e
    (within_sum (m * n) (m * n) _ _ (within_product m n a x h j) (within_product m n b y i k))

-- ---- how far a point is outside
pub over_within : (d far ahead over : ℤ) → IsWithin (2 ^ 53) d → IsWithin (2 ^ 59) far
    → IsWithin (2 ^ 110) ahead → over ≡ (d *ℤ far) -ℤ (ahead *ℤ pos 1) → IsWithin (2 ^ 119) over
over_within d far ahead over h i j e =
    let p = within_product (2 ^ 53) (2 ^ 59) d far h i in
    let o : ahead *ℤ pos 1 ≡ ahead = omega (arith, ints) in
    omega (arith, ints, p, j, e, o)

pub over_is : (k : Circle) (p : Point) (x y far ahead over : ℤ) → x ≡ p.x -ℤ k.s.x
    → y ≡ p.y -ℤ k.s.y → far ≡ (x *ℤ x) +ℤ (y *ℤ y) → ahead ≡ (k.a *ℤ x) +ℤ (k.b *ℤ y)
    → over ≡ (k.d *ℤ far) -ℤ (ahead *ℤ pos 1) → k.d *ℤ over ≡ power (half_arc k) (point p)
over_is k p x y far ahead over e f g i j =
    seen_is k.d k.a k.b x y (pos 1) far ahead over g i j
    ∙ power_is (half_arc k) (point p) k.d k.a k.b x y k.turn k.centre_x k.centre_y
    (one_part p.x k.s.x x e) (one_part p.y k.s.y y f)

pub more_within : (d square over : ℤ) → IsWithin (2 ^ 53) d → IsWithin (2 ^ 59) square
    → IsWithin (2 ^ 119) over → IsWithin (2 ^ 126) ((pos 4 *ℤ over) -ℤ (d *ℤ square))
more_within d square over h i j =
    let p = within_product (2 ^ 53) (2 ^ 59) d square h i in omega (arith, ints, p, j)

weigh : (d square over : ℤ)
    → d *ℤ ((pos 4 *ℤ over) -ℤ (d *ℤ square)) ≡ (pos 4 *ℤ (d *ℤ over)) -ℤ ((d *ℤ d) *ℤ square)
weigh d square over =
    ring (times (at 0) (minus (times (num (pos 4)) (at 2)) (times (at 0) (at 1))))
    (minus (times (num (pos 4)) (times (at 0) (at 2))) (times (times (at 0) (at 0)) (at 1)))
    (vars (d ∷ square ∷ over ∷ [])) refl

pub never : IsTrue false → ⊥
never e = cc

pub far_by : (k : Circle) (p : Point) (b : Bool) (square over more : ℤ)
    → k.d *ℤ over ≡ power (half_arc k) (point p) → more ≡ (pos 4 *ℤ over) -ℤ (k.d *ℤ square)
    → (IsTrue b ↔ ((k.d *ℤ more) ≤ℤ pos 0)) → IsTrue (not b) ↔ IsFar (half_arc k) p square
far_by k p b square over more e f h =
    let w : k.d *ℤ more ≡ (pos 4 *ℤ power (half_arc k) (point p))
    -ℤ ((bend (half_arc k) *ℤ bend (half_arc k)) *ℤ square) =
    ap (λ z. k.d *ℤ z) f ∙ weigh k.d square over
    ∙ ap (λ z. (pos 4 *ℤ z) -ℤ ((k.d *ℤ k.d) *ℤ square)) e
    ∙ ap (λ d. (pos 4 *ℤ power (half_arc k) (point p)) -ℤ ((d *ℤ d) *ℤ square)) k.turn in
    by_test b (k.d *ℤ more) _ _ w h
  where
    by_test : (b : Bool) (z u v : ℤ) → z ≡ v -ℤ u → (IsTrue b ↔ (z ≤ℤ pos 0))
        → IsTrue (not b) ↔ (u <ℤ v)
    by_test true z u v e h =
        let l = h.0 refl in ((λ t. absurd (never t)), (λ m. absurd (omega (arith, ints, e, l, m))))
    by_test false z u v e h = ((λ t. above z u v e (λ l. h.1 l)), (λ m. refl))
      where
        above : (z u v : ℤ) → z ≡ v -ℤ u → (z ≤ℤ pos 0 → IsTrue false) → u <ℤ v
        above z u v e f =
            by_lt_z u v (λ l. l) (λ (l : v ≤ℤ u). absurd (never (f (omega (arith, ints, e, l)))))

-- ---- clear of the ends
pub at_most_by : (b : Bool) (z w : ℤ) → (IsTrue b ↔ (z ≤ℤ pos 0)) → z ≡ w → IsTrue b ↔ (w ≤ℤ pos 0)
at_most_by b z w h e = subst (λ z. IsTrue b ↔ (z ≤ℤ pos 0)) e h

pub ahead_from_is : (k : Circle) (p : Point) (x y ahead : ℤ) → x ≡ p.x -ℤ k.s.x → y ≡ p.y -ℤ k.s.y
    → ahead ≡ (k.a *ℤ x) +ℤ (k.b *ℤ y) → k.d *ℤ ahead ≡ ahead_of_from (half_arc k) p
unfolding ahead_of_from
ahead_from_is k p x y ahead e f g = let d = k.turn in let a = k.centre_x in let b = k.centre_y in cc

pub ahead_to_is : (k : Circle) (p : Point) (x y w t a b ahead : ℤ) → x ≡ p.x -ℤ k.m.x
    → y ≡ p.y -ℤ k.m.y → w ≡ k.m.x -ℤ k.s.x → t ≡ k.m.y -ℤ k.s.y
    → a ≡ k.a -ℤ (pos 2 *ℤ (k.d *ℤ w)) → b ≡ k.b -ℤ (pos 2 *ℤ (k.d *ℤ t))
    → ahead ≡ (a *ℤ x) +ℤ (b *ℤ y) → k.d *ℤ ahead ≡ ahead_of_to (half_arc k) p
unfolding ahead_of_to
ahead_to_is k p x y w t a b ahead e f g h i j l =
    let d = k.turn in let u = k.centre_x in let v = k.centre_y in cc

pub seen_is_back : (d u way half r : ℤ) → half ≡ (u *ℤ pos 1) -ℤ (d *ℤ way)
    → r ≡ (half *ℤ pos 1) -ℤ (d *ℤ way) → r ≡ u -ℤ (pos 2 *ℤ (d *ℤ way))
seen_is_back d u way half r e f = omega (arith, ints, e, f)

pub half_within : (d u way half : ℤ) → IsWithin (2 ^ 53) d → IsWithin (2 ^ 80) u
    → IsWithin (2 ^ 29) way → half ≡ (u *ℤ pos 1) -ℤ (d *ℤ way) → IsWithin (2 ^ 83) half
half_within d u way half h i j e =
    let p = within_product (2 ^ 53) (2 ^ 29) d way h j in omega (arith, ints, p, i, e)

pub seen_within : (d u way r : ℤ) → IsWithin (2 ^ 53) d → IsWithin (2 ^ 80) u
    → IsWithin (2 ^ 29) way → r ≡ u -ℤ (pos 2 *ℤ (d *ℤ way)) → IsWithin (2 ^ 84) r
seen_within d u way r h i j e =
    let p = within_product (2 ^ 53) (2 ^ 29) d way h j in omega (arith, ints, p, i, e)

-- ---- the first and the last of a list
pub first_as : (P : Point → Type 0) (vs : List Point) → 0 < length vs → First P vs ↔ P (nth vs 0)
first_as P [] l = absurd (omega (arith, l))
first_as P (v ∷ vs) l = ((λ h. h), (λ h. h))

pub last_as : (P : Point → Type 0) (vs : List Point) (n : ℕ) → length vs ≡ suc n
    → Last P vs ↔ P (nth vs n)
last_as P [] n e = absurd (omega (arith, e))
last_as P (v ∷ []) zero e = ((λ h. h), (λ h. h))
last_as P (v ∷ []) (suc n) e = absurd (omega (arith, e))
last_as P (v ∷ (w ∷ vs)) zero e = absurd (omega (arith, e))
last_as P (v ∷ (w ∷ vs)) (suc n) e = last_as P (w ∷ vs) n (omega (arith, e))
