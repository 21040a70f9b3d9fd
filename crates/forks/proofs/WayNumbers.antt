-- The numbers of a way from the first point of a circle.
use Rattle.std.proofs.Common.{◌≡◌, ◌↔◌, ℕ, zero, suc, ◌+◌, ◌^◌, Bool, true, false, not, cond}
use Rattle.std.proofs.Common.{IsTrue, ℤ, pos, negsuc, ◌+ℤ◌, ◌*ℤ◌, ◌-ℤ◌, ◌<ℤ◌, ◌≤ℤ◌, refl, arith, ap}
use Rattle.std.proofs.Common.{sym, ◌∙◌, subst}
use Rattle.std.proofs.lemmas.Int.{ints}
use Rattle.std.specs.Int.{IsIsqrt}
use Rattle.plane.specs.declared.kinds.Point.{Point}
use Rattle.plane.specs.Faces.Cells.{is_positive}
use Rattle.plane.specs.Forms.Bends.{IsRoundedDown, ahead, aside_x, aside_y, square}
use Rattle.plane.specs.Numbers.{IsNear, IsWithin}
use Rattle.plane.specs.Rule.HalfArcs.{HalfArc, bend, circle_x, circle_y}
use Rattle.plane.specs.Rule.Places.{point}
use Rattle.plane.proofs.Algebra.Bounds.{within_difference, within_more, within_product, within_sum}
use Rattle.plane.proofs.Algebra.Laws.{product_comm, square_nonnegative}
use Rattle.forks.specs.Zones.{across, is_left, signed, toward}

pub near_wide : (a b : ℤ) → IsNear (2 ^ 26) a b → IsNear (2 ^ 40) a b
near_wide a b h = record {
  above = omega (arith, ints, h.above);
  below = omega (arith, ints, h.below);
}

pub within_same : (m : ℕ) (p q : ℤ) → p ≡ q → IsWithin m q → IsWithin m p
within_same m p q e h = subst (IsWithin m) (sym e) h

pub dot_within : (a b x y r : ℤ) → IsWithin (2 ^ 80) a → IsWithin (2 ^ 80) b → IsWithin (2 ^ 40) x
    → IsWithin (2 ^ 40) y → r ≡ (a *ℤ x) +ℤ (b *ℤ y) → IsWithin (2 ^ 122) r
dot_within a b x y r ha hb hx hy e =
    within_same (2 ^ 122) r _ e
    (within_more (2 ^ 120 + 2 ^ 120) (2 ^ 122) _ (omega arith)
    (within_sum (2 ^ 120) (2 ^ 120) _ _ (within_product (2 ^ 80) (2 ^ 40) a x ha hx)
    (within_product (2 ^ 80) (2 ^ 40) b y hb hy)))

pub det_within : (x y a b r : ℤ) → IsWithin (2 ^ 40) x → IsWithin (2 ^ 40) y → IsWithin (2 ^ 80) a
    → IsWithin (2 ^ 80) b → r ≡ (x *ℤ b) -ℤ (y *ℤ a) → IsWithin (2 ^ 122) r
det_within x y a b r hx hy ha hb e =
    within_same (2 ^ 122) r _ e
    (within_more (2 ^ 120 + 2 ^ 120) (2 ^ 122) _ (omega arith)
    (within_difference (2 ^ 120) (2 ^ 120) _ _ (within_product (2 ^ 40) (2 ^ 80) x b hx hb)
    (within_product (2 ^ 40) (2 ^ 80) y a hy ha)))

pub sum_of_squares : (x y r : ℤ) → r ≡ (x *ℤ x) +ℤ (y *ℤ y) → pos 0 ≤ℤ r
sum_of_squares x y r e =
    let a = square_nonnegative x in let b = square_nonnegative y in omega (arith, ints, e, a, b)

one_part : (a b : ℤ) → a -ℤ (b *ℤ pos 1) ≡ a -ℤ b
one_part a b = let e : b *ℤ pos 1 ≡ b = omega (arith, ints) in omega (arith, ints, e)

pub ahead_is : (s q m : Point) (dx dy wx wy r : ℤ) → dx ≡ m.x -ℤ s.x → dy ≡ m.y -ℤ s.y
    → wx ≡ q.x -ℤ s.x → wy ≡ q.y -ℤ s.y → r ≡ (dx *ℤ wx) +ℤ (dy *ℤ wy) → r ≡ ahead s q (point m)
ahead_is s q m dx dy wx wy r a b f g e =
    let x : dx ≡ m.x -ℤ (s.x *ℤ pos 1) = a ∙ sym (one_part m.x s.x) in
    let y : dy ≡ m.y -ℤ (s.y *ℤ pos 1) = b ∙ sym (one_part m.y s.y) in
    e ∙ both (dx *ℤ wx) (wx *ℤ dx) (dy *ℤ wy) (wy *ℤ dy) (product_comm dx wx) (product_comm dy wy)
    ∙ parts wx wy dx dy (q.x -ℤ s.x) (q.y -ℤ s.y) (m.x -ℤ (s.x *ℤ pos 1))
    (m.y -ℤ (s.y *ℤ pos 1)) f g x y
  where
    both : (a b c d : ℤ) → a ≡ b → c ≡ d → a +ℤ c ≡ b +ℤ d
    both a b c d e f = cc

    parts : (a b c d e f g h : ℤ) → a ≡ e → b ≡ f → c ≡ g → d ≡ h
        → (a *ℤ c) +ℤ (b *ℤ d) ≡ (e *ℤ g) +ℤ (f *ℤ h)
    parts a b c d e f g h p q r s = cc

pub square_is : (s q : Point) (x y r : ℤ) → x ≡ q.x -ℤ s.x → y ≡ q.y -ℤ s.y
    → r ≡ (x *ℤ x) +ℤ (y *ℤ y) → r ≡ square s q
square_is s q x y r a b e = cc

pub toward_is : (h : HalfArc) (q : Point) (d a b x y r t : ℤ) → d ≡ bend h → a ≡ circle_x h
    → b ≡ circle_y h → x ≡ q.x -ℤ h.from.x → y ≡ q.y -ℤ h.from.y → r ≡ (a *ℤ x) +ℤ (b *ℤ y)
    → t ≡ signed d r → t ≡ toward h q
toward_is h q d a b x y r t e f g i j k l = cc

pub across_is : (h : HalfArc) (q : Point) (d a b x y r t : ℤ) → d ≡ bend h → a ≡ circle_x h
    → b ≡ circle_y h → x ≡ q.x -ℤ h.from.x → y ≡ q.y -ℤ h.from.y → r ≡ (x *ℤ b) -ℤ (y *ℤ a)
    → t ≡ signed d r → t ≡ across h q
across_is h q d a b x y r t e f g i j k l = cc

-- ---- the side of the bend
left_of_sign : (z : ℤ) (b : Bool) → (IsTrue b ↔ (pos 0 <ℤ z))
    → not b ≡ cond (is_positive z) false true
left_of_sign (pos zero) true h = let f = h.0 refl in absurd (omega (arith, ints, f))
left_of_sign (pos zero) false h = refl
left_of_sign (pos (suc n)) true h = refl
left_of_sign (pos (suc n)) false h = absurd (let f : IsTrue false = h.1 (omega (arith, ints)) in cc)
left_of_sign (negsuc n) true h = let f = h.0 refl in absurd (omega (arith, ints, f))
left_of_sign (negsuc n) false h = refl

pub left_is : (h : HalfArc) (q : Point) (z : ℤ) (b : Bool) → z ≡ across h q
    → (IsTrue b ↔ (pos 0 <ℤ z)) → not b ≡ is_left h q
left_is h q z b e f = left_of_sign z b f ∙ ap (λ (w : ℤ). cond (is_positive w) false true) e

pub aside_x_is : (s q : Point) (x y a : ℤ) (l k : Bool) → x ≡ q.x -ℤ s.x → y ≡ q.y -ℤ s.y → l ≡ k
    → a ≡ cond l (pos 0 -ℤ y) y → a ≡ aside_x k s q
aside_x_is s q x y a true true e f g h = h ∙ ap (λ (z : ℤ). pos 0 -ℤ z) f
aside_x_is s q x y a false false e f g h = h ∙ f
aside_x_is s q x y a true false e f g h = absurd (cc)
aside_x_is s q x y a false true e f g h = absurd (cc)

pub aside_y_is : (s q : Point) (x y a : ℤ) (l k : Bool) → x ≡ q.x -ℤ s.x → y ≡ q.y -ℤ s.y → l ≡ k
    → a ≡ cond l x (pos 0 -ℤ x) → a ≡ aside_y k s q
aside_y_is s q x y a true true e f g h = h ∙ e
aside_y_is s q x y a false false e f g h = h ∙ ap (λ (z : ℤ). pos 0 -ℤ z) e
aside_y_is s q x y a true false e f g h = absurd (cc)
aside_y_is s q x y a false true e f g h = absurd (cc)

-- ---- the root
pub root_parts : (v r : ℤ) → pos 0 ≤ℤ v → IsIsqrt v r
    → ((r *ℤ r) ≤ℤ v) × (v <ℤ ((r +ℤ pos 1) *ℤ (r +ℤ pos 1)))
root_parts (negsuc k) r h i = absurd (omega (arith, ints, h))
root_parts (pos k) r h (n, e, most, least) = by_root r e
  where
    by_root : (s : ℤ) → s ≡ pos n → ((s *ℤ s) ≤ℤ pos k) × (pos k <ℤ ((s +ℤ pos 1) *ℤ (s +ℤ pos 1)))
    by_root s e = rw e (omega (arith, ints, most), omega (arith, ints, least))

-- ---- the bend
pub rounded_as : (root d x v a u b : ℤ) → x ≡ v → a ≡ u
    → IsRoundedDown root (((pos 8 *ℤ d) *ℤ x) +ℤ ((d -ℤ pos 2) *ℤ a)) b
    → IsRoundedDown root (((pos 8 *ℤ d) *ℤ v) +ℤ ((d -ℤ pos 2) *ℤ u)) b
rounded_as root d x v a u b e f h =
    subst (λ (y : ℤ). IsRoundedDown root (((pos 8 *ℤ d) *ℤ y) +ℤ ((d -ℤ pos 2) *ℤ u)) b) e
    (subst (λ (y : ℤ). IsRoundedDown root (((pos 8 *ℤ d) *ℤ x) +ℤ ((d -ℤ pos 2) *ℤ y)) b) f h)
