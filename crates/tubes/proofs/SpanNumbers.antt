-- The distance of two points rounded down, and the points beside their middle.
use Rattle.std.proofs.Common.{rules, ◌≡◌, ℕ, zero, suc, ◌+◌, ◌*◌, ◌<◌, ◌≤◌, ◌^◌, true, false, cond}
use Rattle.std.proofs.Common.{ℤ, pos, negsuc, ◌+ℤ◌, ◌*ℤ◌, ◌-ℤ◌, ◌<ℤ◌, ◌≤ℤ◌, arith, ap, refl, sym}
use Rattle.std.proofs.Common.{◌∙◌, subst}
use Rattle.std.specs.Int.{IsIsqrt}
use Rattle.std.specs.Int.Signed.{lt_z}
use Rattle.std.specs.Prelude.{unsigned_abs}
use Rattle.std.proofs.lemmas.Int.{ints}
use Rattle.std.proofs.lemmas.Nat.{mul-le}
use Rattle.plane.specs.Faces.Cells.{is_positive}
use Rattle.plane.specs.Numbers.{IsWithin}
use Rattle.plane.specs.Rule.HalfArcs.{HalfArc, bend}
use Rattle.plane.specs.Rule.Turns.{AreNear}
use Rattle.plane.specs.Tubes.Bays.{distance}
use Rattle.plane.specs.declared.kinds.Point.{Point}
use Rattle.plane.proofs.Algebra.Bounds.{within_product, within_sum}
use Rattle.plane.proofs.Algebra.Laws.{square_nonnegative}
use Rattle.straight_predicates.proofs.Orders.{by_lt}
use Rattle.tubes.specs.HalfArcTubes.{beside, moved, root, turned_x, turned_y, whole_distance}
use Rattle.tubes.proofs.TubePoints.{root_is}

-- ---- the whole root
no_less : (a b n : ℕ) → b * b ≤ n → n < suc a * suc a → a < b → ⊥
no_less a b n h k l =
    let m = mul-le (suc a) (suc a) b b (omega (arith, l)) (omega (arith, l)) in
    omega (arith, h, k, m)

pub root_only : (n r : ℕ) → r * r ≤ n → n < (r + 1) * (r + 1) → r ≡ root n
root_only n r h k =
    let t = root_is n in
    let k2 : n < suc r * suc r = omega (arith, k) in
    by_lt r (root n) (λ l. absurd (no_less r (root n) n t.0 k2 l)) (λ (l : root n ≤ r).
    by_lt (root n) r (λ m. absurd (no_less (root n) r n h t.1 m))
    (λ (m : r ≤ root n). omega (arith, l, m)))

pub isqrt_is : (z r : ℤ) → IsIsqrt z r → r ≡ pos (root (unsigned_abs z))
isqrt_is z r (n, e, h, k) = e ∙ ap (λ (n : ℕ). pos n) (root_only (unsigned_abs z) n h k)

-- a number whose square is not above n is not above the root of n
root_over : (a n : ℕ) → a * a ≤ n → a ≤ root n
root_over a n h = by_lt (root n) a (λ l. absurd (no_less (root n) a n h (root_is n).1 l)) (λ l. l)

pub size_at_most : (w z : ℤ) → (w *ℤ w) ≤ℤ z
    → (w ≤ℤ pos (root (unsigned_abs z))) × ((pos 0 -ℤ w) ≤ℤ pos (root (unsigned_abs z)))
size_at_most (pos a) (pos n) h =
    let r = root_over a n (omega (arith, ints, h)) in
    (omega (arith, ints, r), omega (arith, ints, r))
size_at_most (negsuc a) (pos n) h =
    let r = root_over (suc a) n (omega (arith, ints, h)) in
    (omega (arith, ints, r), omega (arith, ints, r))
size_at_most w (negsuc n) h = let s = square_nonnegative w in absurd (omega (arith, ints, h, s))

-- ---- distances
pub distance_is : (p q : Point) (x y s : ℤ) → x ≡ p.x -ℤ q.x → y ≡ p.y -ℤ q.y
    → s ≡ (x *ℤ x) +ℤ (y *ℤ y) → s ≡ distance p q
unfolding distance
distance_is p q x y s e f g = cc

pub squares_positive : (x y s : ℤ) → s ≡ (x *ℤ x) +ℤ (y *ℤ y) → pos 0 ≤ℤ s
squares_positive x y s e =
    let a = square_nonnegative x in let b = square_nonnegative y in omega (arith, ints, a, b, e)

distance_within : (p q : Point) → AreNear (2 ^ 28) p q → IsWithin (2 ^ 57) (distance p q)
unfolding distance
distance_within p q h =
    let x : IsWithin (2 ^ 28) (p.x -ℤ q.x) = let e = h.x in omega (arith, ints, e) in
    let y : IsWithin (2 ^ 28) (p.y -ℤ q.y) = let e = h.y in omega (arith, ints, e) in
    within_sum (2 ^ 56) (2 ^ 56) _ _ (within_product (2 ^ 28) (2 ^ 28) _ _ x x)
    (within_product (2 ^ 28) (2 ^ 28) _ _ y y)

root_below : (n : ℕ) → n < 2 ^ 57 → root n < 2 ^ 29
root_below n h = below (root n) n h (root_is n).0
  where
    below : (r n : ℕ) → n < 2 ^ 57 → r * r ≤ n → r < 2 ^ 29
    below r n h k =
        by_lt r (2 ^ 29) (λ l. l) (λ (l : 2 ^ 29 ≤ r). let m = mul-le (2 ^ 29) (2 ^ 29) r r l l in
        absurd (omega (arith, h, k, m)))

pub whole_within : (p q : Point) → AreNear (2 ^ 28) p q
    → IsWithin (2 ^ 29) (pos (whole_distance p q))
whole_within p q h =
    let d = distance_within p q h in
    let r = root_below (unsigned_abs (distance p q)) (size (distance p q) d) in
    omega (arith, ints, r)
  where
    size : (z : ℤ) → IsWithin (2 ^ 57) z → unsigned_abs z < 2 ^ 57
    size (pos n) w = omega (arith, ints, w)
    size (negsuc n) w = omega (arith, ints, w)

-- ---- turned ways
pub positive_true : (z : ℤ) → pos 0 <ℤ z → is_positive z ≡ true
positive_true (pos zero) h = absurd (omega (arith, ints, h))
positive_true (pos (suc n)) h = refl
positive_true (negsuc n) h = absurd (omega (arith, ints, h))

pub positive_false : (z : ℤ) → z ≤ℤ pos 0 → is_positive z ≡ false
positive_false (pos zero) h = refl
positive_false (pos (suc n)) h = absurd (omega (arith, ints, h))
positive_false (negsuc n) h = refl

pub lt_false : (a b : ℤ) → lt_z a b ≡ false → b ≤ℤ a
lt_false a b e = search rules

pub turned_back : (h : HalfArc) (d a b r : ℤ) → d ≡ bend h → d ≤ℤ pos 0 → r ≡ a -ℤ b
    → r ≡ cond (is_positive (bend h)) (b -ℤ a) (a -ℤ b)
turned_back h d a b r e l f =
    f ∙ ap (λ t. cond t (b -ℤ a) (a -ℤ b))
    (sym (positive_false (bend h) (subst (λ (z : ℤ). z ≤ℤ pos 0) e l)))

-- ---- the point beside the middle
pub beside_is : (h : HalfArc) (p q : Point) (n l right above x y : ℤ) → l ≡ pos (whole_distance p q)
    → right ≡ turned_x h p q → above ≡ turned_y h p q
    → x ≡ moved (unsigned_abs l) (p.x +ℤ q.x) right n
    → y ≡ moved (unsigned_abs l) (p.y +ℤ q.y) above n → record { x = x; y = y } ≡ beside h p q n
unfolding beside
beside_is h p q n l right above x y e f g i j =
    let a : x ≡ moved (whole_distance p q) (p.x +ℤ q.x) (turned_x h p q) n = i ∙ rw (e, f) refl in
    let b : y ≡ moved (whole_distance p q) (p.y +ℤ q.y) (turned_y h p q) n = j ∙ rw (e, g) refl in
    λ t. record { x = a t; y = b t }
