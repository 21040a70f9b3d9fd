-- Quotients that are rounded down, and the points beside the middle of two points.
use Rattle.std.proofs.Common.{◌≡◌, ℕ, zero, suc, ◌+◌, ◌*◌, ◌/◌, ◌<◌, ◌≤◌, ℤ, pos, negsuc, ◌+ℤ◌}
use Rattle.std.proofs.Common.{◌*ℤ◌, ◌-ℤ◌, ◌<ℤ◌, ◌≤ℤ◌, [], ◌∷◌, arith, ap, refl, sym, ◌∙◌}
use Rattle.std.proofs.lemmas.Int.{ints}
use Rattle.std.specs.Int.{int_div_euclid}
use Rattle.std.specs.Prelude.{unsigned_abs}
use borrow.Author.Differences.{up, down}
use Rattle.plane.proofs.Algebra.Laws.{down-product, product-sum, up-product}
use Rattle.plane.proofs.Algebra.Ring.{at, minus, num, plus, ring, times, vars}
use Rattle.plane.proofs.Algebra.Scaling.{cancel_le, cancel_lt}
use Rattle.plane.specs.Numbers.{IsWithin}
use Rattle.tubes.specs.HalfArcTubes.{moved}
use Rattle.tubes.proofs.SmallNumbers.{product_most}

parts : (a : ℤ) (k : ℕ) → 0 < k
    → (up (int_div_euclid a (pos k)) * k + down a ≤ down (int_div_euclid a (pos k)) * k + up a)
    × (down (int_div_euclid a (pos k)) * k + up a < up (int_div_euclid a (pos k)) * k + down a + k)
parts (pos a) k h = omega arith
parts (negsuc a) k h = omega arith

less : (a d : ℕ) → a / d ≤ a
less a d = omega arith

pub floor_is : (a : ℤ) (k : ℕ) → 0 < k
    → ((pos k *ℤ int_div_euclid a (pos k)) ≤ℤ a)
    × (a <ℤ ((pos k *ℤ int_div_euclid a (pos k)) +ℤ pos k))
floor_is a k h =
    let p = parts a k h in
    let u = up-product (pos k) (int_div_euclid a (pos k)) in
    let d = down-product (pos k) (int_div_euclid a (pos k)) in
    (omega (arith, ints, p, u, d), omega (arith, ints, p, u, d))

pub floor_only : (a q : ℤ) (k : ℕ) → 0 < k → (pos k *ℤ q) ≤ℤ a → a <ℤ ((pos k *ℤ q) +ℤ pos k)
    → q ≡ int_div_euclid a (pos k)
floor_only a q k h l m =
    let f = floor_is a k h in
    let r = int_div_euclid a (pos k) in
    let one : pos k *ℤ pos 1 ≡ pos k = omega (arith, ints) in
    let s = product-sum (pos k) q (pos 1) in
    let t = product-sum (pos k) r (pos 1) in
    let u = cancel_lt (pos k) r (q +ℤ pos 1) (omega (arith, ints, h))
    (omega (arith, ints, f.0, m, s, one)) in
    let v = cancel_lt (pos k) q (r +ℤ pos 1) (omega (arith, ints, h))
    (omega (arith, ints, f.1, l, t, one)) in
    omega (arith, ints, u, v)

-- twice a number
double : (l : ℕ) → pos (2 * l) ≡ pos l +ℤ pos l
double l = omega (arith, ints)

split : (p e w l n : ℤ)
    → ((p +ℤ e) *ℤ l) +ℤ ((pos 2 *ℤ n) *ℤ w)
    ≡ ((l +ℤ l) *ℤ p) +ℤ (((e -ℤ p) *ℤ l) +ℤ ((n +ℤ n) *ℤ w))
split p e w l n = ring
    (plus (times (plus (at 0) (at 1)) (at 3)) (times (times (num (pos 2)) (at 4)) (at 2)))
    (plus (times (plus (at 3) (at 3)) (at 0))
    (plus (times (minus (at 1) (at 0)) (at 3)) (times (plus (at 4) (at 4)) (at 2))))
    (vars (p ∷ e ∷ w ∷ l ∷ n ∷ [])) refl

moved_by : (p e w n : ℤ) (l : ℕ) (k : ℤ) → 0 < l → k ≡ pos (2 * l)
    → p +ℤ int_div_euclid (((e -ℤ p) *ℤ pos l) +ℤ ((n +ℤ n) *ℤ w)) k ≡ moved l (p +ℤ e) w n
moved_by p e w n l k h g =
    let o = ((e -ℤ p) *ℤ pos l) +ℤ ((n +ℤ n) *ℤ w) in
    let q = int_div_euclid o (pos (2 * l)) in
    let f = floor_is o (2 * l) (omega (arith, h)) in
    let d = double l in
    let s = split p e w (pos l) n in
    let t : (pos l +ℤ pos l) *ℤ p ≡ pos (2 * l) *ℤ p = ap (λ (k : ℤ). k *ℤ p) (sym d) in
    let r = product-sum (pos (2 * l)) p q in
    ap (λ (k : ℤ). p +ℤ int_div_euclid o k) g
    ∙ floor_only _ (p +ℤ q) (2 * l) (omega (arith, h)) (omega (arith, ints, f.0, s, t, r))
    (omega (arith, ints, f.1, s, t, r))

pub moved_is : (p e w l n way over : ℤ) → pos 0 <ℤ l → way ≡ e -ℤ p
    → over ≡ (way *ℤ l) +ℤ ((n +ℤ n) *ℤ w)
    → p +ℤ int_div_euclid over (l +ℤ l) ≡ moved (unsigned_abs l) (p +ℤ e) w n
moved_is p e w (pos l) n way over h f g =
    ap (λ (o : ℤ). p +ℤ int_div_euclid o (pos l +ℤ pos l)) (g
    ∙ ap (λ (v : ℤ). (v *ℤ pos l) +ℤ ((n +ℤ n) *ℤ w)) f)
    ∙ moved_by p e w n l (pos l +ℤ pos l) (omega (arith, ints, h)) (sym (double l))
moved_is p e w (negsuc l) n way over h f g = absurd (omega (arith, ints, h))

twice_more : (m : ℕ) → pos (2 * m + 2) ≡ (pos m +ℤ pos m) +ℤ pos 2
twice_more m = omega (arith, ints)

-- how far such a point is from the two
pub moved_from : (l m : ℕ) (p e w n : ℤ) → 0 < l → w ≤ℤ pos l → (pos 0 -ℤ w) ≤ℤ pos l → n ≤ℤ pos m
    → (pos 0 -ℤ n) ≤ℤ pos m
    → ((pos 2 *ℤ moved l (p +ℤ e) w n) ≤ℤ ((p +ℤ e) +ℤ pos (2 * m)))
    × ((p +ℤ e) <ℤ ((pos 2 *ℤ moved l (p +ℤ e) w n) +ℤ pos (2 * m + 2)))
moved_from l m p e w n h wl wm nl nm =
    let v = moved l (p +ℤ e) w n in
    let f = floor_is (((p +ℤ e) *ℤ pos l) +ℤ ((pos 2 *ℤ n) *ℤ w)) (2 * l) (omega (arith, h)) in
    let b = product_most m l n w nl nm wl wm in
    let a : (pos 2 *ℤ n) *ℤ w ≡ pos 2 *ℤ (n *ℤ w) = ring (times (times (num (pos 2)) (at 0)) (at 1))
    (times (num (pos 2)) (times (at 0) (at 1))) (vars (n ∷ w ∷ [])) refl in
    let c : pos (2 * l) *ℤ v ≡ pos l *ℤ (pos 2 *ℤ v) = ap (λ (k : ℤ). k *ℤ v) (double l)
    ∙ ring (times (plus (at 0) (at 0)) (at 1)) (times (at 0) (times (num (pos 2)) (at 1)))
    (vars (pos l ∷ v ∷ [])) refl in
    let d : pos l *ℤ ((p +ℤ e) +ℤ pos (2 * m))
    ≡ ((p +ℤ e) *ℤ pos l) +ℤ (pos 2 *ℤ pos (m * l)) = spread l m (p +ℤ e) in
    let g : pos l *ℤ ((pos 2 *ℤ v) +ℤ pos (2 * m + 2))
    ≡ ((pos l *ℤ (pos 2 *ℤ v)) +ℤ (pos 2 *ℤ pos (m * l))) +ℤ pos (2 * l) =
    wider l m (pos 2 *ℤ v) in
    let i : pos l *ℤ (p +ℤ e) ≡ (p +ℤ e)
    *ℤ pos l = ring (times (at 0) (at 1)) (times (at 1) (at 0))
    (vars (pos l ∷ (p +ℤ e) ∷ [])) refl in (
      cancel_le (pos l) _ _ (omega (arith, ints, h)) (omega (arith, ints, f.0, a, b.0, c, d)),
      cancel_lt (pos l) _ _ (omega (arith, ints, h)) (omega (arith, ints, f.1, a, b.1, c, g, i)),
    )
  where
    spread : (l m : ℕ) (s : ℤ)
        → pos l *ℤ (s +ℤ pos (2 * m)) ≡ (s *ℤ pos l) +ℤ (pos 2 *ℤ pos (m * l))
    spread l m s =
        ap (λ (k : ℤ). pos l *ℤ (s +ℤ k)) (double m)
        ∙ ring (times (at 0) (plus (at 1) (plus (at 2) (at 2))))
        (plus (times (at 1) (at 0)) (times (num (pos 2)) (times (at 2) (at 0))))
        (vars (pos l ∷ s ∷ pos m ∷ [])) refl

    wider : (l m : ℕ) (s : ℤ)
        → pos l *ℤ (s +ℤ pos (2 * m + 2)) ≡ ((pos l *ℤ s) +ℤ (pos 2 *ℤ pos (m * l))) +ℤ pos (2 * l)
    wider l m s =
        ap (λ (k : ℤ). pos l *ℤ (s +ℤ k)) (twice_more m)
        ∙ ring (times (at 0) (plus (at 1) (plus (plus (at 2) (at 2)) (num (pos 2)))))
        (plus (plus (times (at 0) (at 1)) (times (num (pos 2)) (times (at 2) (at 0))))
        (plus (at 0) (at 0))) (vars (pos l ∷ s ∷ pos m ∷ [])) refl
        ∙ ap (λ (k : ℤ). ((pos l *ℤ s) +ℤ (pos 2 *ℤ pos (m * l))) +ℤ k) (sym (double l))

pub quotient_within : (m : ℕ) (a d : ℤ) → IsWithin m a → pos 0 <ℤ d
    → IsWithin m (int_div_euclid a d)
quotient_within m (pos a) (pos (suc d)) h k = let q = less a (suc d) in omega (arith, ints, h, q)
quotient_within m (negsuc a) (pos (suc d)) h k = let q = less a (suc d) in omega (arith, ints, h, q)
quotient_within m a (pos zero) h k = absurd (omega (arith, ints, k))
quotient_within m a (negsuc d) h k = absurd (omega (arith, ints, k))
