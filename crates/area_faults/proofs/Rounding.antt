-- Quotients rounded down, and that a meeting place in whole units lies between the ends.
use Rattle.std.proofs.Common.{◌≡◌, ℕ, ◌/◌, ◌-◌, ◌^◌, ℤ, pos, negsuc, ◌+ℤ◌, ◌*ℤ◌, ◌-ℤ◌, ◌<ℤ◌, ◌≤ℤ◌}
use Rattle.std.proofs.Common.{[], ◌∷◌, refl, sym, subst, arith, FitsSigned, w64}
use Rattle.std.specs.Int.{int_div_euclid, w128}
use Rattle.std.proofs.lemmas.Int.{ints}
use Rattle.std.proofs.Sketches.{bounds}
use Rattle.std.proofs.Math.Nat.{div-le_self}
use borrow.Author.Differences.{fits_in}
use Rattle.plane.specs.Forms.Boxes.{Box, InBox}
use Rattle.plane.specs.Numbers.{IsWithin}
use Rattle.plane.specs.Rule.MeetingPlaces.{IsInUnit}
use Rattle.plane.specs.Rule.Places.{Vector, Place, point}
use Rattle.plane.specs.Rule.Straights.{IsOnStraight}
use Rattle.plane.specs.declared.kinds.Point.{Point}
use Rattle.plane.proofs.Algebra.Ring.{at, num, plus, times, vars, ring}
use Rattle.plane.proofs.Algebra.Scaling.{cancel_le, cancel_lt}
use Rattle.plane.proofs.HalfArcs.Boxes.{straight_in_box}

-- ---- quotients
floor_least : (n d : ℤ) → pos 0 <ℤ d → (int_div_euclid n d *ℤ d) ≤ℤ n
floor_least (pos a) (pos d) h = omega (arith, ints, h)
floor_least (negsuc a) (pos d) h = omega (arith, ints, h)
floor_least n (negsuc d) h = absurd (omega (arith, ints, h))

next_times : (q d : ℤ) → (q +ℤ pos 1) *ℤ d ≡ (q *ℤ d) +ℤ d
next_times q d =
    ring (times (plus (at 0) (num (pos 1))) (at 1)) (plus (times (at 0) (at 1)) (at 1))
    (vars (q ∷ d ∷ [])) refl

floor_most : (n d : ℤ) → pos 0 <ℤ d → n <ℤ ((int_div_euclid n d +ℤ pos 1) *ℤ d)
floor_most (pos a) (pos d) h = let i = next_times (pos (a / d)) (pos d) in omega (arith, ints, h, i)
floor_most (negsuc a) (pos d) h =
    let i = next_times (negsuc (a / d)) (pos d) in omega (arith, ints, h, i)
floor_most n (negsuc d) h = absurd (omega (arith, ints, h))

pub floor_within : (m : ℕ) (n d : ℤ) → pos 0 <ℤ d → IsWithin m n → IsWithin m (int_div_euclid n d)
floor_within m (pos a) (pos d) h w = let l = div-le_self a d in omega (arith, ints, w, l)
floor_within m (negsuc a) (pos d) h w = let l = div-le_self a d in omega (arith, ints, w, l)
floor_within m n (negsuc d) h w = absurd (omega (arith, ints, h))

pub rounded_least : (from s t q m : ℤ) → pos 0 <ℤ t → q ≡ int_div_euclid s t → m ≡ from +ℤ q
    → (m *ℤ t) ≤ℤ ((from *ℤ t) +ℤ s)
rounded_least from s t q m h e f =
    let l = subst (λ (x : ℤ). (x *ℤ t) ≤ℤ s) (sym e) (floor_least s t h) in
    let i = ring (times (plus (at 0) (at 1)) (at 2))
    (plus (times (at 0) (at 2)) (times (at 1) (at 2))) (vars (from ∷ q ∷ t ∷ [])) refl in
    subst (λ (x : ℤ). (x *ℤ t) ≤ℤ ((from *ℤ t) +ℤ s)) (sym f) (omega (arith, ints, l, i))

pub rounded_most : (from s t q m : ℤ) → pos 0 <ℤ t → q ≡ int_div_euclid s t → m ≡ from +ℤ q
    → ((from *ℤ t) +ℤ s) <ℤ ((m +ℤ pos 1) *ℤ t)
rounded_most from s t q m h e f =
    let l = subst (λ (x : ℤ). s <ℤ ((x +ℤ pos 1) *ℤ t)) (sym e) (floor_most s t h) in
    let i = ring (times (plus (plus (at 0) (at 1)) (num (pos 1))) (at 2))
    (plus (times (at 0) (at 2)) (times (plus (at 1) (num (pos 1))) (at 2)))
    (vars (from ∷ q ∷ t ∷ [])) refl in
    subst (λ (x : ℤ). ((from *ℤ t) +ℤ s) <ℤ ((x +ℤ pos 1) *ℤ t)) (sym f) (omega (arith, ints, l, i))

-- ---- a unit square between the ends
-- a number times n that is from m n to (m + 1) n and from l n to h n
unit_least : (n z m l : ℤ) → pos 0 <ℤ n → (l *ℤ n) ≤ℤ z → z <ℤ ((m +ℤ pos 1) *ℤ n) → l ≤ℤ m
unit_least n z m l N h k =
    let i = ring (times (at 1) (at 0)) (times (at 0) (at 1)) (vars (n ∷ l ∷ [])) refl in
    let j = ring (times (plus (at 1) (num (pos 1))) (at 0))
    (times (at 0) (plus (at 1) (num (pos 1)))) (vars (n ∷ m ∷ [])) refl in
    let c = cancel_lt n l (m +ℤ pos 1) N (omega (arith, ints, h, k, i, j)) in
    omega (arith, ints, c)

unit_most : (n z m h : ℤ) → pos 0 <ℤ n → z ≤ℤ (h *ℤ n) → (m *ℤ n) ≤ℤ z → m ≤ℤ h
unit_most n z m h N k l =
    let i = ring (times (at 1) (at 0)) (times (at 0) (at 1)) (vars (n ∷ h ∷ [])) refl in
    let j = ring (times (at 1) (at 0)) (times (at 0) (at 1)) (vars (n ∷ m ∷ [])) refl in
    cancel_le n m h N (omega (arith, ints, k, l, i, j))

abbrev wide : Box
wide = record {
  low = record { x = pos 0 -ℤ pos (2 ^ 63); y = pos 0 -ℤ pos (2 ^ 63) };
  high = record { x = pos (2 ^ 63 - 1); y = pos (2 ^ 63 - 1) };
}

point_wide : (p : Point) → FitsSigned w64 p.x → FitsSigned w64 p.y → InBox wide (point p)
point_wide p fx fy = omega (arith, ints, bounds, fx, fy)

pub unit_fits : (a b m : Point) (z : Vector) → FitsSigned w64 a.x → FitsSigned w64 a.y
    → FitsSigned w64 b.x → FitsSigned w64 b.y → Place z → IsOnStraight (point a) (point b) z
    → IsInUnit m z → FitsSigned w64 m.x × FitsSigned w64 m.y
unit_fits a b m z ax ay bx by Z on u =
    let box = straight_in_box wide z a b Z (point_wide a ax ay) (point_wide b bx by) on in (
      (let l = unit_least z.n z.x m.x wide.low.x Z box.left u.right in
          let k = unit_most z.n z.x m.x wide.high.x Z box.right u.left in
          fits_in w64 m.x (omega (arith, ints, l, k))),
      (let l = unit_least z.n z.y m.y wide.low.y Z box.under u.over in
          let k = unit_most z.n z.y m.y wide.high.y Z box.over u.under in
          fits_in w64 m.y (omega (arith, ints, l, k))),
    )

-- a number of 64 bits and one below 2 ^ 124
pub sum_fits : (a q : ℤ) → FitsSigned w64 a → IsWithin (2 ^ 124) q → FitsSigned w128 (a +ℤ q)
sum_fits a q f w = fits_in w128 _ (omega (arith, ints, bounds, f, w))
