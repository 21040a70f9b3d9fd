-- How far the points beside the middle of two points are from them, and the count of two points by
-- its bits.
use Rattle.std.proofs.Common.{rules, ◌≡◌, ℕ, zero, suc, ◌+◌, ◌-◌, ◌*◌, ◌%◌, ◌<◌, ◌≤◌, ◌^◌, Bool}
use Rattle.std.proofs.Common.{true, false, cond, nat_lt, None, Some, ℤ, pos, ◌+ℤ◌, ◌*ℤ◌, ◌-ℤ◌, ◌<ℤ◌}
use Rattle.std.proofs.Common.{◌≤ℤ◌, [], ◌∷◌, arith, ap, refl, sym, ◌∙◌, subst}
use Rattle.std.proofs.lemmas.Int.{ints}
use Rattle.std.proofs.Math.Pow.{pow_mono}
use Rattle.std.specs.Prelude.{min, max}
use Rattle.straight_predicates.proofs.Orders.{by_lt}
use Rattle.plane.specs.Faces.Cells.{is_positive}
use Rattle.plane.specs.Forms.Vectors.{point}
use Rattle.plane.specs.Numbers.{IsNear}
use Rattle.plane.specs.Rule.HalfArcs.{HalfArc, bend, power}
use Rattle.plane.specs.Rule.Turns.{AreNear}
use Rattle.plane.specs.Rule.Windows.{IsShort}
use Rattle.plane.specs.Tubes.Bays.{distance}
use Rattle.plane.specs.declared.kinds.Point.{Point}
use Rattle.plane.proofs.Algebra.Laws.{square_nonnegative}
use Rattle.plane.proofs.Algebra.Ring.{at, minus, ring, times, vars}
use Rattle.arc_predicates.specs.Circles.{HasSign}
use Rattle.arc_predicates.specs.declared.sides.Side.{Side}
use Rattle.arc_predicates.specs.declared.sides.Side.TheVariants as side
use Rattle.tubes.specs.HalfArcTubes.{beside, count, is_inside, turned_x, turned_y, whole_distance}
use Rattle.tubes.specs.HalfArcTubes.{with_bits}
use Rattle.tubes.specs.Making.{HasRoom}
use Rattle.tubes.proofs.Means.{moved_from}
use Rattle.tubes.proofs.SpanNumbers.{positive_false, positive_true, size_at_most}

-- v is at most m units from the middle of p and q, and half a unit for each rounding
pub record IsBeside (m : ℕ) (p q v : Point) : Type 0 where
  pub right : (pos 2 *ℤ v.x) ≤ℤ ((p.x +ℤ q.x) +ℤ pos (2 * m))
  pub left : (p.x +ℤ q.x) <ℤ ((pos 2 *ℤ v.x) +ℤ pos (2 * m + 2))
  pub above : (pos 2 *ℤ v.y) ≤ℤ ((p.y +ℤ q.y) +ℤ pos (2 * m))
  pub below : (p.y +ℤ q.y) <ℤ ((pos 2 *ℤ v.y) +ℤ pos (2 * m + 2))

abbrev IsSmall : ℕ → ℤ → Type 0
IsSmall l w = (w ≤ℤ pos l) × ((pos 0 -ℤ w) ≤ℤ pos l)

square_back : (a b : ℤ) → (a -ℤ b) *ℤ (a -ℤ b) ≡ (b -ℤ a) *ℤ (b -ℤ a)
square_back a b =
    ring (times (minus (at 0) (at 1)) (minus (at 0) (at 1)))
    (times (minus (at 1) (at 0)) (minus (at 1) (at 0))) (vars (a ∷ b ∷ [])) refl

difference_x : (p q : Point)
    → IsSmall (whole_distance p q) (p.x -ℤ q.x) × IsSmall (whole_distance p q) (q.x -ℤ p.x)
unfolding distance
difference_x p q =
    let s = square_nonnegative (p.y -ℤ q.y) in
    let e = square_back q.x p.x in (
      size_at_most (p.x -ℤ q.x) (distance p q) (omega (arith, ints, s)),
      size_at_most (q.x -ℤ p.x) (distance p q) (omega (arith, ints, s, e)),
    )

difference_y : (p q : Point)
    → IsSmall (whole_distance p q) (p.y -ℤ q.y) × IsSmall (whole_distance p q) (q.y -ℤ p.y)
unfolding distance
difference_y p q =
    let s = square_nonnegative (p.x -ℤ q.x) in
    let e = square_back q.y p.y in (
      size_at_most (p.y -ℤ q.y) (distance p q) (omega (arith, ints, s)),
      size_at_most (q.y -ℤ p.y) (distance p q) (omega (arith, ints, s, e)),
    )

by_bool : (P : ℤ → Type 0) (b : Bool) (u v : ℤ) → P u → P v → P (cond b u v)
by_bool P true u v h k = h
by_bool P false u v h k = k

pub is_beside : (h : HalfArc) (p q : Point) (n : ℤ) (m : ℕ) → 0 < whole_distance p q → n ≤ℤ pos m
    → (pos 0 -ℤ n) ≤ℤ pos m → IsBeside m p q (beside h p q n)
unfolding beside
is_beside h p q n m l nl nm =
    let dx = difference_x p q in
    let dy = difference_y p q in
    let tx = by_bool (IsSmall (whole_distance p q)) (is_positive (bend h)) (q.y -ℤ p.y)
    (p.y -ℤ q.y) dy.1 dy.0 in
    let ty = by_bool (IsSmall (whole_distance p q)) (is_positive (bend h)) (p.x -ℤ q.x)
    (q.x -ℤ p.x) dx.0 dx.1 in
    let x = moved_from (whole_distance p q) m p.x q.x (turned_x h p q) n l tx.0 tx.1 nl nm in
    let y = moved_from (whole_distance p q) m p.y q.y (turned_y h p q) n l ty.0 ty.1 nl nm in
    record { right = x.0; left = x.1; above = y.0; below = y.1 }

-- ---- how near such a point is
near_one : (m r : ℕ) (s p q v : ℤ) → IsNear r s p → IsNear (2 ^ 28) p q
    → (pos 2 *ℤ v) ≤ℤ ((p +ℤ q) +ℤ pos (2 * m)) → (p +ℤ q) <ℤ ((pos 2 *ℤ v) +ℤ pos (2 * m + 2))
    → IsNear (r + 2 ^ 27 + m) s v
near_one m r s p q v h k u l = record {
  above = omega (arith, ints, h.above, k.above, u, l);
  below = omega (arith, ints, h.below, k.below, u, l);
}

pub beside_near : (m r : ℕ) (s p q v : Point) → AreNear r s p → AreNear (2 ^ 28) p q
    → IsBeside m p q v → AreNear (r + 2 ^ 27 + m) s v
beside_near m r s p q v h k b = record {
  x = near_one m r s.x p.x q.x v.x h.x k.x b.right b.left;
  y = near_one m r s.y p.y q.y v.y h.y k.y b.above b.below;
}

pub near_more : (m n : ℕ) (p q : Point) → m ≤ n → AreNear m p q → AreNear n p q
near_more m n p q l h = record {
  x = record {
    above = omega (arith, ints, h.x.above, l);
    below = omega (arith, ints, h.x.below, l);
  };
  y = record {
    above = omega (arith, ints, h.y.above, l);
    below = omega (arith, ints, h.y.below, l);
  };
}

-- the point that the test of k asks for
pub tested_near : (h : HalfArc) (s p q : Point) (k : ℕ) → AreNear (2 ^ 31) s p
    → AreNear (2 ^ 28) p q → 0 < whole_distance p q → k < 2 ^ 27
    → AreNear (2 ^ 32) s (beside h p q (pos k -ℤ pos 2))
tested_near h s p q k n st l b =
    near_more (2 ^ 31 + 2 ^ 27 + 2 ^ 27) (2 ^ 32) s _ (omega arith)
    (beside_near (2 ^ 27) (2 ^ 31) s p q _ n st
    (is_beside h p q (pos k -ℤ pos 2) (2 ^ 27) l (omega (arith, ints, b))
    (omega (arith, ints, b))))

-- a point near a short one has room
pub has_room : (s p : Point) → IsShort s → AreNear (2 ^ 31) s p → HasRoom p
has_room s p h n =
    let hx = h.x in
    let hy = h.y in
    let nx = n.x in
    let ny = n.y in record { x = omega (arith, ints, hx, nx); y = omega (arith, ints, hy, ny) }

-- ---- the bits
pub bits_step : (test : ℕ → Bool) (more left k : ℕ) → more ≡ suc left
    → with_bits test more k ≡ with_bits test left (cond (test (k + 2 ^ left)) (k + 2 ^ left) k)
unfolding with_bits
bits_step test more left k e = ap (λ n. with_bits test n k) e

pub bits_end : (test : ℕ → Bool) (left k : ℕ) → left ≡ 0 → with_bits test left k ≡ k
unfolding with_bits
bits_end test left k e = ap (λ n. with_bits test n k) e

power_most : (m : ℕ) → m ≤ 26 → 2 ^ m ≤ 2 ^ 26
power_most m h = pow_mono h

pub bit_is : (m : ℕ) → m ≤ 26 → 1 * 2 ^ m % 2 ^ 32 ≡ 2 ^ m
bit_is m h = let l = power_most m h in small (2 ^ m) l
  where
    small : (n : ℕ) → n ≤ 2 ^ 26 → 1 * n % 2 ^ 32 ≡ n
    small n l = omega (arith, l)

twice : (n : ℕ) → 2 ^ suc n ≡ 2 ^ n + 2 ^ n
twice n = omega arith

-- the number that is tested for the bit of 2 ^ left, and what is left of it
pub tested_small : (k more left : ℕ) → more ≡ suc left → k + 2 ^ more ≤ 2 ^ 27
    → (k + 2 ^ left) + 2 ^ left ≤ 2 ^ 27
tested_small k more left e h =
    let t = twice left in let f = ap (λ n. 2 ^ n) e in omega (arith, h, t, f)

pub small_test : (top done k : ℕ) → top ≤ 27 → done < top → k + 2 ^ (top - done) ≤ 2 ^ 27
    → k + 1 * 2 ^ (top - 1 - done) % 2 ^ 32 < 2 ^ 27
small_test top done k m d h =
    let left = top - 1 - done in
    let up : top - done ≡ suc left = omega (arith, d) in
    let t = tested_small k (top - done) left up h in
    let p = pow_mono {i = 0} {j = left} (omega arith) in
    subst (λ (n : ℕ). k + n < 2 ^ 27) (sym (bit_is left (omega (arith, m, d))))
    (omega (arith, t, p))

-- one turn of the loop over the bits
pub preserved : (test : ℕ → Bool) (top done k more next all : ℕ) (t : Bool) → top ≤ 27 → done < top
    → more ≡ k + 1 * 2 ^ (top - 1 - done) % 2 ^ 32 → t ≡ test more → next ≡ cond t more k
    → with_bits test (top - done) k ≡ all → k + 2 ^ (top - done) ≤ 2 ^ 27
    → (with_bits test (top - (done + 1)) next ≡ all) × (next + 2 ^ (top - (done + 1)) ≤ 2 ^ 27)
preserved test top done k more next all t b d m e n h l =
    let rest = top - 1 - done in
    let left : top - (done + 1) ≡ rest = omega (arith, d) in
    let up : top - done ≡ suc rest = omega (arith, d) in
    let f : more ≡ k + 2 ^ rest = m ∙ ap (λ b. k + b) (bit_is rest (omega (arith, b, d))) in
    let g : next ≡ cond (test (k + 2 ^ rest)) (k + 2 ^ rest) k = n ∙ ap (λ b. cond b more k) e
    ∙ ap (λ m. cond (test m) m k) f in (
      ap (λ n. with_bits test n next) left ∙ ap (λ n. with_bits test rest n) g
          ∙ sym (bits_step test (top - done) rest k up) ∙ h,
      subst (λ p. next + 2 ^ p ≤ 2 ^ 27) (sym left)
          (by_test t next n (tested_small k (top - done) rest up l) f),
    )
  where
    by_test : (t : Bool) (next : ℕ) → next ≡ cond t more k
        → (k + 2 ^ (top - 1 - done)) + 2 ^ (top - 1 - done) ≤ 2 ^ 27
        → more ≡ k + 2 ^ (top - 1 - done) → next + 2 ^ (top - 1 - done) ≤ 2 ^ 27
    by_test true next e h f = omega (arith, e, h, f)
    by_test false next e h f = omega (arith, e, h, f)

-- bits that are too great are not taken
pub bits_skip : (test : ℕ → Bool) (top more : ℕ) → top + more ≤ 27
    → ((i : ℕ) → 2 ^ top ≤ i → i < 2 ^ 27 → test i ≡ false)
    → with_bits test (top + more) 0 ≡ with_bits test top 0
bits_skip test top zero h f = let e : top + 0 ≡ top = omega arith in ap (λ n. with_bits test n 0) e
bits_skip test top (suc more) h f =
    let low = pow_mono {i = top} {j = top + more} (omega arith) in
    let high = pow_mono {i = top + more} {j = 26} (omega (arith, h)) in
    let e = f (0 + 2 ^ (top + more)) (omega (arith, low)) (omega (arith, high)) in
    bits_step test (top + suc more) (top + more) 0 (omega arith)
    ∙ ap (λ t. with_bits test (top + more) (cond t (0 + 2 ^ (top + more)) 0)) e
    ∙ bits_skip test top more (omega (arith, h)) f

-- the width of the numbers below end
pub width_is : (end m l w i : ℕ) → m ≡ max end 1 → m < 2 * 2 ^ l → w ≡ min (l + 1) 27 → 2 ^ w ≤ i
    → i < 2 ^ 27 → end ≤ i
width_is end m l w i e h f k n =
    by_lt (l + 1) 27
    (λ (a : l + 1 < 27).
    let g : w ≡ suc l = omega (arith, a, f) in
    let p = ap (λ n. 2 ^ n) g in
    let t = twice l in
    omega (arith, e, h, k, p, t))
    (λ (a : 27 ≤ l + 1).
    let g : w ≡ 27 = omega (arith, a, f) in
    let p = ap (λ n. 2 ^ n) g in
    absurd (omega (arith, k, n, p)))

pub top_small : (top : ℕ) → top ≤ 27 → 0 + 2 ^ top ≤ 2 ^ 27
top_small top h = let p = pow_mono {i = top} {j = 27} h in omega (arith, p)

-- ---- sides as tests
pub inside_true : (h : HalfArc) (p q v : Point) (k : ℕ) → v ≡ beside h p q (pos k -ℤ pos 2)
    → power h (point v) <ℤ pos 0 → true ≡ is_inside h p q k
unfolding is_inside
inside_true h p q v k e l =
    sym (positive_true _ (let m = subst (λ v. power h (point v) <ℤ pos 0) e l in
    omega (arith, ints, m)))

pub inside_false : (h : HalfArc) (p q v : Point) (k : ℕ) → v ≡ beside h p q (pos k -ℤ pos 2)
    → pos 0 ≤ℤ power h (point v) → false ≡ is_inside h p q k
unfolding is_inside
inside_false h p q v k e l =
    sym (positive_false _ (let m = subst (λ v. pos 0 ≤ℤ power h (point v)) e l in
    omega (arith, ints, m)))

pub not_inside : (s : Side) (z : ℤ) → HasSign s z → (s ≡ side.Inside → ⊥) → pos 0 ≤ℤ z
not_inside side.Inside z h n = absurd (n refl)
not_inside side.On z h n = omega (arith, ints, h)
not_inside side.Outside z h n = omega (arith, ints, h)

pub count_is : (h : HalfArc) (p q : Point) → 0 < whole_distance p q
    → count h p q ≡ cond (is_inside h p q 0) (Some (with_bits (is_inside h p q) 27 0)) None
unfolding count
count_is h p q l =
    ap (λ t. cond t (cond (is_inside h p q 0) (Some (with_bits (is_inside h p q) 27 0)) None) None)
    (positive _ l)
  where
    positive : (n : ℕ) → 0 < n → nat_lt 0 n ≡ true
    positive n l = search rules
