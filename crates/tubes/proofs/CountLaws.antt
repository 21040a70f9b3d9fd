-- Which points beside a span are inside where another one is.
use Rattle.std.proofs.Common.{◌≡◌, ℕ, ◌+◌, ◌*◌, ◌-◌, ◌<◌, ◌≤◌, ◌^◌, Bool, true, false, cond, ℤ, pos}
use Rattle.std.proofs.Common.{negsuc, ◌+ℤ◌, ◌*ℤ◌, ◌-ℤ◌, ◌<ℤ◌, ◌≤ℤ◌, [], ◌∷◌, refl, arith, ap, sym}
use Rattle.std.proofs.Common.{◌∙◌, subst}
use Rattle.std.proofs.lemmas.Int.{ints}
use Rattle.std.proofs.lemmas.Nat.{mul-le}
use Rattle.std.specs.Prelude.{unsigned_abs}
use Rattle.plane.specs.declared.kinds.Point.{Point}
use Rattle.plane.specs.Faces.Cells.{is_positive}
use Rattle.plane.specs.Forms.Vectors.{point}
use Rattle.plane.specs.Rule.HalfArcs.{HalfArc, bend, power}
use Rattle.plane.specs.Tubes.Bays.{distance}
use Rattle.plane.proofs.Algebra.Laws.{square_nonnegative}
use Rattle.plane.proofs.Algebra.Ring.{at, minus, num, plus, ring, times, vars}
use Rattle.tubes.specs.Counting.{AreBounds, Follows, IsWindow}
use Rattle.tubes.specs.HalfArcTubes.{beside, is_inside, moved, turned_x, turned_y, whole_distance}
use Rattle.tubes.specs.declared.bounds.Bounds.{Bounds}
use Rattle.tubes.proofs.DiskTriangles.{inside_triangle}
use Rattle.tubes.proofs.Means.{floor_is}
use Rattle.tubes.proofs.SpanNumbers.{positive_true}
use Rattle.tubes.proofs.PlacedPoints.{IsPlaced, dot}
use Rattle.tubes.proofs.SpanTriangles.{is_mean}
use Rattle.tubes.proofs.TubePoints.{negative_is, root_is}

-- ---- numbers far enough apart
pub two_below : (l j i : ℕ) → 4 ≤ j → j + 2 ≤ i → 6 * i ≤ l + 3 → Follows l j i
two_below l j i h k m =
    let p = mul-le (2 * j + 4) l (2 * i) l (omega (arith, k)) (omega arith) in
    record { least = h; less = omega (arith, k); far = omega (arith, p, m) }

pub three_below : (l j i : ℕ) → 4 ≤ j → j + 3 ≤ i → 2 * i ≤ l + 1 → Follows l j i
three_below l j i h k m =
    let p = mul-le (2 * j + 6) l (2 * i) l (omega (arith, k)) (omega arith) in
    record { least = h; less = omega (arith, k); far = omega (arith, p, m) }

above : (l j n t : ℕ) → 4 ≤ j → 0 < n → 3 ≤ l → 6 * (j + n) + 3 * l ≤ 2 * (n * l) + 3
    → Follows l j (j + n + t)
above l j n t h k m f =
    let p = mul-le 3 t l t m (omega arith) in
    record { least = h; less = omega (arith, k); far = omega (arith, p, f) }

by_rest : (l j n i : ℕ) → ((t : ℕ) → Follows l j (j + n + t)) → j + n ≤ i → Follows l j i
by_rest l j n i f h = subst (λ i. Follows l j i) (omega (arith, h)) (f (i - (j + n)))

pub two_above : (l j i : ℕ) → 4 ≤ j → j + 2 ≤ i → 6 * j + 9 ≤ l → Follows l j i
two_above l j i h k m =
    by_rest l j 2 i (λ t. above l j 2 t h (omega arith) (omega (arith, m)) (omega (arith, m))) k

pub three_above : (l j i : ℕ) → 4 ≤ j → j + 3 ≤ i → 2 * j + 5 ≤ l → Follows l j i
three_above l j i h k m =
    by_rest l j 3 i (λ t. above l j 3 t h (omega arith) (omega (arith, m)) (omega (arith, m))) k

pub far_above : (l j i : ℕ) → 4 ≤ j → 4 * j + 5 ≤ i → 4 ≤ l → Follows l j i
far_above l j i h k m =
    let p = mul-le 4 (6 * j + 7) l (6 * j + 7) m (omega arith) in
    by_rest l j (3 * j + 5) i
    (λ t. above l j (3 * j + 5) t h (omega arith) (omega (arith, m)) (omega (arith, p, h)))
    (omega (arith, k))

-- ---- the points beside a span, seen from its first end
double : (l : ℕ) → pos (2 * l) ≡ pos 2 *ℤ pos l
double l = omega (arith, ints)

one_placed : (l : ℕ) (p q w n v : ℤ) → 0 < l → v ≡ moved l (p +ℤ q) w n
    → (r : ℤ) × (pos 0 ≤ℤ r) × (r ≤ℤ (pos 2 *ℤ pos l))
    × ((pos 2 *ℤ pos l) *ℤ (v -ℤ p) ≡ ((pos l *ℤ (q -ℤ p)) +ℤ ((pos 2 *ℤ n) *ℤ w)) -ℤ r)
one_placed l p q w n v h e =
    let a = ((p +ℤ q) *ℤ pos l) +ℤ ((pos 2 *ℤ n) *ℤ w) in
    let f = floor_is a (2 * l) (omega (arith, h)) in
    let g : pos (2 * l) *ℤ moved l (p +ℤ q) w n
    ≡ (pos 2 *ℤ pos l) *ℤ v = ap (λ (k : ℤ). k *ℤ moved l (p +ℤ q) w n) (double l)
    ∙ ap (λ (k : ℤ). (pos 2 *ℤ pos l) *ℤ k) (sym e) in
    let d = double l in
    let r : (pos 2 *ℤ pos l) *ℤ (v -ℤ p)
    ≡ ((pos l *ℤ (q -ℤ p)) +ℤ ((pos 2 *ℤ n) *ℤ w)) -ℤ (a -ℤ ((pos 2 *ℤ pos l) *ℤ v)) =
    let L = at 0 in let N = times (num (pos 2)) (at 4) in
    ring (times (times (num (pos 2)) L) (minus (at 5) (at 1)))
    (minus (plus (times L (minus (at 2) (at 1))) (times N (at 3)))
    (minus (plus (times (plus (at 1) (at 2)) L) (times N (at 3)))
    (times (times (num (pos 2)) L) (at 5))))
    (vars (pos l ∷ p ∷ q ∷ w ∷ n ∷ v ∷ [])) refl in
    (a -ℤ ((pos 2 *ℤ pos l) *ℤ v), omega (arith, ints, f.0, g), omega (arith, ints, f.1, g, d), r)

-- turned to one side or the other
abbrev sign : Bool → ℤ
sign true = pos 1
sign false = negsuc 0

sign_square : (b : Bool) → sign b *ℤ sign b ≡ pos 1
sign_square true = refl
sign_square false = refl

turned_over : (b : Bool) (x y : ℤ) → cond b (y -ℤ x) (x -ℤ y) ≡ sign b *ℤ (y -ℤ x)
turned_over true x y = omega (arith, ints)
turned_over false x y = omega (arith, ints)

turned_back : (b : Bool) (x y : ℤ) → cond b (x -ℤ y) (y -ℤ x) ≡ pos 0 -ℤ (sign b *ℤ (y -ℤ x))
turned_back true x y = omega (arith, ints)
turned_back false x y = omega (arith, ints)

abbrev turn : HalfArc → ℤ
turn h = sign (is_positive (bend h))

placed : (h : HalfArc) (p q : Point) (n : ℤ) → 0 < whole_distance p q
    → IsPlaced (pos (whole_distance p q)) (q.x -ℤ p.x) (q.y -ℤ p.y) (turn h *ℤ (q.y -ℤ p.y))
    (pos 0 -ℤ (turn h *ℤ (q.x -ℤ p.x))) n
    ((beside h p q n).x -ℤ p.x) ((beside h p q n).y -ℤ p.y)
unfolding beside
placed h p q n l =
    let tx : turned_x h p q ≡ turn h *ℤ (q.y -ℤ p.y) = turned_over (is_positive (bend h)) p.y q.y in
    let ty : turned_y h p q ≡ pos 0 -ℤ (turn h *ℤ (q.x -ℤ p.x)) = turned_back
    (is_positive (bend h)) p.x q.x in
    let x = one_placed (whole_distance p q) p.x q.x (turn h *ℤ (q.y -ℤ p.y)) n _ l
    (ap (λ w. moved (whole_distance p q) (p.x +ℤ q.x) w n) tx) in
    let y = one_placed (whole_distance p q) p.y q.y (pos 0 -ℤ (turn h *ℤ (q.x -ℤ p.x))) n _ l
    (ap (λ w. moved (whole_distance p q) (p.y +ℤ q.y) w n) ty) in
    record {
      rx = x.0;
      ry = y.0;
      rx_least = x.1;
      rx_most = x.2;
      ry_least = y.1;
      ry_most = y.2;
      right = x.3;
      above = y.3;
    }

-- the distance rounded down is not above the distance
whole_most : (p q : Point)
    → (pos (whole_distance p q) *ℤ pos (whole_distance p q)) ≤ℤ dot (q.x -ℤ p.x) (q.y -ℤ p.y)
    (q.x -ℤ p.x) (q.y -ℤ p.y)
unfolding distance
whole_most p q =
    let d = dot (q.x -ℤ p.x) (q.y -ℤ p.y) (q.x -ℤ p.x) (q.y -ℤ p.y) in
    let e : distance p q ≡ d = square_back p.x q.x p.y q.y in
    let a = square_nonnegative (q.x -ℤ p.x) in
    let b = square_nonnegative (q.y -ℤ p.y) in
    let r = (root_is (unsigned_abs (distance p q))).0 in
    most (distance p q) d (whole_distance p q) e (omega (arith, ints, a, b)) r
  where
    square_back : (a b c d : ℤ)
        → ((a -ℤ b) *ℤ (a -ℤ b)) +ℤ ((c -ℤ d) *ℤ (c -ℤ d)) ≡ dot (b -ℤ a) (d -ℤ c) (b -ℤ a) (d -ℤ c)
    square_back a b c d =
        ring (plus (times (minus (at 0) (at 1)) (minus (at 0) (at 1)))
        (times (minus (at 2) (at 3)) (minus (at 2) (at 3))))
        (plus (times (minus (at 1) (at 0)) (minus (at 1) (at 0)))
        (times (minus (at 3) (at 2)) (minus (at 3) (at 2)))) (vars (a ∷ b ∷ c ∷ d ∷ [])) refl

    most : (z d : ℤ) (r : ℕ) → z ≡ d → pos 0 ≤ℤ d → r * r ≤ unsigned_abs z → (pos r *ℤ pos r) ≤ℤ d
    most (pos n) d r e h k = omega (arith, ints, e, k)
    most (negsuc n) d r e h k = absurd (omega (arith, ints, e, h))

-- ---- inside by the point above
far_is : (l j i : ℕ) → Follows l j i
    → (pos 3 *ℤ ((pos 2 *ℤ (pos i -ℤ pos 2)) +ℤ pos 3)) ≤ℤ
    (((pos 2 *ℤ ((pos i -ℤ pos 2) -ℤ (pos j -ℤ pos 2))) -ℤ pos 3) *ℤ pos l)
far_is l j i f =
    let e : ((pos 2 *ℤ ((pos i -ℤ pos 2) -ℤ (pos j -ℤ pos 2))) -ℤ pos 3) *ℤ pos l
    ≡ ((pos 2 *ℤ (pos i *ℤ pos l)) -ℤ (pos 2 *ℤ (pos j *ℤ pos l))) -ℤ (pos 3 *ℤ pos l) =
    let I = at 0 in let J = at 1 in let L = at 2 in
    let two = num (pos 2) in
    ring (times (minus (times two (minus (minus I two) (minus J two))) (num (pos 3))) L)
    (minus (minus (times two (times I L)) (times two (times J L))) (times (num (pos 3)) L))
    (vars (pos i ∷ pos j ∷ pos l ∷ [])) refl in
    let k : 6 * i + (2 * (j * l) + 3 * l) ≤ 2 * (i * l) + 3 = let m = f.far in omega (arith, m) in
    omega (arith, ints, e, k)

pub follows : (h : HalfArc) (p q : Point) (j i : ℕ) → 0 < whole_distance p q
    → Follows (whole_distance p q) j i → power h (point p) ≤ℤ pos 0 → power h (point q) ≤ℤ pos 0
    → is_inside h p q i ≡ true → is_inside h p q j ≡ true
unfolding is_inside
follows h p q j i some f hp hq t =
    let l = pos (whole_distance p q) in
    let n = pos i -ℤ pos 2 in
    let m = pos j -ℤ pos 2 in
    let a = f.least in
    let b = f.less in
    let v = beside h p q n in
    let z = beside h p q m in
    let w = is_mean l (turn h) (q.x -ℤ p.x) (q.y -ℤ p.y) n m (v.x -ℤ p.x) (v.y -ℤ p.y) (z.x -ℤ p.x)
    (z.y -ℤ p.y) (omega (arith, ints, some)) (whole_most p q)
    (sign_square (is_positive (bend h)))
    (omega (arith, ints, a)) (omega (arith, ints, b)) (far_is (whole_distance p q) j i f)
    (placed h p q n some) (placed h p q m some) in
    let k = inside_triangle h p q v z w.n w.s w.t w.n_some w.rest w.s_least w.t_some w.right w.above
    hp hq (negative_is _ t) in
    positive_true _ (less (power h (point z)) k)
  where
    less : (z : ℤ) → z <ℤ pos 0 → pos 0 <ℤ (pos 0 -ℤ z)
    less z h = omega (arith, ints, h)

-- ---- what two tests say
not_above : (h : HalfArc) (p q : Point) (j i : ℕ) → 0 < whole_distance p q
    → Follows (whole_distance p q) j i → power h (point p) ≤ℤ pos 0 → power h (point q) ≤ℤ pos 0
    → is_inside h p q j ≡ false → is_inside h p q i ≡ false
not_above h p q j i some f hp hq t = by_test (is_inside h p q i) refl
  where
    by_test : (b : Bool) → is_inside h p q i ≡ b → b ≡ false
    by_test true e = sym (follows h p q j i some f hp hq e) ∙ t
    by_test false e = refl

pub window_is : (h : HalfArc) (p q : Point) (b : Bounds) (to from : ℕ) → 0 < whole_distance p q
    → power h (point p) ≤ℤ pos 0 → power h (point q) ≤ℤ pos 0 → AreBounds h p q b
    → ((j : ℕ) → 4 ≤ j → j ≤ to → Follows (whole_distance p q) j b.low)
    → ((i : ℕ) → from ≤ i → i < 2 ^ 27 → Follows (whole_distance p q) b.high i)
    → IsWindow h p q (record { bounds = b; inside_to = to; outside_from = from })
window_is h p q b to from some hp hq k below above = record {
  bounds = k;
  inside = λ j l m. follows h p q j b.low some (below j l m) hp hq k.inside;
  outside = λ i l m. not_above h p q b.high i some (above i l m) hp hq
      (k.outside (through b.high i (above i l m).less m));
}
  where
    through : (a b : ℕ) → a < b → b < 2 ^ 27 → a < 2 ^ 27
    through a b h k = omega (arith, h, k)
