-- For an edge that does not hold the place z, the counts along the vertical and along the sweep
-- line differ as its ends lie in
-- the wedge between them.
-- Nine cases, by where the two ends lie.
use Rattle.std.proofs.Common.{◌≡◌, zero, suc, Bool, true, false, ℤ, pos, negsuc, ◌+ℤ◌, ◌*ℤ◌, ◌-ℤ◌}
use Rattle.std.proofs.Common.{◌<ℤ◌, ◌≤ℤ◌, inl, inr, [], ◌∷◌, refl, arith, sym, subst}
use Rattle.std.proofs.lemmas.Int.{ints, by_lt_z}
use Rattle.plane.specs.declared.kinds.Point.{Point}
use Rattle.plane.specs.Forms.Vectors.{Vector, Place, point, Edge, side, sweep, rise, Before, On}
use Rattle.plane.specs.Faces.Cells.{is_positive}
use Rattle.plane.specs.Faces.Parity.{flip, both, differ, is_right, is_under, crosses_vertical}
use Rattle.plane.proofs.ParityLemmas.ParityWords.{is_after, crosses_sweep, in_wedge}
use Rattle.plane.proofs.Algebra.Laws.{product_positive, product_nonnegative}
use Rattle.plane.proofs.Algebra.Ring.{at, num, plus, minus, times, vars, ring}
use Rattle.plane.proofs.Linear.Vectors.{rise-is}

abbrev Truth : Bool → Type 0
Truth true = Unit {0}
Truth false = ⊥

pub not_both : true ≡ false → ⊥
not_both h = subst Truth h tt

pub is_true : (z : ℤ) → is_positive z ≡ true → pos 0 <ℤ z
is_true (pos zero) h = absurd (not_both (sym h))
is_true (pos (suc n)) h = omega (arith, ints)
is_true (negsuc n) h = absurd (not_both (sym h))

pub is_false : (z : ℤ) → is_positive z ≡ false → z ≤ℤ pos 0
is_false (pos zero) h = omega (arith, ints)
is_false (pos (suc n)) h = absurd (not_both h)
is_false (negsuc n) h = omega (arith, ints)

-- right or not (the low end, the high end), after or not, under or not
table : (r0 r1 a0 a1 b : Bool)
    → (r0 ≡ true → r1 ≡ false → ⊥)
    → (a0 ≡ true → a1 ≡ false → ⊥)
    → (r1 ≡ false → a0 ≡ false → a1 ≡ true → b ≡ false → ⊥)
    → (r0 ≡ false → r1 ≡ true → a1 ≡ false → b ≡ true → ⊥)
    → (r0 ≡ false → r1 ≡ true → a0 ≡ true → b ≡ false → ⊥)
    → (r0 ≡ true → a0 ≡ false → a1 ≡ true → b ≡ true → ⊥)
    → differ (both (flip r0) (both r1 b)) (both (flip a0) (both a1 b))
    ≡ differ (both (flip r0) a0) (both (flip r1) a1)
table false false false false false p1 p2 p3 p4 p5 p6 = refl
table false false false false true p1 p2 p3 p4 p5 p6 = refl
table false false false true false p1 p2 p3 p4 p5 p6 = absurd (p3 refl refl refl refl)
table false false false true true p1 p2 p3 p4 p5 p6 = refl
table false false true false false p1 p2 p3 p4 p5 p6 = absurd (p2 refl refl)
table false false true false true p1 p2 p3 p4 p5 p6 = absurd (p2 refl refl)
table false false true true false p1 p2 p3 p4 p5 p6 = refl
table false false true true true p1 p2 p3 p4 p5 p6 = refl
table false true false false false p1 p2 p3 p4 p5 p6 = refl
table false true false false true p1 p2 p3 p4 p5 p6 = absurd (p4 refl refl refl refl)
table false true false true false p1 p2 p3 p4 p5 p6 = refl
table false true false true true p1 p2 p3 p4 p5 p6 = refl
table false true true false false p1 p2 p3 p4 p5 p6 = absurd (p2 refl refl)
table false true true false true p1 p2 p3 p4 p5 p6 = absurd (p2 refl refl)
table false true true true false p1 p2 p3 p4 p5 p6 = absurd (p5 refl refl refl refl)
table false true true true true p1 p2 p3 p4 p5 p6 = refl
table true false false false false p1 p2 p3 p4 p5 p6 = absurd (p1 refl refl)
table true false false false true p1 p2 p3 p4 p5 p6 = absurd (p1 refl refl)
table true false false true false p1 p2 p3 p4 p5 p6 = absurd (p1 refl refl)
table true false false true true p1 p2 p3 p4 p5 p6 = absurd (p1 refl refl)
table true false true false false p1 p2 p3 p4 p5 p6 = absurd (p1 refl refl)
table true false true false true p1 p2 p3 p4 p5 p6 = absurd (p1 refl refl)
table true false true true false p1 p2 p3 p4 p5 p6 = absurd (p1 refl refl)
table true false true true true p1 p2 p3 p4 p5 p6 = absurd (p1 refl refl)
table true true false false false p1 p2 p3 p4 p5 p6 = refl
table true true false false true p1 p2 p3 p4 p5 p6 = refl
table true true false true false p1 p2 p3 p4 p5 p6 = refl
table true true false true true p1 p2 p3 p4 p5 p6 = absurd (p6 refl refl refl refl)
table true true true false false p1 p2 p3 p4 p5 p6 = absurd (p2 refl refl)
table true true true false true p1 p2 p3 p4 p5 p6 = absurd (p2 refl refl)
table true true true true false p1 p2 p3 p4 p5 p6 = refl
table true true true true true p1 p2 p3 p4 p5 p6 = refl

-- ---- the place as a mean of the ends, along the sweep line and along the vertical
along_sweep : (w : ℤ) (e : Edge) (z : Vector) →
    ((((sweep w (point e.high) *ℤ z.n) -ℤ sweep w z) *ℤ ((e.low.x *ℤ z.n) -ℤ z.x))
    +ℤ ((sweep w z -ℤ (sweep w (point e.low) *ℤ z.n)) *ℤ ((e.high.x *ℤ z.n) -ℤ z.x)))
    ≡ side e z *ℤ z.n
unfolding side sweep
along_sweep w e z =
    let W = at 0 in let X = at 1 in let Y = at 2 in let N = at 3 in
    let LX = at 4 in let LY = at 5 in let HX = at 6 in let HY = at 7 in
    let S = minus (times (plus (times W HX) HY) N) (plus (times W X) Y) in
    let T = minus (plus (times W X) Y) (times (plus (times W LX) LY) N) in
    let D = minus (times (minus HX LX) (minus Y (times LY N)))
    (times (minus HY LY) (minus X (times LX N))) in
    ring (plus (times S (minus (times LX N) X)) (times T (minus (times HX N) X))) (times D N)
    (vars (w ∷ z.x ∷ z.y ∷ z.n ∷ e.low.x ∷ e.low.y ∷ e.high.x ∷ e.high.y ∷ [])) refl

along_vertical : (w : ℤ) (e : Edge) (z : Vector) →
    ((((e.high.x *ℤ z.n) -ℤ z.x) *ℤ (sweep w z -ℤ (sweep w (point e.low) *ℤ z.n)))
    +ℤ ((z.x -ℤ (e.low.x *ℤ z.n)) *ℤ (sweep w z -ℤ (sweep w (point e.high) *ℤ z.n))))
    ≡ side e z *ℤ z.n
unfolding side sweep
along_vertical w e z =
    let W = at 0 in let X = at 1 in let Y = at 2 in let N = at 3 in
    let LX = at 4 in let LY = at 5 in let HX = at 6 in let HY = at 7 in
    let S = minus (plus (times W X) Y) (times (plus (times W LX) LY) N) in
    let T = minus (plus (times W X) Y) (times (plus (times W HX) HY) N) in
    let D = minus (times (minus HX LX) (minus Y (times LY N)))
    (times (minus HY LY) (minus X (times LX N))) in
    ring (plus (times (minus (times HX N) X) S) (times (minus X (times LX N)) T)) (times D N)
    (vars (w ∷ z.x ∷ z.y ∷ z.n ∷ e.low.x ∷ e.low.y ∷ e.high.x ∷ e.high.y ∷ [])) refl

scaled_most : (a b n : ℤ) → pos 0 <ℤ n → a ≤ℤ b → (a *ℤ n) ≤ℤ (b *ℤ n)
scaled_most a b n h k =
    let p = product_nonnegative (b -ℤ a) n (omega (arith, ints, k)) (omega (arith, ints, h)) in
    let e = ring (times (minus (at 1) (at 0)) (at 2))
    (minus (times (at 1) (at 2)) (times (at 0) (at 2))) (vars (a ∷ b ∷ n ∷ [])) refl in
    omega (arith, ints, p, e)

negated : (a b : ℤ) → (pos 0 -ℤ a) *ℤ b ≡ pos 0 -ℤ (a *ℤ b)
negated a b =
    ring (times (minus (num (pos 0)) (at 0)) (at 1)) (minus (num (pos 0)) (times (at 0) (at 1)))
    (vars (a ∷ b ∷ [])) refl

turned : (a b : ℤ) → a *ℤ (pos 0 -ℤ b) ≡ pos 0 -ℤ (a *ℤ b)
turned a b =
    ring (times (at 0) (minus (num (pos 0)) (at 1))) (minus (num (pos 0)) (times (at 0) (at 1)))
    (vars (a ∷ b ∷ [])) refl

-- s p + t q = d n in signs, for s above 0 and t at least 0
above_zero : (s t p q d n : ℤ) → pos 0 <ℤ s → pos 0 ≤ℤ t → pos 0 <ℤ n → pos 0 <ℤ p → pos 0 ≤ℤ q
    → (s *ℤ p) +ℤ (t *ℤ q) ≡ d *ℤ n → pos 0 <ℤ d
above_zero s t p q d n hs ht hn hp hq e =
    let a = product_positive s p hs hp in
    let b = product_nonnegative t q ht hq in
    by_lt_z (pos 0) d (λ l. l) (λ (l : d ≤ℤ pos 0).
    let c = product_nonnegative (pos 0 -ℤ d) n (omega (arith, ints, l)) (omega (arith, ints, hn)) in
    let f = negated d n in
    absurd (omega (arith, ints, a, b, c, e, f)))

least_zero : (s t p q d n : ℤ) → pos 0 ≤ℤ s → pos 0 ≤ℤ t → pos 0 <ℤ n → pos 0 ≤ℤ p → pos 0 ≤ℤ q
    → (s *ℤ p) +ℤ (t *ℤ q) ≡ d *ℤ n → pos 0 ≤ℤ d
least_zero s t p q d n hs ht hn hp hq e =
    let a = product_nonnegative s p hs hp in
    let b = product_nonnegative t q ht hq in
    by_lt_z d (pos 0) (λ (l : d <ℤ pos 0).
    let c = product_positive (pos 0 -ℤ d) n (omega (arith, ints, l)) hn in
    let f = negated d n in
    absurd (omega (arith, ints, a, b, c, e, f))) (λ l. l)

most_zero : (s t p q d n : ℤ) → pos 0 ≤ℤ s → pos 0 ≤ℤ t → pos 0 <ℤ n → p ≤ℤ pos 0 → q ≤ℤ pos 0
    → (s *ℤ p) +ℤ (t *ℤ q) ≡ d *ℤ n → d ≤ℤ pos 0
most_zero s t p q d n hs ht hn hp hq e =
    let f = turned s p in let g = turned t q in let h = negated d n in
    let x = least_zero s t (pos 0 -ℤ p) (pos 0 -ℤ q) (pos 0 -ℤ d) n hs ht hn
    (omega (arith, ints, hp)) (omega (arith, ints, hq)) (omega (arith, ints, e, f, g, h)) in
    omega (arith, ints, x)

below_zero : (s t p q d n : ℤ) → pos 0 <ℤ s → pos 0 ≤ℤ t → pos 0 <ℤ n → p <ℤ pos 0 → q ≤ℤ pos 0
    → (s *ℤ p) +ℤ (t *ℤ q) ≡ d *ℤ n → d <ℤ pos 0
below_zero s t p q d n hs ht hn hp hq e =
    let f = turned s p in let g = turned t q in let h = negated d n in
    let x = above_zero s t (pos 0 -ℤ p) (pos 0 -ℤ q) (pos 0 -ℤ d) n hs ht hn
    (omega (arith, ints, hp)) (omega (arith, ints, hq)) (omega (arith, ints, e, f, g, h)) in
    omega (arith, ints, x)

low_left : (p q : Point) → Before p q → p.x ≤ℤ q.x
low_left p q (inl l) = omega (arith, ints, l)
low_left p q (inr k) = let e = k.0 in omega (arith, ints, e)

-- all cases
pub wedge_law : (w : ℤ) (z : Vector) (e : Edge) → Place z → Before e.low e.high → pos 0 <ℤ rise w e
    → (On w e z → ⊥)
    → differ (crosses_vertical z e) (crosses_sweep w z e)
    ≡ differ (in_wedge w z e.low) (in_wedge w z e.high)
unfolding is_right is_after is_under
wedge_law w z e hz before up off =
    let n = z.n in
    let lx = (e.low.x *ℤ n) -ℤ z.x in
    let hx = (e.high.x *ℤ n) -ℤ z.x in
    let ls = (sweep w (point e.low) *ℤ n) -ℤ sweep w z in
    let hs = (sweep w (point e.high) *ℤ n) -ℤ sweep w z in
    let d = side e z in
    let x = scaled_most e.low.x e.high.x n hz (low_left e.low e.high before) in
    let r = rise-is w e in
    let s = scaled_most (sweep w (point e.low)) (sweep w (point e.high)) n hz
    (omega (arith, ints, r, up)) in
    let i = along_sweep w e z in
    let j = along_vertical w e z in
    table (is_positive lx) (is_positive hx) (is_positive ls) (is_positive hs)
    (is_positive (pos 0 -ℤ d))
    (λ a b. let p = is_true lx a in let q = is_false hx b in omega (arith, ints, x, p, q))
    (λ a b. let p = is_true ls a in let q = is_false hs b in omega (arith, ints, s, p, q))
    (λ a b c u.
    let p = is_false hx a in
    let q = is_false ls b in let v = is_true hs c in let k = is_false (pos 0 -ℤ d) u in
    let m = most_zero hs (sweep w z -ℤ (sweep w (point e.low) *ℤ n)) lx hx d n
    (omega (arith, ints, v)) (omega (arith, ints, q)) hz (omega (arith, ints, x, p)) p i in
    off (record {
      line = omega (arith, ints, m, k);
      low = omega (arith, ints, q);
      high = omega (arith, ints, v);
    }))
    (λ a b c u.
    let p = is_false lx a in
    let q = is_true hx b in let v = is_false hs c in let k = is_true (pos 0 -ℤ d) u in
    let m = least_zero hx (z.x -ℤ (e.low.x *ℤ n)) (sweep w z -ℤ (sweep w (point e.low) *ℤ n))
    (sweep w z -ℤ (sweep w (point e.high) *ℤ n)) d n
    (omega (arith, ints, q)) (omega (arith, ints, p)) hz (omega (arith, ints, s, v))
    (omega (arith, ints, v)) j in
    omega (arith, ints, m, k))
    (λ a b c u.
    let p = is_false lx a in
    let q = is_true hx b in let v = is_true ls c in let k = is_false (pos 0 -ℤ d) u in
    let m = below_zero hx (z.x -ℤ (e.low.x *ℤ n)) (sweep w z -ℤ (sweep w (point e.low) *ℤ n))
    (sweep w z -ℤ (sweep w (point e.high) *ℤ n)) d n
    q (omega (arith, ints, p)) hz (omega (arith, ints, v)) (omega (arith, ints, s, v)) j in
    omega (arith, ints, m, k))
    (λ a b c u.
    let p = is_true lx a in
    let q = is_false ls b in let v = is_true hs c in let k = is_true (pos 0 -ℤ d) u in
    let m = above_zero hs (sweep w z -ℤ (sweep w (point e.low) *ℤ n)) lx hx d n v
    (omega (arith, ints, q)) hz p (omega (arith, ints, x, p)) i in
    omega (arith, ints, m, k))
