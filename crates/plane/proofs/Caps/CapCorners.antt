-- Three corners that rise along x, and the triangle that they make.
use Rattle.std.proofs.Common.{◌≡◌, ℤ, pos, ◌+ℤ◌, ◌*ℤ◌, ◌-ℤ◌, ◌<ℤ◌, ◌≤ℤ◌, [], ◌∷◌, refl, arith, ap}
use Rattle.std.proofs.Common.{◌∙◌, sym}
use Rattle.std.proofs.lemmas.Int.{ints}
use Rattle.plane.specs.declared.kinds.Point.{Point}
use Rattle.plane.specs.Forms.Vectors.{Vector, Place, point, side}
use Rattle.plane.specs.Tubes.Bays.{InTriangle}
use Rattle.plane.specs.Tubes.CapStrips.{line, InColumn}
use Rattle.plane.proofs.Algebra.Laws.{product_positive, product_nonnegative}
use Rattle.plane.proofs.Caps.CapOver.{cancel_least, cancel_most, times_most}
use Rattle.plane.proofs.Algebra.Ring.{Expr, at, num, plus, minus, times, vars, ring}

abbrev pub SIDE : Expr → Expr → Expr → Expr → Expr → Expr → Expr → Expr
SIDE lx ly hx hy x y n =
    minus (times (minus hx lx) (minus y (times ly n))) (times (minus hy ly) (minus x (times lx n)))

-- the lines of two neighbouring sides
corner-turn : (p m q : Point) (z : Vector)
    → (m.x -ℤ p.x) *ℤ side (line m q) z
    ≡ ((q.x -ℤ m.x) *ℤ side (line p m) z)
    +ℤ (side (line p q) (point m) *ℤ (z.x -ℤ (m.x *ℤ z.n)))
unfolding side
corner-turn p m q z =
    let PX = at 0 in
    let PY = at 1 in let MX = at 2 in let MY = at 3 in let QX = at 4 in let QY = at 5 in
    let X = at 6 in let Y = at 7 in let N = at 8 in
    ring (times (minus MX PX) (SIDE MX MY QX QY X Y N))
    (plus (times (minus QX MX) (SIDE PX PY MX MY X Y N))
    (times (SIDE PX PY QX QY MX MY (num (pos 1))) (minus X (times MX N))))
    (vars (p.x ∷ p.y ∷ m.x ∷ m.y ∷ q.x ∷ q.y ∷ z.x ∷ z.y ∷ z.n ∷ [])) refl

-- the three sides give the weights
weights_x : (p m q : Point) (z : Vector)
    → ((((pos 0 -ℤ side (line m q) z) *ℤ p.x) +ℤ (side (line p q) z *ℤ m.x))
    +ℤ ((pos 0 -ℤ side (line p m) z) *ℤ q.x)) ≡ side (line p q) (point m) *ℤ z.x
unfolding side
weights_x p m q z =
    let PX = at 0 in
    let PY = at 1 in let MX = at 2 in let MY = at 3 in let QX = at 4 in let QY = at 5 in
    let X = at 6 in let Y = at 7 in let N = at 8 in
    let neg : Expr → Expr = λ a. minus (num (pos 0)) a in
    ring (plus (plus (times (neg (SIDE MX MY QX QY X Y N)) PX) (times (SIDE PX PY QX QY X Y N) MX))
    (times (neg (SIDE PX PY MX MY X Y N)) QX)) (times (SIDE PX PY QX QY MX MY (num (pos 1))) X)
    (vars (p.x ∷ p.y ∷ m.x ∷ m.y ∷ q.x ∷ q.y ∷ z.x ∷ z.y ∷ z.n ∷ [])) refl

weights_y : (p m q : Point) (z : Vector)
    → ((((pos 0 -ℤ side (line m q) z) *ℤ p.y) +ℤ (side (line p q) z *ℤ m.y))
    +ℤ ((pos 0 -ℤ side (line p m) z) *ℤ q.y)) ≡ side (line p q) (point m) *ℤ z.y
unfolding side
weights_y p m q z =
    let PX = at 0 in
    let PY = at 1 in let MX = at 2 in let MY = at 3 in let QX = at 4 in let QY = at 5 in
    let X = at 6 in let Y = at 7 in let N = at 8 in
    let neg : Expr → Expr = λ a. minus (num (pos 0)) a in
    ring (plus (plus (times (neg (SIDE MX MY QX QY X Y N)) PY) (times (SIDE PX PY QX QY X Y N) MY))
    (times (neg (SIDE PX PY MX MY X Y N)) QY)) (times (SIDE PX PY QX QY MX MY (num (pos 1))) Y)
    (vars (p.x ∷ p.y ∷ m.x ∷ m.y ∷ q.x ∷ q.y ∷ z.x ∷ z.y ∷ z.n ∷ [])) refl

weights_n : (p m q : Point) (z : Vector)
    → (((pos 0 -ℤ side (line m q) z) +ℤ side (line p q) z) +ℤ (pos 0 -ℤ side (line p m) z))
    ≡ side (line p q) (point m) *ℤ z.n
unfolding side
weights_n p m q z =
    let PX = at 0 in
    let PY = at 1 in let MX = at 2 in let MY = at 3 in let QX = at 4 in let QY = at 5 in
    let X = at 6 in let Y = at 7 in let N = at 8 in
    let neg : Expr → Expr = λ a. minus (num (pos 0)) a in
    ring (plus (plus (neg (SIDE MX MY QX QY X Y N)) (SIDE PX PY QX QY X Y N))
    (neg (SIDE PX PY MX MY X Y N))) (times (SIDE PX PY QX QY MX MY (num (pos 1))) N)
    (vars (p.x ∷ p.y ∷ m.x ∷ m.y ∷ q.x ∷ q.y ∷ z.x ∷ z.y ∷ z.n ∷ [])) refl

-- weights that are D z make z their mean
mean_is : (i j k d : ℤ) (p q r : Point) (z : Vector) → pos 0 ≤ℤ i → pos 0 ≤ℤ j → pos 0 ≤ℤ k
    → pos 0 <ℤ d → Place z
    → ((i *ℤ p.x) +ℤ (j *ℤ q.x)) +ℤ (k *ℤ r.x) ≡ d *ℤ z.x
    → ((i *ℤ p.y) +ℤ (j *ℤ q.y)) +ℤ (k *ℤ r.y) ≡ d *ℤ z.y → (i +ℤ j) +ℤ k ≡ d *ℤ z.n
    → InTriangle z (point p) (point q) (point r)
mean_is i j k d p q r z hi hj hk hd hz ex ey en =
    let dn = product_positive d z.n hd hz in
    record {
      i = i;
      j = j;
      k = k;
      i_least = hi;
      j_least = hj;
      k_least = hk;
      some = omega (arith, ints, en, dn);
      is = record { x = same z.x _ ex; y = same z.y _ ey };
    }
  where
    count : ((i *ℤ pos 1) +ℤ (j *ℤ pos 1)) +ℤ (k *ℤ pos 1) ≡ d *ℤ z.n
    count = omega (arith, ints, en)

    same : (u m : ℤ) → m ≡ d *ℤ u → u *ℤ (((i *ℤ pos 1) +ℤ (j *ℤ pos 1)) +ℤ (k *ℤ pos 1)) ≡ m *ℤ z.n
    same u m e =
        ap (λ (v : ℤ). u *ℤ v) count
        ∙ ring (times (at 0) (times (at 1) (at 2))) (times (times (at 1) (at 0)) (at 2))
        (vars (u ∷ d ∷ z.n ∷ [])) refl
        ∙ ap (λ (v : ℤ). v *ℤ z.n) (sym e)

-- m over the straight p q
pub triangle_up : (p m q : Point) (z : Vector) → Place z → pos 0 <ℤ side (line p q) (point m)
    → pos 0 ≤ℤ side (line p q) z → side (line p m) z ≤ℤ pos 0 → side (line m q) z ≤ℤ pos 0
    → InTriangle z (point p) (point q) (point m)
triangle_up p m q z hz d a b e =
    mean_is (pos 0 -ℤ side (line m q) z) (pos 0 -ℤ side (line p m) z) (side (line p q) z)
    (side (line p q) (point m)) p q m z
    (omega (arith, ints, e)) (omega (arith, ints, b)) a d hz
    (turn ((pos 0 -ℤ side (line m q) z) *ℤ p.x) (side (line p q) z *ℤ m.x)
    ((pos 0 -ℤ side (line p m) z) *ℤ q.x) _ (weights_x p m q z))
    (turn ((pos 0 -ℤ side (line m q) z) *ℤ p.y) (side (line p q) z *ℤ m.y)
    ((pos 0 -ℤ side (line p m) z) *ℤ q.y) _ (weights_y p m q z))
    (turn (pos 0 -ℤ side (line m q) z) (side (line p q) z) (pos 0 -ℤ side (line p m) z) _
    (weights_n p m q z))
  where
    turn : (a b c d : ℤ) → (a +ℤ b) +ℤ c ≡ d → (a +ℤ c) +ℤ b ≡ d
    turn a b c d e = omega (arith, ints, e)

-- m under the straight p q
pub triangle_down : (p m q : Point) (z : Vector) → Place z → side (line p q) (point m) <ℤ pos 0
    → side (line p q) z ≤ℤ pos 0 → pos 0 ≤ℤ side (line p m) z → pos 0 ≤ℤ side (line m q) z
    → InTriangle z (point m) (point p) (point q)
triangle_down p m q z hz d a b e =
    mean_is (pos 0 -ℤ side (line p q) z) (side (line m q) z) (side (line p m) z)
    (pos 0 -ℤ side (line p q) (point m)) m p q z
    (omega (arith, ints, a)) e b (omega (arith, ints, d)) hz
    (turned (side (line m q) z) (side (line p q) z) (side (line p m) z) p.x m.x q.x
    (side (line p q) (point m)) z.x (weights_x p m q z))
    (turned (side (line m q) z) (side (line p q) z) (side (line p m) z) p.y m.y q.y
    (side (line p q) (point m)) z.y (weights_y p m q z))
    (turned_sum (side (line m q) z) (side (line p q) z) (side (line p m) z)
    (side (line p q) (point m)) z.n (weights_n p m q z))
  where
    neg_times : (a b : ℤ) → (pos 0 -ℤ a) *ℤ b ≡ pos 0 -ℤ (a *ℤ b)
    neg_times a b =
        ring (times (minus (num (pos 0)) (at 0)) (at 1)) (minus (num (pos 0)) (times (at 0) (at 1)))
        (vars (a ∷ b ∷ [])) refl

    turned : (i j k p m q d z : ℤ)
        → (((pos 0 -ℤ i) *ℤ p) +ℤ (j *ℤ m)) +ℤ ((pos 0 -ℤ k) *ℤ q) ≡ d *ℤ z
        → (((pos 0 -ℤ j) *ℤ m) +ℤ (i *ℤ p)) +ℤ (k *ℤ q) ≡ (pos 0 -ℤ d) *ℤ z
    turned i j k p m q d z e =
        let a = neg_times i p in
        let b = neg_times j m in
        let c = neg_times k q in let f = neg_times d z in omega (arith, ints, e, a, b, c, f)

    turned_sum : (i j k d z : ℤ) → ((pos 0 -ℤ i) +ℤ j) +ℤ (pos 0 -ℤ k) ≡ d *ℤ z
        → ((pos 0 -ℤ j) +ℤ i) +ℤ k ≡ (pos 0 -ℤ d) *ℤ z
    turned_sum i j k d z e = let f = neg_times d z in omega (arith, ints, e, f)

-- ---- beside a corner over the straight p q
-- left of m, what is not over p m is not over m q
pub left_up : (p m q : Point) (z : Vector) → p.x <ℤ m.x → m.x <ℤ q.x
    → pos 0 <ℤ side (line p q) (point m) → z.x ≤ℤ (m.x *ℤ z.n) → side (line p m) z ≤ℤ pos 0
    → side (line m q) z ≤ℤ pos 0
left_up p m q z a b d h k =
    let u = times_most (q.x -ℤ m.x) (side (line p m) z) (omega (arith, ints, b)) k in
    let v = times_most (side (line p q) (point m)) (z.x -ℤ (m.x *ℤ z.n)) (omega (arith, ints, d))
    (omega (arith, ints, h)) in
    let e = corner-turn p m q z in
    cancel_most (m.x -ℤ p.x) (side (line m q) z) (omega (arith, ints, a))
    (omega (arith, ints, u, v, e))

-- right of m, what is not over m q is not over p m
pub right_up : (p m q : Point) (z : Vector) → p.x <ℤ m.x → m.x <ℤ q.x
    → pos 0 <ℤ side (line p q) (point m) → (m.x *ℤ z.n) ≤ℤ z.x → side (line m q) z ≤ℤ pos 0
    → side (line p m) z ≤ℤ pos 0
right_up p m q z a b d h k =
    let u = times_most (m.x -ℤ p.x) (side (line m q) z) (omega (arith, ints, a)) k in
    let v = product_nonnegative (side (line p q) (point m)) (z.x -ℤ (m.x *ℤ z.n))
    (omega (arith, ints, d)) (omega (arith, ints, h)) in
    let e = corner-turn p m q z in
    cancel_most (q.x -ℤ m.x) (side (line p m) z) (omega (arith, ints, b))
    (omega (arith, ints, u, v, e))

-- ---- beside a corner under it
-- right of m, what is not under m q is not under p m
pub right_down : (p m q : Point) (z : Vector) → p.x <ℤ m.x → m.x <ℤ q.x
    → side (line p q) (point m) <ℤ pos 0 → (m.x *ℤ z.n) ≤ℤ z.x → pos 0 ≤ℤ side (line m q) z
    → pos 0 ≤ℤ side (line p m) z
right_down p m q z a b d h k =
    let u = product_nonnegative (m.x -ℤ p.x) (side (line m q) z) (omega (arith, ints, a)) k in
    let v = product_nonnegative (pos 0 -ℤ side (line p q) (point m)) (z.x -ℤ (m.x *ℤ z.n))
    (omega (arith, ints, d)) (omega (arith, ints, h)) in
    let n = ring (times (minus (num (pos 0)) (at 0)) (at 1))
    (minus (num (pos 0)) (times (at 0) (at 1)))
    (vars (side (line p q) (point m) ∷ (z.x -ℤ (m.x *ℤ z.n)) ∷ [])) refl in
    let e = corner-turn p m q z in
    cancel_least (q.x -ℤ m.x) (side (line p m) z) (omega (arith, ints, b))
    (omega (arith, ints, u, v, e, n))

-- left of m, what is not under p m is not under m q
pub left_down : (p m q : Point) (z : Vector) → p.x <ℤ m.x → m.x <ℤ q.x
    → side (line p q) (point m) <ℤ pos 0 → z.x ≤ℤ (m.x *ℤ z.n) → pos 0 ≤ℤ side (line p m) z
    → pos 0 ≤ℤ side (line m q) z
left_down p m q z a b d h k =
    let u = product_nonnegative (q.x -ℤ m.x) (side (line p m) z) (omega (arith, ints, b)) k in
    let v = product_nonnegative (pos 0 -ℤ side (line p q) (point m)) ((m.x *ℤ z.n) -ℤ z.x)
    (omega (arith, ints, d)) (omega (arith, ints, h)) in
    let n = ring (times (minus (num (pos 0)) (at 0)) (minus (at 2) (at 1)))
    (times (at 0) (minus (at 1) (at 2)))
    (vars (side (line p q) (point m) ∷ z.x ∷ (m.x *ℤ z.n) ∷ [])) refl in
    let e = corner-turn p m q z in
    cancel_least (m.x -ℤ p.x) (side (line m q) z) (omega (arith, ints, a))
    (omega (arith, ints, u, v, e, n))

-- ---- on the straight p q, whatever the third corner
flat_x : (p q m : Point) (z : Vector)
    → ((((q.x *ℤ z.n) -ℤ z.x) *ℤ p.x) +ℤ ((z.x -ℤ (p.x *ℤ z.n)) *ℤ q.x)) +ℤ (pos 0 *ℤ m.x)
    ≡ (q.x -ℤ p.x) *ℤ z.x
flat_x p q m z =
    ring (plus (plus (times (minus (times (at 1) (at 3)) (at 2)) (at 0))
    (times (minus (at 2) (times (at 0) (at 3))) (at 1))) (times (num (pos 0)) (at 4)))
    (times (minus (at 1) (at 0)) (at 2))
    (vars (p.x ∷ q.x ∷ z.x ∷ z.n ∷ m.x ∷ [])) refl

flat_y : (p q m : Point) (z : Vector)
    → ((((q.x *ℤ z.n) -ℤ z.x) *ℤ p.y) +ℤ ((z.x -ℤ (p.x *ℤ z.n)) *ℤ q.y)) +ℤ (pos 0 *ℤ m.y)
    ≡ ((q.x -ℤ p.x) *ℤ z.y) -ℤ side (line p q) z
unfolding side
flat_y p q m z =
    ring (plus (plus (times (minus (times (at 2) (at 6)) (at 4)) (at 1))
    (times (minus (at 4) (times (at 0) (at 6))) (at 3))) (times (num (pos 0)) (at 7)))
    (minus (times (minus (at 2) (at 0)) (at 5))
    (SIDE (at 0) (at 1) (at 2) (at 3) (at 4) (at 5) (at 6)))
    (vars (p.x ∷ p.y ∷ q.x ∷ q.y ∷ z.x ∷ z.y ∷ z.n ∷ m.y ∷ [])) refl

flat_n : (p q : Point) (z : Vector)
    → (((q.x *ℤ z.n) -ℤ z.x) +ℤ (z.x -ℤ (p.x *ℤ z.n))) +ℤ pos 0 ≡ (q.x -ℤ p.x) *ℤ z.n
flat_n p q z =
    ring (plus (plus (minus (times (at 1) (at 3)) (at 2)) (minus (at 2) (times (at 0) (at 3))))
    (num (pos 0))) (times (minus (at 1) (at 0)) (at 3)) (vars (p.x ∷ q.x ∷ z.x ∷ z.n ∷ [])) refl

pub on_straight : (p q m : Point) (z : Vector) → Place z → p.x <ℤ q.x → InColumn p q z
    → side (line p q) z ≡ pos 0 → InTriangle z (point p) (point q) (point m)
on_straight p q m z hz h k e =
    mean_is ((q.x *ℤ z.n) -ℤ z.x) (z.x -ℤ (p.x *ℤ z.n)) (pos 0) (q.x -ℤ p.x) p q m z
    (let a = k.high in omega (arith, ints, a)) (let a = k.low in
    omega (arith, ints, a)) (omega (arith, ints)) (omega (arith, ints, h)) hz
    (flat_x p q m z) (less _ _ _ (flat_y p q m z) e) (flat_n p q z)
  where
    less : (a b d : ℤ) → a ≡ b -ℤ d → d ≡ pos 0 → a ≡ b
    less a b d e f = omega (arith, ints)
