-- What holds at the corners of a triangle holds at its places, and lines through one corner.
use Rattle.std.proofs.Common.{◌≡◌, ℤ, pos, ◌+ℤ◌, ◌*ℤ◌, ◌-ℤ◌, ◌<ℤ◌, ◌≤ℤ◌, [], ◌∷◌, refl, arith, ap}
use Rattle.std.proofs.Common.{◌∙◌, sym}
use Rattle.std.proofs.lemmas.Int.{ints}
use Rattle.plane.specs.declared.kinds.Point.{Point}
use Rattle.plane.specs.Forms.Vectors.{Vector, Place, point, mix, Edge, side}
use Rattle.plane.specs.Tubes.Bays.{mean, InTriangle}
use Rattle.plane.specs.Tubes.CapStrips.{line}
use Rattle.plane.proofs.Algebra.Laws.{product_nonnegative}
use Rattle.plane.proofs.Linear.Vectors.{side-mix}
use Rattle.plane.proofs.Linear.OnePlace.{side_same}
use Rattle.plane.proofs.Caps.CapOver.{times_most, cancel_least, cancel_most}
use Rattle.plane.proofs.Caps.Pictures.{mean-mix}
use Rattle.plane.proofs.Caps.CapCorners.{SIDE}
use Rattle.plane.proofs.Algebra.Ring.{at, num, plus, minus, times, vars, ring}

-- ---- the sides of a mean
side-mean : (e : Edge) (i : ℤ) (p : Vector) (j : ℤ) (q : Vector) (k : ℤ) (r : Vector)
    → side e (mean i p j q k r) ≡ ((i *ℤ side e p) +ℤ (j *ℤ side e q)) +ℤ (k *ℤ side e r)
side-mean e i p j q k r =
    ap (λ (v : Vector). side e v) (sym (mean-mix i p j q k r))
    ∙ side-mix e (pos 1) (mix i p j q) k r
    ∙ ap (λ (v : ℤ). (pos 1 *ℤ v) +ℤ (k *ℤ side e r)) (side-mix e i p j q)
    ∙ ring (plus (times (num (pos 1)) (plus (times (at 0) (at 1)) (times (at 2) (at 3))))
    (times (at 4) (at 5)))
    (plus (plus (times (at 0) (at 1)) (times (at 2) (at 3))) (times (at 4) (at 5)))
    (vars (i ∷ side e p ∷ j ∷ side e q ∷ k ∷ side e r ∷ [])) refl

mean_place : (z : Vector) (p q r : Point) (t : InTriangle z (point p) (point q) (point r))
    → Place (mean t.i (point p) t.j (point q) t.k (point r))
mean_place z p q r t = let s = t.some in omega (arith, ints, s)

pub triangle_least : (e : Edge) (z : Vector) (p q r : Point) → Place z
    → InTriangle z (point p) (point q) (point r) → pos 0 ≤ℤ side e (point p)
    → pos 0 ≤ℤ side e (point q) → pos 0 ≤ℤ side e (point r) → pos 0 ≤ℤ side e z
triangle_least e z p q r hz t a b c =
    let m = mean t.i (point p) t.j (point q) t.k (point r) in
    let u = product_nonnegative t.i (side e (point p)) t.i_least a in
    let v = product_nonnegative t.j (side e (point q)) t.j_least b in
    let w = product_nonnegative t.k (side e (point r)) t.k_least c in
    let f = side-mean e t.i (point p) t.j (point q) t.k (point r) in
    let g = product_nonnegative z.n (side e m) (omega (arith, ints, hz))
    (omega (arith, ints, f, u, v, w)) in
    let k = side_same e z m t.is in
    cancel_least m.n (side e z) (mean_place z p q r t) (omega (arith, ints, g, k))

pub triangle_most : (e : Edge) (z : Vector) (p q r : Point) → Place z
    → InTriangle z (point p) (point q) (point r) → side e (point p) ≤ℤ pos 0
    → side e (point q) ≤ℤ pos 0 → side e (point r) ≤ℤ pos 0 → side e z ≤ℤ pos 0
triangle_most e z p q r hz t a b c =
    let m = mean t.i (point p) t.j (point q) t.k (point r) in
    let u = times_most t.i (side e (point p)) t.i_least a in
    let v = times_most t.j (side e (point q)) t.j_least b in
    let w = times_most t.k (side e (point r)) t.k_least c in
    let f = side-mean e t.i (point p) t.j (point q) t.k (point r) in
    let g = times_most z.n (side e m) (omega (arith, ints, hz)) (omega (arith, ints, f, u, v, w)) in
    let k = side_same e z m t.is in
    cancel_most m.n (side e z) (mean_place z p q r t) (omega (arith, ints, g, k))

-- ---- the width
pub triangle_low : (l : ℤ) (z : Vector) (p q r : Point) → Place z
    → InTriangle z (point p) (point q) (point r) → l ≤ℤ p.x → l ≤ℤ q.x → l ≤ℤ r.x
    → (l *ℤ z.n) ≤ℤ z.x
triangle_low l z p q r hz t a b c =
    let m = mean t.i (point p) t.j (point q) t.k (point r) in
    let u = product_nonnegative t.i (p.x -ℤ l) t.i_least (omega (arith, ints, a)) in
    let v = product_nonnegative t.j (q.x -ℤ l) t.j_least (omega (arith, ints, b)) in
    let w = product_nonnegative t.k (r.x -ℤ l) t.k_least (omega (arith, ints, c)) in
    let one = num (pos 1) in
    let f = ring
    (plus (plus (times (at 0) (minus (at 3) (at 6))) (times (at 1) (minus (at 4) (at 6))))
    (times (at 2) (minus (at 5) (at 6))))
    (minus (plus (plus (times (at 0) (at 3)) (times (at 1) (at 4))) (times (at 2) (at 5)))
    (times (at 6) (plus (plus (times (at 0) one) (times (at 1) one)) (times (at 2) one))))
    (vars (t.i ∷ t.j ∷ t.k ∷ p.x ∷ q.x ∷ r.x ∷ l ∷ [])) refl in
    let g = product_nonnegative z.n (m.x -ℤ (l *ℤ m.n)) (omega (arith, ints, hz))
    (omega (arith, ints, f, u, v, w)) in
    let k = t.is.x in
    let i = ring (times (at 1) (minus (at 0) (times (at 2) (at 3))))
    (minus (times (at 0) (at 1)) (times (times (at 1) (at 2)) (at 3)))
    (vars (z.x ∷ m.n ∷ l ∷ z.n ∷ [])) refl in
    let j = ring (times (at 3) (minus (at 0) (times (at 2) (at 1))))
    (minus (times (at 0) (at 3)) (times (times (at 1) (at 2)) (at 3)))
    (vars (m.x ∷ m.n ∷ l ∷ z.n ∷ [])) refl in
    let n = cancel_least m.n (z.x -ℤ (l *ℤ z.n)) (mean_place z p q r t)
    (omega (arith, ints, g, k, i, j)) in
    omega (arith, ints, n)

pub triangle_high : (l : ℤ) (z : Vector) (p q r : Point) → Place z
    → InTriangle z (point p) (point q) (point r) → p.x ≤ℤ l → q.x ≤ℤ l → r.x ≤ℤ l
    → z.x ≤ℤ (l *ℤ z.n)
triangle_high l z p q r hz t a b c =
    let m = mean t.i (point p) t.j (point q) t.k (point r) in
    let u = product_nonnegative t.i (l -ℤ p.x) t.i_least (omega (arith, ints, a)) in
    let v = product_nonnegative t.j (l -ℤ q.x) t.j_least (omega (arith, ints, b)) in
    let w = product_nonnegative t.k (l -ℤ r.x) t.k_least (omega (arith, ints, c)) in
    let one = num (pos 1) in
    let f = ring
    (plus (plus (times (at 0) (minus (at 6) (at 3))) (times (at 1) (minus (at 6) (at 4))))
    (times (at 2) (minus (at 6) (at 5))))
    (minus (times (at 6) (plus (plus (times (at 0) one) (times (at 1) one)) (times (at 2) one)))
    (plus (plus (times (at 0) (at 3)) (times (at 1) (at 4))) (times (at 2) (at 5))))
    (vars (t.i ∷ t.j ∷ t.k ∷ p.x ∷ q.x ∷ r.x ∷ l ∷ [])) refl in
    let g = product_nonnegative z.n ((l *ℤ m.n) -ℤ m.x) (omega (arith, ints, hz))
    (omega (arith, ints, f, u, v, w)) in
    let k = t.is.x in
    let i = ring (times (at 1) (minus (times (at 2) (at 3)) (at 0)))
    (minus (times (times (at 1) (at 2)) (at 3)) (times (at 0) (at 1)))
    (vars (z.x ∷ m.n ∷ l ∷ z.n ∷ [])) refl in
    let j = ring (times (at 3) (minus (times (at 2) (at 1)) (at 0)))
    (minus (times (times (at 1) (at 2)) (at 3)) (times (at 0) (at 3)))
    (vars (m.x ∷ m.n ∷ l ∷ z.n ∷ [])) refl in
    let n = cancel_least m.n ((l *ℤ z.n) -ℤ z.x) (mean_place z p q r t)
    (omega (arith, ints, g, k, i, j)) in
    omega (arith, ints, n)

-- ---- three points seen from each side
pub side-turned : (a b c : Point) → side (line b c) (point a) ≡ side (line a b) (point c)
unfolding side
side-turned a b c =
    let one = num (pos 1) in
    ring (SIDE (at 2) (at 3) (at 4) (at 5) (at 0) (at 1) one)
    (SIDE (at 0) (at 1) (at 2) (at 3) (at 4) (at 5) one)
    (vars (a.x ∷ a.y ∷ b.x ∷ b.y ∷ c.x ∷ c.y ∷ [])) refl

pub side-swapped : (a b c : Point) → side (line a c) (point b) ≡ pos 0 -ℤ side (line a b) (point c)
unfolding side
side-swapped a b c =
    let one = num (pos 1) in
    ring (SIDE (at 0) (at 1) (at 4) (at 5) (at 2) (at 3) one)
    (minus (num (pos 0)) (SIDE (at 0) (at 1) (at 2) (at 3) (at 4) (at 5) one))
    (vars (a.x ∷ a.y ∷ b.x ∷ b.y ∷ c.x ∷ c.y ∷ [])) refl

-- ---- two lines with one end
fan-low : (m a b : Point) (z : Vector)
    → (b.x -ℤ m.x) *ℤ side (line m a) z
    ≡ ((a.x -ℤ m.x) *ℤ side (line m b) z)
    +ℤ (side (line m a) (point b) *ℤ (z.x -ℤ (m.x *ℤ z.n)))
unfolding side
fan-low m a b z =
    let MX = at 0 in
    let MY = at 1 in let AX = at 2 in let AY = at 3 in let BX = at 4 in let BY = at 5 in
    let X = at 6 in let Y = at 7 in let N = at 8 in
    ring (times (minus BX MX) (SIDE MX MY AX AY X Y N))
    (plus (times (minus AX MX) (SIDE MX MY BX BY X Y N))
    (times (SIDE MX MY AX AY BX BY (num (pos 1))) (minus X (times MX N))))
    (vars (m.x ∷ m.y ∷ a.x ∷ a.y ∷ b.x ∷ b.y ∷ z.x ∷ z.y ∷ z.n ∷ [])) refl

fan-high : (m a b : Point) (z : Vector)
    → (m.x -ℤ b.x) *ℤ side (line a m) z
    ≡ ((m.x -ℤ a.x) *ℤ side (line b m) z)
    +ℤ (side (line a m) (point b) *ℤ ((m.x *ℤ z.n) -ℤ z.x))
unfolding side
fan-high m a b z =
    let MX = at 0 in
    let MY = at 1 in let AX = at 2 in let AY = at 3 in let BX = at 4 in let BY = at 5 in
    let X = at 6 in let Y = at 7 in let N = at 8 in
    ring (times (minus MX BX) (SIDE AX AY MX MY X Y N))
    (plus (times (minus MX AX) (SIDE BX BY MX MY X Y N))
    (times (SIDE AX AY MX MY BX BY (num (pos 1))) (minus (times MX N) X)))
    (vars (m.x ∷ m.y ∷ a.x ∷ a.y ∷ b.x ∷ b.y ∷ z.x ∷ z.y ∷ z.n ∷ [])) refl

pub fan_low_least : (m a b : Point) (z : Vector) → m.x <ℤ b.x → m.x ≤ℤ a.x
    → pos 0 ≤ℤ side (line m a) (point b) → (m.x *ℤ z.n) ≤ℤ z.x → pos 0 ≤ℤ side (line m b) z
    → pos 0 ≤ℤ side (line m a) z
fan_low_least m a b z hb ha d l k =
    let u = product_nonnegative (a.x -ℤ m.x) (side (line m b) z) (omega (arith, ints, ha)) k in
    let v = product_nonnegative (side (line m a) (point b)) (z.x -ℤ (m.x *ℤ z.n)) d
    (omega (arith, ints, l)) in
    let e = fan-low m a b z in
    cancel_least (b.x -ℤ m.x) (side (line m a) z) (omega (arith, ints, hb))
    (omega (arith, ints, u, v, e))

pub fan_high_least : (m a b : Point) (z : Vector) → b.x <ℤ m.x → a.x ≤ℤ m.x
    → pos 0 ≤ℤ side (line a m) (point b) → z.x ≤ℤ (m.x *ℤ z.n) → pos 0 ≤ℤ side (line b m) z
    → pos 0 ≤ℤ side (line a m) z
fan_high_least m a b z hb ha d l k =
    let u = product_nonnegative (m.x -ℤ a.x) (side (line b m) z) (omega (arith, ints, ha)) k in
    let v = product_nonnegative (side (line a m) (point b)) ((m.x *ℤ z.n) -ℤ z.x) d
    (omega (arith, ints, l)) in
    let e = fan-high m a b z in
    cancel_least (m.x -ℤ b.x) (side (line a m) z) (omega (arith, ints, hb))
    (omega (arith, ints, u, v, e))

not_positive : (a b : ℤ) → a ≤ℤ pos 0 → pos 0 ≤ℤ b → (a *ℤ b) ≤ℤ pos 0
not_positive a b h k =
    let p = times_most b a k h in
    let e = ring (times (at 0) (at 1)) (times (at 1) (at 0)) (vars (a ∷ b ∷ [])) refl in
    omega (arith, ints, p, e)

pub fan_low_most : (m a b : Point) (z : Vector) → m.x <ℤ b.x → m.x ≤ℤ a.x
    → side (line m a) (point b) ≤ℤ pos 0 → (m.x *ℤ z.n) ≤ℤ z.x → side (line m b) z ≤ℤ pos 0
    → side (line m a) z ≤ℤ pos 0
fan_low_most m a b z hb ha d l k =
    let u = times_most (a.x -ℤ m.x) (side (line m b) z) (omega (arith, ints, ha)) k in
    let v = not_positive (side (line m a) (point b)) (z.x -ℤ (m.x *ℤ z.n)) d
    (omega (arith, ints, l)) in
    let e = fan-low m a b z in
    cancel_most (b.x -ℤ m.x) (side (line m a) z) (omega (arith, ints, hb))
    (omega (arith, ints, u, v, e))

pub fan_high_most : (m a b : Point) (z : Vector) → b.x <ℤ m.x → a.x ≤ℤ m.x
    → side (line a m) (point b) ≤ℤ pos 0 → z.x ≤ℤ (m.x *ℤ z.n) → side (line b m) z ≤ℤ pos 0
    → side (line a m) z ≤ℤ pos 0
fan_high_most m a b z hb ha d l k =
    let u = times_most (m.x -ℤ a.x) (side (line b m) z) (omega (arith, ints, ha)) k in
    let v = not_positive (side (line a m) (point b)) ((m.x *ℤ z.n) -ℤ z.x) d
    (omega (arith, ints, l)) in
    let e = fan-high m a b z in
    cancel_most (m.x -ℤ b.x) (side (line a m) z) (omega (arith, ints, hb))
    (omega (arith, ints, u, v, e))
