-- The circle over its chord: where it is, and that it is convex.
use Rattle.std.proofs.Common.{◌≡◌, ℤ, pos, ◌+ℤ◌, ◌*ℤ◌, ◌-ℤ◌, ◌<ℤ◌, ◌≤ℤ◌, [], ◌∷◌, refl, arith, ap}
use Rattle.std.proofs.Common.{◌∙◌}
use Rattle.std.proofs.lemmas.Int.{ints, by_lt_z}
use Rattle.plane.specs.Forms.Vectors.{Vector, Place, mix}
use Rattle.plane.specs.Tubes.Caps.{Cap, IsCap, shape, InSlab}
use Rattle.plane.proofs.Algebra.Laws.{product_positive, product_nonnegative, square_nonnegative}
use Rattle.plane.proofs.Algebra.Scaling.{times_le, cancel_lt, product_of_zero, product_negative}
use Rattle.plane.proofs.Algebra.Ring.{Expr, at, num, plus, minus, times, vars, ring}

abbrev pub SHAPE : Expr → Expr → Expr → Expr → Expr → Expr → Expr
SHAPE g l k x y n = plus (times g (times x (minus x (times l n)))) (times y (plus y (times k n)))

-- ---- over the chord's line, what is not outside is in the slab
outside_slab : (G x m r : ℤ) → pos 0 <ℤ G → pos 0 <ℤ (x *ℤ (x -ℤ m)) → pos 0 ≤ℤ r
    → ((G *ℤ (x *ℤ (x -ℤ m))) +ℤ r) ≤ℤ pos 0 → ⊥
outside_slab G x m r hG hx hr h =
    let p = product_positive G (x *ℤ (x -ℤ m)) hG hx in omega (arith, ints, p, hr, h)

left_product : (x m : ℤ) → x <ℤ pos 0 → pos 0 ≤ℤ m → pos 0 <ℤ (x *ℤ (x -ℤ m))
left_product x m h k =
    let p = product_positive (pos 0 -ℤ x) (m -ℤ x) (omega (arith, ints)) (omega (arith, ints)) in
    let e = ring (times (minus (num (pos 0)) (at 0)) (minus (at 1) (at 0)))
    (times (at 0) (minus (at 0) (at 1))) (vars (x ∷ m ∷ [])) refl in
    omega (arith, ints, p, e)

right_product : (x m : ℤ) → pos 0 ≤ℤ m → m <ℤ x → pos 0 <ℤ (x *ℤ (x -ℤ m))
right_product x m h k = product_positive x (x -ℤ m) (omega (arith, ints)) (omega (arith, ints))

rest_least : (c : Cap) (v : Vector) → IsCap c → Place v → pos 0 ≤ℤ v.y
    → pos 0 ≤ℤ (v.y *ℤ (v.y +ℤ (c.sag *ℤ v.n)))
rest_least c v hc hv hy =
    let s = product_positive c.sag v.n hc.sag hv in
    product_nonnegative v.y (v.y +ℤ (c.sag *ℤ v.n)) hy (omega (arith, ints, s, hy))

pub cap_slab : (c : Cap) (v : Vector) → IsCap c → Place v → pos 0 ≤ℤ v.y → shape c v ≤ℤ pos 0
    → InSlab c v
unfolding shape
cap_slab c v hc hv hy h =
    let m = c.chord *ℤ v.n in
    let r = v.y *ℤ (v.y +ℤ (c.sag *ℤ v.n)) in
    let hm = product_positive c.chord v.n hc.chord hv in
    let hm0 : pos 0 ≤ℤ m = omega (arith, ints, hm) in
    let hr = rest_least c v hc hv hy in
    record {
      low = by_lt_z v.x (pos 0)
          (λ (a : v.x <ℤ pos 0). absurd
          (outside_slab c.size v.x m r hc.size (left_product v.x m a hm0) hr h)) (λ a. a);
      high = by_lt_z m v.x
          (λ (a : m <ℤ v.x). absurd
          (outside_slab c.size v.x m r hc.size (right_product v.x m hm0 a) hr h)) (λ a. a);
    }

-- on the chord nothing is outside
pub chord_inside : (c : Cap) (v : Vector) → IsCap c → InSlab c v → v.y ≡ pos 0 → shape c v ≤ℤ pos 0
unfolding shape
chord_inside c v hc hs e =
    let a = product_nonnegative v.x ((c.chord *ℤ v.n) -ℤ v.x) hs.low (let k = hs.high in
    omega (arith, ints, k)) in
    let b = product_nonnegative c.size (v.x *ℤ ((c.chord *ℤ v.n) -ℤ v.x)) (let k = hc.size in
    omega (arith, ints, k)) a in
    let z : v.y *ℤ (v.y +ℤ (c.sag *ℤ v.n)) ≡ pos 0 = ap (λ y. y *ℤ (v.y +ℤ (c.sag *ℤ v.n))) e
    ∙ omega (arith, ints) in
    let i = ring (times (at 0) (times (at 1) (minus (at 2) (at 1))))
    (minus (num (pos 0)) (times (at 0) (times (at 1) (minus (at 1) (at 2)))))
    (vars (c.size ∷ v.x ∷ (c.chord *ℤ v.n) ∷ [])) refl in
    omega (arith, ints, b, z, i)

-- the shape rises strictly with the height over the chord's line
rise_is : (c : Cap) (p q : Vector) → p.x *ℤ q.n ≡ q.x *ℤ p.n
    → ((p.n *ℤ p.n) *ℤ shape c q) -ℤ ((q.n *ℤ q.n) *ℤ shape c p)
    ≡ ((q.y *ℤ p.n) -ℤ (p.y *ℤ q.n))
    *ℤ (((q.y *ℤ p.n) +ℤ (p.y *ℤ q.n)) +ℤ (c.sag *ℤ (p.n *ℤ q.n)))
unfolding shape
rise_is c p q h =
    let G = at 0 in let L = at 1 in let K = at 2 in
    let PX = at 3 in
    let PY = at 4 in let PN = at 5 in let QX = at 6 in let QY = at 7 in let QN = at 8 in
    let e = ring
    (minus (minus (times (times PN PN) (SHAPE G L K QX QY QN))
    (times (times QN QN) (SHAPE G L K PX PY PN)))
    (times (minus (times QY PN) (times PY QN))
    (plus (plus (times QY PN) (times PY QN)) (times K (times PN QN)))))
    (times (times G (minus (plus (times QX PN) (times PX QN)) (times L (times PN QN))))
    (minus (times QX PN) (times PX QN)))
    (vars (c.size ∷ c.chord ∷ c.sag ∷ p.x ∷ p.y ∷ p.n ∷ q.x ∷ q.y ∷ q.n ∷ [])) refl in
    let z = product_of_zero
    (c.size *ℤ (((q.x *ℤ p.n) +ℤ (p.x *ℤ q.n)) -ℤ (c.chord *ℤ (p.n *ℤ q.n))))
    ((q.x *ℤ p.n) -ℤ (p.x *ℤ q.n)) (omega (arith, ints, h)) in
    equal _ _ _ e z
  where
    equal : (a b d : ℤ) → a -ℤ b ≡ d → d ≡ pos 0 → a ≡ b
    equal a b d e z = omega (arith, ints)

pub shape_rises : (c : Cap) (p q : Vector) → IsCap c → Place p → Place q → p.x *ℤ q.n ≡ q.x *ℤ p.n
    → pos 0 ≤ℤ p.y → (p.y *ℤ q.n) <ℤ (q.y *ℤ p.n)
    → ((q.n *ℤ q.n) *ℤ shape c p) <ℤ ((p.n *ℤ p.n) *ℤ shape c q)
shape_rises c p q hc hp hq hx hy h =
    let m = product_positive p.n q.n hp hq in
    let k = product_positive c.sag (p.n *ℤ q.n) hc.sag m in
    let a = product_nonnegative p.y q.n hy (omega (arith, ints, hq)) in
    let e = product_positive ((q.y *ℤ p.n) -ℤ (p.y *ℤ q.n))
    (((q.y *ℤ p.n) +ℤ (p.y *ℤ q.n)) +ℤ (c.sag *ℤ (p.n *ℤ q.n))) (omega (arith, ints, h))
    (omega (arith, ints, a, h, k)) in
    up _ _ _ (rise_is c p q hx) e
  where
    up : (a b d : ℤ) → a -ℤ b ≡ d → pos 0 <ℤ d → b <ℤ a
    up a b d e h = omega (arith, ints)

-- ---- along a segment
pub shape-mix : (c : Cap) (s : ℤ) (p : Vector) (t : ℤ) (q : Vector) →
    (p.n *ℤ q.n) *ℤ shape c (mix s p t q)
    ≡ (((s *ℤ p.n) +ℤ (t *ℤ q.n)) *ℤ ((s *ℤ (q.n *ℤ shape c p)) +ℤ (t *ℤ (p.n *ℤ shape c q))))
    -ℤ ((s *ℤ t)
    *ℤ ((c.size *ℤ (((q.n *ℤ p.x) -ℤ (p.n *ℤ q.x)) *ℤ ((q.n *ℤ p.x) -ℤ (p.n *ℤ q.x))))
    +ℤ (((q.n *ℤ p.y) -ℤ (p.n *ℤ q.y)) *ℤ ((q.n *ℤ p.y) -ℤ (p.n *ℤ q.y)))))
unfolding shape
shape-mix c s p t q =
    let H : Expr → Expr → Expr → Expr = SHAPE (at 0) (at 1) (at 2) in
    let S = at 3 in let T = at 4 in
    let PX = at 5 in
    let PY = at 6 in let PN = at 7 in let QX = at 8 in let QY = at 9 in let QN = at 10 in
    let m : Expr → Expr → Expr = λ p q. plus (times S p) (times T q) in
    let dx = minus (times QN PX) (times PN QX) in
    let dy = minus (times QN PY) (times PN QY) in
    ring (times (times PN QN) (H (m PX QX) (m PY QY) (m PN QN)))
    (minus (times (m PN QN)
    (plus (times S (times QN (H PX PY PN))) (times T (times PN (H QX QY QN)))))
    (times (times S T) (plus (times (at 0) (times dx dx)) (times dy dy))))
    (vars (c.size ∷ c.chord ∷ c.sag ∷ s ∷ t ∷ p.x ∷ p.y ∷ p.n ∷ q.x ∷ q.y ∷ q.n ∷ [])) refl

-- places inside are convex, also with one of them on the circle
pub inside_mix : (c : Cap) (s : ℤ) (p : Vector) (t : ℤ) (q : Vector) → IsCap c → Place p → Place q
    → pos 0 <ℤ s → pos 0 ≤ℤ t
    → shape c p <ℤ pos 0 → shape c q ≤ℤ pos 0 → shape c (mix s p t q) <ℤ pos 0
inside_mix c s p t q hc hp hq hs ht a b =
    let dx = (q.n *ℤ p.x) -ℤ (p.n *ℤ q.x) in
    let dy = (q.n *ℤ p.y) -ℤ (p.n *ℤ q.y) in
    let nn = product_positive p.n q.n hp hq in
    let sn = product_positive s p.n hs hp in
    let tn = product_nonnegative t q.n ht (omega (arith, ints, hq)) in
    let far = far_least c.size dx dy hc.size in
    let st = product_nonnegative s t (omega (arith, ints, hs)) ht in
    let d = product_nonnegative (s *ℤ t) ((c.size *ℤ (dx *ℤ dx)) +ℤ (dy *ℤ dy)) st far in
    let f = product_negative s (q.n *ℤ shape c p) hs (product_negative q.n (shape c p) hq a) in
    let g = not_positive t (p.n *ℤ shape c q) ht
    (not_positive p.n (shape c q) (omega (arith, ints, hp)) b) in
    let w = product_negative ((s *ℤ p.n) +ℤ (t *ℤ q.n))
    ((s *ℤ (q.n *ℤ shape c p)) +ℤ (t *ℤ (p.n *ℤ shape c q))) (omega (arith, ints, sn, tn))
    (omega (arith, ints, f, g)) in
    let e = shape-mix c s p t q in
    below (p.n *ℤ q.n) (shape c (mix s p t q)) nn (sum _ _ _ e w d)
  where
    sum : (x w d : ℤ) → x ≡ w -ℤ d → w <ℤ pos 0 → pos 0 ≤ℤ d → x <ℤ pos 0
    sum x w d e h k = omega (arith, ints)

    below : (m z : ℤ) → pos 0 <ℤ m → (m *ℤ z) <ℤ pos 0 → z <ℤ pos 0
    below m z h k = cancel_lt m z (pos 0) h (omega (arith, ints, k))

    not_positive : (m z : ℤ) → pos 0 ≤ℤ m → z ≤ℤ pos 0 → (m *ℤ z) ≤ℤ pos 0
    not_positive m z h k = let p = times_le m z (pos 0) h k in omega (arith, ints, p)

    far_least : (g x y : ℤ) → pos 0 <ℤ g → pos 0 ≤ℤ ((g *ℤ (x *ℤ x)) +ℤ (y *ℤ y))
    far_least g x y h =
        let a = product_nonnegative g (x *ℤ x) (omega (arith, ints, h)) (square_nonnegative x) in
        let b = square_nonnegative y in
        omega (arith, ints, a, b)
