-- Linear forms in general: the sides of an edge and the sweep are such forms.
use Rattle.std.proofs.Common.{◌≡◌, ℤ, pos, ◌+ℤ◌, ◌*ℤ◌, ◌-ℤ◌, ◌<ℤ◌, ◌≤ℤ◌, [], ◌∷◌, refl, arith, ◌∙◌}
use Rattle.std.proofs.lemmas.Int.{ints}
use Rattle.plane.specs.Forms.Vectors.{Vector, Place, point, mix, Between, Edge, side, sweep, up}
use Rattle.plane.specs.Forms.Vectors.{rise, lift, crossing, linear}
use Rattle.plane.proofs.Algebra.Ring.{Expr, at, num, plus, minus, times, vars, ring}
use Rattle.plane.proofs.Algebra.Scaling.{product_of_zero}
use Rattle.plane.proofs.Linear.Signs.{mix_place, mix_between}
use Rattle.plane.proofs.Linear.Vectors.{SIDE, SWEEP, affine_three}

abbrev LINEAR : Expr → Expr → Expr → Expr → Expr → Expr → Expr
LINEAR a b c x y n = plus (plus (times a x) (times b y)) (times c n)

pub linear-mix : (a b c : ℤ) (s : ℤ) (p : Vector) (t : ℤ) (q : Vector)
    → linear a b c (mix s p t q) ≡ (s *ℤ linear a b c p) +ℤ (t *ℤ linear a b c q)
unfolding linear
linear-mix a b c s p t q =
    let F : Expr → Expr → Expr → Expr = LINEAR (at 0) (at 1) (at 2) in
    let m : Expr → Expr → Expr = λ p q. plus (times (at 3) p) (times (at 4) q) in
    ring (F (m (at 5) (at 8)) (m (at 6) (at 9)) (m (at 7) (at 10)))
    (m (F (at 5) (at 6) (at 7)) (F (at 8) (at 9) (at 10)))
    (vars (a ∷ b ∷ c ∷ s ∷ t ∷ p.x ∷ p.y ∷ p.n ∷ q.x ∷ q.y ∷ q.n ∷ [])) refl

-- a side as a form
pub side-linear : (e : Edge) (v : Vector)
    → side e v ≡ linear (e.low.y -ℤ e.high.y) (e.high.x -ℤ e.low.x)
    (((e.high.y -ℤ e.low.y) *ℤ e.low.x) -ℤ ((e.high.x -ℤ e.low.x) *ℤ e.low.y)) v
unfolding side linear
side-linear e v =
    ring (SIDE (at 0) (at 1) (at 2) (at 3) (at 4) (at 5) (at 6))
    (LINEAR (minus (at 1) (at 3)) (minus (at 2) (at 0))
    (minus (times (minus (at 3) (at 1)) (at 0)) (times (minus (at 2) (at 0)) (at 1))) (at 4)
    (at 5) (at 6))
    (vars (e.low.x ∷ e.low.y ∷ e.high.x ∷ e.high.y ∷ v.x ∷ v.y ∷ v.n ∷ [])) refl

-- two places of one sweep value differ by a multiple of `up`
pub apart_along_up : (w : ℤ) (p q : Vector) → q.n *ℤ sweep w p ≡ p.n *ℤ sweep w q
    → ((q.n *ℤ p.x) -ℤ (p.n *ℤ q.x) ≡ lift p q *ℤ (up w).x)
    × ((q.n *ℤ p.y) -ℤ (p.n *ℤ q.y) ≡ lift p q *ℤ (up w).y)
unfolding sweep lift
apart_along_up w p q h =
    let W = at 0 in
    let PX = at 1 in
    let PY = at 2 in let PN = at 3 in let QX = at 4 in let QY = at 5 in let QN = at 6 in
    let E = vars (w ∷ p.x ∷ p.y ∷ p.n ∷ q.x ∷ q.y ∷ q.n ∷ []) in
    let none = num (pos 0) in
    let across = minus (times PN QX) (times QN PX) in
    let x = ring (minus (times QN PX) (times PN QX))
    (times across (minus none (num (pos 1)))) E refl in
    let y = ring (minus (minus (times QN PY) (times PN QY)) (times across W))
    (minus (times QN (SWEEP W PX PY)) (times PN (SWEEP W QX QY))) E refl in
    (x, level _ _ _ _ y h)
  where
    level : (a b c d : ℤ) → a -ℤ b ≡ c -ℤ d → c ≡ d → a ≡ b
    level a b c d e f = omega (arith, ints, e, f)

-- a form that is 0 at `up` is one in the sweep value and n alone
linear-sweep : (w a b c : ℤ) (v : Vector) → linear a b c (up w) ≡ pos 0
    → linear a b c v ≡ (b *ℤ sweep w v) +ℤ (c *ℤ v.n)
unfolding linear sweep
linear-sweep w a b c v h =
    let E = vars (w ∷ a ∷ b ∷ c ∷ v.x ∷ v.y ∷ v.n ∷ []) in
    let none = num (pos 0) in
    let F : Expr → Expr → Expr → Expr = LINEAR (at 1) (at 2) (at 3) in
    let e = ring
    (minus (F (at 4) (at 5) (at 6))
    (plus (times (at 2) (SWEEP (at 0) (at 4) (at 5))) (times (at 3) (at 6))))
    (minus none (times (at 4) (F (minus none (num (pos 1))) (at 0) none))) E refl in
    let z = product_of_zero v.x _ h in
    level _ _ _ e z
  where
    level : (a b c : ℤ) → a -ℤ b ≡ pos 0 -ℤ c → c ≡ pos 0 → a ≡ b
    level a b c e f = omega (arith, ints, e, f)

-- the value of such a form at one of three sweep values, from those at the other two
pub linear-three : (w a b c : ℤ) (z p q : Vector) → linear a b c (up w) ≡ pos 0
    → linear a b c z *ℤ ((sweep w q *ℤ p.n) -ℤ (sweep w p *ℤ q.n))
    ≡ (linear a b c p *ℤ ((sweep w q *ℤ z.n) -ℤ (sweep w z *ℤ q.n)))
    +ℤ (linear a b c q *ℤ ((sweep w z *ℤ p.n) -ℤ (sweep w p *ℤ z.n)))
linear-three w a b c z p q h =
    rw (linear-sweep w a b c z h, linear-sweep w a b c p h, linear-sweep w a b c q h)
    (affine_three b c (sweep w z) z.n (sweep w p) p.n (sweep w q) q.n)

-- where a form changes its sign from p to q there is a place between at which it is 0
pub crossing_zero : (a b c : ℤ) (p q : Vector)
    → linear a b c (crossing (linear a b c p) p (linear a b c q) q) ≡ pos 0
crossing_zero a b c p q =
    linear-mix a b c (linear a b c q) p (pos 0 -ℤ linear a b c p) q
    ∙ ring (plus (times (at 1) (at 0)) (times (minus (num (pos 0)) (at 0)) (at 1))) (num (pos 0))
    (vars (linear a b c p ∷ linear a b c q ∷ [])) refl

pub crossing_between : (g h : ℤ) (p q : Vector) → Place p → Place q → g ≤ℤ pos 0 → pos 0 ≤ℤ h
    → g <ℤ h → Place (crossing g p h q) × Between (crossing g p h q) p q
crossing_between g h p q P Q low high l =
    let a : pos 0 ≤ℤ (pos 0 -ℤ g) = omega (arith, ints, low) in
    let b : pos 0 <ℤ (h +ℤ (pos 0 -ℤ g)) = omega (arith, ints, l) in
    (mix_place h p (pos 0 -ℤ g) q P Q high a b, mix_between h p (pos 0 -ℤ g) q high a b)

-- a place is a mean of an edge's ends and of `up`: its side says how far it lies above the edge
pub span-n : (w : ℤ) (e : Edge) (z : Vector)
    → rise w e *ℤ z.n ≡ ((sweep w (point e.high) *ℤ z.n) -ℤ sweep w z)
    +ℤ (sweep w z -ℤ (sweep w (point e.low) *ℤ z.n))
unfolding rise sweep
span-n w e z =
    let E = vars (w ∷ e.low.x ∷ e.low.y ∷ e.high.x ∷ e.high.y ∷ z.x ∷ z.y ∷ z.n ∷ []) in
    let low = SWEEP (at 0) (at 1) (at 2) in
    let high = SWEEP (at 0) (at 3) (at 4) in let v = SWEEP (at 0) (at 5) (at 6) in
    ring (times (minus high low) (at 7))
    (plus (minus (times high (at 7)) v) (minus v (times low (at 7)))) E refl

pub span-x : (w : ℤ) (e : Edge) (z : Vector)
    → rise w e *ℤ z.x
    ≡ ((((sweep w (point e.high) *ℤ z.n) -ℤ sweep w z) *ℤ e.low.x)
    +ℤ ((sweep w z -ℤ (sweep w (point e.low) *ℤ z.n)) *ℤ e.high.x)) +ℤ (side e z *ℤ (up w).x)
unfolding rise sweep side
span-x w e z =
    let E = vars (w ∷ e.low.x ∷ e.low.y ∷ e.high.x ∷ e.high.y ∷ z.x ∷ z.y ∷ z.n ∷ []) in
    let low = SWEEP (at 0) (at 1) (at 2) in
    let high = SWEEP (at 0) (at 3) (at 4) in let v = SWEEP (at 0) (at 5) (at 6) in
    ring (times (minus high low) (at 5))
    (plus (plus (times (minus (times high (at 7)) v) (at 1))
    (times (minus v (times low (at 7))) (at 3)))
    (times (SIDE (at 1) (at 2) (at 3) (at 4) (at 5) (at 6) (at 7))
    (minus (num (pos 0)) (num (pos 1))))) E refl

pub span-y : (w : ℤ) (e : Edge) (z : Vector)
    → rise w e *ℤ z.y
    ≡ ((((sweep w (point e.high) *ℤ z.n) -ℤ sweep w z) *ℤ e.low.y)
    +ℤ ((sweep w z -ℤ (sweep w (point e.low) *ℤ z.n)) *ℤ e.high.y)) +ℤ (side e z *ℤ (up w).y)
unfolding rise sweep side
span-y w e z =
    let E = vars (w ∷ e.low.x ∷ e.low.y ∷ e.high.x ∷ e.high.y ∷ z.x ∷ z.y ∷ z.n ∷ []) in
    let low = SWEEP (at 0) (at 1) (at 2) in
    let high = SWEEP (at 0) (at 3) (at 4) in let v = SWEEP (at 0) (at 5) (at 6) in
    ring (times (minus high low) (at 6))
    (plus (plus (times (minus (times high (at 7)) v) (at 2))
    (times (minus v (times low (at 7))) (at 4)))
    (times (SIDE (at 1) (at 2) (at 3) (at 4) (at 5) (at 6) (at 7)) (at 0))) E refl
