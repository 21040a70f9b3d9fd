-- The laws of the linear forms on vectors.
use Rattle.std.proofs.Common.{◌≡◌, ℤ, pos, ◌+ℤ◌, ◌*ℤ◌, ◌-ℤ◌, [], ◌∷◌, refl, arith, ap, ◌∙◌}
use Rattle.std.proofs.lemmas.Int.{ints}
use Rattle.plane.specs.declared.kinds.Point.{Point}
use Rattle.plane.specs.Forms.Vectors.{Vector, point, mix, Edge, side, sweep, up, rise, gap, lift}
use Rattle.plane.proofs.Algebra.Laws.{zero-product, product_comm}
use Rattle.plane.proofs.Algebra.Ring.{Expr, at, num, plus, minus, times, vars, ring}

abbrev pub SIDE : Expr → Expr → Expr → Expr → Expr → Expr → Expr → Expr
SIDE lx ly hx hy x y n =
    minus (times (minus hx lx) (minus y (times ly n))) (times (minus hy ly) (minus x (times lx n)))

abbrev pub SWEEP : Expr → Expr → Expr → Expr
SWEEP w x y = plus (times w x) y

abbrev pub RISE : Expr → Expr → Expr → Expr → Expr → Expr
RISE w lx ly hx hy = minus (plus (times w hx) hy) (plus (times w lx) ly)

-- the forms are linear
pub side-mix : (e : Edge) (s : ℤ) (p : Vector) (t : ℤ) (q : Vector)
    → side e (mix s p t q) ≡ (s *ℤ side e p) +ℤ (t *ℤ side e q)
unfolding side
side-mix e s p t q =
    let S : Expr → Expr → Expr → Expr = SIDE (at 0) (at 1) (at 2) (at 3) in
    let A = at 4 in let B = at 5 in
    let PX = at 6 in
    let PY = at 7 in let PN = at 8 in let QX = at 9 in let QY = at 10 in let QN = at 11 in
    let m : Expr → Expr → Expr = λ p q. plus (times A p) (times B q) in
    ring (S (m PX QX) (m PY QY) (m PN QN)) (m (S PX PY PN) (S QX QY QN))
    (vars (e.low.x ∷ e.low.y ∷ e.high.x ∷ e.high.y ∷ s ∷ t ∷ p.x ∷ p.y ∷ p.n ∷ q.x ∷ q.y ∷ q.n
    ∷ [])) refl

pub sweep-mix : (w s : ℤ) (p : Vector) (t : ℤ) (q : Vector)
    → sweep w (mix s p t q) ≡ (s *ℤ sweep w p) +ℤ (t *ℤ sweep w q)
unfolding sweep
sweep-mix w s p t q =
    let S : Expr → Expr → Expr = SWEEP (at 0) in
    let m : Expr → Expr → Expr = λ p q. plus (times (at 1) p) (times (at 2) q) in
    ring (S (m (at 3) (at 5)) (m (at 4) (at 6))) (m (S (at 3) (at 4)) (S (at 5) (at 6)))
    (vars (w ∷ s ∷ t ∷ p.x ∷ p.y ∷ q.x ∷ q.y ∷ [])) refl

-- the ends are on the line; the rise
pub side-low : (e : Edge) → side e (point e.low) ≡ pos 0
unfolding side
side-low e =
    ring (SIDE (at 0) (at 1) (at 2) (at 3) (at 0) (at 1) (num (pos 1))) (num (pos 0))
    (vars (e.low.x ∷ e.low.y ∷ e.high.x ∷ e.high.y ∷ [])) refl

pub side-high : (e : Edge) → side e (point e.high) ≡ pos 0
unfolding side
side-high e =
    ring (SIDE (at 0) (at 1) (at 2) (at 3) (at 2) (at 3) (num (pos 1))) (num (pos 0))
    (vars (e.low.x ∷ e.low.y ∷ e.high.x ∷ e.high.y ∷ [])) refl

-- the side of a point is the cross product of high - low and the point - low
pub side-point : (e : Edge) (c : Point)
    → side e (point c) ≡ ((e.high.x -ℤ e.low.x) *ℤ (c.y -ℤ e.low.y))
    -ℤ ((e.high.y -ℤ e.low.y) *ℤ (c.x -ℤ e.low.x))
unfolding side
side-point e c =
    ring (SIDE (at 0) (at 1) (at 2) (at 3) (at 4) (at 5) (num (pos 1)))
    (minus (times (minus (at 2) (at 0)) (minus (at 5) (at 1)))
    (times (minus (at 3) (at 1)) (minus (at 4) (at 0))))
    (vars (e.low.x ∷ e.low.y ∷ e.high.x ∷ e.high.y ∷ c.x ∷ c.y ∷ [])) refl

pub side-up : (w : ℤ) (e : Edge) → side e (up w) ≡ rise w e
unfolding side rise
side-up w e =
    ring (SIDE (at 1) (at 2) (at 3) (at 4) (minus (num (pos 0)) (num (pos 1))) (at 0) (num (pos 0)))
    (RISE (at 0) (at 1) (at 2) (at 3) (at 4))
    (vars (w ∷ e.low.x ∷ e.low.y ∷ e.high.x ∷ e.high.y ∷ [])) refl

pub rise-is : (w : ℤ) (e : Edge) → rise w e ≡ sweep w (point e.high) -ℤ sweep w (point e.low)
unfolding sweep rise
rise-is w e = refl

pub sweep-up : (w : ℤ) → sweep w (up w) ≡ pos 0
unfolding sweep
sweep-up w =
    ring (plus (times (at 0) (minus (num (pos 0)) (num (pos 1)))) (at 0)) (num (pos 0))
    (vars (w ∷ [])) refl

-- on one sweep line, higher raises every side
lift_apart : (w : ℤ) (e : Edge) (p q : Vector)
    → ((q.n *ℤ side e p) -ℤ (p.n *ℤ side e q)) -ℤ (lift p q *ℤ rise w e)
    ≡ (e.high.x -ℤ e.low.x) *ℤ ((q.n *ℤ sweep w p) -ℤ (p.n *ℤ sweep w q))
unfolding side rise sweep lift
lift_apart w e p q =
    let W = at 4 in
    let S : Expr → Expr → Expr → Expr = SIDE (at 0) (at 1) (at 2) (at 3) in
    let PX = at 5 in
    let PY = at 6 in let PN = at 7 in let QX = at 8 in let QY = at 9 in let QN = at 10 in
    ring (minus (minus (times QN (S PX PY PN)) (times PN (S QX QY QN)))
    (times (minus (times PN QX) (times QN PX)) (RISE W (at 0) (at 1) (at 2) (at 3))))
    (times (minus (at 2) (at 0)) (minus (times QN (SWEEP W PX PY)) (times PN (SWEEP W QX QY))))
    (vars (e.low.x ∷ e.low.y ∷ e.high.x ∷ e.high.y ∷ w ∷ p.x ∷ p.y ∷ p.n ∷ q.x ∷ q.y ∷ q.n ∷ []))
    refl

pub side-lift : (w : ℤ) (e : Edge) (p q : Vector) → q.n *ℤ sweep w p ≡ p.n *ℤ sweep w q
    → (q.n *ℤ side e p) -ℤ (p.n *ℤ side e q) ≡ lift p q *ℤ rise w e
side-lift w e p q h =
    let a = lift_apart w e p q in
    let d : (q.n *ℤ sweep w p) -ℤ (p.n *ℤ sweep w q) ≡ pos 0 = omega (arith, ints, h) in
    let z = ap (λ v. (e.high.x -ℤ e.low.x) *ℤ v) d ∙ product_comm (e.high.x -ℤ e.low.x) (pos 0)
    ∙ zero-product (e.high.x -ℤ e.low.x) in
    difference_zero _ _ (a ∙ z)
  where
    difference_zero : (a b : ℤ) → a -ℤ b ≡ pos 0 → a ≡ b
    difference_zero a b e = omega (arith, ints)

-- three sweep values
-- the gap as a form in the sweep value and n alone
abbrev pub gap_slope : Edge → Edge → ℤ
gap_slope a b =
    ((a.high.y -ℤ a.low.y) *ℤ (b.high.x -ℤ b.low.x))
    -ℤ ((b.high.y -ℤ b.low.y) *ℤ (a.high.x -ℤ a.low.x))

abbrev pub moment : Edge → ℤ
moment e = ((e.high.y -ℤ e.low.y) *ℤ e.low.x) -ℤ ((e.high.x -ℤ e.low.x) *ℤ e.low.y)

abbrev pub gap_at_zero : ℤ → Edge → Edge → ℤ
gap_at_zero w a b = (rise w a *ℤ moment b) -ℤ (rise w b *ℤ moment a)

pub gap-form : (w : ℤ) (a b : Edge) (v : Vector)
    → gap w a b v ≡ (gap_slope a b *ℤ sweep w v) +ℤ (gap_at_zero w a b *ℤ v.n)
unfolding gap side rise sweep
gap-form w a b v =
    let W = at 0 in
    let X = at 1 in let Y = at 2 in let N = at 3 in
    let SA : Expr → Expr → Expr → Expr = SIDE (at 4) (at 5) (at 6) (at 7) in
    let SB : Expr → Expr → Expr → Expr = SIDE (at 8) (at 9) (at 10) (at 11) in
    let RA = RISE W (at 4) (at 5) (at 6) (at 7) in
    let RB = RISE W (at 8) (at 9) (at 10) (at 11) in
    let MA = minus (times (minus (at 7) (at 5)) (at 4)) (times (minus (at 6) (at 4)) (at 5)) in
    let MB = minus (times (minus (at 11) (at 9)) (at 8)) (times (minus (at 10) (at 8)) (at 9)) in
    ring (minus (times RA (SB X Y N)) (times RB (SA X Y N)))
    (plus (times
    (minus (times (minus (at 7) (at 5)) (minus (at 10) (at 8)))
    (times (minus (at 11) (at 9)) (minus (at 6) (at 4)))) (SWEEP W X Y))
    (times (minus (times RA MB) (times RB MA)) N))
    (vars (w ∷ v.x ∷ v.y ∷ v.n ∷ a.low.x ∷ a.low.y ∷ a.high.x ∷ a.high.y ∷ b.low.x ∷ b.low.y
    ∷ b.high.x ∷ b.high.y ∷ [])) refl

pub affine_three : (c d sz nz sp np sq nq : ℤ) →
    ((c *ℤ sz) +ℤ (d *ℤ nz)) *ℤ ((sq *ℤ np) -ℤ (sp *ℤ nq))
    ≡ (((c *ℤ sp) +ℤ (d *ℤ np)) *ℤ ((sq *ℤ nz) -ℤ (sz *ℤ nq)))
    +ℤ (((c *ℤ sq) +ℤ (d *ℤ nq)) *ℤ ((sz *ℤ np) -ℤ (sp *ℤ nz)))
affine_three c d sz nz sp np sq nq =
    let D : Expr → Expr → Expr = λ s n. plus (times (at 0) s) (times (at 1) n) in
    let SZ = at 2 in
    let NZ = at 3 in let SP = at 4 in let NP = at 5 in let SQ = at 6 in let NQ = at 7 in
    ring (times (D SZ NZ) (minus (times SQ NP) (times SP NQ)))
    (plus (times (D SP NP) (minus (times SQ NZ) (times SZ NQ)))
    (times (D SQ NQ) (minus (times SZ NP) (times SP NZ))))
    (vars (c ∷ d ∷ sz ∷ nz ∷ sp ∷ np ∷ sq ∷ nq ∷ [])) refl

pub gap-three : (w : ℤ) (a b : Edge) (z p q : Vector) →
    gap w a b z *ℤ ((sweep w q *ℤ p.n) -ℤ (sweep w p *ℤ q.n))
    ≡ (gap w a b p *ℤ ((sweep w q *ℤ z.n) -ℤ (sweep w z *ℤ q.n)))
    +ℤ (gap w a b q *ℤ ((sweep w z *ℤ p.n) -ℤ (sweep w p *ℤ z.n)))
gap-three w a b z p q =
    rw (gap-form w a b z, gap-form w a b p, gap-form w a b q)
    (affine_three (gap_slope a b) (gap_at_zero w a b) (sweep w z) z.n (sweep w p) p.n
    (sweep w q) q.n)

pub gap-mix : (w : ℤ) (a b : Edge) (s : ℤ) (p : Vector) (t : ℤ) (q : Vector)
    → gap w a b (mix s p t q) ≡ (s *ℤ gap w a b p) +ℤ (t *ℤ gap w a b q)
unfolding gap
gap-mix w a b s p t q =
    let e = ring
    (minus (times (at 0) (plus (times (at 2) (at 4)) (times (at 3) (at 5))))
    (times (at 1) (plus (times (at 2) (at 6)) (times (at 3) (at 7)))))
    (plus (times (at 2) (minus (times (at 0) (at 4)) (times (at 1) (at 6))))
    (times (at 3) (minus (times (at 0) (at 5)) (times (at 1) (at 7)))))
    (vars (rise w a ∷ rise w b ∷ s ∷ t ∷ side b p ∷ side b q ∷ side a p ∷ side a q ∷ [])) refl in
    rw (side-mix a s p t q, side-mix b s p t q) e
