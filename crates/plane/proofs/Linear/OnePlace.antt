-- One place given by two vectors: its sides and sweep values agree, up to their factors.
use Rattle.std.proofs.Common.{◌≡◌, ℤ, ◌+ℤ◌, ◌*ℤ◌, ◌-ℤ◌, [], ◌∷◌, refl, arith}
use Rattle.std.proofs.lemmas.Int.{ints}
use Rattle.plane.specs.Forms.Vectors.{Vector, Same, Edge, side, sweep}
use Rattle.plane.proofs.Algebra.Ring.{Expr, at, plus, minus, times, vars, ring}
use Rattle.plane.proofs.Linear.Vectors.{SIDE, SWEEP}
use Rattle.plane.proofs.Algebra.Scaling.{product_of_zero}

side_scaled : (e : Edge) (p q : Vector) → ((q.n *ℤ side e p) -ℤ (p.n *ℤ side e q))
    ≡ ((e.high.x -ℤ e.low.x) *ℤ ((p.y *ℤ q.n) -ℤ (q.y *ℤ p.n)))
    -ℤ ((e.high.y -ℤ e.low.y) *ℤ ((p.x *ℤ q.n) -ℤ (q.x *ℤ p.n)))
unfolding side
side_scaled e p q =
    let f : Expr → Expr → Expr → Expr = λ x y n. SIDE (at 0) (at 1) (at 2) (at 3) x y n in
    let cross : Expr → Expr → Expr = λ a b. minus (times a (at 9)) (times b (at 6)) in
    ring (minus (times (at 9) (f (at 4) (at 5) (at 6))) (times (at 6) (f (at 7) (at 8) (at 9))))
    (minus (times (minus (at 2) (at 0)) (cross (at 5) (at 8)))
    (times (minus (at 3) (at 1)) (cross (at 4) (at 7))))
    (vars (e.low.x ∷ e.low.y ∷ e.high.x ∷ e.high.y ∷ p.x ∷ p.y ∷ p.n ∷ q.x ∷ q.y ∷ q.n ∷ [])) refl

sweep_scaled : (w : ℤ) (p q : Vector) → ((q.n *ℤ sweep w p) -ℤ (p.n *ℤ sweep w q))
    ≡ (w *ℤ ((p.x *ℤ q.n) -ℤ (q.x *ℤ p.n))) +ℤ ((p.y *ℤ q.n) -ℤ (q.y *ℤ p.n))
unfolding sweep
sweep_scaled w p q =
    let cross : Expr → Expr → Expr = λ a b. minus (times a (at 6)) (times b (at 3)) in
    ring (minus (times (at 6) (SWEEP (at 0) (at 1) (at 2)))
    (times (at 3) (SWEEP (at 0) (at 4) (at 5))))
    (plus (times (at 0) (cross (at 1) (at 4))) (cross (at 2) (at 5)))
    (vars (w ∷ p.x ∷ p.y ∷ p.n ∷ q.x ∷ q.y ∷ q.n ∷ [])) refl

pub side_same : (e : Edge) (p q : Vector) → Same p q → q.n *ℤ side e p ≡ p.n *ℤ side e q
side_same e p q h =
    let a = product_of_zero (e.high.x -ℤ e.low.x) ((p.y *ℤ q.n) -ℤ (q.y *ℤ p.n)) (let k = h.y in
    omega (arith, ints, k)) in
    let b = product_of_zero (e.high.y -ℤ e.low.y) ((p.x *ℤ q.n) -ℤ (q.x *ℤ p.n)) (let k = h.x in
    omega (arith, ints, k)) in
    omega (arith, ints, side_scaled e p q, a, b)

pub sweep_same : (w : ℤ) (p q : Vector) → Same p q → q.n *ℤ sweep w p ≡ p.n *ℤ sweep w q
sweep_same w p q h =
    let a = product_of_zero w ((p.x *ℤ q.n) -ℤ (q.x *ℤ p.n)) (let k = h.x in
    omega (arith, ints, k)) in
    let b = h.y in
    omega (arith, ints, sweep_scaled w p q, a, b)
