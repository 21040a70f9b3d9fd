-- Of two edges that start in one point, or end in one, the order on the sweep says which direction
-- is left of the other.
-- For ending edges the order is that just before the event.
use Rattle.std.proofs.Common.{◌≡◌, ℤ, pos, ◌+ℤ◌, ◌*ℤ◌, ◌-ℤ◌, ◌<ℤ◌, [], ◌∷◌, refl, arith, sym, subst}
use Rattle.std.proofs.lemmas.Int.{ints}
use Rattle.plane.specs.declared.kinds.Point.{Point}
use Rattle.plane.specs.Forms.Vectors.{Vector, point, Edge, side, sweep, rise, gap}
use Rattle.plane.proofs.Algebra.Laws.{positive_factor}
use Rattle.plane.proofs.Algebra.Ring.{at, num, plus, minus, times, vars, ring}

-- ---- two edges that start in one point, and two that end in one
pub starting_turn : (a b : Edge) → a.low ≡ b.low → pos 0 <ℤ side a (point b.high)
    → pos 0 <ℤ (((a.high.x -ℤ a.low.x) *ℤ (b.high.y -ℤ b.low.y))
    -ℤ ((a.high.y -ℤ a.low.y) *ℤ (b.high.x -ℤ b.low.x)))
unfolding side
starting_turn a b e h =
    let f : pos 0 <ℤ (((a.high.x -ℤ a.low.x) *ℤ (b.high.y -ℤ (b.low.y *ℤ pos 1)))
    -ℤ ((a.high.y -ℤ a.low.y) *ℤ (b.high.x -ℤ (b.low.x *ℤ pos 1)))) =
    subst (λ (p : Point). pos 0 <ℤ (((a.high.x -ℤ a.low.x) *ℤ (b.high.y -ℤ (p.y *ℤ pos 1)))
    -ℤ ((a.high.y -ℤ a.low.y) *ℤ (b.high.x -ℤ (p.x *ℤ pos 1))))) e h in
    let x : b.high.x -ℤ (b.low.x *ℤ pos 1) ≡ b.high.x -ℤ b.low.x = omega (arith, ints) in
    let y : b.high.y -ℤ (b.low.y *ℤ pos 1) ≡ b.high.y -ℤ b.low.y = omega (arith, ints) in
    subst (λ (v : ℤ). pos 0 <ℤ (((a.high.x -ℤ a.low.x) *ℤ (b.high.y -ℤ b.low.y))
    -ℤ ((a.high.y -ℤ a.low.y) *ℤ v))) x
    (subst (λ (v : ℤ). pos 0 <ℤ (((a.high.x -ℤ a.low.x) *ℤ v)
    -ℤ ((a.high.y -ℤ a.low.y) *ℤ (b.high.x -ℤ (b.low.x *ℤ pos 1))))) y f)

side_high : (ax ay hx hy x y n : ℤ)
    → ((hx -ℤ ax) *ℤ (y -ℤ (ay *ℤ n))) -ℤ ((hy -ℤ ay) *ℤ (x -ℤ (ax *ℤ n)))
    ≡ ((hx -ℤ ax) *ℤ (y -ℤ (hy *ℤ n))) -ℤ ((hy -ℤ ay) *ℤ (x -ℤ (hx *ℤ n)))
side_high ax ay hx hy x y n =
    ring (minus (times (minus (at 2) (at 0)) (minus (at 5) (times (at 1) (at 6))))
    (times (minus (at 3) (at 1)) (minus (at 4) (times (at 0) (at 6)))))
    (minus (times (minus (at 2) (at 0)) (minus (at 5) (times (at 3) (at 6))))
    (times (minus (at 3) (at 1)) (minus (at 4) (times (at 2) (at 6)))))
    (vars (ax ∷ ay ∷ hx ∷ hy ∷ x ∷ y ∷ n ∷ [])) refl

gap_turn : (w u v s t x y : ℤ)
    → (((w *ℤ u) +ℤ v) *ℤ ((s *ℤ y) -ℤ (t *ℤ x))) -ℤ (((w *ℤ s) +ℤ t) *ℤ ((u *ℤ y) -ℤ (v *ℤ x)))
    ≡ (pos 0 -ℤ ((w *ℤ x) +ℤ y)) *ℤ ((u *ℤ t) -ℤ (v *ℤ s))
gap_turn w u v s t x y =
    let W = at 0 in
    let U = at 1 in let V = at 2 in let S = at 3 in let T = at 4 in let X = at 5 in let Y = at 6 in
    ring (minus (times (plus (times W U) V) (minus (times S Y) (times T X)))
    (times (plus (times W S) T) (minus (times U Y) (times V X))))
    (times (minus (num (pos 0)) (plus (times W X) Y)) (minus (times U T) (times V S)))
    (vars (w ∷ u ∷ v ∷ s ∷ t ∷ x ∷ y ∷ [])) refl

rise_apart : (w lx ly hx hy : ℤ)
    → ((w *ℤ hx) +ℤ hy) -ℤ ((w *ℤ lx) +ℤ ly) ≡ (w *ℤ (hx -ℤ lx)) +ℤ (hy -ℤ ly)
rise_apart w lx ly hx hy =
    ring (minus (plus (times (at 0) (at 3)) (at 4)) (plus (times (at 0) (at 1)) (at 2)))
    (plus (times (at 0) (minus (at 3) (at 1))) (minus (at 4) (at 2)))
    (vars (w ∷ lx ∷ ly ∷ hx ∷ hy ∷ [])) refl

sweep_apart : (w hx hy x y n : ℤ)
    → (w *ℤ (x -ℤ (hx *ℤ n))) +ℤ (y -ℤ (hy *ℤ n)) ≡ ((w *ℤ x) +ℤ y) -ℤ (((w *ℤ hx) +ℤ hy) *ℤ n)
sweep_apart w hx hy x y n =
    ring (plus (times (at 0) (minus (at 3) (times (at 1) (at 5))))
    (minus (at 4) (times (at 2) (at 5))))
    (minus (plus (times (at 0) (at 3)) (at 4)) (times (plus (times (at 0) (at 1)) (at 2)) (at 5)))
    (vars (w ∷ hx ∷ hy ∷ x ∷ y ∷ n ∷ [])) refl

turned : (u v s t : ℤ)
    → ((pos 0 -ℤ s) *ℤ (pos 0 -ℤ v)) -ℤ ((pos 0 -ℤ t) *ℤ (pos 0 -ℤ u))
    ≡ pos 0 -ℤ ((u *ℤ t) -ℤ (v *ℤ s))
turned u v s t =
    let zero = num (pos 0) in
    ring (minus (times (minus zero (at 2)) (minus zero (at 1)))
    (times (minus zero (at 3)) (minus zero (at 0))))
    (minus zero (minus (times (at 0) (at 3)) (times (at 1) (at 2))))
    (vars (u ∷ v ∷ s ∷ t ∷ [])) refl

-- a strictly below b just before their common high end: b comes before a round it
ending_core : (w ax ay bx by hx hy x y n : ℤ)
    → (((((w *ℤ hx) +ℤ hy) -ℤ ((w *ℤ ax) +ℤ ay))
    *ℤ (((hx -ℤ bx) *ℤ (y -ℤ (by *ℤ n))) -ℤ ((hy -ℤ by) *ℤ (x -ℤ (bx *ℤ n)))))
    -ℤ ((((w *ℤ hx) +ℤ hy) -ℤ ((w *ℤ bx) +ℤ by))
    *ℤ (((hx -ℤ ax) *ℤ (y -ℤ (ay *ℤ n))) -ℤ ((hy -ℤ ay) *ℤ (x -ℤ (ax *ℤ n)))))) <ℤ pos 0
    → ((w *ℤ x) +ℤ y) <ℤ (((w *ℤ hx) +ℤ hy) *ℤ n)
    → pos 0 <ℤ (((bx -ℤ hx) *ℤ (ay -ℤ hy)) -ℤ ((by -ℤ hy) *ℤ (ax -ℤ hx)))
ending_core w ax ay bx by hx hy x y n g h =
    let u = hx -ℤ ax in let v = hy -ℤ ay in let s = hx -ℤ bx in let t = hy -ℤ by in
    let X = x -ℤ (hx *ℤ n) in let Y = y -ℤ (hy *ℤ n) in
    let g2 = subst
    (λ (z : ℤ). ((((((w *ℤ hx) +ℤ hy) -ℤ ((w *ℤ ax) +ℤ ay)) *ℤ z)
    -ℤ ((((w *ℤ hx) +ℤ hy) -ℤ ((w *ℤ bx) +ℤ by))
    *ℤ ((u *ℤ (y -ℤ (ay *ℤ n))) -ℤ (v *ℤ (x -ℤ (ax *ℤ n))))))) <ℤ pos 0)
    (side_high bx by hx hy x y n) g in
    let g3 = subst
    (λ (z : ℤ). ((((((w *ℤ hx) +ℤ hy) -ℤ ((w *ℤ ax) +ℤ ay)) *ℤ ((s *ℤ Y) -ℤ (t *ℤ X)))
    -ℤ ((((w *ℤ hx) +ℤ hy) -ℤ ((w *ℤ bx) +ℤ by)) *ℤ z))) <ℤ pos 0)
    (side_high ax ay hx hy x y n) g2 in
    let g4 = subst
    (λ (z : ℤ). ((z *ℤ ((s *ℤ Y) -ℤ (t *ℤ X)))
    -ℤ ((((w *ℤ hx) +ℤ hy) -ℤ ((w *ℤ bx) +ℤ by)) *ℤ ((u *ℤ Y) -ℤ (v *ℤ X)))) <ℤ pos 0)
    (rise_apart w ax ay hx hy) g3 in
    let g5 = subst
    (λ (z : ℤ). ((((w *ℤ u) +ℤ v) *ℤ ((s *ℤ Y) -ℤ (t *ℤ X))) -ℤ (z *ℤ ((u *ℤ Y) -ℤ (v *ℤ X))))
    <ℤ pos 0) (rise_apart w bx by hx hy) g4 in
    let e = gap_turn w u v s t X Y in
    let f = sweep_apart w hx hy x y n in
    let p = factor ((w *ℤ X) +ℤ Y) ((u *ℤ t) -ℤ (v *ℤ s)) (subst (λ (z : ℤ). z <ℤ pos 0) e g5)
    (omega (arith, ints, f, h)) in
    let q = turned u v s t in
    subst (λ (z : ℤ). pos 0 <ℤ ((z *ℤ (ay -ℤ hy)) -ℤ ((by -ℤ hy) *ℤ (ax -ℤ hx)))) (flip hx bx)
    (subst (λ (z : ℤ). pos 0 <ℤ (((pos 0 -ℤ s) *ℤ z) -ℤ ((by -ℤ hy) *ℤ (ax -ℤ hx)))) (flip hy ay)
    (subst (λ (z : ℤ). pos 0 <ℤ (((pos 0 -ℤ s) *ℤ (pos 0 -ℤ v)) -ℤ (z *ℤ (ax -ℤ hx)))) (flip hy by)
    (subst (λ (z : ℤ). pos 0 <ℤ (((pos 0 -ℤ s) *ℤ (pos 0 -ℤ v)) -ℤ ((pos 0 -ℤ t) *ℤ z)))
    (flip hx ax) (omega (arith, ints, p, q)))))
  where
    flip : (a b : ℤ) → pos 0 -ℤ (a -ℤ b) ≡ b -ℤ a
    flip a b = omega (arith, ints)

    factor : (s c : ℤ) → ((pos 0 -ℤ s) *ℤ c) <ℤ pos 0 → s <ℤ pos 0 → pos 0 <ℤ (pos 0 -ℤ c)
    factor s c l m =
        let e = ring (times (minus (num (pos 0)) (at 0)) (minus (num (pos 0)) (at 1)))
        (minus (num (pos 0)) (times (minus (num (pos 0)) (at 0)) (at 1)))
        (vars (s ∷ c ∷ [])) refl in
        positive_factor (pos 0 -ℤ s) (pos 0 -ℤ c) (omega (arith, ints, m))
        (omega (arith, ints, l, e))

pub ending_turn : (w : ℤ) (a b : Edge) (z : Vector) → b.high ≡ a.high → gap w a b z <ℤ pos 0
    → sweep w z <ℤ (sweep w (point a.high) *ℤ z.n)
    → pos 0 <ℤ (((b.low.x -ℤ b.high.x) *ℤ (a.low.y -ℤ a.high.y))
    -ℤ ((b.low.y -ℤ b.high.y) *ℤ (a.low.x -ℤ a.high.x)))
unfolding gap side rise sweep
ending_turn w a b z e g h =
    subst (λ (p : Point). pos 0 <ℤ (((b.low.x -ℤ p.x) *ℤ (a.low.y -ℤ a.high.y))
    -ℤ ((b.low.y -ℤ p.y) *ℤ (a.low.x -ℤ a.high.x)))) (sym e)
    (ending_core w a.low.x a.low.y b.low.x b.low.y a.high.x a.high.y z.x z.y z.n
    (subst (λ (p : Point). gap w a (record { low = b.low; high = p }) z <ℤ pos 0) e g) h)
