-- Half arcs with the same two control points on one side of one circle: each has the other's summit
-- on it.
use Rattle.std.proofs.Common.{◌≡◌, ℤ, pos, ◌*ℤ◌, ◌-ℤ◌, ◌<ℤ◌, ◌≤ℤ◌, [], ◌∷◌, refl, arith, ap, sym}
use Rattle.std.proofs.Common.{◌∙◌}
use Rattle.std.proofs.lemmas.Int.{ints}
use Rattle.plane.specs.declared.kinds.Point.{Point}
use Rattle.plane.specs.Rule.Places.{Vector, point}
use Rattle.plane.specs.Rule.HalfArcs.{HalfArc, wide, tall, third_x, third_y, off_x, off_y, bend}
use Rattle.plane.specs.Rule.HalfArcs.{circle_x, circle_y, power, bow}
use Rattle.plane.proofs.Algebra.Laws.{product_nonnegative, square_nonnegative}
use Rattle.plane.proofs.Algebra.Ring.{Expr, at, num, plus, minus, times, vars, ring}
use Rattle.plane.proofs.Algebra.Scaling.{cancel_zero, product_of_zero}
use Rattle.plane.proofs.Covers.OneArc.{bend_at, form_at, chord_at, broad, is_bent, square_positive}
use Rattle.plane.proofs.Covers.OneArc.{power-form, bow-form, summit, summit-form, on_form}
use Rattle.plane.proofs.Covers.OneArc.{summit-chord, same_form}

zero_factor : (d f : ℤ) → (d ≡ pos 0 → ⊥) → d *ℤ f ≡ pos 0 → f ≡ pos 0
zero_factor d f n e =
    let i = ring (times (times (at 0) (at 0)) (at 1)) (times (at 0) (times (at 0) (at 1)))
    (vars (d ∷ f ∷ [])) refl in
    cancel_zero (d *ℤ d) f (square_positive d n) (i ∙ product_of_zero d (d *ℤ f) e)

-- the same two control points with another third point
abbrev pub through : HalfArc → Point → HalfArc
through h u = record { from = h.from; to = h.to; third = u }

one : (u f : ℤ) → u -ℤ (f *ℤ pos 1) ≡ u -ℤ f
one u f = omega (arith, ints)

point_form : (h : HalfArc) (u : Point)
    → form_at (wide h) (tall h) (third_x h) (third_y h) (off_x h (point u)) (off_y h (point u))
    (pos 1)
    ≡ form_at (wide h) (tall h) (third_x h) (third_y h) (third_x (through h u))
    (third_y (through h u)) (pos 1)
point_form h u =
    ap (λ (x : ℤ). form_at (wide h) (tall h) (third_x h) (third_y h) x (off_y h (point u)) (pos 1))
    (one u.x h.from.x)
    ∙ ap (λ (y : ℤ). form_at (wide h) (tall h) (third_x h) (third_y h) (third_x (through h u)) y
    (pos 1)) (one u.y h.from.y)

pub other_circle : (h : HalfArc) (u : Point) → (bend h ≡ pos 0 → ⊥) → power h (point u) ≡ pos 0
    → power (through h u) (summit h) ≡ pos 0
other_circle h u n on =
    let k = through h u in
    let d = bend_at (wide h) (tall h) (third_x h) (third_y h) in
    let g = bend_at (wide k) (tall k) (third_x k) (third_y k) in
    let m = is_bent h n in
    let zero : form_at (wide h) (tall h) (third_x h) (third_y h) (third_x k) (third_y k) (pos 1)
    ≡ pos 0 =
    sym (point_form h u) ∙ zero_factor d _ m (sym (power-form h (point u)) ∙ on) in
    let z = summit h in
    let first : form_at (wide h) (tall h) (third_x h) (third_y h) (off_x h z) (off_y h z) z.n
    ≡ pos 0 = summit-form h (wide h) (tall h) (third_x h) (third_y h) ∙ on_form h in
    let both = same_form (wide h) (tall h) (third_x h) (third_y h) (third_x k) (third_y k)
    (off_x h z) (off_y h z) z.n zero ∙ product_of_zero g _ first in
    power-form k z ∙ product_of_zero g _ (zero_factor d _ m both)

point_chord : (h : HalfArc) (u : Point)
    → chord_at (wide h) (tall h) (off_x h (point u)) (off_y h (point u))
    ≡ bend_at (wide h) (tall h) (third_x (through h u)) (third_y (through h u))
point_chord h u =
    ap (λ (x : ℤ). chord_at (wide h) (tall h) x (off_y h (point u))) (one u.x h.from.x)
    ∙ ap (λ (y : ℤ). chord_at (wide h) (tall h) (third_x (through h u)) y) (one u.y h.from.y)

pub other_bow : (h : HalfArc) (u : Point) → bow h (point u) <ℤ pos 0
    → pos 0 ≤ℤ bow (through h u) (summit h)
other_bow h u side =
    let k = through h u in
    let d = bend_at (wide h) (tall h) (third_x h) (third_y h) in
    let g = bend_at (wide k) (tall k) (third_x k) (third_y k) in
    let e = bow-form h (point u) ∙ ap (λ (v : ℤ). pos 0 -ℤ (d *ℤ v)) (point_chord h u) in
    let a = square_nonnegative (wide h) in
    let b = square_nonnegative (tall h) in
    let p = product_nonnegative (broad h) (d *ℤ g) (omega (arith, ints, a, b))
    (omega (arith, ints, e, side)) in
    let f = bow-form k (summit h) ∙ ap (λ (v : ℤ). pos 0 -ℤ (g *ℤ v)) (summit-chord h) in
    let i = ring
    (minus (num (pos 0))
    (times (at 1) (minus (num (pos 0)) (times (num (pos 2)) (times (at 2) (at 0))))))
    (times (num (pos 2)) (times (at 2) (times (at 0) (at 1))))
    (vars (d ∷ g ∷ broad h ∷ [])) refl in
    omega (arith, ints, p, f, i)

-- ---- a half arc from its other end
abbrev pub back : HalfArc → HalfArc
back h = record { from = h.to; to = h.from; third = h.third }

-- from: 0 1, to: 2 3, third: 4 5, v: 6 7 8
abbrev WHOLE : (fx fy tx ty : Expr) → Expr
WHOLE fx fy tx ty =
    let ex = minus tx fx in let ey = minus ty fy in
    let ux = minus (at 4) fx in let uy = minus (at 5) fy in
    let x = minus (at 6) (times fx (at 8)) in let y = minus (at 7) (times fy (at 8)) in
    let sq : Expr → Expr → Expr = λ a b. plus (times a a) (times b b) in
    let d = minus (times ex uy) (times ey ux) in
    let a = minus (times (sq ex ey) uy) (times (sq ux uy) ey) in
    let b = minus (times ex (sq ux uy)) (times ux (sq ex ey)) in
    times d (minus (times d (sq x y)) (times (plus (times a x) (times b y)) (at 8)))

abbrev BOW : (fx fy tx ty : Expr) → Expr
BOW fx fy tx ty =
    let ex = minus tx fx in let ey = minus ty fy in
    let ux = minus (at 4) fx in let uy = minus (at 5) fy in
    let x = minus (at 6) (times fx (at 8)) in let y = minus (at 7) (times fy (at 8)) in
    let d = minus (times ex uy) (times ey ux) in
    minus (num (pos 0)) (times d (minus (times ex y) (times ey x)))

pub power-back : (h : HalfArc) (v : Vector) → power (back h) v ≡ power h v
unfolding power bend circle_x circle_y
power-back h v =
    ring (WHOLE (at 2) (at 3) (at 0) (at 1)) (WHOLE (at 0) (at 1) (at 2) (at 3))
    (vars (h.from.x ∷ h.from.y ∷ h.to.x ∷ h.to.y ∷ h.third.x ∷ h.third.y ∷ v.x ∷ v.y ∷ v.n
    ∷ [])) refl

pub bow-back : (h : HalfArc) (v : Vector) → bow (back h) v ≡ bow h v
unfolding bow bend
bow-back h v =
    ring (BOW (at 2) (at 3) (at 0) (at 1)) (BOW (at 0) (at 1) (at 2) (at 3))
    (vars (h.from.x ∷ h.from.y ∷ h.to.x ∷ h.to.y ∷ h.third.x ∷ h.third.y ∷ v.x ∷ v.y ∷ v.n
    ∷ [])) refl
