-- Two half arcs of one circle over one chord on one side: a place in the middle of the one is on
-- the other.
use Rattle.std.proofs.Common.{◌≡◌, ℤ, pos, ◌+ℤ◌, ◌*ℤ◌, ◌-ℤ◌, ◌<ℤ◌, ◌≤ℤ◌, List, [], ◌∷◌, refl, arith}
use Rattle.std.proofs.Common.{ap, ◌∙◌}
use Rattle.std.proofs.lemmas.Int.{ints, by_lt_z}
use Rattle.plane.specs.Rule.Places.{Vector, Place}
use Rattle.plane.specs.Rule.HalfArcs.{HalfArc, wide, tall, third_x, third_y, off_x, off_y, bend}
use Rattle.plane.specs.Rule.HalfArcs.{circle_x, circle_y, power, bow, IsOnHalfArc}
use Rattle.plane.proofs.Algebra.Laws.{product_positive, square_nonnegative, square_zero}
use Rattle.plane.proofs.Algebra.Ring.{Expr, at, num, plus, minus, times, vars, ring}
use Rattle.plane.proofs.Algebra.Scaling.{product_of_zero}

-- ---- in offsets from `from`: ex ey is the other end, tx ty the third point, x y n the place
abbrev pub bend_at : (ex ey tx ty : ℤ) → ℤ
bend_at ex ey tx ty = (ex *ℤ ty) -ℤ (ey *ℤ tx)

abbrev pub circle_x_at : (ex ey tx ty : ℤ) → ℤ
circle_x_at ex ey tx ty = (((ex *ℤ ex) +ℤ (ey *ℤ ey)) *ℤ ty) -ℤ (((tx *ℤ tx) +ℤ (ty *ℤ ty)) *ℤ ey)

abbrev pub circle_y_at : (ex ey tx ty : ℤ) → ℤ
circle_y_at ex ey tx ty = (ex *ℤ ((tx *ℤ tx) +ℤ (ty *ℤ ty))) -ℤ (tx *ℤ ((ex *ℤ ex) +ℤ (ey *ℤ ey)))

-- f, times D n n
abbrev pub form_at : (ex ey tx ty x y n : ℤ) → ℤ
form_at ex ey tx ty x y n =
    (bend_at ex ey tx ty *ℤ ((x *ℤ x) +ℤ (y *ℤ y)))
    -ℤ (((circle_x_at ex ey tx ty *ℤ x) +ℤ (circle_y_at ex ey tx ty *ℤ y)) *ℤ n)

abbrev pub chord_at : (ex ey x y : ℤ) → ℤ
chord_at ex ey x y = (ex *ℤ y) -ℤ (ey *ℤ x)

abbrev BEND : Expr → Expr → Expr → Expr → Expr
BEND ex ey tx ty = minus (times ex ty) (times ey tx)

abbrev SQ : Expr → Expr → Expr
SQ x y = plus (times x x) (times y y)

abbrev FORM : Expr → Expr → Expr → Expr → Expr → Expr → Expr → Expr
FORM ex ey tx ty x y n =
    minus (times (BEND ex ey tx ty) (SQ x y))
    (times (plus (times (minus (times (SQ ex ey) ty) (times (SQ tx ty) ey)) x)
    (times (minus (times ex (SQ tx ty)) (times tx (SQ ex ey))) y)) n)

pub power-form : (h : HalfArc) (v : Vector)
    → power h v ≡ bend_at (wide h) (tall h) (third_x h) (third_y h)
    *ℤ form_at (wide h) (tall h) (third_x h) (third_y h) (off_x h v) (off_y h v) v.n
unfolding power bend circle_x circle_y
power-form h v = refl

pub bow-form : (h : HalfArc) (v : Vector)
    → bow h v ≡ pos 0
    -ℤ (bend_at (wide h) (tall h) (third_x h) (third_y h)
    *ℤ chord_at (wide h) (tall h) (off_x h v) (off_y h v))
unfolding bow bend
bow-form h v = refl

-- ---- the place: the line from the third point through the middle of the chord meets the circle
-- there again
abbrev pub deep : HalfArc → ℤ
deep h = ((wide h -ℤ (pos 2 *ℤ third_x h)) *ℤ (wide h -ℤ (pos 2 *ℤ third_x h)))
    +ℤ ((tall h -ℤ (pos 2 *ℤ third_y h)) *ℤ (tall h -ℤ (pos 2 *ℤ third_y h)))

abbrev pub broad : HalfArc → ℤ
broad h = (wide h *ℤ wide h) +ℤ (tall h *ℤ tall h)

abbrev pub seen_x : HalfArc → ℤ
seen_x h = (deep h *ℤ wide h) +ℤ (broad h *ℤ (wide h -ℤ (pos 2 *ℤ third_x h)))

abbrev pub seen_y : HalfArc → ℤ
seen_y h = (deep h *ℤ tall h) +ℤ (broad h *ℤ (tall h -ℤ (pos 2 *ℤ third_y h)))

pub summit : HalfArc → Vector
summit h = record {
  x = seen_x h +ℤ (h.from.x *ℤ (pos 2 *ℤ deep h));
  y = seen_y h +ℤ (h.from.y *ℤ (pos 2 *ℤ deep h));
  n = pos 2 *ℤ deep h;
}

summit-x : (h : HalfArc) → off_x h (summit h) ≡ seen_x h
unfolding summit
summit-x h = omega (arith, ints)

summit-y : (h : HalfArc) → off_y h (summit h) ≡ seen_y h
unfolding summit
summit-y h = omega (arith, ints)

-- a sum of two squares is above 0 where a determinant with its parts is not 0
some_square : (x y u v : ℤ) → ((x *ℤ v) -ℤ (y *ℤ u) ≡ pos 0 → ⊥) → pos 0 <ℤ ((x *ℤ x) +ℤ (y *ℤ y))
some_square x y u v n =
    let a = square_nonnegative x in
    let b = square_nonnegative y in
    by_lt_z (pos 0) ((x *ℤ x) +ℤ (y *ℤ y)) (λ l. l)
    (λ (l : ((x *ℤ x) +ℤ (y *ℤ y)) ≤ℤ pos 0).
    let x0 = square_zero x (omega (arith, ints, a, b, l)) in
    let y0 = square_zero y (omega (arith, ints, a, b, l)) in
    let p = ap (λ (z : ℤ). z *ℤ v) x0 in
    let q = ap (λ (z : ℤ). z *ℤ u) y0 in
    absurd (n (omega (arith, ints, p, q))))

pub is_bent : (h : HalfArc) → (bend h ≡ pos 0 → ⊥)
    → bend_at (wide h) (tall h) (third_x h) (third_y h) ≡ pos 0 → ⊥
unfolding bend
is_bent h n = n

deep_positive : (h : HalfArc) → (bend h ≡ pos 0 → ⊥) → pos 0 <ℤ deep h
deep_positive h n =
    some_square (wide h -ℤ (pos 2 *ℤ third_x h)) (tall h -ℤ (pos 2 *ℤ third_y h)) (third_x h)
    (third_y h)
    (λ e. is_bent h n (turned (wide h) (tall h) (third_x h) (third_y h) ∙ e))
  where
    turned : (ex ey tx ty : ℤ)
        → bend_at ex ey tx ty ≡ ((ex -ℤ (pos 2 *ℤ tx)) *ℤ ty) -ℤ ((ey -ℤ (pos 2 *ℤ ty)) *ℤ tx)
    turned ex ey tx ty = let two = num (pos 2) in
        ring (BEND (at 0) (at 1) (at 2) (at 3))
        (minus (times (minus (at 0) (times two (at 2))) (at 3))
        (times (minus (at 1) (times two (at 3))) (at 2))) (vars (ex ∷ ey ∷ tx ∷ ty ∷ [])) refl

pub summit_place : (h : HalfArc) → (bend h ≡ pos 0 → ⊥) → Place (summit h)
unfolding summit
summit_place h n = let d = deep_positive h n in omega (arith, ints, d)

-- the variables: ex ey tx ty
abbrev DEEP : Expr
DEEP = SQ (minus (at 0) (times (num (pos 2)) (at 2))) (minus (at 1) (times (num (pos 2)) (at 3)))

abbrev SEEN_X : Expr
SEEN_X = plus (times DEEP (at 0))
    (times (SQ (at 0) (at 1)) (minus (at 0) (times (num (pos 2)) (at 2))))

abbrev SEEN_Y : Expr
SEEN_Y = plus (times DEEP (at 1))
    (times (SQ (at 0) (at 1)) (minus (at 1) (times (num (pos 2)) (at 3))))

abbrev given : HalfArc → List ℤ
given h = wide h ∷ tall h ∷ third_x h ∷ third_y h ∷ []

pub on_form : (h : HalfArc)
    → form_at (wide h) (tall h) (third_x h) (third_y h) (seen_x h) (seen_y h) (pos 2 *ℤ deep h)
    ≡ pos 0
on_form h = ring (FORM (at 0) (at 1) (at 2) (at 3) SEEN_X SEEN_Y (times (num (pos 2)) DEEP))
    (num (pos 0)) (vars (given h)) refl

pub summit-form : (h : HalfArc) (ex ey tx ty : ℤ)
    → form_at ex ey tx ty (off_x h (summit h)) (off_y h (summit h)) (summit h).n
    ≡ form_at ex ey tx ty (seen_x h) (seen_y h) (pos 2 *ℤ deep h)
unfolding summit
summit-form h ex ey tx ty =
    ap (λ (x : ℤ). form_at ex ey tx ty x (off_y h (summit h)) (pos 2 *ℤ deep h)) (summit-x h)
    ∙ ap (λ (y : ℤ). form_at ex ey tx ty (seen_x h) y (pos 2 *ℤ deep h)) (summit-y h)

chord-high : (h : HalfArc)
    → chord_at (wide h) (tall h) (seen_x h) (seen_y h)
    ≡ pos 0 -ℤ (pos 2 *ℤ (broad h *ℤ bend_at (wide h) (tall h) (third_x h) (third_y h)))
chord-high h =
    ring (minus (times (at 0) SEEN_Y) (times (at 1) SEEN_X))
    (minus (num (pos 0))
    (times (num (pos 2)) (times (SQ (at 0) (at 1)) (BEND (at 0) (at 1) (at 2) (at 3)))))
    (vars (given h)) refl

pub summit-chord : (h : HalfArc)
    → chord_at (wide h) (tall h) (off_x h (summit h)) (off_y h (summit h))
    ≡ pos 0 -ℤ (pos 2 *ℤ (broad h *ℤ bend_at (wide h) (tall h) (third_x h) (third_y h)))
summit-chord h =
    ap (λ (x : ℤ). chord_at (wide h) (tall h) x (off_y h (summit h))) (summit-x h)
    ∙ ap (λ (y : ℤ). chord_at (wide h) (tall h) (seen_x h) y) (summit-y h) ∙ chord-high h

pub square_positive : (d : ℤ) → (d ≡ pos 0 → ⊥) → pos 0 <ℤ (d *ℤ d)
square_positive d n =
    let a = square_nonnegative d in
    by_lt_z (pos 0) (d *ℤ d) (λ l. l)
    (λ (l : (d *ℤ d) ≤ℤ pos 0). absurd (n (square_zero d (omega (arith, ints, a, l)))))

pub summit_high : (h : HalfArc) → (bend h ≡ pos 0 → ⊥) → pos 0 <ℤ bow h (summit h)
summit_high h n =
    let d = bend_at (wide h) (tall h) (third_x h) (third_y h) in
    let m = is_bent h n in
    let wide_positive = some_square (wide h) (tall h) (third_x h) (third_y h) m in
    let p = product_positive (broad h) (d *ℤ d) wide_positive (square_positive d m) in
    let e = bow-form h (summit h) ∙ ap (λ (v : ℤ). pos 0 -ℤ (d *ℤ v)) (summit-chord h) in
    let i = ring
    (minus (num (pos 0))
    (times (at 0) (minus (num (pos 0)) (times (num (pos 2)) (times (at 1) (at 0))))))
    (times (num (pos 2)) (times (at 1) (times (at 0) (at 0)))) (vars (d ∷ broad h ∷ [])) refl in
    omega (arith, ints, p, e, i)

pub summit_on : (h : HalfArc) → (bend h ≡ pos 0 → ⊥) → IsOnHalfArc h (summit h)
summit_on h n =
    let d = bend_at (wide h) (tall h) (third_x h) (third_y h) in
    let high = summit_high h n in
    record {
      circle = power-form h (summit h)
          ∙ ap (λ (v : ℤ). d *ℤ v) (summit-form h (wide h) (tall h) (third_x h) (third_y h)
          ∙ on_form h) ∙ product_of_zero d (pos 0) refl;
      away = omega (arith, ints, high);
    }

-- ---- another third point of the same circle, on the same side
-- D' times the form of the one is D times the form of the other, where the other third point is on
-- the circle
pub same_form : (ex ey tx ty ux uy x y n : ℤ) → form_at ex ey tx ty ux uy (pos 1) ≡ pos 0
    → bend_at ex ey tx ty *ℤ form_at ex ey ux uy x y n
    ≡ bend_at ex ey ux uy *ℤ form_at ex ey tx ty x y n
same_form ex ey tx ty ux uy x y n e =
    let T : Expr → Expr → Expr → Expr = FORM (at 0) (at 1) (at 2) (at 3) in
    let U : Expr → Expr → Expr → Expr = FORM (at 0) (at 1) (at 4) (at 5) in
    let i = ring
    (minus (times (BEND (at 0) (at 1) (at 2) (at 3)) (U (at 6) (at 7) (at 8)))
    (times (BEND (at 0) (at 1) (at 4) (at 5)) (T (at 6) (at 7) (at 8))))
    (times (times (minus (times (at 1) (at 6)) (times (at 0) (at 7))) (at 8))
    (T (at 4) (at 5) (num (pos 1))))
    (vars (ex ∷ ey ∷ tx ∷ ty ∷ ux ∷ uy ∷ x ∷ y ∷ n ∷ [])) refl in
    level _ _ _ i (product_of_zero (((ey *ℤ x) -ℤ (ex *ℤ y)) *ℤ n) _ e)
  where
    level : (a b c : ℤ) → a -ℤ b ≡ c → c ≡ pos 0 → a ≡ b
    level a b c e f = omega (arith, ints, e, f)
