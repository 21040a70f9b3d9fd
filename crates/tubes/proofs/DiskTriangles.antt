-- A point of the triangle of three points of a circle's disk is strictly inside the circle where
-- the third one is and has some weight.
use Rattle.std.proofs.Common.{◌≡◌, ℤ, pos, ◌+ℤ◌, ◌*ℤ◌, ◌-ℤ◌, ◌<ℤ◌, ◌≤ℤ◌, [], ◌∷◌, refl, arith, ap}
use Rattle.std.proofs.Common.{◌∙◌}
use Rattle.std.proofs.lemmas.Int.{ints, by_lt_z}
use Rattle.plane.specs.Forms.Vectors.{point}
use Rattle.plane.specs.Rule.HalfArcs.{HalfArc, bend, circle_x, circle_y, power}
use Rattle.plane.specs.declared.kinds.Point.{Point}
use Rattle.plane.proofs.Algebra.Laws.{product_nonnegative, product_positive, square_nonnegative}
use Rattle.plane.proofs.Algebra.Ring.{Expr, at, minus, num, plus, ring, times, vars}
use Rattle.plane.proofs.Algebra.Scaling.{product_negative, times_le}

-- the power of a point seen from the circle's first point
abbrev form : ℤ → ℤ → ℤ → ℤ → ℤ → ℤ
form d a b x y = d *ℤ ((d *ℤ ((x *ℤ x) +ℤ (y *ℤ y))) -ℤ (((a *ℤ x) +ℤ (b *ℤ y)) *ℤ pos 1))

abbrev FORM : Expr → Expr → Expr → Expr → Expr → Expr → Expr
FORM D A B x y n =
    times D (minus (times D (plus (times x x) (times y y)))
    (times (plus (times A x) (times B y)) n))

-- the same with the scale n
abbrev scaled : ℤ → ℤ → ℤ → ℤ → ℤ → ℤ → ℤ
scaled d a b x y n = d *ℤ ((d *ℤ ((x *ℤ x) +ℤ (y *ℤ y))) -ℤ (((a *ℤ x) +ℤ (b *ℤ y)) *ℤ n))

scale : (d a b x y n : ℤ) → (n *ℤ n) *ℤ form d a b x y ≡ scaled d a b (n *ℤ x) (n *ℤ y) n
scale d a b x y n =
    let N = at 5 in
    ring (times (times N N) (FORM (at 0) (at 1) (at 2) (at 3) (at 4) (num (pos 1))))
    (FORM (at 0) (at 1) (at 2) (times N (at 3)) (times N (at 4)) N)
    (vars (d ∷ a ∷ b ∷ x ∷ y ∷ n ∷ [])) refl

abbrev square : ℤ → ℤ → ℤ
square x y = (x *ℤ x) +ℤ (y *ℤ y)

-- with p at (x, y), q at (x + ux, y + uy), v at (x + vx, y + vy) and the weights n - s - t, s and t
mean : (d a b x y ux uy vx vy n s t : ℤ)
    → scaled d a b ((n *ℤ x) +ℤ ((s *ℤ ux) +ℤ (t *ℤ vx))) ((n *ℤ y) +ℤ ((s *ℤ uy) +ℤ (t *ℤ vy))) n
    ≡ (n *ℤ (((((n -ℤ s) -ℤ t) *ℤ form d a b x y) +ℤ (s *ℤ form d a b (x +ℤ ux) (y +ℤ uy)))
    +ℤ (t *ℤ form d a b (x +ℤ vx) (y +ℤ vy))))
    -ℤ ((d *ℤ d)
    *ℤ ((((((n -ℤ s) -ℤ t) *ℤ s) *ℤ square ux uy) +ℤ ((((n -ℤ s) -ℤ t) *ℤ t) *ℤ square vx vy))
    +ℤ ((s *ℤ t) *ℤ square (ux -ℤ vx) (uy -ℤ vy))))
mean d a b x y ux uy vx vy n s t =
    let F : Expr → Expr → Expr = λ x y. FORM (at 0) (at 1) (at 2) x y (num (pos 1)) in
    let D = at 0 in
    let X = at 3 in
    let Y = at 4 in let UX = at 5 in let UY = at 6 in let VX = at 7 in let VY = at 8 in
    let N = at 9 in let S = at 10 in let T = at 11 in
    let R = minus (minus N S) T in
    let Q : Expr → Expr → Expr = λ x y. plus (times x x) (times y y) in
    ring (FORM (at 0) (at 1) (at 2) (plus (times N X) (plus (times S UX) (times T VX)))
    (plus (times N Y) (plus (times S UY) (times T VY))) N)
    (minus (times N
    (plus (plus (times R (F X Y)) (times S (F (plus X UX) (plus Y UY))))
    (times T (F (plus X VX) (plus Y VY)))))
    (times (times D D)
    (plus (plus (times (times R S) (Q UX UY)) (times (times R T) (Q VX VY)))
    (times (times S T) (Q (minus UX VX) (minus UY VY))))))
    (vars (d ∷ a ∷ b ∷ x ∷ y ∷ ux ∷ uy ∷ vx ∷ vy ∷ n ∷ s ∷ t ∷ [])) refl

square_least : (x y : ℤ) → pos 0 ≤ℤ square x y
square_least x y =
    let a = square_nonnegative x in let b = square_nonnegative y in omega (arith, ints, a, b)

most : (s f : ℤ) → pos 0 ≤ℤ s → f ≤ℤ pos 0 → (s *ℤ f) ≤ℤ pos 0
most s f h k =
    let p = times_le s f (pos 0) h k in
    let z : s *ℤ pos 0 ≡ pos 0 = omega (arith, ints) in omega (arith, ints, p, z)

-- the point z where n (z - p) = s u + t v
form_inside : (d a b x y ux uy vx vy zx zy n s t : ℤ) → pos 0 <ℤ n → pos 0 ≤ℤ ((n -ℤ s) -ℤ t)
    → pos 0 ≤ℤ s → pos 0 <ℤ t
    → n *ℤ zx ≡ (n *ℤ x) +ℤ ((s *ℤ ux) +ℤ (t *ℤ vx))
    → n *ℤ zy ≡ (n *ℤ y) +ℤ ((s *ℤ uy) +ℤ (t *ℤ vy))
    → form d a b x y ≤ℤ pos 0 → form d a b (x +ℤ ux) (y +ℤ uy) ≤ℤ pos 0
    → form d a b (x +ℤ vx) (y +ℤ vy) <ℤ pos 0 → form d a b zx zy <ℤ pos 0
form_inside d a b x y ux uy vx vy zx zy n s t hn hr hs ht ex ey fp fq fv =
    let r = (n -ℤ s) -ℤ t in
    let t0 : pos 0 ≤ℤ t = omega (arith, ints, ht) in
    let e = scale d a b zx zy n ∙ ap (λ (v : ℤ). scaled d a b v (n *ℤ zy) n) ex
    ∙ ap (λ (v : ℤ). scaled d a b ((n *ℤ x) +ℤ ((s *ℤ ux) +ℤ (t *ℤ vx))) v n) ey
    ∙ mean d a b x y ux uy vx vy n s t in
    let one = most r (form d a b x y) hr fp in
    let two = most s (form d a b (x +ℤ ux) (y +ℤ uy)) hs fq in
    let three = product_negative t (form d a b (x +ℤ vx) (y +ℤ vy)) ht fv in
    let sum = product_negative n _ hn (add _ _ _ one two three) in
    let far = product_nonnegative (d *ℤ d) _ (square_nonnegative d)
    (add_least _ _ _
    (product_nonnegative (r *ℤ s) (square ux uy) (product_nonnegative r s hr hs)
    (square_least ux uy))
    (product_nonnegative (r *ℤ t) (square vx vy) (product_nonnegative r t hr t0)
    (square_least vx vy))
    (product_nonnegative (s *ℤ t) (square (ux -ℤ vx) (uy -ℤ vy)) (product_nonnegative s t hs t0)
    (square_least (ux -ℤ vx) (uy -ℤ vy)))) in
    below (n *ℤ n) (form d a b zx zy) (product_positive n n hn hn) (less _ _ _ e sum far)
  where
    add : (f g k : ℤ) → f ≤ℤ pos 0 → g ≤ℤ pos 0 → k <ℤ pos 0 → ((f +ℤ g) +ℤ k) <ℤ pos 0
    add f g k a b c = omega (arith, ints, a, b, c)

    add_least : (f g k : ℤ) → pos 0 ≤ℤ f → pos 0 ≤ℤ g → pos 0 ≤ℤ k → pos 0 ≤ℤ ((f +ℤ g) +ℤ k)
    add_least f g k a b c = omega (arith, ints, a, b, c)

    less : (f g k : ℤ) → f ≡ g -ℤ k → g <ℤ pos 0 → pos 0 ≤ℤ k → f <ℤ pos 0
    less f g k e a b = omega (arith, ints, e, a, b)

    below : (m f : ℤ) → pos 0 <ℤ m → (m *ℤ f) <ℤ pos 0 → f <ℤ pos 0
    below m f h k =
        by_lt_z f (pos 0) (λ l. l)
        (λ (l : pos 0 ≤ℤ f). let p = product_nonnegative m f (omega (arith, ints, h)) l in
        absurd (omega (arith, ints, p, k)))

-- a difference seen from the circle's first point
seen : (n f x z g : ℤ) → n *ℤ (z -ℤ x) ≡ g
    → n *ℤ (z -ℤ (f *ℤ pos 1)) ≡ (n *ℤ (x -ℤ (f *ℤ pos 1))) +ℤ g
seen n f x z g e =
    let r : n *ℤ (z -ℤ (f *ℤ pos 1)) ≡ (n *ℤ (x -ℤ (f *ℤ pos 1))) +ℤ (n *ℤ (z -ℤ x)) =
    ring (times (at 0) (minus (at 3) (times (at 1) (num (pos 1)))))
    (plus (times (at 0) (minus (at 2) (times (at 1) (num (pos 1)))))
    (times (at 0) (minus (at 3) (at 2)))) (vars (n ∷ f ∷ x ∷ z ∷ [])) refl in
    r ∙ ap (λ (v : ℤ). (n *ℤ (x -ℤ (f *ℤ pos 1))) +ℤ v) e

far_end : (f x z : ℤ) → z -ℤ (f *ℤ pos 1) ≡ (x -ℤ (f *ℤ pos 1)) +ℤ (z -ℤ x)
far_end f x z = omega (arith, ints)

-- z is a mean of p, q and v
pub inside_triangle : (h : HalfArc) (p q v z : Point) (n s t : ℤ) → pos 0 <ℤ n
    → pos 0 ≤ℤ ((n -ℤ s) -ℤ t) → pos 0 ≤ℤ s → pos 0 <ℤ t
    → n *ℤ (z.x -ℤ p.x) ≡ (s *ℤ (q.x -ℤ p.x)) +ℤ (t *ℤ (v.x -ℤ p.x))
    → n *ℤ (z.y -ℤ p.y) ≡ (s *ℤ (q.y -ℤ p.y)) +ℤ (t *ℤ (v.y -ℤ p.y))
    → power h (point p) ≤ℤ pos 0 → power h (point q) ≤ℤ pos 0 → power h (point v) <ℤ pos 0
    → power h (point z) <ℤ pos 0
unfolding power
inside_triangle h p q v z n s t hn hr hs ht ex ey fp fq fv =
    let fx = h.from.x in
    let fy = h.from.y in
    let F : ℤ → ℤ → ℤ = form (bend h) (circle_x h) (circle_y h) in
    form_inside (bend h) (circle_x h) (circle_y h) (p.x -ℤ (fx *ℤ pos 1)) (p.y -ℤ (fy *ℤ pos 1))
    (q.x -ℤ p.x) (q.y -ℤ p.y) (v.x -ℤ p.x) (v.y -ℤ p.y)
    (z.x -ℤ (fx *ℤ pos 1)) (z.y -ℤ (fy *ℤ pos 1)) n s t hn hr hs ht (seen n fx p.x z.x _ ex)
    (seen n fy p.y z.y _ ey) fp
    (moved_most _ _ (ap (λ (v : ℤ). F v (q.y -ℤ (fy *ℤ pos 1))) (far_end fx p.x q.x)
    ∙ ap (λ (v : ℤ). F ((p.x -ℤ (fx *ℤ pos 1)) +ℤ (q.x -ℤ p.x)) v) (far_end fy p.y q.y)) fq)
    (moved_less _ _ (ap (λ (w : ℤ). F w (v.y -ℤ (fy *ℤ pos 1))) (far_end fx p.x v.x)
    ∙ ap (λ (w : ℤ). F ((p.x -ℤ (fx *ℤ pos 1)) +ℤ (v.x -ℤ p.x)) w) (far_end fy p.y v.y)) fv)
  where
    moved_most : (f g : ℤ) → f ≡ g → f ≤ℤ pos 0 → g ≤ℤ pos 0
    moved_most f g e l = omega (arith, ints, e, l)

    moved_less : (f g : ℤ) → f ≡ g → f <ℤ pos 0 → g <ℤ pos 0
    moved_less f g e l = omega (arith, ints, e, l)
