-- Boxes that hold the cap of a half arc: the places that are not outside its circle and not on the
-- third point's side of its chord.
use Rattle.std.proofs.Common.{◌≡◌, ℤ, pos, ◌+ℤ◌, ◌*ℤ◌, ◌-ℤ◌, ◌<ℤ◌, ◌≤ℤ◌, [], ◌∷◌, refl, arith, ap}
use Rattle.std.proofs.lemmas.Int.{ints, by_lt_z}
use Rattle.plane.specs.Forms.Vectors.{Vector, Place}
use Rattle.plane.specs.Forms.Arcs.{HalfArc, wide, tall, third_x, third_y, off_x, off_y, bend}
use Rattle.plane.specs.Forms.Arcs.{circle_x, circle_y, facing, power, bow}
use Rattle.plane.proofs.Algebra.Laws.{product_positive, product_nonnegative, square_nonnegative}
use Rattle.plane.proofs.Algebra.Ring.{at, num, plus, minus, times, vars, ring}
use Rattle.plane.proofs.Caps.CapOver.{cancel_most}
use Rattle.plane.proofs.Algebra.Scaling.{times_le, cancel_le}

-- (z - from) . (z - to), times n n
unfoldable pub spread : HalfArc → Vector → ℤ
spread h z =
    (off_x h z *ℤ (off_x h z -ℤ (wide h *ℤ z.n))) +ℤ (off_y h z *ℤ (off_y h z -ℤ (tall h *ℤ z.n)))

-- the circle over the disc of its chord
pub power_over_disc : (h : HalfArc) (z : Vector)
    → power h z ≡ ((bend h *ℤ bend h) *ℤ spread h z) +ℤ ((facing h *ℤ bow h z) *ℤ z.n)
unfolding power bow bend facing circle_x circle_y spread
power_over_disc h z =
    let W = at 0 in let T = at 1 in let EX = at 2 in let EY = at 3 in
    let X = minus (at 6) (times (at 4) (at 8)) in
    let Y = minus (at 7) (times (at 5) (at 8)) in let N = at 8 in
    let D = minus (times W EY) (times T EX) in
    let L = plus (times W W) (times T T) in
    let E = plus (times EX EX) (times EY EY) in
    let A = minus (times L EY) (times E T) in
    let B = minus (times W E) (times EX L) in
    let M = plus (times EX (minus EX W)) (times EY (minus EY T)) in
    let P = times D
    (minus (times D (plus (times X X) (times Y Y))) (times (plus (times A X) (times B Y)) N)) in
    let G = minus (num (pos 0)) (times D (minus (times W Y) (times T X))) in
    let S = plus (times X (minus X (times W N))) (times Y (minus Y (times T N))) in
    ring P (plus (times (times D D) S) (times (times M G) N))
    (vars (wide h ∷ tall h ∷ third_x h ∷ third_y h ∷ h.from.x ∷ h.from.y ∷ z.x ∷ z.y ∷ z.n ∷ []))
    refl

-- the cap of a half arc of at most half a turn is in the disc over its chord
pub cap_in_disc : (h : HalfArc) (z : Vector) → Place z → pos 0 <ℤ (bend h *ℤ bend h)
    → pos 0 ≤ℤ facing h → power h z ≤ℤ pos 0 → pos 0 ≤ℤ bow h z → spread h z ≤ℤ pos 0
cap_in_disc h z place bent half low away =
    let e = power_over_disc h z in
    let g = product_nonnegative (facing h *ℤ bow h z) z.n
    (product_nonnegative (facing h) (bow h z) half away) (omega (arith, ints, place)) in
    cancel_most (bend h *ℤ bend h) (spread h z) bent (omega (arith, ints, e, g, low))

-- of two numbers of at least 0 the greater one has the greater square
square_above : (a b : ℤ) → pos 0 ≤ℤ b → b <ℤ a → (b *ℤ b) <ℤ (a *ℤ a)
square_above a b h k =
    let e = ring (times (minus (at 0) (at 1)) (plus (at 0) (at 1)))
    (minus (times (at 0) (at 0)) (times (at 1) (at 1))) (vars (a ∷ b ∷ [])) refl in
    let p = product_positive (a -ℤ b) (a +ℤ b) (omega (arith, ints, k))
    (omega (arith, ints, h, k)) in
    omega (arith, ints, e, p)

-- the two squares that the disc bounds
disc_squares : (h : HalfArc) (z : Vector)
    → (((pos 2 *ℤ off_x h z) -ℤ (wide h *ℤ z.n)) *ℤ ((pos 2 *ℤ off_x h z) -ℤ (wide h *ℤ z.n)))
    +ℤ (((pos 2 *ℤ off_y h z) -ℤ (tall h *ℤ z.n)) *ℤ ((pos 2 *ℤ off_y h z) -ℤ (tall h *ℤ z.n)))
    ≡ (pos 4 *ℤ spread h z) +ℤ (((wide h *ℤ wide h) +ℤ (tall h *ℤ tall h)) *ℤ (z.n *ℤ z.n))
unfolding spread
disc_squares h z =
    let W = at 0 in
    let T = at 1 in
    let X = minus (at 4) (times (at 2) (at 6)) in
    let Y = minus (at 5) (times (at 3) (at 6)) in let N = at 6 in
    let U = minus (times (num (pos 2)) X) (times W N) in
    let V = minus (times (num (pos 2)) Y) (times T N) in
    let S = plus (times X (minus X (times W N))) (times Y (minus Y (times T N))) in
    ring (plus (times U U) (times V V))
    (plus (times (num (pos 4)) S) (times (plus (times W W) (times T T)) (times N N)))
    (vars (wide h ∷ tall h ∷ h.from.x ∷ h.from.y ∷ z.x ∷ z.y ∷ z.n ∷ [])) refl

square_of : (r n : ℤ) → (r *ℤ n) *ℤ (r *ℤ n) ≡ (n *ℤ n) *ℤ (r *ℤ r)
square_of r n =
    ring (times (times (at 0) (at 1)) (times (at 0) (at 1)))
    (times (times (at 1) (at 1)) (times (at 0) (at 0))) (vars (r ∷ n ∷ [])) refl

pub swap : (a b : ℤ) → a *ℤ b ≡ b *ℤ a
swap a b = ring (times (at 0) (at 1)) (times (at 1) (at 0)) (vars (a ∷ b ∷ [])) refl

square_back : (a : ℤ) → (pos 0 -ℤ a) *ℤ (pos 0 -ℤ a) ≡ a *ℤ a
square_back a =
    ring (times (minus (num (pos 0)) (at 0)) (minus (num (pos 0)) (at 0))) (times (at 0) (at 0))
    (vars (a ∷ [])) refl

-- a number with a square of at most that of r n is at most r n
pub root_most : (a b : ℤ) → pos 0 ≤ℤ b → (a *ℤ a) ≤ℤ (b *ℤ b) → a ≤ℤ b
root_most a b least low =
    by_lt_z b a (λ l. absurd (let s = square_above a b least l in omega (arith, ints, s, low)))
    (λ g. g)

-- so it is in a box: r is at least as long as the chord
pub record InBand (h : HalfArc) (r : ℤ) (z : Vector) : Type 0 where
  pub right : ((pos 2 *ℤ off_x h z) -ℤ (wide h *ℤ z.n)) ≤ℤ (r *ℤ z.n)
  pub left : (pos 0 -ℤ ((pos 2 *ℤ off_x h z) -ℤ (wide h *ℤ z.n))) ≤ℤ (r *ℤ z.n)
  pub over : ((pos 2 *ℤ off_y h z) -ℤ (tall h *ℤ z.n)) ≤ℤ (r *ℤ z.n)
  pub under : (pos 0 -ℤ ((pos 2 *ℤ off_y h z) -ℤ (tall h *ℤ z.n))) ≤ℤ (r *ℤ z.n)

pub cap_in_box : (h : HalfArc) (r : ℤ) (z : Vector) → Place z → pos 0 ≤ℤ r
    → ((wide h *ℤ wide h) +ℤ (tall h *ℤ tall h)) ≤ℤ (r *ℤ r) → spread h z ≤ℤ pos 0 → InBand h r z
cap_in_box h r z place least long disc =
    let U = (pos 2 *ℤ off_x h z) -ℤ (wide h *ℤ z.n) in
    let V = (pos 2 *ℤ off_y h z) -ℤ (tall h *ℤ z.n) in
    let n2 = square_nonnegative z.n in
    let up = times_le (z.n *ℤ z.n) ((wide h *ℤ wide h) +ℤ (tall h *ℤ tall h)) (r *ℤ r) n2 long in
    let e = disc_squares h z in
    let c = swap ((wide h *ℤ wide h) +ℤ (tall h *ℤ tall h)) (z.n *ℤ z.n) in
    let q = square_of r z.n in
    let u = square_nonnegative U in
    let v = square_nonnegative V in
    let size = product_nonnegative r z.n least (omega (arith, ints, place)) in
    let u_low : (U *ℤ U) ≤ℤ ((r *ℤ z.n) *ℤ (r *ℤ z.n)) = omega
    (arith, ints, up, e, c, q, v, disc) in
    let v_low : (V *ℤ V) ≤ℤ ((r *ℤ z.n) *ℤ (r *ℤ z.n)) = omega
    (arith, ints, up, e, c, q, u, disc) in
    let bu = square_back U in
    let bv = square_back V in
    record {
      right = root_most U (r *ℤ z.n) size u_low;
      left = root_most (pos 0 -ℤ U) (r *ℤ z.n) size (omega (arith, ints, bu, u_low));
      over = root_most V (r *ℤ z.n) size v_low;
      under = root_most (pos 0 -ℤ V) (r *ℤ z.n) size (omega (arith, ints, bv, v_low));
    }

pub square_most : (a b : ℤ) → pos 0 ≤ℤ a → a ≤ℤ b → (a *ℤ a) ≤ℤ (b *ℤ b)
square_most a b least low =
    by_lt_z a b (λ l. let s = square_above b a least l in
    omega (arith, ints, s)) (λ g. let e : a ≡ b = omega (arith, ints, low, g) in
    let f = ap (λ (x : ℤ). x *ℤ x) e in omega (arith, ints, f))

-- ---- half arcs of any size: how far from its first end the places are that are not outside the
-- circle
-- the square of the circle's diameter, times D D, is the product of the squares of the triangle's
-- sides
pub circle_squares : (h : HalfArc) → (circle_x h *ℤ circle_x h) +ℤ (circle_y h *ℤ circle_y h)
    ≡ (((wide h *ℤ wide h) +ℤ (tall h *ℤ tall h))
    *ℤ ((third_x h *ℤ third_x h) +ℤ (third_y h *ℤ third_y h)))
    *ℤ (((third_x h -ℤ wide h) *ℤ (third_x h -ℤ wide h))
    +ℤ ((third_y h -ℤ tall h) *ℤ (third_y h -ℤ tall h)))
unfolding circle_x circle_y
circle_squares h =
    let W = at 0 in let T = at 1 in let EX = at 2 in let EY = at 3 in
    let L = plus (times W W) (times T T) in
    let E = plus (times EX EX) (times EY EY) in
    let A = minus (times L EY) (times E T) in
    let B = minus (times W E) (times EX L) in
    let F = plus (times (minus EX W) (minus EX W)) (times (minus EY T) (minus EY T)) in
    ring (plus (times A A) (times B B)) (times (times L E) F)
    (vars (wide h ∷ tall h ∷ third_x h ∷ third_y h ∷ [])) refl

-- D (D q - s n) of at most 0 bounds q, where s s is at most k q
bounded : (D q s k n : ℤ) → pos 0 <ℤ (D *ℤ D) → pos 0 ≤ℤ q → pos 0 ≤ℤ k → (s *ℤ s) ≤ℤ (k *ℤ q)
    → (D *ℤ ((D *ℤ q) -ℤ (s *ℤ n))) ≤ℤ pos 0 → ((D *ℤ D) *ℤ q) ≤ℤ (k *ℤ (n *ℤ n))
bounded D q s k n bent least kept chord in_circle =
    let n2 = square_nonnegative n in
    let kn = product_nonnegative k (n *ℤ n) kept n2 in
    by_lt_z (pos 0) q
    (λ some.
    let left : pos 0 ≤ℤ ((D *ℤ D) *ℤ q) = product_nonnegative (D *ℤ D) q
    (omega (arith, ints, bent)) least in
    let one = ring (times (at 0) (minus (times (at 0) (at 1)) (times (at 2) (at 3))))
    (minus (times (times (at 0) (at 0)) (at 1)) (times (at 0) (times (at 2) (at 3))))
    (vars (D ∷ q ∷ s ∷ n ∷ [])) refl in
    let most : ((D *ℤ D) *ℤ q) ≤ℤ (D *ℤ (s *ℤ n)) = omega (arith, ints, one, in_circle) in
    let squares : (((D *ℤ D) *ℤ q) *ℤ ((D *ℤ D) *ℤ q)) ≤ℤ
    ((D *ℤ (s *ℤ n)) *ℤ (D *ℤ (s *ℤ n))) =
    square_most ((D *ℤ D) *ℤ q) (D *ℤ (s *ℤ n)) left most in
    let two = ring (times (times (at 0) (times (at 1) (at 2))) (times (at 0) (times (at 1) (at 2))))
    (times (times (times (at 0) (at 0)) (times (at 2) (at 2))) (times (at 1) (at 1)))
    (vars (D ∷ s ∷ n ∷ [])) refl in
    let dn = product_nonnegative (D *ℤ D) (n *ℤ n) (omega (arith, ints, bent)) n2 in
    let three = times_le ((D *ℤ D) *ℤ (n *ℤ n)) (s *ℤ s) (k *ℤ q) dn chord in
    let four = ring
    (times (times (times (at 0) (at 0)) (times (at 3) (at 3))) (times (at 2) (at 1)))
    (times (times (times (at 0) (at 0)) (at 1)) (times (at 2) (times (at 3) (at 3))))
    (vars (D ∷ q ∷ k ∷ n ∷ [])) refl in
    let whole : pos 0 <ℤ ((D *ℤ D) *ℤ q) = product_positive (D *ℤ D) q bent some in
    cancel_le ((D *ℤ D) *ℤ q) ((D *ℤ D) *ℤ q) (k *ℤ (n *ℤ n)) whole
    (omega (arith, ints, squares, two, three, four)))
    (λ none. let z : q ≡ pos 0 = omega (arith, ints, none, least) in
    let e = ap (λ (x : ℤ). (D *ℤ D) *ℤ x) z in let f = swap (D *ℤ D) (pos 0) in
    omega (arith, ints, e, f, kn))

pub inside_is_near : (h : HalfArc) (z : Vector) → pos 0 <ℤ (bend h *ℤ bend h) → power h z ≤ℤ pos 0
    → ((bend h *ℤ bend h) *ℤ ((off_x h z *ℤ off_x h z) +ℤ (off_y h z *ℤ off_y h z))) ≤ℤ
    (((circle_x h *ℤ circle_x h) +ℤ (circle_y h *ℤ circle_y h)) *ℤ (z.n *ℤ z.n))
unfolding power
inside_is_near h z bent low =
    let X = off_x h z in
    let Y = off_y h z in
    let A = circle_x h in
    let B = circle_y h in
    let x2 = square_nonnegative X in
    let y2 = square_nonnegative Y in
    let a2 = square_nonnegative A in
    let b2 = square_nonnegative B in
    let cross = square_nonnegative ((A *ℤ Y) -ℤ (B *ℤ X)) in
    let e = ring
    (plus (times (plus (times (at 0) (at 2)) (times (at 1) (at 3)))
    (plus (times (at 0) (at 2)) (times (at 1) (at 3))))
    (times (minus (times (at 0) (at 3)) (times (at 1) (at 2)))
    (minus (times (at 0) (at 3)) (times (at 1) (at 2)))))
    (times (plus (times (at 0) (at 0)) (times (at 1) (at 1)))
    (plus (times (at 2) (at 2)) (times (at 3) (at 3)))) (vars (A ∷ B ∷ X ∷ Y ∷ [])) refl in
    bounded (bend h) ((X *ℤ X) +ℤ (Y *ℤ Y)) ((A *ℤ X) +ℤ (B *ℤ Y)) ((A *ℤ A) +ℤ (B *ℤ B)) z.n bent
    (omega (arith, ints, x2, y2)) (omega (arith, ints, a2, b2))
    (omega (arith, ints, e, cross)) low
