-- Two parallel straights with a common place: an end of one is on the other.
use Rattle.std.proofs.Common.{◌≡◌, ◌⊎◌, inl, inr, ℤ, pos, ◌+ℤ◌, ◌*ℤ◌, ◌-ℤ◌, ◌<ℤ◌, ◌≤ℤ◌, [], ◌∷◌}
use Rattle.std.proofs.Common.{refl, ap, sym, ◌∙◌, arith}
use Rattle.std.proofs.lemmas.Int.{ints, by_lt_z}
use Rattle.plane.specs.declared.kinds.Point.{Point}
use Rattle.plane.specs.Rule.MeetingPlaces.{turning}
use Rattle.plane.specs.Rule.Places.{Vector, Place, point}
use Rattle.plane.specs.Rule.Straights.{turn, dot, IsOnStraight}
use Rattle.plane.proofs.Algebra.Laws.{product_nonnegative, product_positive, square_nonnegative}
use Rattle.plane.proofs.Algebra.Laws.{square_zero}
use Rattle.plane.proofs.Algebra.Ring.{Expr, at, num, plus, minus, times, vars, ring}
use Rattle.plane.proofs.Algebra.Scaling.{cancel_le, cancel_zero, product_of_zero}

-- ---- signs of products
below_above : (x y : ℤ) → x ≤ℤ pos 0 → pos 0 ≤ℤ y → (x *ℤ y) ≤ℤ pos 0
below_above x y h k =
    let p = product_nonnegative (pos 0 -ℤ x) y (omega (arith, ints, h)) k in
    let i = ring (times (minus (num (pos 0)) (at 0)) (at 1))
    (minus (num (pos 0)) (times (at 0) (at 1))) (vars (x ∷ y ∷ [])) refl in
    omega (arith, ints, p, i)

above_below : (x y : ℤ) → pos 0 ≤ℤ x → y ≤ℤ pos 0 → (x *ℤ y) ≤ℤ pos 0
above_below x y h k =
    let p = below_above y x k h in
    let i = ring (times (at 0) (at 1)) (times (at 1) (at 0)) (vars (x ∷ y ∷ [])) refl in
    omega (arith, ints, p, i)

after_positive : (x y : ℤ) → (x *ℤ y) ≤ℤ pos 0 → pos 0 <ℤ x → y ≤ℤ pos 0
after_positive x y h k =
    by_lt_z (pos 0) y (λ (l : pos 0 <ℤ y). let p = product_positive x y k l in
    absurd (omega (arith, ints, p, h))) (λ (l : y ≤ℤ pos 0). l)

after_negative : (x y : ℤ) → (x *ℤ y) ≤ℤ pos 0 → x <ℤ pos 0 → pos 0 ≤ℤ y
after_negative x y h k = by_lt_z y (pos 0)
    (λ (l : y <ℤ pos 0).
    let p = product_positive (pos 0 -ℤ x) (pos 0 -ℤ y) (omega (arith, ints, k))
    (omega (arith, ints, l)) in
    let i = ring (times (minus (num (pos 0)) (at 0)) (minus (num (pos 0)) (at 1)))
    (times (at 0) (at 1)) (vars (x ∷ y ∷ [])) refl in
    absurd (omega (arith, ints, p, i, h)))
    (λ (l : pos 0 ≤ℤ y). l)

-- Of two intervals that both hold 0, one has an end of the other.
ends_meet : (a b e f : ℤ) → b <ℤ a → (a *ℤ b) ≤ℤ pos 0 → (e *ℤ f) ≤ℤ pos 0
    → (((e -ℤ a) *ℤ (e -ℤ b)) ≤ℤ pos 0)
    ⊎ ((((f -ℤ a) *ℤ (f -ℤ b)) ≤ℤ pos 0) ⊎ (((a -ℤ e) *ℤ (a -ℤ f)) ≤ℤ pos 0))
ends_meet a b e f l h k =
    by_lt_z a e
    (λ (g : a <ℤ e). by_lt_z f b
    (λ (j : f <ℤ b). inr
    (inr (below_above (a -ℤ e) (a -ℤ f) (omega (arith, ints, g)) (omega (arith, ints, j, l)))))
    (λ (j : b ≤ℤ f). inr
    (inl (below_above (f -ℤ a) (f -ℤ b)
    (let s = after_positive e f k (omega (arith, ints, g, up)) in
    omega (arith, ints, s, up)) (omega (arith, ints, j))))))
    (λ (g : e ≤ℤ a). by_lt_z e b
    (λ (j : e <ℤ b). by_lt_z a f
    (λ (m : a <ℤ f). inr
    (inr (above_below (a -ℤ e) (a -ℤ f) (omega (arith, ints, g)) (omega (arith, ints, m)))))
    (λ (m : f ≤ℤ a). inr
    (inl (below_above (f -ℤ a) (f -ℤ b) (omega (arith, ints, m))
    (let s = after_negative e f k (omega (arith, ints, j, down)) in
    omega (arith, ints, s, down))))))
    (λ (j : b ≤ℤ e). inl
    (below_above (e -ℤ a) (e -ℤ b) (omega (arith, ints, g)) (omega (arith, ints, j)))))
  where
    up : pos 0 ≤ℤ a
    up = by_lt_z a (pos 0) (λ (g : a <ℤ pos 0). let s = after_negative a b h g in
        absurd (omega (arith, ints, s, l, g))) (λ (g : pos 0 ≤ℤ a). g)

    down : b ≤ℤ pos 0
    down = by_lt_z (pos 0) a (λ (g : pos 0 <ℤ a). after_positive a b h g)
        (λ (g : a ≤ℤ pos 0). omega (arith, ints, g, l))

-- ---- turns and dot products of two steps
abbrev cr : ℤ → ℤ → ℤ → ℤ → ℤ
cr x y s t = (x *ℤ t) -ℤ (y *ℤ s)

abbrev dp : ℤ → ℤ → ℤ → ℤ → ℤ
dp x y s t = (x *ℤ s) +ℤ (y *ℤ t)

CR : Expr → Expr → Expr → Expr → Expr
CR x y s t = minus (times x t) (times y s)

DP : Expr → Expr → Expr → Expr → Expr
DP x y s t = plus (times x s) (times y t)

-- what is parallel to u is parallel
both_parallel : (ux uy vx vy wx wy : ℤ) → pos 0 <ℤ dp ux uy ux uy → cr ux uy vx vy ≡ pos 0
    → cr ux uy wx wy ≡ pos 0 → cr vx vy wx wy ≡ pos 0
unfolding CR DP
both_parallel ux uy vx vy wx wy U h k =
    let i = ring (times (DP (at 0) (at 1) (at 0) (at 1)) (CR (at 2) (at 3) (at 4) (at 5)))
    (minus (times (DP (at 0) (at 1) (at 2) (at 3)) (CR (at 0) (at 1) (at 4) (at 5)))
    (times (DP (at 0) (at 1) (at 4) (at 5)) (CR (at 0) (at 1) (at 2) (at 3))))
    (vars (ux ∷ uy ∷ vx ∷ vy ∷ wx ∷ wy ∷ [])) refl in
    let a = product_of_zero (dp ux uy vx vy) (cr ux uy wx wy) k in
    let b = product_of_zero (dp ux uy wx wy) (cr ux uy vx vy) h in
    cancel_zero (dp ux uy ux uy) (cr vx vy wx wy) U (omega (arith, ints, i, a, b))

-- of steps of which one is parallel to u, the dot product has the sign of that of their ways along
-- u
module _ (ux uy px py qx qy : ℤ) (U : pos 0 <ℤ dp ux uy ux uy) (h : cr ux uy px py ≡ pos 0) where
  dots : dp ux uy ux uy *ℤ dp px py qx qy ≡ dp ux uy px py *ℤ dp ux uy qx qy
  unfolding CR DP
  dots =
      let i = ring (times (DP (at 0) (at 1) (at 0) (at 1)) (DP (at 2) (at 3) (at 4) (at 5)))
      (plus (times (DP (at 0) (at 1) (at 2) (at 3)) (DP (at 0) (at 1) (at 4) (at 5)))
      (times (CR (at 0) (at 1) (at 4) (at 5)) (CR (at 0) (at 1) (at 2) (at 3))))
      (vars (ux ∷ uy ∷ px ∷ py ∷ qx ∷ qy ∷ [])) refl in
      let a = product_of_zero (cr ux uy qx qy) (cr ux uy px py) h in
      omega (arith, ints, i, a)

  ways_differ : dp px py qx qy ≤ℤ pos 0 → (dp ux uy px py *ℤ dp ux uy qx qy) ≤ℤ pos 0
  ways_differ k =
      let d = dots in
      let l = above_below (dp ux uy ux uy) (dp px py qx qy) (omega (arith, ints, U)) k in
      omega (arith, ints, d, l)

  dots_differ : (dp ux uy px py *ℤ dp ux uy qx qy) ≤ℤ pos 0 → dp px py qx qy ≤ℤ pos 0
  dots_differ k =
      let d = dots in
      by_lt_z (pos 0) (dp px py qx qy)
      (λ (l : pos 0 <ℤ dp px py qx qy). let p = product_positive (dp ux uy ux uy)
      (dp px py qx qy) U l in absurd (omega (arith, ints, d, p, k)))
      (λ (l : dp px py qx qy ≤ℤ pos 0). l)

-- ---- points and a place
-- the step from a point to the place, times its n
abbrev sx : Vector → Point → ℤ
sx z p = z.x -ℤ (z.n *ℤ p.x)

abbrev sy : Vector → Point → ℤ
sy z p = z.y -ℤ (z.n *ℤ p.y)

turn_step : (a b : Point) (z : Vector)
    → turn (point a) (point b) z ≡ cr (b.x -ℤ a.x) (b.y -ℤ a.y) (sx z a) (sy z a)
unfolding CR
turn_step a b z =
    let O = num (pos 1) in
    ring (minus (times (minus (times (at 2) O) (times (at 0) O))
    (minus (times (at 5) O) (times (at 1) (at 6))))
    (times (minus (times (at 3) O) (times (at 1) O))
    (minus (times (at 4) O) (times (at 0) (at 6)))))
    (CR (minus (at 2) (at 0)) (minus (at 3) (at 1)) (minus (at 4) (times (at 6) (at 0)))
    (minus (at 5) (times (at 6) (at 1))))
    (vars (a.x ∷ a.y ∷ b.x ∷ b.y ∷ z.x ∷ z.y ∷ z.n ∷ [])) refl

dot_step : (a b : Point) (z : Vector)
    → dot (point a) (point b) z ≡ dp (sx z a) (sy z a) (sx z b) (sy z b)
unfolding DP
dot_step a b z =
    let O = num (pos 1) in
    ring (plus (times (minus (times (at 0) (at 6)) (times (at 4) O))
    (minus (times (at 2) (at 6)) (times (at 4) O)))
    (times (minus (times (at 1) (at 6)) (times (at 5) O))
    (minus (times (at 3) (at 6)) (times (at 5) O))))
    (DP (minus (at 4) (times (at 6) (at 0))) (minus (at 5) (times (at 6) (at 1)))
    (minus (at 4) (times (at 6) (at 2))) (minus (at 5) (times (at 6) (at 3))))
    (vars (a.x ∷ a.y ∷ b.x ∷ b.y ∷ z.x ∷ z.y ∷ z.n ∷ [])) refl

-- the same of a point e, by steps to the place
turn_point : (a b e : Point) (z : Vector)
    → z.n *ℤ turn (point a) (point b) (point e)
    ≡ cr (b.x -ℤ a.x) (b.y -ℤ a.y) (sx z a) (sy z a)
    -ℤ cr (b.x -ℤ a.x) (b.y -ℤ a.y) (sx z e) (sy z e)
unfolding CR
turn_point a b e z =
    let O = num (pos 1) in
    let ux = minus (at 2) (at 0) in
    let uy = minus (at 3) (at 1) in
    ring (times (at 8)
    (minus (times (minus (times (at 2) O) (times (at 0) O))
    (minus (times (at 5) O) (times (at 1) O)))
    (times (minus (times (at 3) O) (times (at 1) O))
    (minus (times (at 4) O) (times (at 0) O)))))
    (minus (CR ux uy (minus (at 6) (times (at 8) (at 0))) (minus (at 7) (times (at 8) (at 1))))
    (CR ux uy (minus (at 6) (times (at 8) (at 4))) (minus (at 7) (times (at 8) (at 5)))))
    (vars (a.x ∷ a.y ∷ b.x ∷ b.y ∷ e.x ∷ e.y ∷ z.x ∷ z.y ∷ z.n ∷ [])) refl

dot_point : (a b e : Point) (z : Vector)
    → (z.n *ℤ z.n) *ℤ dot (point a) (point b) (point e)
    ≡ dp (sx z e -ℤ sx z a) (sy z e -ℤ sy z a) (sx z e -ℤ sx z b) (sy z e -ℤ sy z b)
unfolding DP
dot_point a b e z =
    let O = num (pos 1) in
    let X : Expr → Expr = λ p. minus (at 6) (times (at 8) p) in
    let Y : Expr → Expr = λ p. minus (at 7) (times (at 8) p) in
    ring (times (times (at 8) (at 8))
    (plus (times (minus (times (at 0) O) (times (at 4) O))
    (minus (times (at 2) O) (times (at 4) O)))
    (times (minus (times (at 1) O) (times (at 5) O))
    (minus (times (at 3) O) (times (at 5) O)))))
    (DP (minus (X (at 4)) (X (at 0))) (minus (Y (at 5)) (Y (at 1))) (minus (X (at 4)) (X (at 2)))
    (minus (Y (at 5)) (Y (at 3))))
    (vars (a.x ∷ a.y ∷ b.x ∷ b.y ∷ e.x ∷ e.y ∷ z.x ∷ z.y ∷ z.n ∷ [])) refl

-- steps add up
way_between : (wx wy sx sy tx ty : ℤ)
    → dp wx wy (sx -ℤ tx) (sy -ℤ ty) ≡ dp wx wy sx sy -ℤ dp wx wy tx ty
unfolding DP
way_between wx wy sx sy tx ty =
    ring (DP (at 0) (at 1) (minus (at 2) (at 4)) (minus (at 3) (at 5)))
    (minus (DP (at 0) (at 1) (at 2) (at 3)) (DP (at 0) (at 1) (at 4) (at 5)))
    (vars (wx ∷ wy ∷ sx ∷ sy ∷ tx ∷ ty ∷ [])) refl

turn_between : (wx wy sx sy tx ty : ℤ)
    → cr wx wy (sx -ℤ tx) (sy -ℤ ty) ≡ cr wx wy sx sy -ℤ cr wx wy tx ty
unfolding CR
turn_between wx wy sx sy tx ty =
    ring (CR (at 0) (at 1) (minus (at 2) (at 4)) (minus (at 3) (at 5)))
    (minus (CR (at 0) (at 1) (at 2) (at 3)) (CR (at 0) (at 1) (at 4) (at 5)))
    (vars (wx ∷ wy ∷ sx ∷ sy ∷ tx ∷ ty ∷ [])) refl

abbrev point_at : ℤ → ℤ → Point
point_at x y = record { x = x; y = y }

-- the length of a straight
long : (a b : Point) → (a ≡ b → ⊥) → pos 0 <ℤ dp (b.x -ℤ a.x) (b.y -ℤ a.y) (b.x -ℤ a.x) (b.y -ℤ a.y)
long a b d =
    let x = b.x -ℤ a.x in
    let y = b.y -ℤ a.y in
    let p = square_nonnegative x in
    let q = square_nonnegative y in
    by_lt_z (pos 0) (dp x y x y) (λ l. l)
    (λ (l : dp x y x y ≤ℤ pos 0).
    let x0 = square_zero x (omega (arith, ints, p, q, l)) in
    let y0 = square_zero y (omega (arith, ints, p, q, l)) in
    absurd (d (same_point a b (omega (arith, ints, x0)) (omega (arith, ints, y0)))))
  where
    same_point : (p q : Point) → p.x ≡ q.x → p.y ≡ q.y → p ≡ q
    same_point p q e f = ap (λ (x : ℤ). point_at x p.y) e ∙ ap (λ (y : ℤ). point_at q.x y) f

-- A point is on a straight where it and the straight's ends are on one line with the place, and the
-- point's way along a step w is between those of the ends.
point_inside : (a b e : Point) (z : Vector) (wx wy : ℤ) → Place z → pos 0 <ℤ dp wx wy wx wy
    → cr wx wy (sx z a) (sy z a) ≡ pos 0 → cr wx wy (sx z e) (sy z e) ≡ pos 0
    → cr (b.x -ℤ a.x) (b.y -ℤ a.y) (sx z a) (sy z a) ≡ pos 0
    → cr (b.x -ℤ a.x) (b.y -ℤ a.y) (sx z e) (sy z e) ≡ pos 0
    → ((dp wx wy (sx z e) (sy z e) -ℤ dp wx wy (sx z a) (sy z a))
    *ℤ (dp wx wy (sx z e) (sy z e) -ℤ dp wx wy (sx z b) (sy z b))) ≤ℤ pos 0
    → IsOnStraight (point a) (point b) (point e)
point_inside a b e z wx wy Z W wa we ua ue h = record {
  line = cancel_zero z.n (turn (point a) (point b) (point e)) Z (let t = turn_point a b e z in
      omega (arith, ints, t, ua, ue));
  between =
      let px = sx z e -ℤ sx z a in
      let py = sy z e -ℤ sy z a in
      let qx = sx z e -ℤ sx z b in
      let qy = sy z e -ℤ sy z b in
      let c = turn_between wx wy (sx z e) (sy z e) (sx z a) (sy z a) in
      let p = way_between wx wy (sx z e) (sy z e) (sx z a) (sy z a) in
      let q = way_between wx wy (sx z e) (sy z e) (sx z b) (sy z b) in
      let k : (dp wx wy px py *ℤ dp wx wy qx qy) ≤ℤ pos 0 = rw (p, q) h in
      let l = dots_differ wx wy px py qx qy W (omega (arith, ints, c, wa, we)) k in
      let d = dot_point a b e z in
      let zero = product_of_zero (z.n *ℤ z.n) (pos 0) refl in
      cancel_le (z.n *ℤ z.n) (dot (point a) (point b) (point e)) (pos 0)
      (product_positive z.n z.n Z Z) (omega (arith, ints, d, l, zero));
}

-- ---- two straights
module _ (a b e f : Point) (z : Vector) (first_long : a ≡ b → ⊥) (second_long : e ≡ f → ⊥)
    (Z : Place z) (on_first : IsOnStraight (point a) (point b) z)
    (on_second : IsOnStraight (point e) (point f) z)
    (parallel : turning a b e f ≡ pos 0) where
  abbrev ux : ℤ
  ux = b.x -ℤ a.x

  abbrev uy : ℤ
  uy = b.y -ℤ a.y

  abbrev vx : ℤ
  vx = f.x -ℤ e.x

  abbrev vy : ℤ
  vy = f.y -ℤ e.y

  U : pos 0 <ℤ dp ux uy ux uy
  U = long a b first_long

  V : pos 0 <ℤ dp vx vy vx vy
  V = long e f second_long

  abbrev way : Point → ℤ
  way p = dp ux uy (sx z p) (sy z p)

  u_a : cr ux uy (sx z a) (sy z a) ≡ pos 0
  u_a = sym (turn_step a b z) ∙ on_first.line

  v_e : cr vx vy (sx z e) (sy z e) ≡ pos 0
  v_e = sym (turn_step e f z) ∙ on_second.line

  v_u : cr vx vy ux uy ≡ pos 0
  unfolding CR
  v_u =
      let i = ring (CR (at 2) (at 3) (at 0) (at 1))
      (minus (num (pos 0)) (CR (at 0) (at 1) (at 2) (at 3)))
      (vars (ux ∷ uy ∷ vx ∷ vy ∷ [])) refl in
      omega (arith, ints, i, parallel)

  u_e : cr ux uy (sx z e) (sy z e) ≡ pos 0
  u_e = both_parallel vx vy ux uy (sx z e) (sy z e) V v_u v_e

  v_a : cr vx vy (sx z a) (sy z a) ≡ pos 0
  v_a = both_parallel ux uy vx vy (sx z a) (sy z a) U parallel u_a

  u_f : cr ux uy (sx z f) (sy z f) ≡ pos 0
  unfolding CR
  u_f =
      let X : Expr → Expr = λ p. minus (at 6) (times (at 8) p) in
      let Y : Expr → Expr = λ p. minus (at 7) (times (at 8) p) in
      let i = ring (CR (at 0) (at 1) (X (at 4)) (Y (at 5)))
      (minus (CR (at 0) (at 1) (X (at 2)) (Y (at 3)))
      (times (at 8) (CR (at 0) (at 1) (minus (at 4) (at 2)) (minus (at 5) (at 3)))))
      (vars (ux ∷ uy ∷ e.x ∷ e.y ∷ f.x ∷ f.y ∷ z.x ∷ z.y ∷ z.n ∷ [])) refl in
      let k = product_of_zero z.n (turning a b e f) parallel in
      omega (arith, ints, i, k, u_e)

  first_ways : (way a *ℤ way b) ≤ℤ pos 0
  first_ways =
      ways_differ ux uy (sx z a) (sy z a) (sx z b) (sy z b) U u_a (let d = dot_step a b z in
      let h = on_first.between in omega (arith, ints, d, h))

  second_ways : (way e *ℤ way f) ≤ℤ pos 0
  second_ways =
      ways_differ ux uy (sx z e) (sy z e) (sx z f) (sy z f) U u_e (let d = dot_step e f z in
      let h = on_second.between in omega (arith, ints, d, h))

  rises : way b <ℤ way a
  unfolding DP
  rises =
      let X : Expr → Expr = λ p. minus (at 4) (times (at 6) p) in
      let Y : Expr → Expr = λ p. minus (at 5) (times (at 6) p) in
      let x = minus (at 2) (at 0) in
      let y = minus (at 3) (at 1) in
      let i = ring (minus (DP x y (X (at 0)) (Y (at 1))) (DP x y (X (at 2)) (Y (at 3))))
      (times (at 6) (DP x y x y)) (vars (a.x ∷ a.y ∷ b.x ∷ b.y ∷ z.x ∷ z.y ∷ z.n ∷ [])) refl in
      let p = product_positive z.n (dp ux uy ux uy) Z U in
      omega (arith, ints, i, p)

  pub an_end_meets : IsOnStraight (point a) (point b) (point e)
      ⊎ (IsOnStraight (point a) (point b) (point f) ⊎ IsOnStraight (point e) (point f) (point a))
  an_end_meets = elim (ends_meet (way a) (way b) (way e) (way f) rises first_ways second_ways) [
    | inl h ↦ inl (point_inside a b e z ux uy Z U u_a u_e u_a u_e h)
    | inr (inl h) ↦ inr (inl (point_inside a b f z ux uy Z U u_a u_f u_a u_f h))
    | inr (inr h) ↦ inr (inr (point_inside e f a z ux uy Z U u_e u_a v_e v_a h))
  ]
