-- Of two points beside a span, the one that is enough below the other is in the triangle of the
-- span's ends and that other point.
use Rattle.std.proofs.Common.{◌≡◌, ℤ, pos, ◌+ℤ◌, ◌*ℤ◌, ◌-ℤ◌, ◌<ℤ◌, ◌≤ℤ◌, [], ◌∷◌, refl, arith, ap}
use Rattle.std.proofs.Common.{◌∙◌}
use Rattle.std.proofs.lemmas.Int.{ints, by_lt_z}
use Rattle.plane.proofs.Algebra.Laws.{product_nonnegative, product_positive}
use Rattle.plane.proofs.Algebra.Ring.{at, minus, num, plus, ring, times, vars}
use Rattle.plane.proofs.Algebra.Scaling.{cancel_le, cancel_lt, times_le}
use Rattle.tubes.proofs.PlacedPoints.{DOT, IsPlaced, along, dot, over_least, overs, parts, sizes}
use Rattle.tubes.proofs.PlacedPoints.{sizes_least, sizes_most, under_least, unders}

-- ---- the weights
-- c and d are how far the two places are over the span, k and m bound them by e
width : (l e s c d k m : ℤ) → pos 0 <ℤ e → pos 0 ≤ℤ s → pos 0 ≤ℤ m → ((pos 2 *ℤ l) *ℤ c) ≤ℤ (k *ℤ e)
    → (m *ℤ e) ≤ℤ ((pos 2 *ℤ l) *ℤ (c -ℤ d))
    → (pos 3 *ℤ k) ≤ℤ (m *ℤ l) → ((pos 2 *ℤ l) *ℤ s) ≤ℤ (pos 3 *ℤ e)
    → ((pos 2 *ℤ l) *ℤ (s *ℤ c)) ≤ℤ (l *ℤ (e *ℤ (c -ℤ d)))
width l e s c d k m he hs hm hc hd hk hl =
    let e0 : pos 0 ≤ℤ e = omega (arith, ints, he) in
    let a = times_le (pos 6 *ℤ s) ((pos 2 *ℤ l) *ℤ c) (k *ℤ e) (omega (arith, ints, hs)) hc in
    let b = times_le (pos 2 *ℤ (s *ℤ e)) (pos 3 *ℤ k) (m *ℤ l)
    (double _ (product_nonnegative s e hs e0)) hk in
    let f = times_le (e *ℤ m) ((pos 2 *ℤ l) *ℤ s) (pos 3 *ℤ e) (product_nonnegative e m e0 hm) hl in
    let g = times_le (pos 3 *ℤ e) (m *ℤ e) ((pos 2 *ℤ l) *ℤ (c -ℤ d))
    (omega (arith, ints, he)) hd in
    let L = at 0 in
    let E = at 1 in let S = at 2 in let C = at 3 in let D = at 4 in let K = at 5 in let M = at 6 in
    let v = vars (l ∷ e ∷ s ∷ c ∷ d ∷ k ∷ m ∷ []) in
    let two = num (pos 2) in let three = num (pos 3) in
    let r1 : (pos 6 *ℤ s) *ℤ ((pos 2 *ℤ l) *ℤ c)
    ≡ pos 6 *ℤ ((pos 2 *ℤ l) *ℤ (s *ℤ c)) =
    ring (times (times (num (pos 6)) S) (times (times two L) C))
    (times (num (pos 6)) (times (times two L) (times S C))) v refl in
    let r2 : (pos 6 *ℤ s) *ℤ (k *ℤ e) ≡ (pos 2 *ℤ (s *ℤ e))
    *ℤ (pos 3 *ℤ k) =
    ring (times (times (num (pos 6)) S) (times K E))
    (times (times two (times S E)) (times three K)) v refl in
    let r3 : (pos 2 *ℤ (s *ℤ e)) *ℤ (m *ℤ l)
    ≡ (e *ℤ m) *ℤ ((pos 2 *ℤ l) *ℤ s) =
    ring (times (times two (times S E)) (times M L))
    (times (times E M) (times (times two L) S)) v refl in
    let r4 : (e *ℤ m) *ℤ (pos 3 *ℤ e) ≡ (pos 3 *ℤ e)
    *ℤ (m *ℤ e) =
    ring (times (times E M) (times three E)) (times (times three E) (times M E)) v refl in
    let r5 : (pos 3 *ℤ e) *ℤ ((pos 2 *ℤ l) *ℤ (c -ℤ d))
    ≡ pos 6 *ℤ (l *ℤ (e *ℤ (c -ℤ d))) =
    ring (times (times three E) (times (times two L) (minus C D)))
    (times (num (pos 6)) (times L (times E (minus C D)))) v refl in
    ended _ _ _ _ _ _ _ _ _ _ r1 a r2 b r3 f r4 g r5
  where
    double : (z : ℤ) → pos 0 ≤ℤ z → pos 0 ≤ℤ (pos 2 *ℤ z)
    double z h = omega (arith, ints, h)

    ended : (x y a b c d e f g i : ℤ) → a ≡ pos 6 *ℤ x → a ≤ℤ b → b ≡ c → c ≤ℤ d → d ≡ e → e ≤ℤ f
        → f ≡ g → g ≤ℤ i → i ≡ pos 6 *ℤ y → x ≤ℤ y
    ended x y a b c d e f g i h1 h2 h3 h4 h5 h6 h7 h8 h9 =
        omega (arith, ints, h1, h2, h3, h4, h5, h6, h7, h8, h9)

-- two rests a and b along the span, from -m g to m f, weighed by c and d
rests : (m f g a b c d : ℤ) → pos 0 ≤ℤ m → pos 0 ≤ℤ f → pos 0 ≤ℤ g → pos 0 ≤ℤ d → d ≤ℤ c
    → a ≤ℤ (m *ℤ f) → (pos 0 -ℤ a) ≤ℤ (m *ℤ g) → b ≤ℤ (m *ℤ f) → (pos 0 -ℤ b) ≤ℤ (m *ℤ g)
    → (((a *ℤ c) -ℤ (b *ℤ d)) ≤ℤ (m *ℤ ((f +ℤ g) *ℤ c)))
    × (((b *ℤ d) -ℤ (a *ℤ c)) ≤ℤ (m *ℤ ((f +ℤ g) *ℤ c)))
rests m f g a b c d hm hf hg hd hc af ag bf bg =
    let c0 : pos 0 ≤ℤ c = omega (arith, ints, hd, hc) in
    let a1 = times_le c a (m *ℤ f) c0 af in
    let a2 = times_le c (pos 0 -ℤ a) (m *ℤ g) c0 ag in
    let b1 = times_le d b (m *ℤ f) hd bf in
    let b2 = times_le d (pos 0 -ℤ b) (m *ℤ g) hd bg in
    let d1 = times_le (m *ℤ f) d c (product_nonnegative m f hm hf) hc in
    let d2 = times_le (m *ℤ g) d c (product_nonnegative m g hm hg) hc in
    let z1 : c *ℤ a ≡ a *ℤ c = swap c a in
    let z2 : c *ℤ (pos 0 -ℤ a) ≡ pos 0 -ℤ (a *ℤ c) = back c a in
    let z3 : d *ℤ b ≡ b *ℤ d = swap d b in
    let z4 : d *ℤ (pos 0 -ℤ b) ≡ pos 0 -ℤ (b *ℤ d) = back d b in
    let z5 = swap c (m *ℤ f) in
    let z6 = swap c (m *ℤ g) in
    let z7 = swap d (m *ℤ f) in
    let z8 = swap d (m *ℤ g) in
    let e : m *ℤ ((f +ℤ g) *ℤ c) ≡ ((m *ℤ f) *ℤ c)
    +ℤ ((m *ℤ g) *ℤ c) =
    ring (times (at 0) (times (plus (at 1) (at 2)) (at 3)))
    (plus (times (times (at 0) (at 1)) (at 3)) (times (times (at 0) (at 2)) (at 3)))
    (vars (m ∷ f ∷ g ∷ c ∷ [])) refl in (
      omega (arith, ints, a1, b2, d2, z1, z4, z5, z8, e),
      omega (arith, ints, a2, b1, d1, z2, z3, z6, z7, e),
    )
  where
    swap : (x y : ℤ) → x *ℤ y ≡ y *ℤ x
    swap x y = ring (times (at 0) (at 1)) (times (at 1) (at 0)) (vars (x ∷ y ∷ [])) refl

    back : (x y : ℤ) → x *ℤ (pos 0 -ℤ y) ≡ pos 0 -ℤ (y *ℤ x)
    back x y = ring (times (at 0) (minus (num (pos 0)) (at 1)))
        (minus (num (pos 0)) (times (at 1) (at 0))) (vars (x ∷ y ∷ [])) refl

-- ---- the triangle
-- (u, v) is a mean of (0, 0), (ux, uy) and (x, y)
pub record IsMean (ux uy x y u v : ℤ) : Type 0 where
  pub n : ℤ
  pub s : ℤ
  pub t : ℤ
  pub n_some : pos 0 <ℤ n
  pub rest : pos 0 ≤ℤ ((n -ℤ s) -ℤ t)
  pub s_least : pos 0 ≤ℤ s
  pub t_some : pos 0 <ℤ t
  pub right : n *ℤ u ≡ (s *ℤ ux) +ℤ (t *ℤ x)
  pub above : n *ℤ v ≡ (s *ℤ uy) +ℤ (t *ℤ y)

no_part : (l n e a b z c : ℤ) → a ≡ ((l *ℤ e) +ℤ (n *ℤ z)) -ℤ c → z ≡ pos 0 → a ≡ (l *ℤ e) -ℤ c
no_part l n e a b z c h k =
    let f : n *ℤ z ≡ n *ℤ pos 0 = ap (λ (v : ℤ). n *ℤ v) k in
    let g : n *ℤ pos 0 ≡ pos 0 = omega (arith, ints) in omega (arith, ints, h, f, g)

no_first : (l n e a z c y : ℤ) → a ≡ ((l *ℤ z) +ℤ (n *ℤ y)) -ℤ c → z ≡ pos 0 → y ≡ e
    → a ≡ (n *ℤ e) -ℤ c
no_first l n e a z c y h k m =
    let f : l *ℤ z ≡ l *ℤ pos 0 = ap (λ (v : ℤ). l *ℤ v) k in
    let g : l *ℤ pos 0 ≡ pos 0 = omega (arith, ints) in
    let i : n *ℤ y ≡ n *ℤ e = ap (λ (v : ℤ). n *ℤ v) m in
    omega (arith, ints, h, f, g, i)

-- w is u turned by a quarter
across : (s ux uy : ℤ) → dot (s *ℤ uy) (pos 0 -ℤ (s *ℤ ux)) ux uy ≡ pos 0
across s ux uy =
    ring (DOT (times (at 0) (at 2)) (minus (num (pos 0)) (times (at 0) (at 1))) (at 1) (at 2))
    (num (pos 0)) (vars (s ∷ ux ∷ uy ∷ [])) refl

across_back : (s ux uy : ℤ) → dot ux uy (s *ℤ uy) (pos 0 -ℤ (s *ℤ ux)) ≡ pos 0
across_back s ux uy =
    ring (DOT (at 1) (at 2) (times (at 0) (at 2)) (minus (num (pos 0)) (times (at 0) (at 1))))
    (num (pos 0)) (vars (s ∷ ux ∷ uy ∷ [])) refl

turned_square : (s ux uy : ℤ) → s *ℤ s ≡ pos 1
    → dot (s *ℤ uy) (pos 0 -ℤ (s *ℤ ux)) (s *ℤ uy) (pos 0 -ℤ (s *ℤ ux)) ≡ dot ux uy ux uy
turned_square s ux uy e =
    let x = times (at 0) (at 2) in
    let y = minus (num (pos 0)) (times (at 0) (at 1)) in
    ring (DOT x y x y) (times (times (at 0) (at 0)) (DOT (at 1) (at 2) (at 1) (at 2)))
    (vars (s ∷ ux ∷ uy ∷ [])) refl
    ∙ ap (λ (v : ℤ). v *ℤ dot ux uy ux uy) e
    ∙ one (dot ux uy ux uy)
  where
    one : (z : ℤ) → pos 1 *ℤ z ≡ z
    one z = omega (arith, ints)

-- the weights e d and f c - d g of e c, for the coordinates c, d over and g, f along the span
weighed_x : (s ux uy x y u v : ℤ) → (dot ux uy ux uy *ℤ dot x y (s *ℤ uy) (pos 0 -ℤ (s *ℤ ux))) *ℤ u
    ≡ (((dot u v ux uy *ℤ dot x y (s *ℤ uy) (pos 0 -ℤ (s *ℤ ux)))
    -ℤ (dot u v (s *ℤ uy) (pos 0 -ℤ (s *ℤ ux)) *ℤ dot x y ux uy)) *ℤ ux)
    +ℤ ((dot ux uy ux uy *ℤ dot u v (s *ℤ uy) (pos 0 -ℤ (s *ℤ ux))) *ℤ x)
weighed_x s ux uy x y u v =
    let S = at 0 in
    let UX = at 1 in
    let UY = at 2 in let X = at 3 in let Y = at 4 in let U = at 5 in let V = at 6 in
    let wx = times S UY in
    let wy = minus (num (pos 0)) (times S UX) in
    let E = DOT UX UY UX UY in
    ring (times (times E (DOT X Y wx wy)) U)
    (plus (times
    (minus (times (DOT U V UX UY) (DOT X Y wx wy)) (times (DOT U V wx wy) (DOT X Y UX UY))) UX)
    (times (times E (DOT U V wx wy)) X))
    (vars (s ∷ ux ∷ uy ∷ x ∷ y ∷ u ∷ v ∷ [])) refl

weighed_y : (s ux uy x y u v : ℤ) → (dot ux uy ux uy *ℤ dot x y (s *ℤ uy) (pos 0 -ℤ (s *ℤ ux))) *ℤ v
    ≡ (((dot u v ux uy *ℤ dot x y (s *ℤ uy) (pos 0 -ℤ (s *ℤ ux)))
    -ℤ (dot u v (s *ℤ uy) (pos 0 -ℤ (s *ℤ ux)) *ℤ dot x y ux uy)) *ℤ uy)
    +ℤ ((dot ux uy ux uy *ℤ dot u v (s *ℤ uy) (pos 0 -ℤ (s *ℤ ux))) *ℤ y)
weighed_y s ux uy x y u v =
    let S = at 0 in
    let UX = at 1 in
    let UY = at 2 in let X = at 3 in let Y = at 4 in let U = at 5 in let V = at 6 in
    let wx = times S UY in
    let wy = minus (num (pos 0)) (times S UX) in
    let E = DOT UX UY UX UY in
    ring (times (times E (DOT X Y wx wy)) V)
    (plus (times
    (minus (times (DOT U V UX UY) (DOT X Y wx wy)) (times (DOT U V wx wy) (DOT X Y UX UY))) UY)
    (times (times E (DOT U V wx wy)) Y))
    (vars (s ∷ ux ∷ uy ∷ x ∷ y ∷ u ∷ v ∷ [])) refl

-- how high two places are over the span whose square is e, with the rests a and b, of which p and q
-- bound the parts
record AreHigh (l e n m c d : ℤ) : Type 0 where
  most : ((pos 2 *ℤ l) *ℤ c) ≤ℤ (((pos 2 *ℤ n) +ℤ pos 3) *ℤ e)
  apart : (((pos 2 *ℤ (n -ℤ m)) -ℤ pos 3) *ℤ e) ≤ℤ ((pos 2 *ℤ l) *ℤ (c -ℤ d))
  some : pos 0 <ℤ d
  less : d ≤ℤ c

heights : (l e n m c d a b p q : ℤ) → pos 0 <ℤ l → pos 0 <ℤ e → pos 2 ≤ℤ m
    → pos 0 ≤ℤ ((pos 2 *ℤ (n -ℤ m)) -ℤ pos 3) → pos 0 ≤ℤ p → pos 0 ≤ℤ q
    → (pos 2 *ℤ l) *ℤ c ≡ ((pos 2 *ℤ n) *ℤ e) -ℤ a → (pos 2 *ℤ l) *ℤ d ≡ ((pos 2 *ℤ m) *ℤ e) -ℤ b
    → a ≤ℤ ((pos 2 *ℤ l) *ℤ p) → (pos 0 -ℤ a) ≤ℤ ((pos 2 *ℤ l) *ℤ q) → b ≤ℤ ((pos 2 *ℤ l) *ℤ p)
    → (pos 0 -ℤ b) ≤ℤ ((pos 2 *ℤ l) *ℤ q)
    → ((pos 2 *ℤ l) *ℤ (p +ℤ q)) ≤ℤ (pos 3 *ℤ e) → AreHigh l e n m c d
heights l e n m c d a b p q hl he hm hn hp hq ec ed ap1 aq bp bq s =
    let l2 : pos 0 ≤ℤ (pos 2 *ℤ l) = omega (arith, ints, hl) in
    let l2s : pos 0 <ℤ (pos 2 *ℤ l) = omega (arith, ints, hl) in
    let e0 : pos 0 ≤ℤ e = omega (arith, ints, he) in
    let lp = product_nonnegative (pos 2 *ℤ l) p l2 hp in
    let lq = product_nonnegative (pos 2 *ℤ l) q l2 hq in
    let sum : (pos 2 *ℤ l) *ℤ (p +ℤ q)
    ≡ ((pos 2 *ℤ l) *ℤ p) +ℤ ((pos 2 *ℤ l) *ℤ q) = spread (pos 2 *ℤ l) p q in
    let k1 : ((pos 2 *ℤ n) +ℤ pos 3) *ℤ e
    ≡ ((pos 2 *ℤ n) *ℤ e) +ℤ (pos 3 *ℤ e) =
    ring (times (plus (times (num (pos 2)) (at 0)) (num (pos 3))) (at 1))
    (plus (times (times (num (pos 2)) (at 0)) (at 1)) (times (num (pos 3)) (at 1)))
    (vars (n ∷ e ∷ [])) refl in
    let k2 : ((pos 2 *ℤ (n -ℤ m)) -ℤ pos 3) *ℤ e
    ≡ (((pos 2 *ℤ n) *ℤ e) -ℤ ((pos 2 *ℤ m) *ℤ e)) -ℤ (pos 3 *ℤ e) =
    ring (times (minus (times (num (pos 2)) (minus (at 0) (at 2))) (num (pos 3))) (at 1))
    (minus (minus (times (times (num (pos 2)) (at 0)) (at 1))
    (times (times (num (pos 2)) (at 2)) (at 1))) (times (num (pos 3)) (at 1)))
    (vars (n ∷ e ∷ m ∷ [])) refl in
    let k3 : (pos 2 *ℤ l) *ℤ (c -ℤ d) ≡ ((pos 2 *ℤ l) *ℤ c)
    -ℤ ((pos 2 *ℤ l) *ℤ d) =
    ring (times (times (num (pos 2)) (at 0)) (minus (at 1) (at 2)))
    (minus (times (times (num (pos 2)) (at 0)) (at 1))
    (times (times (num (pos 2)) (at 0)) (at 2))) (vars (l ∷ c ∷ d ∷ [])) refl in
    let k4 = times_le e (pos 4) (pos 2 *ℤ m) e0 (omega (arith, ints, hm)) in
    let k5 : e *ℤ (pos 2 *ℤ m) ≡ (pos 2 *ℤ m)
    *ℤ e = ring (times (at 0) (times (num (pos 2)) (at 1)))
    (times (times (num (pos 2)) (at 1)) (at 0)) (vars (e ∷ m ∷ [])) refl in
    let z : (pos 2 *ℤ l) *ℤ pos 0 ≡ pos 0 = omega (arith, ints) in
    let far = product_nonnegative ((pos 2 *ℤ (n -ℤ m)) -ℤ pos 3) e hn e0 in
    let apart : (((pos 2 *ℤ (n -ℤ m)) -ℤ pos 3) *ℤ e) ≤ℤ ((pos 2 *ℤ l) *ℤ (c -ℤ d)) = omega
    (arith, ints, ec, ed, ap1, bq, sum, s, k2, k3) in
    let over = cancel_le (pos 2 *ℤ l) (pos 0) (c -ℤ d) l2s (omega (arith, ints, far, apart, z)) in
    record {
      most = omega (arith, ints, ec, aq, lp, sum, s, k1);
      apart = apart;
      some = cancel_lt (pos 2 *ℤ l) (pos 0) d l2s
          (omega (arith, ints, ed, bp, lq, sum, s, k4, k5, he, z));
      less = omega (arith, ints, over);
    }
  where
    spread : (a b c : ℤ) → a *ℤ (b +ℤ c) ≡ (a *ℤ b) +ℤ (a *ℤ c)
    spread a b c =
        ring (times (at 0) (plus (at 1) (at 2))) (plus (times (at 0) (at 1)) (times (at 0) (at 2)))
        (vars (a ∷ b ∷ c ∷ [])) refl

-- the weights are not negative
weights : (l e c d f g a b : ℤ) → pos 0 <ℤ l → (pos 2 *ℤ l) *ℤ f ≡ (l *ℤ e) -ℤ a
    → (pos 2 *ℤ l) *ℤ g ≡ (l *ℤ e) -ℤ b
    → ((a *ℤ c) -ℤ (b *ℤ d)) ≤ℤ (l *ℤ (e *ℤ (c -ℤ d)))
    → ((b *ℤ d) -ℤ (a *ℤ c)) ≤ℤ (l *ℤ (e *ℤ (c -ℤ d)))
    → (pos 0 ≤ℤ ((f *ℤ c) -ℤ (d *ℤ g)))
    × (pos 0 ≤ℤ (((e *ℤ c) -ℤ ((f *ℤ c) -ℤ (d *ℤ g))) -ℤ (e *ℤ d)))
weights l e c d f g a b hl ef eg u v =
    let l2s : pos 0 <ℤ (pos 2 *ℤ l) = omega (arith, ints, hl) in
    let L = at 0 in
    let E = at 1 in
    let C = at 2 in let D = at 3 in let F = at 4 in let G = at 5 in let A = at 6 in let B = at 7 in
    let two = times (num (pos 2)) L in
    let w = vars (l ∷ e ∷ c ∷ d ∷ f ∷ g ∷ a ∷ b ∷ []) in
    let z : (pos 2 *ℤ l) *ℤ pos 0 ≡ pos 0 = omega (arith, ints) in
    let r1 : (pos 2 *ℤ l) *ℤ ((f *ℤ c) -ℤ (d *ℤ g))
    ≡ (((pos 2 *ℤ l) *ℤ f) *ℤ c) -ℤ (d *ℤ ((pos 2 *ℤ l) *ℤ g)) =
    ring (times two (minus (times F C) (times D G)))
    (minus (times (times two F) C) (times D (times two G))) w refl in
    let r2 : (((pos 2 *ℤ l) *ℤ f) *ℤ c) -ℤ (d *ℤ ((pos 2 *ℤ l) *ℤ g))
    ≡ (((l *ℤ e) -ℤ a) *ℤ c) -ℤ (d *ℤ ((l *ℤ e) -ℤ b)) =
    ap (λ (k : ℤ). (k *ℤ c) -ℤ (d *ℤ ((pos 2 *ℤ l) *ℤ g))) ef
    ∙ ap (λ (k : ℤ). (((l *ℤ e) -ℤ a) *ℤ c) -ℤ (d *ℤ k)) eg in
    let r3 : (((l *ℤ e) -ℤ a) *ℤ c) -ℤ (d *ℤ ((l *ℤ e) -ℤ b))
    ≡ (l *ℤ (e *ℤ (c -ℤ d))) -ℤ ((a *ℤ c) -ℤ (b *ℤ d)) =
    ring (minus (times (minus (times L E) A) C) (times D (minus (times L E) B)))
    (minus (times L (times E (minus C D))) (minus (times A C) (times B D))) w refl in
    let r4 : (pos 2 *ℤ l) *ℤ (((e *ℤ c) -ℤ ((f *ℤ c) -ℤ (d *ℤ g))) -ℤ (e *ℤ d))
    ≡ (pos 2 *ℤ (l *ℤ (e *ℤ (c -ℤ d)))) -ℤ ((pos 2 *ℤ l) *ℤ ((f *ℤ c) -ℤ (d *ℤ g))) =
    ring (times two (minus (minus (times E C) (minus (times F C) (times D G))) (times E D)))
    (minus (times (num (pos 2)) (times L (times E (minus C D))))
    (times two (minus (times F C) (times D G)))) w refl in
    let t = r1 ∙ r2 ∙ r3 in (
      cancel_le (pos 2 *ℤ l) (pos 0) _ l2s
          (one _ _ (l *ℤ (e *ℤ (c -ℤ d))) ((a *ℤ c) -ℤ (b *ℤ d)) z t u),
      cancel_le (pos 2 *ℤ l) (pos 0) _ l2s
          (two_of _ _ (l *ℤ (e *ℤ (c -ℤ d))) (a *ℤ c) (b *ℤ d) _ z t r4 v),
    )
  where
    one : (z x y k : ℤ) → z ≡ pos 0 → x ≡ y -ℤ k → k ≤ℤ y → z ≤ℤ x
    one z x y k e f g = omega (arith, ints, e, f, g)

    two_of : (z x y p q k : ℤ) → z ≡ pos 0 → x ≡ y -ℤ (p -ℤ q) → k ≡ (pos 2 *ℤ y) -ℤ x
        → (q -ℤ p) ≤ℤ y → z ≤ℤ k
    two_of z x y p q k e f g h = omega (arith, ints, e, f, g, h)

-- with n and m parts, where 3 (2 n + 3) is at most (2 (n - m) - 3) l
pub is_mean : (l s ux uy n m x y u v : ℤ) → pos 0 <ℤ l → (l *ℤ l) ≤ℤ dot ux uy ux uy
    → s *ℤ s ≡ pos 1 → pos 2 ≤ℤ m → m <ℤ n
    → (pos 3 *ℤ ((pos 2 *ℤ n) +ℤ pos 3)) ≤ℤ (((pos 2 *ℤ (n -ℤ m)) -ℤ pos 3) *ℤ l)
    → IsPlaced l ux uy (s *ℤ uy) (pos 0 -ℤ (s *ℤ ux)) n x y
    → IsPlaced l ux uy (s *ℤ uy) (pos 0 -ℤ (s *ℤ ux)) m u v → IsMean ux uy x y u v
is_mean l s ux uy n m x y u v hl hs e1 hm hn far i j =
    let wx = s *ℤ uy in
    let wy = pos 0 -ℤ (s *ℤ ux) in
    let e = dot ux uy ux uy in
    let he : pos 0 <ℤ e = let k = product_positive l l hl hl in omega (arith, ints, k, hs) in
    let apart : pos 0 ≤ℤ ((pos 2 *ℤ (n -ℤ m)) -ℤ pos 3) = some_apart
    ((pos 2 *ℤ (n -ℤ m)) -ℤ pos 3) l _ hl (omega (arith, ints, hm, hn)) far in
    let aw = turned_square s ux uy e1 in
    let z1 = across s ux uy in
    let z2 = across_back s ux uy in
    let ci = no_first l (pos 2 *ℤ n) e _ _ _ _ (along l ux uy wx wy n x y wx wy i) z2 aw in
    let cj = no_first l (pos 2 *ℤ m) e _ _ _ _ (along l ux uy wx wy m u v wx wy j) z2 aw in
    let gi = no_part l (pos 2 *ℤ n) e _ (pos 0) _ _ (along l ux uy wx wy n x y ux uy i) z1 in
    let fj = no_part l (pos 2 *ℤ m) e _ (pos 0) _ _ (along l ux uy wx wy m u v ux uy j) z1 in
    let wi = parts (pos 2 *ℤ l) i.rx i.ry wx wy i.rx_least i.rx_most i.ry_least i.ry_most in
    let wj = parts (pos 2 *ℤ l) j.rx j.ry wx wy j.rx_least j.rx_most j.ry_least j.ry_most in
    let ui = parts (pos 2 *ℤ l) i.rx i.ry ux uy i.rx_least i.rx_most i.ry_least i.ry_most in
    let uj = parts (pos 2 *ℤ l) j.rx j.ry ux uy j.rx_least j.rx_most j.ry_least j.ry_most in
    let c = dot x y wx wy in
    let d = dot u v wx wy in
    let high = heights l e n m c d _ _ (overs wx wy) (unders wx wy) hl he hm apart
    (overs_least wx wy) (unders_least wx wy) ci cj wi.0 wi.1 wj.0 wj.1
    (sizes_most l e wx wy hs aw) in
    let wide = width l e (sizes ux uy) c d _ _ he (sizes_least ux uy) apart high.most high.apart far
    (sizes_most l e ux uy hs refl) in
    let r = rests (pos 2 *ℤ l) (overs ux uy) (unders ux uy) (dot j.rx j.ry ux uy)
    (dot i.rx i.ry ux uy) c d (omega (arith, ints, hl)) (overs_least ux uy) (unders_least ux uy)
    (weak d high.some) high.less uj.0 uj.1 ui.0 ui.1 in
    let w = weights l e c d (dot u v ux uy) (dot x y ux uy) (dot j.rx j.ry ux uy)
    (dot i.rx i.ry ux uy) hl fj gi (through _ _ _ r.0 wide) (through _ _ _ r.1 wide) in
    record {
      n = e *ℤ c;
      s = (dot u v ux uy *ℤ c) -ℤ (d *ℤ dot x y ux uy);
      t = e *ℤ d;
      n_some = product_positive e c he (above_some c d high.some high.less);
      rest = w.1;
      s_least = w.0;
      t_some = product_positive e d he high.some;
      right = weighed_x s ux uy x y u v;
      above = weighed_y s ux uy x y u v;
    }
  where
    overs_least : (x y : ℤ) → pos 0 ≤ℤ overs x y
    overs_least x y = let a = over_least x in let b = over_least y in omega (arith, ints, a, b)

    unders_least : (x y : ℤ) → pos 0 ≤ℤ unders x y
    unders_least x y = let a = under_least x in let b = under_least y in omega (arith, ints, a, b)

    weak : (d : ℤ) → pos 0 <ℤ d → pos 0 ≤ℤ d
    weak d h = omega (arith, ints, h)

    above_some : (c d : ℤ) → pos 0 <ℤ d → d ≤ℤ c → pos 0 <ℤ c
    above_some c d h k = omega (arith, ints, h, k)

    through : (a b c : ℤ) → a ≤ℤ b → b ≤ℤ c → a ≤ℤ c
    through a b c h k = omega (arith, ints, h, k)

    some_apart : (f l k : ℤ) → pos 0 <ℤ l → pos 0 <ℤ k → k ≤ℤ (f *ℤ l) → pos 0 ≤ℤ f
    some_apart f l k hl hk h =
        by_lt_z f (pos 0)
        (λ (a : f <ℤ pos 0).
        let p = product_nonnegative (pos 0 -ℤ f) l (omega (arith, ints, a))
        (omega (arith, ints, hl)) in
        let q : (pos 0 -ℤ f) *ℤ l ≡ pos 0
        -ℤ (f *ℤ l) =
        ring (times (minus (num (pos 0)) (at 0)) (at 1))
        (minus (num (pos 0)) (times (at 0) (at 1))) (vars (f ∷ l ∷ [])) refl in
        absurd (omega (arith, ints, p, q, h, hk)))
        (λ (a : pos 0 ≤ℤ f). a)
