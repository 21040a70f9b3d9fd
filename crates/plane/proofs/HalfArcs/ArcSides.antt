-- The power of a half arc along segments and near a place; triangles are convex.
use Rattle.std.proofs.Common.{◌≡◌, ℤ, pos, ◌+ℤ◌, ◌*ℤ◌, ◌-ℤ◌, ◌<ℤ◌, ◌≤ℤ◌, [], ◌∷◌, refl, arith, ap}
use Rattle.std.proofs.Common.{sym, ◌∙◌, subst}
use Rattle.std.proofs.lemmas.Int.{ints, by_lt_z}
use Rattle.plane.specs.Forms.Vectors.{Vector, Place, Same, mix}
use Rattle.plane.specs.Forms.Arcs.{HalfArc, bend, circle_x, circle_y, power, seen}
use Rattle.plane.proofs.HalfArcs.HitWords.{HitsArc}
use Rattle.plane.specs.Tubes.Caps.{Cap, IsCap, shape, cap}
use Rattle.plane.specs.Tubes.Windings.{Tile, InTile, weighed}
use Rattle.plane.specs.CurveRuns.Extended.{IsOnWay}
use Rattle.plane.proofs.Algebra.Laws.{product_positive, product_nonnegative, square_nonnegative}
use Rattle.plane.proofs.Algebra.Scaling.{times_le}
use Rattle.plane.proofs.Linear.Signs.{mix_place}
use Rattle.plane.proofs.Linear.Clear.{mix_back, mix_start}
use Rattle.plane.proofs.Covers.SamePlace.{same_sym}
use Rattle.plane.proofs.Covers.HalfArcPlaces.{not_inside_same, not_outside_same}
use Rattle.plane.proofs.Caps.CapOver.{cancel_most, times_most}
use Rattle.plane.proofs.Caps.ChordCircle.{shape-mix, inside_mix}
use Rattle.plane.proofs.Caps.Seen.{seen-mix, power_below, power_most, shape_below, shape_most}
use Rattle.plane.proofs.Algebra.Ring.{Expr, at, num, plus, minus, times, vars, ring}

-- ---- equal places are on one side
pub inside_same : (h : HalfArc) (z v : Vector) → Place z → Place v → Same z v → power h z <ℤ pos 0
    → power h v <ℤ pos 0
inside_same h z v Z V e k = by_lt_z (power h v) (pos 0) (λ l. l)
    (λ (l : pos 0 ≤ℤ power h v). let m = not_inside_same h v z V Z (same_sym z v e) l in
    absurd (omega (arith, ints, m, k)))

pub outside_same : (h : HalfArc) (z v : Vector) → Place z → Place v → Same z v → pos 0 <ℤ power h z
    → pos 0 <ℤ power h v
outside_same h z v Z V e k = by_lt_z (pos 0) (power h v) (λ l. l)
    (λ (l : power h v ≤ℤ pos 0). let m = not_outside_same h v z V Z (same_sym z v e) l in
    absurd (omega (arith, ints, m, k)))

-- ---- convexity
weak_shape : (c : Cap) (s : ℤ) (p : Vector) (t : ℤ) (q : Vector) → IsCap c → Place p → Place q
    → pos 0 ≤ℤ s → pos 0 ≤ℤ t
    → shape c p ≤ℤ pos 0 → shape c q ≤ℤ pos 0 → shape c (mix s p t q) ≤ℤ pos 0
weak_shape c s p t q hc hp hq hs ht a b =
    let dx = (q.n *ℤ p.x) -ℤ (p.n *ℤ q.x) in
    let dy = (q.n *ℤ p.y) -ℤ (p.n *ℤ q.y) in
    let nn = product_positive p.n q.n hp hq in
    let sn = product_nonnegative s p.n hs (omega (arith, ints, hp)) in
    let tn = product_nonnegative t q.n ht (omega (arith, ints, hq)) in
    let g = hc.size in
    let far = far_least c.size dx dy (omega (arith, ints, g)) in
    let d = product_nonnegative (s *ℤ t) ((c.size *ℤ (dx *ℤ dx)) +ℤ (dy *ℤ dy))
    (product_nonnegative s t hs ht) far in
    let e1 = times_most s (q.n *ℤ shape c p) hs
    (times_most q.n (shape c p) (omega (arith, ints, hq)) a) in
    let e2 = times_most t (p.n *ℤ shape c q) ht
    (times_most p.n (shape c q) (omega (arith, ints, hp)) b) in
    let w = times_most ((s *ℤ p.n) +ℤ (t *ℤ q.n))
    ((s *ℤ (q.n *ℤ shape c p)) +ℤ (t *ℤ (p.n *ℤ shape c q))) (omega (arith, ints, sn, tn))
    (omega (arith, ints, e1, e2)) in
    cancel_most (p.n *ℤ q.n) (shape c (mix s p t q)) nn (sum _ _ _ (shape-mix c s p t q) w d)
  where
    sum : (x w d : ℤ) → x ≡ w -ℤ d → w ≤ℤ pos 0 → pos 0 ≤ℤ d → x ≤ℤ pos 0
    sum x w d e h k = omega (arith, ints)

    far_least : (g x y : ℤ) → pos 0 ≤ℤ g → pos 0 ≤ℤ ((g *ℤ (x *ℤ x)) +ℤ (y *ℤ y))
    far_least g x y h =
        let a = product_nonnegative g (x *ℤ x) h (square_nonnegative x) in
        let b = square_nonnegative y in
        omega (arith, ints, a, b)

-- places that are not outside
pub not_outside_mix : (h : HalfArc) (s : ℤ) (p : Vector) (t : ℤ) (q : Vector) → IsCap (cap h)
    → Place p → Place q → pos 0 ≤ℤ s → pos 0 ≤ℤ t
    → power h p ≤ℤ pos 0 → power h q ≤ℤ pos 0 → power h (mix s p t q) ≤ℤ pos 0
not_outside_mix h s p t q hc P Q hs ht a b =
    power_most h (mix s p t q) hc
    (subst (λ (z : Vector). shape (cap h) z ≤ℤ pos 0) (sym (seen-mix h s p t q))
    (weak_shape (cap h) s (seen h p) t (seen h q) hc P Q hs ht (shape_most h p hc a)
    (shape_most h q hc b)))

-- places strictly inside
pub inside_both : (h : HalfArc) (s : ℤ) (p : Vector) (t : ℤ) (q : Vector) → IsCap (cap h) → Place p
    → Place q → pos 0 ≤ℤ s → pos 0 ≤ℤ t → pos 0 <ℤ (s +ℤ t)
    → power h p <ℤ pos 0 → power h q <ℤ pos 0 → power h (mix s p t q) <ℤ pos 0
inside_both h s p t q hc P Q hs ht some a b =
    power_below h (mix s p t q) hc
    (subst (λ (z : Vector). shape (cap h) z <ℤ pos 0) (sym (seen-mix h s p t q))
    (by_lt_z (pos 0) s
    (λ (l : pos 0 <ℤ s). inside_mix (cap h) s (seen h p) t (seen h q) hc P Q l ht
    (shape_below h p hc a) (shape_most h q hc (omega (arith, ints, b))))
    (λ (l : s ≤ℤ pos 0). subst (λ (z : Vector). shape (cap h) z <ℤ pos 0)
    (mix_back t s (seen h q) (seen h p))
    (inside_mix (cap h) t (seen h q) s (seen h p) hc Q P (omega (arith, ints, l, some)) hs
    (shape_below h q hc b) (shape_most h p hc (omega (arith, ints, a)))))))

-- ---- near a place
abbrev POWER : Expr → Expr → Expr → Expr → Expr → Expr → Expr → Expr → Expr
POWER D A B AX AY x y n =
    let X = minus x (times AX n) in
    let Y = minus y (times AY n) in
    times D (minus (times D (plus (times X X) (times Y Y)))
    (times (plus (times A X) (times B Y)) n))

-- what two places have in common
abbrev both : HalfArc → Vector → Vector → ℤ
both h x y = (power h (mix (pos 1) x (pos 1) y) -ℤ power h x) -ℤ power h y

power-sum : (h : HalfArc) (m : ℤ) (x : Vector) (t : ℤ) (y : Vector)
    → power h (mix m x t y) ≡ ((m *ℤ m) *ℤ power h x)
    +ℤ (((m *ℤ t) *ℤ both h x y) +ℤ ((t *ℤ t) *ℤ power h y))
unfolding power
power-sum h m x t y =
    let P : Expr → Expr → Expr → Expr = POWER (at 0) (at 1) (at 2) (at 3) (at 4) in
    let M = at 5 in let T = at 6 in
    let PX = at 7 in
    let PY = at 8 in let PN = at 9 in let QX = at 10 in let QY = at 11 in let QN = at 12 in
    let one = num (pos 1) in
    let m2 : Expr → Expr → Expr = λ a b. plus (times M a) (times T b) in
    let s2 : Expr → Expr → Expr = λ a b. plus (times one a) (times one b) in
    ring (P (m2 PX QX) (m2 PY QY) (m2 PN QN))
    (plus (times (times M M) (P PX PY PN))
    (plus (times (times M T)
    (minus (minus (P (s2 PX QX) (s2 PY QY) (s2 PN QN)) (P PX PY PN)) (P QX QY QN)))
    (times (times T T) (P QX QY QN))))
    (vars (bend h ∷ circle_x h ∷ circle_y h ∷ h.from.x ∷ h.from.y ∷ m ∷ t ∷ x.x ∷ x.y ∷ x.n ∷ y.x
    ∷ y.y ∷ y.n ∷ [])) refl

square_most : (b : ℤ) → b ≤ℤ (b *ℤ b)
square_most b =
    by_lt_z (pos 0) b
    (λ (l : pos 0 <ℤ b). let a = times_le b (pos 1) b (omega (arith, ints, l))
    (omega (arith, ints, l)) in omega (arith, ints, a))
    (λ (l : b ≤ℤ pos 0). let a = square_nonnegative b in omega (arith, ints, a, l))

-- how far from x the first term wins
abbrev margin : ℤ → ℤ → ℤ
margin b f = ((b *ℤ b) +ℤ (f *ℤ f)) +ℤ pos 1

margin_least : (b f : ℤ) → pos 0 ≤ℤ margin b f
margin_least b f =
    let x = square_nonnegative b in let y = square_nonnegative f in omega (arith, ints, x, y)

first_wins : (a b f m t : ℤ) → a <ℤ pos 0 → pos 0 ≤ℤ t → (margin b f *ℤ t) ≤ℤ m → pos 0 <ℤ (m +ℤ t)
    → (((m *ℤ m) *ℤ a) +ℤ (((m *ℤ t) *ℤ b) +ℤ ((t *ℤ t) *ℤ f))) <ℤ pos 0
first_wins a b f m t ha ht hm some =
    let b2 = b *ℤ b in
    let f2 = f *ℤ f in
    let B = square_nonnegative b in
    let F = square_nonnegative f in
    let bt = product_nonnegative b2 t B ht in
    let ft = product_nonnegative f2 t F ht in
    let i = ring
    (times (plus (plus (times (at 0) (at 0)) (times (at 1) (at 1))) (num (pos 1))) (at 2))
    (plus (plus (times (times (at 0) (at 0)) (at 2)) (times (times (at 1) (at 1)) (at 2)))
    (at 2)) (vars (b ∷ f ∷ t ∷ [])) refl in
    let m_least : pos 0 ≤ℤ m = omega (arith, ints, hm, i, bt, ft, ht) in
    let m_some : pos 0 <ℤ m = omega (arith, ints, hm, i, bt, ft, ht, some) in
    let mt = product_nonnegative m t m_least ht in
    let tt2 = product_nonnegative t (m -ℤ t) ht (omega (arith, ints, hm, i, bt, ft)) in
    let one = times_le (m *ℤ m) a (pos 0 -ℤ pos 1) (square_nonnegative m)
    (omega (arith, ints, ha)) in
    let two = times_le (m *ℤ t) b b2 mt (square_most b) in
    let three = times_le (t *ℤ t) f f2 (square_nonnegative t) (square_most f) in
    let four = product_nonnegative f2 (t *ℤ (m -ℤ t)) F tt2 in
    let gap = product_nonnegative m ((m -ℤ t) -ℤ ((b2 *ℤ t) +ℤ (f2 *ℤ t))) m_least
    (omega (arith, ints, hm, i)) in
    let mm = product_positive m m m_some m_some in
    -- m m - m t (b2 + f2) = gap + m t
    let e = ring
    (minus (times (at 0) (at 0))
    (plus (times (times (at 0) (at 1)) (at 2)) (times (times (at 0) (at 1)) (at 3))))
    (plus (times (at 0)
    (minus (minus (at 0) (at 1)) (plus (times (at 2) (at 1)) (times (at 3) (at 1)))))
    (times (at 0) (at 1))) (vars (m ∷ t ∷ b2 ∷ f2 ∷ [])) refl in
    let g = ring (times (at 2) (times (at 1) (minus (at 0) (at 1))))
    (minus (times (times (at 0) (at 1)) (at 2)) (times (times (at 1) (at 1)) (at 2)))
    (vars (m ∷ t ∷ f2 ∷ [])) refl in
    let k = ring (times (times (at 0) (at 0)) (minus (num (pos 0)) (num (pos 1))))
    (minus (num (pos 0)) (times (at 0) (at 0))) (vars (m ∷ [])) refl in
    by_lt_z (pos 0) t
    (λ (l : pos 0 <ℤ t). let p = product_positive m t m_some l in
    omega (arith, ints, one, two, three, four, gap, e, g, k, p))
    (λ (l : t ≤ℤ pos 0).
    let z : t ≡ pos 0 = omega (arith, ints, l, ht) in
    let u : (m *ℤ t) *ℤ b ≡ pos 0 = ap (λ (v : ℤ). (m *ℤ v) *ℤ b) z
    ∙ ring (times (times (at 0) (num (pos 0))) (at 1)) (num (pos 0)) (vars (m ∷ b ∷ [])) refl in
    let v : (t *ℤ t) *ℤ f ≡ pos 0 = ap (λ (w : ℤ). (w *ℤ w) *ℤ f) z
    ∙ ring (times (times (num (pos 0)) (num (pos 0))) (at 0)) (num (pos 0))
    (vars (f ∷ [])) refl in
    omega (arith, ints, one, k, mm, u, v))

-- a place near x on the way to y, as a mix of x and y
near_mix : (n : ℤ) (x y z : Vector) → pos 0 ≤ℤ n → (w : IsOnWay x (mix n x (pos 1) y) z)
    → (m : ℤ) × ((n *ℤ w.t) ≤ℤ m) × (pos 0 <ℤ (m +ℤ w.t)) × (z ≡ mix m x w.t y)
near_mix n x y z hn w =
    let s = w.s_least in
    let t = w.t_least in
    let some = w.some in
    let nt = product_nonnegative w.t n t hn in
    let c = ring (times (at 0) (at 1)) (times (at 1) (at 0)) (vars (n ∷ w.t ∷ [])) refl in (
      w.s +ℤ (w.t *ℤ n),
      omega (arith, ints, s, c),
      omega (arith, ints, s, t, some, nt),
      w.is ∙ mix_start w.s w.t n (pos 1) x y
          ∙ ap (λ (v : ℤ). mix (w.s +ℤ (w.t *ℤ n)) x v y) (omega (arith, ints)),
    )

pub near_inside : (h : HalfArc) (x y : Vector) → power h x <ℤ pos 0
    → (n : ℤ) × (pos 0 ≤ℤ n) × ((z : Vector) → IsOnWay x (mix n x (pos 1) y) z → power h z <ℤ pos 0)
near_inside h x y k =
    let n = margin (both h x y) (power h y) in (
      n,
      margin_least (both h x y) (power h y),
      λ z w.
          let m = near_mix n x y z (margin_least (both h x y) (power h y)) w in
          let f = first_wins (power h x) (both h x y) (power h y) m.0 w.t k w.t_least m.1 m.2 in
          let e = ap (power h) m.3 ∙ power-sum h m.0 x w.t y in
          omega (arith, ints, f, e),
    )

negated : (a b f m t : ℤ)
    → ((m *ℤ m) *ℤ (pos 0 -ℤ a)) +ℤ (((m *ℤ t) *ℤ (pos 0 -ℤ b)) +ℤ ((t *ℤ t) *ℤ (pos 0 -ℤ f)))
    ≡ pos 0 -ℤ (((m *ℤ m) *ℤ a) +ℤ (((m *ℤ t) *ℤ b) +ℤ ((t *ℤ t) *ℤ f)))
negated a b f m t =
    let A = at 0 in let B = at 1 in let F = at 2 in let M = at 3 in let T = at 4 in
    let sum : Expr → Expr → Expr
    → Expr = λ a b f. plus (times (times M M) a)
    (plus (times (times M T) b) (times (times T T) f)) in
    let zero = num (pos 0) in
    ring (sum (minus zero A) (minus zero B) (minus zero F)) (minus zero (sum A B F))
    (vars (a ∷ b ∷ f ∷ m ∷ t ∷ [])) refl

pub near_outside : (h : HalfArc) (x y : Vector) → pos 0 <ℤ power h x
    → (n : ℤ) × (pos 0 ≤ℤ n) × ((z : Vector) → IsOnWay x (mix n x (pos 1) y) z → pos 0 <ℤ power h z)
near_outside h x y k =
    let b = pos 0 -ℤ both h x y in
    let g = pos 0 -ℤ power h y in
    let n = margin b g in (
      n,
      margin_least b g,
      λ z w.
          let m = near_mix n x y z (margin_least b g) w in
          let f = first_wins (pos 0 -ℤ power h x) b g m.0 w.t
          (omega (arith, ints, k)) w.t_least m.1 m.2 in
          let e = ap (power h) m.3 ∙ power-sum h m.0 x w.t y in
          let i = negated (power h x) (both h x y) (power h y) m.0 w.t in
          omega (arith, ints, f, e, i),
    )

-- ---- a segment on one side of the circle misses the half arc
way_of_mix : (p q : Vector) (s t : ℤ) → pos 0 ≤ℤ s → pos 0 ≤ℤ t → pos 0 <ℤ (s +ℤ t)
    → IsOnWay p q (mix s p t q)
way_of_mix p q s t hs ht some = record {
  s = s;
  t = t;
  s_least = hs;
  t_least = ht;
  some = some;
  is = refl;
}

pub inside_way_misses : (h : HalfArc) (p q : Vector) → Place p → Place q
    → ((z : Vector) → IsOnWay p q z → power h z <ℤ pos 0) → HitsArc h p q → ⊥
inside_way_misses h p q P Q f k =
    let b = k.v_between in
    let m = mix b.s p b.t q in
    let a = inside_same h m k.v (mix_place b.s p b.t q P Q b.s_least b.t_least b.some) k.v_place
    (same_sym k.v m b.is) (f m (way_of_mix p q b.s b.t b.s_least b.t_least b.some)) in
    let o = k.v_out in
    omega (arith, ints, a, o)

pub outside_way_misses : (h : HalfArc) (p q : Vector) → Place p → Place q
    → ((z : Vector) → IsOnWay p q z → pos 0 <ℤ power h z) → HitsArc h p q → ⊥
outside_way_misses h p q P Q f k =
    let b = k.u_between in
    let m = mix b.s p b.t q in
    let a = outside_same h m k.u (mix_place b.s p b.t q P Q b.s_least b.t_least b.some) k.u_place
    (same_sym k.u m b.is) (f m (way_of_mix p q b.s b.t b.s_least b.t_least b.some)) in
    let o = k.u_in in
    omega (arith, ints, a, o)

-- ---- triangles are convex
-- the mean of two means, at the scale of both
mean_entry : (s u m n pn qn a b c e f g x y z px qx : ℤ)
    → px *ℤ m ≡ (((a *ℤ x) +ℤ (b *ℤ y)) +ℤ (c *ℤ z)) *ℤ pn
    → qx *ℤ n ≡ (((e *ℤ x) +ℤ (f *ℤ y)) +ℤ (g *ℤ z)) *ℤ qn
    → (((((s *ℤ (n *ℤ pn)) *ℤ a) +ℤ ((u *ℤ (m *ℤ qn)) *ℤ e)) *ℤ x)
    +ℤ ((((s *ℤ (n *ℤ pn)) *ℤ b) +ℤ ((u *ℤ (m *ℤ qn)) *ℤ f)) *ℤ y))
    +ℤ ((((s *ℤ (n *ℤ pn)) *ℤ c) +ℤ ((u *ℤ (m *ℤ qn)) *ℤ g)) *ℤ z)
    ≡ (m *ℤ n) *ℤ ((s *ℤ px) +ℤ (u *ℤ qx))
mean_entry s u m n pn qn a b c e f g x y z px qx h k =
    let S = at 0 in
    let U = at 1 in let M = at 2 in let N = at 3 in let PN = at 4 in let QN = at 5 in
    let A = at 6 in
    let B = at 7 in
    let C = at 8 in
    let D = at 9 in
    let F = at 10 in let G = at 11 in let X = at 12 in let Y = at 13 in let Z = at 14 in
    let v = times S (times N PN) in
    let w = times U (times M QN) in
    let i = ring
    (plus (plus (times (plus (times v A) (times w D)) X)
    (times (plus (times v B) (times w F)) Y)) (times (plus (times v C) (times w G)) Z))
    (plus (times (times S N) (times (plus (plus (times A X) (times B Y)) (times C Z)) PN))
    (times (times U M) (times (plus (plus (times D X) (times F Y)) (times G Z)) QN)))
    (vars (s ∷ u ∷ m ∷ n ∷ pn ∷ qn ∷ a ∷ b ∷ c ∷ e ∷ f ∷ g ∷ x ∷ y ∷ z ∷ [])) refl in
    let j = ring (times (times M N) (plus (times S (at 4)) (times U (at 5))))
    (plus (times (times S N) (times (at 4) M)) (times (times U M) (times (at 5) N)))
    (vars (s ∷ u ∷ m ∷ n ∷ px ∷ qx ∷ [])) refl in
    let k1 = ap (λ (v : ℤ). (s *ℤ n) *ℤ v) h in
    let k2 = ap (λ (v : ℤ). (u *ℤ m) *ℤ v) k in
    chain _ _ _ _ _ _ i j k1 k2
  where
    chain : (x y a b c d : ℤ) → x ≡ a +ℤ b → y ≡ c +ℤ d → c ≡ a → d ≡ b → x ≡ y
    chain x y a b c d e f g h = omega (arith, ints, e, f, g, h)

pub triangle_mix : (t : Tile) (s : ℤ) (p : Vector) (u : ℤ) (q : Vector) → Place p → Place q
    → pos 0 ≤ℤ s → pos 0 ≤ℤ u → pos 0 <ℤ (s +ℤ u) → InTile t p → InTile t q → InTile t (mix s p u q)
triangle_mix t s p u q P Q hs hu some i k = record {
  of_a = (v *ℤ i.of_a) +ℤ (w *ℤ k.of_a);
  of_b = (v *ℤ i.of_b) +ℤ (w *ℤ k.of_b);
  of_c = (v *ℤ i.of_c) +ℤ (w *ℤ k.of_c);
  a_least = least i.of_a k.of_a i.a_least k.a_least;
  b_least = least i.of_b k.of_b i.b_least k.b_least;
  c_least = least i.of_c k.of_c i.c_least k.c_least;
  some =
      let a = product_positive (m *ℤ n) (mix s p u q).n (product_positive m n i.some k.some)
      (mix_place s p u q P Q hs hu some) in
      omega (arith, ints, a, en);
  is = record { x = one (mix s p u q).x _ ex; y = one (mix s p u q).y _ ey };
}
  where
    m : ℤ
    m = (i.of_a +ℤ i.of_b) +ℤ i.of_c

    n : ℤ
    n = (k.of_a +ℤ k.of_b) +ℤ k.of_c

    v : ℤ
    v = s *ℤ (n *ℤ p.n)

    w : ℤ
    w = u *ℤ (m *ℤ q.n)

    V : pos 0 ≤ℤ v
    V =
        let a = product_positive n p.n k.some P in
        product_nonnegative s (n *ℤ p.n) hs (omega (arith, ints, a))

    W : pos 0 ≤ℤ w
    W =
        let a = product_positive m q.n i.some Q in
        product_nonnegative u (m *ℤ q.n) hu (omega (arith, ints, a))

    least : (a b : ℤ) → pos 0 ≤ℤ a → pos 0 ≤ℤ b → pos 0 ≤ℤ ((v *ℤ a) +ℤ (w *ℤ b))
    least a b ha hb =
        let x = product_nonnegative v a V ha in
        let y = product_nonnegative w b W hb in omega (arith, ints, x, y)

    ex : (weighed ((v *ℤ i.of_a) +ℤ (w *ℤ k.of_a)) t.a ((v *ℤ i.of_b) +ℤ (w *ℤ k.of_b)) t.b
        ((v *ℤ i.of_c) +ℤ (w *ℤ k.of_c)) t.c).x ≡ (m *ℤ n) *ℤ (mix s p u q).x
    ex = mean_entry s u m n p.n q.n i.of_a i.of_b i.of_c k.of_a k.of_b k.of_c t.a.x t.b.x t.c.x p.x
        q.x i.is.x k.is.x

    ey : (weighed ((v *ℤ i.of_a) +ℤ (w *ℤ k.of_a)) t.a ((v *ℤ i.of_b) +ℤ (w *ℤ k.of_b)) t.b
        ((v *ℤ i.of_c) +ℤ (w *ℤ k.of_c)) t.c).y ≡ (m *ℤ n) *ℤ (mix s p u q).y
    ey = mean_entry s u m n p.n q.n i.of_a i.of_b i.of_c k.of_a k.of_b k.of_c t.a.y t.b.y t.c.y p.y
        q.y i.is.y k.is.y

    units : (a b c r : ℤ)
        → r *ℤ ((a +ℤ b) +ℤ c) ≡ (((a *ℤ pos 1) +ℤ (b *ℤ pos 1)) +ℤ (c *ℤ pos 1)) *ℤ r
    units a b c r =
        let one = num (pos 1) in
        ring (times (at 3) (plus (plus (at 0) (at 1)) (at 2)))
        (times (plus (plus (times (at 0) one) (times (at 1) one)) (times (at 2) one)) (at 3))
        (vars (a ∷ b ∷ c ∷ r ∷ [])) refl

    en : (((v *ℤ i.of_a) +ℤ (w *ℤ k.of_a)) +ℤ ((v *ℤ i.of_b) +ℤ (w *ℤ k.of_b)))
        +ℤ ((v *ℤ i.of_c) +ℤ (w *ℤ k.of_c)) ≡ (m *ℤ n) *ℤ (mix s p u q).n
    en =
        let e = mean_entry s u m n p.n q.n i.of_a i.of_b i.of_c k.of_a k.of_b k.of_c (pos 1) (pos 1)
        (pos 1) p.n q.n (units i.of_a i.of_b i.of_c p.n) (units k.of_a k.of_b k.of_c q.n) in
        omega (arith, ints, e)

    one : (x y : ℤ) → y ≡ (m *ℤ n) *ℤ x
        → x *ℤ ((((v *ℤ i.of_a) +ℤ (w *ℤ k.of_a)) +ℤ ((v *ℤ i.of_b) +ℤ (w *ℤ k.of_b)))
        +ℤ ((v *ℤ i.of_c) +ℤ (w *ℤ k.of_c))) ≡ y *ℤ (mix s p u q).n
    one x y e = ap (λ (z : ℤ). x *ℤ z) en
        ∙ ring (times (at 0) (times (at 1) (at 2))) (times (times (at 1) (at 0)) (at 2))
        (vars (x ∷ (m *ℤ n) ∷ (mix s p u q).n ∷ [])) refl
        ∙ ap (λ (z : ℤ). z *ℤ (mix s p u q).n) (sym e)

pub triangle_way : (t : Tile) (p q z : Vector) → Place p → Place q → InTile t p → InTile t q
    → IsOnWay p q z → InTile t z
triangle_way t p q z P Q i k w =
    subst (λ (v : Vector). InTile t v) (sym w.is)
    (triangle_mix t w.s p w.t q P Q w.s_least w.t_least w.some i k)
