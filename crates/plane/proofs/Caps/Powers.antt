-- The power along a straight between two points, and the fences that the tube's conditions make.
use Rattle.std.proofs.Common.{◌≡◌, ℤ, pos, ◌+ℤ◌, ◌*ℤ◌, ◌-ℤ◌, ◌≤ℤ◌, [], ◌∷◌, refl, arith, ap, ◌∙◌}
use Rattle.std.proofs.Common.{subst}
use Rattle.std.proofs.lemmas.Int.{ints}
use Rattle.plane.specs.declared.kinds.Point.{Point}
use Rattle.plane.specs.Forms.Vectors.{Vector, point, mix}
use Rattle.plane.specs.Forms.Arcs.{HalfArc, wide, tall, third_x, third_y, bend, circle_x, circle_y}
use Rattle.plane.specs.Forms.Arcs.{power, bow}
use Rattle.plane.specs.Tubes.Caps.{IsCap, shape, cap}
use Rattle.plane.specs.Tubes.Bays.{Bay, AreNext, distance, ahead_of_from, ahead_of_to}
use Rattle.plane.proofs.Caps.StripWords.{IsFence}
use Rattle.plane.proofs.Algebra.Laws.{product_nonnegative, square_nonnegative}
use Rattle.plane.proofs.Algebra.Scaling.{product_of_zero}
use Rattle.plane.proofs.Caps.CapOver.{cancel_least}
use Rattle.plane.proofs.Algebra.Ring.{Expr, at, num, plus, minus, times, vars, ring}
use Rattle.plane.proofs.Caps.Seen.{seen-mix, shape_least}
use Rattle.plane.specs.Tubes.Regions.{seen_point}
use Rattle.plane.proofs.Caps.Pictures.{bow-from, bow-to}

-- the square of the distance at the scale of the power
abbrev pub far : HalfArc → Point → Point → ℤ
far h p q = (bend h *ℤ bend h) *ℤ distance p q

abbrev POWER : Expr → Expr → Expr → Expr → Expr → Expr → Expr → Expr → Expr
POWER D A B AX AY x y n =
    let X = minus x (times AX n) in
    let Y = minus y (times AY n) in
    times D (minus (times D (plus (times X X) (times Y Y)))
    (times (plus (times A X) (times B Y)) n))

abbrev FAR : Expr → Expr → Expr → Expr → Expr → Expr
FAR D px py qx qy =
    times (times D D) (plus (times (minus px qx) (minus px qx)) (times (minus py qy) (minus py qy)))

-- along a segment between points
pub power-mix : (h : HalfArc) (s : ℤ) (p : Point) (t : ℤ) (q : Point) →
    power h (mix s (point p) t (point q))
    ≡ ((s +ℤ t) *ℤ ((s *ℤ power h (point p)) +ℤ (t *ℤ power h (point q))))
    -ℤ ((s *ℤ t) *ℤ far h p q)
unfolding power distance
power-mix h s p t q =
    let P : Expr → Expr → Expr → Expr = POWER (at 0) (at 1) (at 2) (at 3) (at 4) in
    let S = at 5 in
    let T = at 6 in let PX = at 7 in let PY = at 8 in let QX = at 9 in let QY = at 10 in
    let one = num (pos 1) in
    let m : Expr → Expr → Expr = λ a b. plus (times S a) (times T b) in
    ring (P (m PX QX) (m PY QY) (m one one))
    (minus (times (plus S T) (plus (times S (P PX PY one)) (times T (P QX QY one))))
    (times (times S T) (FAR (at 0) PX PY QX QY)))
    (vars (bend h ∷ circle_x h ∷ circle_y h ∷ h.from.x ∷ h.from.y ∷ s ∷ t ∷ p.x ∷ p.y ∷ q.x ∷ q.y
    ∷ [])) refl

-- ---- the ends are on the circle
pub power-from : (h : HalfArc) → power h (point h.from) ≡ pos 0
unfolding power
power-from h =
    ring (POWER (at 0) (at 1) (at 2) (at 3) (at 4) (at 3) (at 4) (num (pos 1))) (num (pos 0))
    (vars (bend h ∷ circle_x h ∷ circle_y h ∷ h.from.x ∷ h.from.y ∷ [])) refl

to_circle : (h : HalfArc)
    → (bend h *ℤ ((wide h *ℤ wide h) +ℤ (tall h *ℤ tall h)))
    -ℤ ((circle_x h *ℤ wide h) +ℤ (circle_y h *ℤ tall h)) ≡ pos 0
unfolding bend circle_x circle_y
to_circle h =
    let W = at 0 in let T = at 1 in let EX = at 2 in let EY = at 3 in
    let D = minus (times W EY) (times T EX) in
    let L = plus (times W W) (times T T) in
    let E = plus (times EX EX) (times EY EY) in
    ring (minus (times D L)
    (plus (times (minus (times L EY) (times E T)) W)
    (times (minus (times W E) (times EX L)) T))) (num (pos 0))
    (vars (wide h ∷ tall h ∷ third_x h ∷ third_y h ∷ [])) refl

pub power-to : (h : HalfArc) → power h (point h.to) ≡ pos 0
unfolding power
power-to h =
    let W = minus (at 5) (at 3) in let T = minus (at 6) (at 4) in
    let e = ring (POWER (at 0) (at 1) (at 2) (at 3) (at 4) (at 5) (at 6) (num (pos 1)))
    (times (at 0)
    (minus (times (at 0) (plus (times W W) (times T T)))
    (plus (times (at 1) W) (times (at 2) T))))
    (vars (bend h ∷ circle_x h ∷ circle_y h ∷ h.from.x ∷ h.from.y ∷ h.to.x ∷ h.to.y ∷ [])) refl in
    e ∙ product_of_zero (bend h) _ (to_circle h)

-- ---- seen from the ends
pub power-ahead_of_from : (h : HalfArc) (o : Point)
    → power h (point o) ≡ far h h.from o -ℤ ahead_of_from h o
unfolding power distance ahead_of_from
power-ahead_of_from h o =
    let X = minus (at 5) (at 3) in let Y = minus (at 6) (at 4) in
    ring (POWER (at 0) (at 1) (at 2) (at 3) (at 4) (at 5) (at 6) (num (pos 1)))
    (minus (FAR (at 0) (at 3) (at 4) (at 5) (at 6))
    (times (at 0) (plus (times (at 1) X) (times (at 2) Y))))
    (vars (bend h ∷ circle_x h ∷ circle_y h ∷ h.from.x ∷ h.from.y ∷ o.x ∷ o.y ∷ [])) refl

pub power-ahead_of_to : (h : HalfArc) (o : Point)
    → power h (point o) ≡ far h o h.to -ℤ ahead_of_to h o
unfolding power distance ahead_of_to
power-ahead_of_to h o =
    let TX = at 7 in let TY = at 8 in
    let W = minus TX (at 3) in let T = minus TY (at 4) in
    let D = at 0 in
    let two = num (pos 2) in
    let e = ring (POWER D (at 1) (at 2) (at 3) (at 4) (at 5) (at 6) (num (pos 1)))
    (plus (minus (FAR D (at 5) (at 6) TX TY)
    (times D (plus (times (minus (at 1) (times two (times D W))) (minus (at 5) TX))
    (times (minus (at 2) (times two (times D T))) (minus (at 6) TY)))))
    (times D (minus (times D (plus (times W W) (times T T)))
    (plus (times (at 1) W) (times (at 2) T)))))
    (vars (bend h ∷ circle_x h ∷ circle_y h ∷ h.from.x ∷ h.from.y ∷ o.x ∷ o.y ∷ h.to.x ∷ h.to.y
    ∷ [])) refl in
    e ∙ drop _ _ (product_of_zero (bend h) _ (to_circle h))
  where
    drop : (a b : ℤ) → b ≡ pos 0 → a +ℤ b ≡ a
    drop a b e = omega (arith, ints)

-- ---- fences
distance_least : (p q : Point) → pos 0 ≤ℤ distance p q
unfolding distance
distance_least p q =
    let a = square_nonnegative (p.x -ℤ q.x) in
    let b = square_nonnegative (p.y -ℤ q.y) in omega (arith, ints, a, b)

pub far_least : (h : HalfArc) (p q : Point) → pos 0 ≤ℤ far h p q
far_least h p q =
    product_nonnegative (bend h *ℤ bend h) (distance p q) (square_nonnegative (bend h))
    (distance_least p q)

-- both ends further from the circle than a quarter of the distance
middle_clear : (s t a b d : ℤ) → pos 0 ≤ℤ s → pos 0 ≤ℤ t → pos 0 ≤ℤ d → d ≤ℤ (pos 4 *ℤ a)
    → d ≤ℤ (pos 4 *ℤ b) → pos 0 ≤ℤ (((s +ℤ t) *ℤ ((s *ℤ a) +ℤ (t *ℤ b))) -ℤ ((s *ℤ t) *ℤ d))
middle_clear s t a b d hs ht hd ha hb =
    let st : pos 0 ≤ℤ (s +ℤ t) = omega (arith, ints, hs, ht) in
    let u = product_nonnegative (s +ℤ t) (s *ℤ ((pos 4 *ℤ a) -ℤ d)) st
    (product_nonnegative s ((pos 4 *ℤ a) -ℤ d) hs (omega (arith, ints, ha))) in
    let v = product_nonnegative (s +ℤ t) (t *ℤ ((pos 4 *ℤ b) -ℤ d)) st
    (product_nonnegative t ((pos 4 *ℤ b) -ℤ d) ht (omega (arith, ints, hb))) in
    let w = product_nonnegative ((s -ℤ t) *ℤ (s -ℤ t)) d (square_nonnegative (s -ℤ t)) hd in
    let S = at 0 in let T = at 1 in let A = at 2 in let B = at 3 in let D = at 4 in
    let four = num (pos 4) in
    let i = ring
    (times four (minus (times (plus S T) (plus (times S A) (times T B))) (times (times S T) D)))
    (plus (plus (times (plus S T) (times S (minus (times four A) D)))
    (times (plus S T) (times T (minus (times four B) D))))
    (times (times (minus S T) (minus S T)) D))
    (vars (s ∷ t ∷ a ∷ b ∷ d ∷ [])) refl in
    cancel_least (pos 4) _ (omega (arith, ints)) (sum _ _ _ _ i u v w)
  where
    sum : (x u v w : ℤ) → x ≡ (u +ℤ v) +ℤ w → pos 0 ≤ℤ u → pos 0 ≤ℤ v → pos 0 ≤ℤ w → pos 0 ≤ℤ x
    sum x u v w e a b c = omega (arith, ints)

-- one end on the circle, the other as far from it as from that end
end_clear : (s t b d : ℤ) → pos 0 ≤ℤ s → pos 0 ≤ℤ t → pos 0 ≤ℤ d → d ≤ℤ b
    → pos 0 ≤ℤ (((s +ℤ t) *ℤ (t *ℤ b)) -ℤ ((s *ℤ t) *ℤ d))
end_clear s t b d hs ht hd hb =
    let st : pos 0 ≤ℤ (s +ℤ t) = omega (arith, ints, hs, ht) in
    let u = product_nonnegative (s +ℤ t) (t *ℤ (b -ℤ d)) st
    (product_nonnegative t (b -ℤ d) ht (omega (arith, ints, hb))) in
    let w = product_nonnegative (t *ℤ t) d (square_nonnegative t) hd in
    let S = at 0 in let T = at 1 in let B = at 2 in let D = at 3 in
    let i = ring (minus (times (plus S T) (times T B)) (times (times S T) D))
    (plus (times (plus S T) (times T (minus B D))) (times (times T T) D))
    (vars (s ∷ t ∷ b ∷ d ∷ [])) refl in
    omega (arith, ints, i, u, w)

fence : (h : HalfArc) (p q : Point) → IsCap (cap h) → pos 0 ≤ℤ bow h (point p)
    → pos 0 ≤ℤ bow h (point q)
    → ((s t : ℤ) → pos 0 ≤ℤ s → pos 0 ≤ℤ t → pos 0 ≤ℤ power h (mix s (point p) t (point q)))
    → IsFence (cap h) (seen_point h p) (seen_point h q)
fence h p q hc a b f = record {
  low = a;
  high = b;
  clear = λ s t hs ht some. subst (λ (v : Vector). pos 0 ≤ℤ shape (cap h) v)
      (seen-mix h s (point p) t (point q))
      (shape_least h (mix s (point p) t (point q)) hc (f s t hs ht));
}

pub fence_first : (h : HalfArc) (o : Point) → IsCap (cap h) → pos 0 ≤ℤ bow h (point o)
    → ahead_of_from h o ≤ℤ pos 0 → IsFence (cap h) (seen_point h h.from) (seen_point h o)
fence_first h o hc b k = fence h h.from o hc (let e = bow-from h in omega (arith, ints, e)) b
    (λ s t hs ht.
    let d = far_least h h.from o in
    let e = power-ahead_of_from h o in
    let m : far h h.from o ≤ℤ power h (point o) = omega (arith, ints, e, k) in
    let c = end_clear s t (power h (point o)) (far h h.from o) hs ht d m in
    let z = product_of_zero s (power h (point h.from)) (power-from h) in
    whole (power h (mix s (point h.from) t (point o))) (s +ℤ t) (s *ℤ power h (point h.from))
    (t *ℤ power h (point o)) ((s *ℤ t) *ℤ far h h.from o) (power-mix h s h.from t o) z c)
  where
    whole : (x n a b d : ℤ) → x ≡ (n *ℤ (a +ℤ b)) -ℤ d → a ≡ pos 0 → pos 0 ≤ℤ ((n *ℤ b) -ℤ d)
        → pos 0 ≤ℤ x
    whole x n a b d e z k =
        let f : a +ℤ b ≡ b = omega (arith, ints, z) in
        let g = ap (λ (v : ℤ). n *ℤ v) f in omega (arith, ints, e, g, k)

pub fence_last : (h : HalfArc) (o : Point) → IsCap (cap h) → pos 0 ≤ℤ bow h (point o)
    → ahead_of_to h o ≤ℤ pos 0 → IsFence (cap h) (seen_point h o) (seen_point h h.to)
fence_last h o hc b k = fence h o h.to hc b (let e = bow-to h in omega (arith, ints, e))
    (λ s t hs ht.
    let d = far_least h o h.to in
    let e = power-ahead_of_to h o in
    let m : far h o h.to ≤ℤ power h (point o) = omega (arith, ints, e, k) in
    let c = end_clear t s (power h (point o)) (far h o h.to) ht hs d m in
    let z = product_of_zero t (power h (point h.to)) (power-to h) in
    whole s t (power h (point o)) (t *ℤ power h (point h.to)) (far h o h.to) _
    (power-mix h s o t h.to) z c)
  where
    whole : (s t a b d x : ℤ) → x ≡ ((s +ℤ t) *ℤ ((s *ℤ a) +ℤ b)) -ℤ ((s *ℤ t) *ℤ d) → b ≡ pos 0
        → pos 0 ≤ℤ (((t +ℤ s) *ℤ (s *ℤ a)) -ℤ ((t *ℤ s) *ℤ d)) → pos 0 ≤ℤ x
    whole s t a b d x e z k =
        let f : (s *ℤ a) +ℤ b ≡ s *ℤ a = omega (arith, ints, z) in
        let g = ap (λ (v : ℤ). (s +ℤ t) *ℤ v) f in
        let i = ring
        (minus (times (plus (at 1) (at 0)) (times (at 0) (at 2)))
        (times (times (at 1) (at 0)) (at 3)))
        (minus (times (plus (at 0) (at 1)) (times (at 0) (at 2)))
        (times (times (at 0) (at 1)) (at 3))) (vars (s ∷ t ∷ a ∷ d ∷ [])) refl in
        omega (arith, ints, e, g, i, k)

pub fence_next : (h : HalfArc) (b d : Bay) → IsCap (cap h) → pos 0 ≤ℤ bow h (point b.outer)
    → pos 0 ≤ℤ bow h (point d.outer) → AreNext h b d
    → IsFence (cap h) (seen_point h b.outer) (seen_point h d.outer)
fence_next h b d hc u v n = fence h b.outer d.outer hc u v
    (λ s t hs ht.
    let f = n.first_far in
    let g = n.second_far in
    let c = middle_clear s t (power h (point b.outer)) (power h (point d.outer))
    (far h b.outer d.outer) hs ht (far_least h b.outer d.outer) (omega (arith, ints, f))
    (omega (arith, ints, g)) in
    same _ _ (power-mix h s b.outer t d.outer) c)
  where
    same : (x y : ℤ) → x ≡ y → pos 0 ≤ℤ y → pos 0 ≤ℤ x
    same x y e k = omega (arith, ints)
