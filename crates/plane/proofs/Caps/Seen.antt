-- A half arc's own picture: it is linear, and the circle is that of a cap.
use Rattle.std.proofs.Common.{◌≡◌, ℤ, pos, ◌+ℤ◌, ◌*ℤ◌, ◌-ℤ◌, ◌<ℤ◌, ◌≤ℤ◌, [], ◌∷◌, refl, arith, ◌∙◌}
use Rattle.std.proofs.Common.{subst, sym}
use Rattle.std.proofs.lemmas.Int.{ints, by_lt_z}
use Rattle.plane.specs.Forms.Vectors.{Vector, Same, mix}
use Rattle.plane.specs.Forms.Arcs.{HalfArc, wide, tall, third_x, third_y, bend, circle_x, circle_y}
use Rattle.plane.specs.Forms.Arcs.{chord, facing, power, along, bow, seen}
use Rattle.plane.specs.Tubes.Caps.{IsCap, shape, cap}
use Rattle.plane.proofs.Algebra.Laws.{product_positive, square_nonnegative}
use Rattle.plane.proofs.Algebra.Scaling.{cancel_zero, times_le, product_of_zero}
use Rattle.plane.proofs.Algebra.Ring.{Expr, at, num, plus, minus, times, vars, ring}
use Rattle.plane.proofs.Caps.CapOver.{cancel_below, cancel_least, cancel_most, times_below}
use Rattle.plane.proofs.Caps.CapOver.{times_most}
use Rattle.plane.proofs.Linear.Clear.{vector_eq}

-- the circle by its chord
pub chord-form : (h : HalfArc) (v : Vector) → chord h *ℤ power h v ≡ shape (cap h) (seen h v)
unfolding chord power shape along bow bend facing circle_x circle_y
chord-form h v =
    let W = at 0 in let T = at 1 in let EX = at 2 in let EY = at 3 in
    let X = at 4 in let Y = at 5 in let N = at 6 in
    let D = minus (times W EY) (times T EX) in
    let L = plus (times W W) (times T T) in
    let E = plus (times EX EX) (times EY EY) in
    let A = minus (times L EY) (times E T) in
    let B = minus (times W E) (times EX L) in
    let M = plus (times EX (minus EX W)) (times EY (minus EY T)) in
    let P = times D
    (minus (times D (plus (times X X) (times Y Y))) (times (plus (times A X) (times B Y)) N)) in
    let S = plus (times W X) (times T Y) in
    let G = minus (num (pos 0)) (times D (minus (times W Y) (times T X))) in
    ring (times L P)
    (plus (times (times D D) (times S (minus S (times L N))))
    (times G (plus G (times (times L M) N))))
    (vars (wide h ∷ tall h ∷ third_x h ∷ third_y h ∷ (v.x -ℤ (h.from.x *ℤ v.n))
    ∷ (v.y -ℤ (h.from.y *ℤ v.n)) ∷ v.n ∷ [])) refl

-- the picture is linear
pub along-mix : (h : HalfArc) (s : ℤ) (p : Vector) (t : ℤ) (q : Vector)
    → along h (mix s p t q) ≡ (s *ℤ along h p) +ℤ (t *ℤ along h q)
unfolding along
along-mix h s p t q =
    let f : Expr → Expr → Expr
    → Expr = λ x y n. plus (times (at 0) (minus x (times (at 2) n)))
    (times (at 1) (minus y (times (at 3) n))) in
    let m : Expr → Expr → Expr = λ a b. plus (times (at 4) a) (times (at 5) b) in
    ring (f (m (at 6) (at 9)) (m (at 7) (at 10)) (m (at 8) (at 11)))
    (m (f (at 6) (at 7) (at 8)) (f (at 9) (at 10) (at 11)))
    (vars (wide h ∷ tall h ∷ h.from.x ∷ h.from.y ∷ s ∷ t ∷ p.x ∷ p.y ∷ p.n ∷ q.x ∷ q.y ∷ q.n ∷ []))
    refl

pub bow-mix : (h : HalfArc) (s : ℤ) (p : Vector) (t : ℤ) (q : Vector)
    → bow h (mix s p t q) ≡ (s *ℤ bow h p) +ℤ (t *ℤ bow h q)
unfolding bow
bow-mix h s p t q =
    let f : Expr → Expr → Expr
    → Expr = λ x y n. minus (num (pos 0))
    (times (at 12)
    (minus (times (at 0) (minus y (times (at 3) n)))
    (times (at 1) (minus x (times (at 2) n))))) in
    let m : Expr → Expr → Expr = λ a b. plus (times (at 4) a) (times (at 5) b) in
    ring (f (m (at 6) (at 9)) (m (at 7) (at 10)) (m (at 8) (at 11)))
    (m (f (at 6) (at 7) (at 8)) (f (at 9) (at 10) (at 11)))
    (vars (wide h ∷ tall h ∷ h.from.x ∷ h.from.y ∷ s ∷ t ∷ p.x ∷ p.y ∷ p.n ∷ q.x ∷ q.y ∷ q.n
    ∷ bend h ∷ [])) refl

pub seen-mix : (h : HalfArc) (s : ℤ) (p : Vector) (t : ℤ) (q : Vector)
    → seen h (mix s p t q) ≡ mix s (seen h p) t (seen h q)
seen-mix h s p t q = vector_eq _ _ (along-mix h s p t q) (bow-mix h s p t q) refl

-- the picture shows each place where it is
along_cross : (h : HalfArc) (z m : Vector)
    → ((along h z *ℤ m.n) -ℤ (along h m *ℤ z.n))
    ≡ (wide h *ℤ ((z.x *ℤ m.n) -ℤ (m.x *ℤ z.n))) +ℤ (tall h *ℤ ((z.y *ℤ m.n) -ℤ (m.y *ℤ z.n)))
unfolding along
along_cross h z m =
    let f : Expr → Expr → Expr
    → Expr = λ x y n. plus (times (at 0) (minus x (times (at 2) n)))
    (times (at 1) (minus y (times (at 3) n))) in
    ring (minus (times (f (at 4) (at 5) (at 6)) (at 9)) (times (f (at 7) (at 8) (at 9)) (at 6)))
    (plus (times (at 0) (minus (times (at 4) (at 9)) (times (at 7) (at 6))))
    (times (at 1) (minus (times (at 5) (at 9)) (times (at 8) (at 6)))))
    (vars (wide h ∷ tall h ∷ h.from.x ∷ h.from.y ∷ z.x ∷ z.y ∷ z.n ∷ m.x ∷ m.y ∷ m.n ∷ [])) refl

bow_cross : (h : HalfArc) (z m : Vector)
    → ((bow h z *ℤ m.n) -ℤ (bow h m *ℤ z.n))
    ≡ bend h *ℤ ((tall h *ℤ ((z.x *ℤ m.n) -ℤ (m.x *ℤ z.n)))
    -ℤ (wide h *ℤ ((z.y *ℤ m.n) -ℤ (m.y *ℤ z.n))))
unfolding bow
bow_cross h z m =
    let f : Expr → Expr → Expr
    → Expr = λ x y n. minus (num (pos 0))
    (times (at 10)
    (minus (times (at 0) (minus y (times (at 3) n)))
    (times (at 1) (minus x (times (at 2) n))))) in
    ring (minus (times (f (at 4) (at 5) (at 6)) (at 9)) (times (f (at 7) (at 8) (at 9)) (at 6)))
    (times (at 10)
    (minus (times (at 1) (minus (times (at 4) (at 9)) (times (at 7) (at 6))))
    (times (at 0) (minus (times (at 5) (at 9)) (times (at 8) (at 6))))))
    (vars (wide h ∷ tall h ∷ h.from.x ∷ h.from.y ∷ z.x ∷ z.y ∷ z.n ∷ m.x ∷ m.y ∷ m.n ∷ bend h ∷ []))
    refl

equal_from : (a b : ℤ) → a -ℤ b ≡ pos 0 → a ≡ b
equal_from a b e = omega (arith, ints)

zero_from : (a b : ℤ) → a ≡ b → a -ℤ b ≡ pos 0
zero_from a b e = omega (arith, ints)

sum_zero : (a b x y : ℤ) → x ≡ pos 0 → y ≡ pos 0 → (a *ℤ x) +ℤ (b *ℤ y) ≡ pos 0
sum_zero a b x y e f =
    let p = product_of_zero a x e in let q = product_of_zero b y f in omega (arith, ints, p, q)

difference_zero : (a b x y : ℤ) → x ≡ pos 0 → y ≡ pos 0 → (a *ℤ x) -ℤ (b *ℤ y) ≡ pos 0
difference_zero a b x y e f =
    let p = product_of_zero a x e in let q = product_of_zero b y f in omega (arith, ints, p, q)

pub seen_same : (h : HalfArc) (z m : Vector) → Same z m → Same (seen h z) (seen h m)
seen_same h z m e =
    let dx = zero_from (z.x *ℤ m.n) (m.x *ℤ z.n) e.x in
    let dy = zero_from (z.y *ℤ m.n) (m.y *ℤ z.n) e.y in
    record {
      x = equal_from _ _ (along_cross h z m ∙ sum_zero (wide h) (tall h) _ _ dx dy);
      y = equal_from _ _ (bow_cross h z m
          ∙ product_of_zero (bend h) _ (difference_zero (tall h) (wide h) _ _ dx dy));
    }

-- and only there
unturned : (w t x y : ℤ)
    → ((w *ℤ w) +ℤ (t *ℤ t)) *ℤ x ≡ (w *ℤ ((w *ℤ x) +ℤ (t *ℤ y))) +ℤ (t *ℤ ((t *ℤ x) -ℤ (w *ℤ y)))
unturned w t x y =
    let W = at 0 in let T = at 1 in let X = at 2 in let Y = at 3 in
    ring (times (plus (times W W) (times T T)) X)
    (plus (times W (plus (times W X) (times T Y))) (times T (minus (times T X) (times W Y))))
    (vars (w ∷ t ∷ x ∷ y ∷ [])) refl

unturned_too : (w t x y : ℤ)
    → ((w *ℤ w) +ℤ (t *ℤ t)) *ℤ y ≡ (t *ℤ ((w *ℤ x) +ℤ (t *ℤ y))) -ℤ (w *ℤ ((t *ℤ x) -ℤ (w *ℤ y)))
unturned_too w t x y =
    let W = at 0 in let T = at 1 in let X = at 2 in let Y = at 3 in
    ring (times (plus (times W W) (times T T)) Y)
    (minus (times T (plus (times W X) (times T Y))) (times W (minus (times T X) (times W Y))))
    (vars (w ∷ t ∷ x ∷ y ∷ [])) refl

square_cancel : (b x : ℤ) → pos 0 <ℤ (b *ℤ b) → b *ℤ x ≡ pos 0 → x ≡ pos 0
square_cancel b x h e =
    let i = ring (times (times (at 0) (at 0)) (at 1)) (times (at 0) (times (at 0) (at 1)))
    (vars (b ∷ x ∷ [])) refl in
    cancel_zero (b *ℤ b) x h (i ∙ product_of_zero b (b *ℤ x) e)

chord_length : (h : HalfArc) → IsCap (cap h) → pos 0 <ℤ ((wide h *ℤ wide h) +ℤ (tall h *ℤ tall h))
unfolding chord
chord_length h hc = hc.chord

pub seen_only : (h : HalfArc) (z m : Vector) → IsCap (cap h) → Same (seen h z) (seen h m) → Same z m
seen_only h z m hc e =
    let dx = (z.x *ℤ m.n) -ℤ (m.x *ℤ z.n) in
    let dy = (z.y *ℤ m.n) -ℤ (m.y *ℤ z.n) in
    let s : (wide h *ℤ dx) +ℤ (tall h *ℤ dy) ≡ pos 0 = sym (along_cross h z m)
    ∙ zero_from _ _ e.x in
    let g : (tall h *ℤ dx) -ℤ (wide h *ℤ dy)
    ≡ pos 0 = square_cancel (bend h) _ hc.size (sym (bow_cross h z m) ∙ zero_from _ _ e.y) in
    record {
      x = equal_from _ _
          (cancel_zero ((wide h *ℤ wide h) +ℤ (tall h *ℤ tall h)) dx (chord_length h hc)
          (unturned (wide h) (tall h) dx dy ∙ sum_zero (wide h) (tall h) _ _ s g));
      y = equal_from _ _
          (cancel_zero ((wide h *ℤ wide h) +ℤ (tall h *ℤ tall h)) dy (chord_length h hc)
          (unturned_too (wide h) (tall h) dx dy ∙ difference_zero (tall h) (wide h) _ _ s g));
    }

-- ---- the signs of the power are those of the shape
pub power_below : (h : HalfArc) (v : Vector) → IsCap (cap h) → shape (cap h) (seen h v) <ℤ pos 0
    → power h v <ℤ pos 0
power_below h v hc k =
    cancel_below (chord h) (power h v) hc.chord
    (subst (λ (z : ℤ). z <ℤ pos 0) (sym (chord-form h v)) k)

pub power_most : (h : HalfArc) (v : Vector) → IsCap (cap h) → shape (cap h) (seen h v) ≤ℤ pos 0
    → power h v ≤ℤ pos 0
power_most h v hc k =
    cancel_most (chord h) (power h v) hc.chord
    (subst (λ (z : ℤ). z ≤ℤ pos 0) (sym (chord-form h v)) k)

pub power_least : (h : HalfArc) (v : Vector) → IsCap (cap h) → pos 0 ≤ℤ shape (cap h) (seen h v)
    → pos 0 ≤ℤ power h v
power_least h v hc k =
    cancel_least (chord h) (power h v) hc.chord
    (subst (λ (z : ℤ). pos 0 ≤ℤ z) (sym (chord-form h v)) k)

pub shape_below : (h : HalfArc) (v : Vector) → IsCap (cap h) → power h v <ℤ pos 0
    → shape (cap h) (seen h v) <ℤ pos 0
shape_below h v hc k =
    subst (λ (z : ℤ). z <ℤ pos 0) (chord-form h v) (times_below (chord h) (power h v) hc.chord k)

pub shape_most : (h : HalfArc) (v : Vector) → IsCap (cap h) → power h v ≤ℤ pos 0
    → shape (cap h) (seen h v) ≤ℤ pos 0
shape_most h v hc k =
    subst (λ (z : ℤ). z ≤ℤ pos 0) (chord-form h v)
    (times_most (chord h) (power h v) (let l = hc.chord in omega (arith, ints, l)) k)

pub shape_least : (h : HalfArc) (v : Vector) → IsCap (cap h) → pos 0 ≤ℤ power h v
    → pos 0 ≤ℤ shape (cap h) (seen h v)
shape_least h v hc k =
    subst (λ (z : ℤ). pos 0 ≤ℤ z) (chord-form h v)
    (let p = times_le (chord h) (pos 0) (power h v) (let l = hc.chord in
    omega (arith, ints, l)) k in omega (arith, ints, p))

-- ---- a half arc of less than half a turn makes a cap
no_length : (x y z d q : ℤ) → x ≡ d +ℤ q → x ≡ y → y ≡ pos 0 → pos 0 <ℤ d → pos 0 ≤ℤ q → ⊥
no_length x y z d q e f g h k = omega (arith, ints, e, f, g, h, k)

chord_positive : (h : HalfArc) → pos 0 <ℤ (bend h *ℤ bend h) → pos 0 <ℤ chord h
unfolding chord bend
chord_positive h b =
    let W = at 0 in let T = at 1 in let EX = at 2 in let EY = at 3 in
    let D = minus (times W EY) (times T EX) in
    let S = plus (times W EX) (times T EY) in
    let i = ring (times (plus (times W W) (times T T)) (plus (times EX EX) (times EY EY)))
    (plus (times D D) (times S S)) (vars (wide h ∷ tall h ∷ third_x h ∷ third_y h ∷ [])) refl in
    let q = square_nonnegative ((wide h *ℤ third_x h) +ℤ (tall h *ℤ third_y h)) in
    let w1 = square_nonnegative (wide h) in
    let w2 = square_nonnegative (tall h) in
    by_lt_z (pos 0) ((wide h *ℤ wide h) +ℤ (tall h *ℤ tall h)) (λ l. l)
    (λ (l : ((wide h *ℤ wide h) +ℤ (tall h *ℤ tall h)) ≤ℤ pos 0).
    let z : ((third_x h *ℤ third_x h) +ℤ (third_y h *ℤ third_y h))
    *ℤ ((wide h *ℤ wide h) +ℤ (tall h *ℤ tall h)) ≡ pos 0 =
    product_of_zero ((third_x h *ℤ third_x h) +ℤ (third_y h *ℤ third_y h))
    ((wide h *ℤ wide h) +ℤ (tall h *ℤ tall h)) (omega (arith, ints, l, w1, w2)) in
    let k = ring (times (plus (times W W) (times T T)) (plus (times EX EX) (times EY EY)))
    (times (plus (times EX EX) (times EY EY)) (plus (times W W) (times T T)))
    (vars (wide h ∷ tall h ∷ third_x h ∷ third_y h ∷ [])) refl in
    absurd (no_length _ _ (pos 0) _ _ i k z b q))

pub cap_is : (h : HalfArc) → pos 0 <ℤ (bend h *ℤ bend h) → pos 0 <ℤ facing h → IsCap (cap h)
cap_is h b f =
    let l = chord_positive h b in
    record { size = b; chord = l; sag = product_positive (chord h) (facing h) l f }
