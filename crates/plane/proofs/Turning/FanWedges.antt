-- Of the directions round a point, what comes between two of them in their order lies in the wedge
-- between them, if that is less than half a turn.
use Rattle.std.proofs.Common.{◌≡◌, inl, inr, [], ◌∷◌, ℤ, pos, ◌+ℤ◌, ◌*ℤ◌, ◌-ℤ◌, ◌<ℤ◌, ◌≤ℤ◌, refl}
use Rattle.std.proofs.Common.{arith, ap, ◌∙◌}
use Rattle.std.proofs.lemmas.Int.{ints, by_lt_z}
use Rattle.plane.specs.Faces.Directions.{Direction, IsRight, IsLeft, TurnsLeft, Precedes}
use Rattle.plane.proofs.Algebra.Laws.{product_positive, product_nonnegative, positive_factor}
use Rattle.plane.proofs.Algebra.Scaling.{product_of_zero}
use Rattle.plane.proofs.Linear.Signs.{by_sign}
use Rattle.plane.proofs.Algebra.Ring.{at, num, plus, minus, times, vars, ring}
use Rattle.plane.proofs.Turning.Directions.{right_least, left_least, right_left, right_strict}
use Rattle.plane.proofs.Turning.Directions.{left_strict}

-- the direction is strictly between the two others
abbrev pub InWedge : Direction → Direction → Direction → Type 0
InWedge u t x = TurnsLeft u x × TurnsLeft x t

abbrev turn : Direction → Direction → ℤ
turn a b = (a.x *ℤ b.y) -ℤ (a.y *ℤ b.x)

three : (u x t : Direction) → (turn u x *ℤ t.x) +ℤ (turn x t *ℤ u.x) ≡ turn u t *ℤ x.x
three u x t =
    ring (plus (times (minus (times (at 0) (at 3)) (times (at 1) (at 2))) (at 4))
    (times (minus (times (at 2) (at 5)) (times (at 3) (at 4))) (at 0)))
    (times (minus (times (at 0) (at 5)) (times (at 1) (at 4))) (at 2))
    (vars (u.x ∷ u.y ∷ x.x ∷ x.y ∷ t.x ∷ t.y ∷ [])) refl

-- t on the left half, u and x on the right one
late : (u x t : Direction) → IsRight u → IsRight x → IsLeft t → TurnsLeft u x → TurnsLeft u t
    → TurnsLeft x t
late u x t hu hx ht ux ut =
    let a = right_strict u x hu hx ux in
    let e = three u x t in
    let p = product_nonnegative (turn u t) x.x (omega (arith, ints, ut)) (right_least x hx) in
    let q = product_nonnegative (turn u x) (pos 0 -ℤ t.x) (omega (arith, ints, ux))
    (left_least t ht) in
    let i = ring (times (at 0) (minus (num (pos 0)) (at 1)))
    (minus (num (pos 0)) (times (at 0) (at 1))) (vars (turn u x ∷ t.x ∷ [])) refl in
    by_sign (turn x t)
    (λ (l : turn x t <ℤ pos 0).
    let n = product_positive (pos 0 -ℤ turn x t) u.x (omega (arith, ints, l)) a in
    let j = ring (times (minus (num (pos 0)) (at 0)) (at 1))
    (minus (num (pos 0)) (times (at 0) (at 1))) (vars (turn x t ∷ u.x ∷ [])) refl in
    absurd (omega (arith, ints, e, p, q, i, n, j)))
    (λ (l : turn x t ≡ pos 0). absurd (flat l))
    (λ l. l)
  where
    flat : turn x t ≡ pos 0 → ⊥
    flat l =
        let a = right_strict u x hu hx ux in
        let e = three u x t in
        let p = product_nonnegative (turn u t) x.x (omega (arith, ints, ut)) (right_least x hx) in
        let i = ring (times (at 0) (minus (num (pos 0)) (at 1)))
        (minus (num (pos 0)) (times (at 0) (at 1))) (vars (turn u x ∷ t.x ∷ [])) refl in
        let z : turn x t *ℤ u.x ≡ pos 0 = ap (λ (v : ℤ). v *ℤ u.x) l ∙ omega (arith, ints) in
        elim ht [
          | inl k ↦ let q =
              product_positive (turn u x) (pos 0 -ℤ t.x) ux (omega (arith, ints, k)) in
              omega (arith, ints, e, p, q, i, z)
          | inr k ↦
              let y = k.1 in
              let n = product_positive u.x (pos 0 -ℤ t.y) a (omega (arith, ints, y)) in
              let j = ring (times (at 0) (minus (num (pos 0)) (at 1)))
              (minus (num (pos 0)) (times (at 0) (at 1))) (vars (u.x ∷ t.y ∷ [])) refl in
              let m = product_of_zero u.y t.x k.0 in
              omega (arith, ints, n, j, m, ut)
        ]

-- u on the right half, x and t on the left one
early : (u x t : Direction) → IsRight u → IsLeft x → IsLeft t → TurnsLeft x t → TurnsLeft u t
    → TurnsLeft u x
early u x t hu hx ht xt ut =
    let a = left_strict x t hx ht xt in
    let e = three u x t in
    let p = product_nonnegative (turn x t) u.x (omega (arith, ints, xt)) (right_least u hu) in
    let q = product_positive (turn u t) (pos 0 -ℤ x.x) ut a in
    let i = ring (times (at 0) (minus (num (pos 0)) (at 1)))
    (minus (num (pos 0)) (times (at 0) (at 1))) (vars (turn u t ∷ x.x ∷ [])) refl in
    let j = ring (times (at 0) (minus (num (pos 0)) (at 1)))
    (minus (num (pos 0)) (times (at 0) (at 1))) (vars (turn u x ∷ t.x ∷ [])) refl in
    let k = ring (times (at 0) (minus (num (pos 0)) (at 1)))
    (times (minus (num (pos 0)) (at 1)) (at 0)) (vars (turn u x ∷ t.x ∷ [])) refl in
    by_lt_z (pos 0) (pos 0 -ℤ t.x)
    (λ (l : pos 0 <ℤ (pos 0 -ℤ t.x)). positive_factor (pos 0 -ℤ t.x) (turn u x) l
    (omega (arith, ints, e, p, q, i, j, k)))
    (λ (l : (pos 0 -ℤ t.x) ≤ℤ pos 0).
    let m = left_least t ht in
    let z : t.x ≡ pos 0 = omega (arith, ints, l, m) in
    let n = product_of_zero (turn u x) t.x z in
    absurd (omega (arith, ints, e, p, q, i, n)))

-- ---- the opposite directions
abbrev against : Direction → Direction
against a = record { x = pos 0 -ℤ a.x; y = pos 0 -ℤ a.y }

turn_against : (a b : Direction) → turn (against a) (against b) ≡ turn a b
turn_against a b =
    ring (minus (times (minus (num (pos 0)) (at 0)) (minus (num (pos 0)) (at 3)))
    (times (minus (num (pos 0)) (at 1)) (minus (num (pos 0)) (at 2))))
    (minus (times (at 0) (at 3)) (times (at 1) (at 2))) (vars (a.x ∷ a.y ∷ b.x ∷ b.y ∷ [])) refl

left_against : (a b : Direction) → TurnsLeft a b → TurnsLeft (against a) (against b)
left_against a b h = let e = turn_against a b in omega (arith, ints, e, h)

against_left : (a b : Direction) → TurnsLeft (against a) (against b) → TurnsLeft a b
against_left a b h = let e = turn_against a b in omega (arith, ints, e, h)

right_of : (a : Direction) → IsLeft a → IsRight (against a)
right_of a (inl h) = inl (omega (arith, ints, h))
right_of a (inr h) =
    let x = h.0 in let y = h.1 in inr (omega (arith, ints, x), omega (arith, ints, y))

left_of : (a : Direction) → IsRight a → IsLeft (against a)
left_of a (inl h) = inl (omega (arith, ints, h))
left_of a (inr h) =
    let x = h.0 in let y = h.1 in inr (omega (arith, ints, x), omega (arith, ints, y))

turns_once : (a b : Direction) → TurnsLeft a b → TurnsLeft b a → ⊥
turns_once a b h k =
    let e = ring (minus (times (at 0) (at 3)) (times (at 1) (at 2)))
    (minus (num (pos 0)) (minus (times (at 2) (at 1)) (times (at 3) (at 0))))
    (vars (a.x ∷ a.y ∷ b.x ∷ b.y ∷ [])) refl in
    omega (arith, ints, e, h, k)

-- ---- the three ways in which x comes between u and t
pub between : (u t x : Direction) → TurnsLeft u t → Precedes u x → Precedes x t → InWedge u t x
between u t x g (inr (h, a)) (inr (k, b)) = (a, b)
between u t x g (inr (inl h, a)) (inl k) = (a, late u x t h.0 h.1 k.1 a g)
between u t x g (inr (inr h, a)) (inl k) = absurd (right_left x k.0 h.1)
between u t x g (inl h) (inr (inl k, b)) = absurd (right_left x k.0 h.1)
between u t x g (inl h) (inr (inr k, b)) = (early u x t h.0 h.1 k.1 b g, b)
between u t x g (inl h) (inl k) = absurd (right_left x k.0 h.1)

-- t before u: then t is on the right half and u on the left one
round : (u t : Direction) → TurnsLeft u t → Precedes t u → IsRight t × IsLeft u
round u t g (inl h) = h
round u t g (inr (h, a)) = absurd (turns_once u t g a)

pub before : (u t x : Direction) → TurnsLeft u t → Precedes t u → Precedes x t → InWedge u t x
before u t x g k h = from_here (round u t g k) h
  where
    from_here : IsRight t × IsLeft u → Precedes x t → InWedge u t x
    from_here s (inl p) = absurd (right_left t s.0 p.1)
    from_here s (inr (inr p, a)) = absurd (right_left t s.0 p.1)
    from_here s (inr (inl p, a)) = (
      against_left u x
          (early (against u) (against x) (against t) (right_of u s.1) (left_of x p.0) (left_of t p.1)
          (left_against x t a) (left_against u t g)),
      a,
    )

pub after : (u t x : Direction) → TurnsLeft u t → Precedes t u → Precedes u x → InWedge u t x
after u t x g k h = from_here (round u t g k) h
  where
    from_here : IsRight t × IsLeft u → Precedes u x → InWedge u t x
    from_here s (inl p) = absurd (right_left u p.0 s.1)
    from_here s (inr (inl p, a)) = absurd (right_left u p.0 s.1)
    from_here s (inr (inr p, a)) = (
      a,
      against_left x t
          (late (against u) (against x) (against t) (right_of u p.0) (right_of x p.1) (left_of t s.0)
          (left_against u x a) (left_against u t g)),
    )
