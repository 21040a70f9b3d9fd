-- Edges with one low end are in one strict order by slope and number.
use Rattle.std.proofs.Common.{◌≡◌, ℕ, ◌⊎◌, ℤ, pos, ◌+ℤ◌, ◌*ℤ◌, ◌-ℤ◌, ◌<ℤ◌, ◌≤ℤ◌, inl, inr, [], ◌∷◌}
use Rattle.std.proofs.Common.{refl, arith, ap, sym, ◌∙◌, subst}
use Rattle.std.proofs.lemmas.Int.{ints}
use Rattle.plane.specs.declared.kinds.Point.{Point}
use Rattle.plane.specs.Rule.Turns.{cross}
use Rattle.plane.specs.Forms.Vectors.{Edge, sweep, Before}
use Rattle.plane.specs.Runs.Positions.{turn_at}
use Rattle.plane.specs.Runs.Timetables.{BySlope}
use Rattle.plane.proofs.Algebra.Laws.{product_positive, product_nonnegative, positive_factor}
use Rattle.plane.proofs.Algebra.Ring.{Expr, at, num, minus, plus, times, vars, ring}
use Rattle.plane.proofs.Runs.Meeting.{factor_zero}
use Rattle.plane.proofs.Linear.SomeWeight.{some_weight}

-- how far the sweep goes from p to a
abbrev way : ℤ → Point → Point → ℤ
way w p a = ((w *ℤ a.x) +ℤ a.y) -ℤ ((w *ℤ p.x) +ℤ p.y)

-- the turn from a to c is the turns from a over b to c, weighed
turns-sum : (w : ℤ) (p a b c : Point)
    → way w p b *ℤ cross p a c ≡ (way w p a *ℤ cross p b c) +ℤ (way w p c *ℤ cross p a b)
turns-sum w p a b c =
    let PX = at 0 in
    let PY = at 1 in
    let AX = at 2 in
    let AY = at 3 in
    let BX = at 4 in let BY = at 5 in let CX = at 6 in let CY = at 7 in let W = at 8 in
    let WAY : Expr → Expr → Expr = λ x y. minus (plus (times W x) y) (plus (times W PX) PY) in
    let CROSS : Expr → Expr → Expr → Expr
    → Expr = λ x y u v. minus (times (minus x PX) (minus v PY))
    (times (minus y PY) (minus u PX)) in
    ring (times (WAY BX BY) (CROSS AX AY CX CY))
    (plus (times (WAY AX AY) (CROSS BX BY CX CY)) (times (WAY CX CY) (CROSS AX AY BX BY)))
    (vars (p.x ∷ p.y ∷ a.x ∷ a.y ∷ b.x ∷ b.y ∷ c.x ∷ c.y ∷ w ∷ [])) refl

-- the signs of such a sum
sum_sign : (ra rb rc ab bc ac : ℤ) → pos 0 <ℤ ra → pos 0 <ℤ rb → pos 0 <ℤ rc
    → rb *ℤ ac ≡ (ra *ℤ bc) +ℤ (rc *ℤ ab) → pos 0 ≤ℤ ab → pos 0 ≤ℤ bc
    → ((pos 0 <ℤ ab) ⊎ (pos 0 <ℤ bc)) → pos 0 <ℤ ac
sum_sign ra rb rc ab bc ac ha hb hc e x y (inl s) =
    let u = product_nonnegative ra bc (omega (arith, ints, ha)) y in
    let v = product_positive rc ab hc s in
    positive_factor rb ac hb (omega (arith, ints, u, v, e))
sum_sign ra rb rc ab bc ac ha hb hc e x y (inr s) =
    let u = product_positive ra bc ha s in
    let v = product_nonnegative rc ab (omega (arith, ints, hc)) x in
    positive_factor rb ac hb (omega (arith, ints, u, v, e))

sum_zero : (ra rb rc ab bc ac : ℤ) → pos 0 <ℤ rb → rb *ℤ ac ≡ (ra *ℤ bc) +ℤ (rc *ℤ ab) → ab ≡ pos 0
    → bc ≡ pos 0 → ac ≡ pos 0
sum_zero ra rb rc ab bc ac hb e x y =
    let u = ap (λ (z : ℤ). ra *ℤ z) y in
    let v = ap (λ (z : ℤ). rc *ℤ z) x in
    let zu = ring (times (at 0) (num (pos 0))) (num (pos 0)) (vars (ra ∷ [])) refl in
    let zv = ring (times (at 0) (num (pos 0))) (num (pos 0)) (vars (rc ∷ [])) refl in
    factor_zero rb ac hb (omega (arith, ints, e, u, v, zu, zv))

module _ (p a b c : Point) (ha : Before p a) (hb : Before p b) (hc : Before p c) where
  -- with some weight all three ways go on
  ways : (w : ℤ) × (pos 0 <ℤ way w p a) × (pos 0 <ℤ way w p b) × (pos 0 <ℤ way w p c)
  unfolding sweep
  ways =
      let (w, l, heavy) = some_weight (p ∷ (a ∷ (b ∷ (c ∷ [])))) in
      let x = heavy p a (inl refl) (inr (inl refl)) ha in
      let y = heavy p b (inl refl) (inr (inr (inl refl))) hb in
      let z = heavy p c (inl refl) (inr (inr (inr (inl refl)))) hc in
      (w, omega (arith, ints, x), omega (arith, ints, y), omega (arith, ints, z))

  turns_left : pos 0 ≤ℤ cross p a b → pos 0 ≤ℤ cross p b c
      → ((pos 0 <ℤ cross p a b) ⊎ (pos 0 <ℤ cross p b c)) → pos 0 <ℤ cross p a c
  turns_left x y s =
      let (w, ra, rb, rc) = ways in
      sum_sign (way w p a) (way w p b) (way w p c) (cross p a b) (cross p b c)
      (cross p a c) ra rb rc (turns-sum w p a b c) x y s

  turns_none : cross p a b ≡ pos 0 → cross p b c ≡ pos 0 → cross p a c ≡ pos 0
  turns_none x y =
      let (w, ra, rb, rc) = ways in
      sum_zero (way w p a) (way w p b) (way w p c) (cross p a b) (cross p b c) (cross p a c) rb
      (turns-sum w p a b c) x y

-- an edge that starts at p and goes on from there
abbrev pub StartsAt : (ℕ → Edge) → Point → ℕ → Type 0
StartsAt E p e = ((E e).low ≡ p) × Before (E e).low (E e).high

from_there : (E : ℕ → Edge) (p : Point) (e : ℕ) → StartsAt E p e → Before p (E e).high
from_there E p e s = subst (λ (q : Point). Before q (E e).high) s.0 s.1

turn_there : (E : ℕ → Edge) (p v : Point) (e : ℕ) → StartsAt E p e
    → turn_at E e v ≡ cross p (E e).high v
turn_there E p v e s = ap (λ (q : Point). cross q (E e).high v) s.0

pub slope_never : (E : ℕ → Edge) (p : Point) (a : ℕ) → StartsAt E p a → BySlope E a a → ⊥
slope_never E p a s (inl l) =
    let z = ring
    (minus (times (minus (at 2) (at 0)) (minus (at 3) (at 1)))
    (times (minus (at 3) (at 1)) (minus (at 2) (at 0)))) (num (pos 0))
    (vars ((E a).low.x ∷ (E a).low.y ∷ (E a).high.x ∷ (E a).high.y ∷ [])) refl in
    omega (arith, ints, l, z)
slope_never E p a s (inr l) = let k = l.1 in omega (arith, k)

pub slope_trans : (E : ℕ → Edge) (p : Point) (a b c : ℕ) → StartsAt E p a → StartsAt E p b
    → StartsAt E p c → BySlope E a b → BySlope E b c → BySlope E a c
slope_trans E p a b c sa sb sc h k = both h k
  where
    ab : turn_at E a (E b).high ≡ cross p (E a).high (E b).high
    ab = turn_there E p (E b).high a sa

    bc : turn_at E b (E c).high ≡ cross p (E b).high (E c).high
    bc = turn_there E p (E c).high b sb

    ac : turn_at E a (E c).high ≡ cross p (E a).high (E c).high
    ac = turn_there E p (E c).high a sa

    left : pos 0 ≤ℤ turn_at E a (E b).high → pos 0 ≤ℤ turn_at E b (E c).high
        → ((pos 0 <ℤ turn_at E a (E b).high) ⊎ (pos 0 <ℤ turn_at E b (E c).high))
        → pos 0 <ℤ turn_at E a (E c).high
    left x y s =
        subst (λ (z : ℤ). pos 0 <ℤ z) (sym ac)
        (turns_left p (E a).high (E b).high (E c).high (from_there E p a sa) (from_there E p b sb)
        (from_there E p c sc)
        (subst (λ (z : ℤ). pos 0 ≤ℤ z) ab x) (subst (λ (z : ℤ). pos 0 ≤ℤ z) bc y)
        (elim s [
          | inl l ↦ inl (subst (λ (z : ℤ). pos 0 <ℤ z) ab l)
          | inr l ↦ inr (subst (λ (z : ℤ). pos 0 <ℤ z) bc l)
        ]))

    both : BySlope E a b → BySlope E b c → BySlope E a c
    both (inl x) (inl y) = inl (left (omega (arith, ints, x)) (omega (arith, ints, y)) (inl x))
    both (inl x) (inr y) =
        let z = y.0 in inl (left (omega (arith, ints, x)) (omega (arith, ints, z)) (inl x))
    both (inr x) (inl y) =
        let z = x.0 in inl (left (omega (arith, ints, z)) (omega (arith, ints, y)) (inr y))
    both (inr x) (inr y) =
        let l = x.1 in
        let r = y.1 in
        inr (
          ac ∙ turns_none p (E a).high (E b).high (E c).high (from_there E p a sa)
              (from_there E p b sb) (from_there E p c sc) (sym ab ∙ x.0) (sym bc ∙ y.0),
          omega (arith, l, r),
        )
