-- Turns about one point are transitive, for three points that all come after it.
use Rattle.std.proofs.Common.{◌≡◌, ◌⊎◌, ℤ, pos, ◌+ℤ◌, ◌*ℤ◌, ◌-ℤ◌, ◌<ℤ◌, ◌≤ℤ◌, inl, inr, [], ◌∷◌}
use Rattle.std.proofs.Common.{refl, arith, ap}
use Rattle.std.proofs.lemmas.Int.{ints}
use Rattle.plane.specs.declared.kinds.Point.{Point}
use Rattle.plane.specs.Rule.Turns.{cross}
use Rattle.plane.specs.Forms.Vectors.{sweep, Before}
use Rattle.plane.proofs.Algebra.Laws.{product_positive, product_nonnegative, positive_factor}
use Rattle.plane.proofs.Algebra.Ring.{Expr, at, num, minus, plus, times, vars, ring}
use Rattle.plane.proofs.Runs.Meeting.{factor_zero}
use Rattle.plane.proofs.Linear.SomeWeight.{some_weight}

-- how far the sweep goes from p to a
abbrev way : ℤ → Point → Point → ℤ
way w p a = ((w *ℤ a.x) +ℤ a.y) -ℤ ((w *ℤ p.x) +ℤ p.y)

-- the turn from a to c is the turns from a over b to c, weighed
turns-sum : (w : ℤ) (p a b c : Point)
    → way w p b *ℤ cross p a c ≡ (way w p a *ℤ cross p b c) +ℤ (way w p c *ℤ cross p a b)
turns-sum w p a b c =
    let PX = at 0 in
    let PY = at 1 in
    let AX = at 2 in
    let AY = at 3 in
    let BX = at 4 in let BY = at 5 in let CX = at 6 in let CY = at 7 in let W = at 8 in
    let WAY : Expr → Expr → Expr = λ x y. minus (plus (times W x) y) (plus (times W PX) PY) in
    let CROSS : Expr → Expr → Expr → Expr
    → Expr = λ x y u v. minus (times (minus x PX) (minus v PY))
    (times (minus y PY) (minus u PX)) in
    ring (times (WAY BX BY) (CROSS AX AY CX CY))
    (plus (times (WAY AX AY) (CROSS BX BY CX CY)) (times (WAY CX CY) (CROSS AX AY BX BY)))
    (vars (p.x ∷ p.y ∷ a.x ∷ a.y ∷ b.x ∷ b.y ∷ c.x ∷ c.y ∷ w ∷ [])) refl

-- the signs of such a sum
sum_sign : (ra rb rc ab bc ac : ℤ) → pos 0 <ℤ ra → pos 0 <ℤ rb → pos 0 <ℤ rc
    → rb *ℤ ac ≡ (ra *ℤ bc) +ℤ (rc *ℤ ab) → pos 0 ≤ℤ ab → pos 0 ≤ℤ bc
    → ((pos 0 <ℤ ab) ⊎ (pos 0 <ℤ bc)) → pos 0 <ℤ ac
sum_sign ra rb rc ab bc ac ha hb hc e x y (inl s) =
    let u = product_nonnegative ra bc (omega (arith, ints, ha)) y in
    let v = product_positive rc ab hc s in
    positive_factor rb ac hb (omega (arith, ints, u, v, e))
sum_sign ra rb rc ab bc ac ha hb hc e x y (inr s) =
    let u = product_positive ra bc ha s in
    let v = product_nonnegative rc ab (omega (arith, ints, hc)) x in
    positive_factor rb ac hb (omega (arith, ints, u, v, e))

sum_zero : (ra rb rc ab bc ac : ℤ) → pos 0 <ℤ rb → rb *ℤ ac ≡ (ra *ℤ bc) +ℤ (rc *ℤ ab) → ab ≡ pos 0
    → bc ≡ pos 0 → ac ≡ pos 0
sum_zero ra rb rc ab bc ac hb e x y =
    let u = ap (λ (z : ℤ). ra *ℤ z) y in
    let v = ap (λ (z : ℤ). rc *ℤ z) x in
    let zu = ring (times (at 0) (num (pos 0))) (num (pos 0)) (vars (ra ∷ [])) refl in
    let zv = ring (times (at 0) (num (pos 0))) (num (pos 0)) (vars (rc ∷ [])) refl in
    factor_zero rb ac hb (omega (arith, ints, e, u, v, zu, zv))

module _ (p a b c : Point) (ha : Before p a) (hb : Before p b) (hc : Before p c) where
  -- with some weight all three ways go on
  ways : (w : ℤ) × (pos 0 <ℤ way w p a) × (pos 0 <ℤ way w p b) × (pos 0 <ℤ way w p c)
  unfolding sweep
  ways =
      let (w, l, heavy) = some_weight (p ∷ (a ∷ (b ∷ (c ∷ [])))) in
      let x = heavy p a (inl refl) (inr (inl refl)) ha in
      let y = heavy p b (inl refl) (inr (inr (inl refl))) hb in
      let z = heavy p c (inl refl) (inr (inr (inr (inl refl)))) hc in
      (w, omega (arith, ints, x), omega (arith, ints, y), omega (arith, ints, z))

  pub turns_left : pos 0 ≤ℤ cross p a b → pos 0 ≤ℤ cross p b c
      → ((pos 0 <ℤ cross p a b) ⊎ (pos 0 <ℤ cross p b c)) → pos 0 <ℤ cross p a c
  turns_left x y s =
      let (w, ra, rb, rc) = ways in
      sum_sign (way w p a) (way w p b) (way w p c) (cross p a b) (cross p b c)
      (cross p a c) ra rb rc (turns-sum w p a b c) x y s

  pub turns_none : cross p a b ≡ pos 0 → cross p b c ≡ pos 0 → cross p a c ≡ pos 0
  turns_none x y =
      let (w, ra, rb, rc) = ways in
      sum_zero (way w p a) (way w p b) (way w p c) (cross p a b) (cross p b c) (cross p a c) rb
      (turns-sum w p a b c) x y
