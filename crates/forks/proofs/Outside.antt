-- A way that leads out of a circle ends strictly outside.
use Rattle.std.proofs.Common.{◌≡◌, ◌↔◌, ◌⊎◌, inl, inr, ℕ, zero, suc, ℤ, pos, negsuc, ◌+ℤ◌, ◌*ℤ◌}
use Rattle.std.proofs.Common.{◌-ℤ◌, ◌<ℤ◌, ◌≤ℤ◌, [], ◌∷◌, refl, arith, ap, ◌∙◌, unsigned_abs}
use Rattle.std.proofs.lemmas.Int.{ints, by_lt_z}
use Rattle.std.specs.Int.{int_div_euclid}
use Rattle.plane.specs.declared.kinds.Point.{Point}
use Rattle.plane.specs.Forms.Bends.{square}
use Rattle.plane.specs.Rule.HalfArcs.{HalfArc, HasCircle, bend, circle_x, circle_y, power}
use Rattle.plane.specs.Rule.Places.{point}
use Rattle.plane.proofs.Algebra.Laws.{product_positive}
use Rattle.plane.proofs.Algebra.Ring.{at, minus, plus, num, times, vars, ring}
use Rattle.plane.proofs.Algebra.Scaling.{times_le}
use Rattle.forks.specs.Zones.{LeadsOut, signed}
use Rattle.forks.proofs.Rounding.{div_down}

abbrev Below : ℤ → ℤ → ℤ → Type 0
Below t d v = (t ≤ℤ pos 0) ⊎ (int_div_euclid t d <ℤ v)

more : (d n : ℤ) → d *ℤ (n +ℤ pos 1) ≡ (d *ℤ n) +ℤ d
more d n = ring (times (at 0) (plus (at 1) (num (pos 1)))) (plus (times (at 0) (at 1)) (at 0))
    (vars (d ∷ n ∷ [])) refl

below_product : (t d v : ℤ) → pos 0 <ℤ d → pos 0 <ℤ v → Below t d v → t <ℤ (d *ℤ v)
below_product t d v h k (inl l) = let p = product_positive d v h k in omega (arith, ints, l, p)
below_product t d v h k (inr l) =
    let n = int_div_euclid t d in
    let a = (div_down t d h).least in
    let b = times_le d (n +ℤ pos 1) v (omega (arith, ints, h)) (omega (arith, ints, l)) in
    let e = more d n in
    omega (arith, ints, a, b, e)

product_below : (t d v : ℤ) → pos 0 <ℤ d → t <ℤ (d *ℤ v) → Below t d v
product_below t d v h l =
    let n = int_div_euclid t d in
    by_lt_z n v (λ k. inr k) (λ k.
    let a = (div_down t d h).most in
    let b = times_le d v n (omega (arith, ints, h)) k in
    absurd (omega (arith, ints, a, b, l)))

below_is : (t d v : ℤ) → pos 0 <ℤ d → pos 0 <ℤ v → Below t d v ↔ (t <ℤ (d *ℤ v))
below_is t d v h k = (below_product t d v h k, product_below t d v h)

minus_times : (k : ℕ) (v : ℤ) → pos (suc k) *ℤ v ≡ pos 0 -ℤ (negsuc k *ℤ v)
minus_times k v =
    let q : negsuc k ≡ pos 0 -ℤ pos (suc k) = omega (arith, ints) in
    let e : (pos 0 -ℤ pos (suc k)) *ℤ v
    ≡ pos 0 -ℤ (pos (suc k) *ℤ v) =
    ring (times (minus (num (pos 0)) (at 0)) (at 1)) (minus (num (pos 0)) (times (at 0) (at 1)))
    (vars (pos (suc k) ∷ v ∷ [])) refl in
    let f : negsuc k *ℤ v ≡ pos 0 -ℤ (pos (suc k) *ℤ v) = ap (λ (z : ℤ). z *ℤ v) q ∙ e in
    omega (arith, ints, f)

module _ (p r v : ℤ) (some : pos 0 <ℤ v) where
  by_turn : (d : ℤ) → (d ≡ pos 0 → ⊥) → (pos 0 <ℤ d → (pos 0 <ℤ p) ↔ (r <ℤ (d *ℤ v)))
      → (d <ℤ pos 0 → (pos 0 <ℤ p) ↔ ((d *ℤ v) <ℤ r))
      → Below (signed d r) (pos (unsigned_abs d)) v ↔ (pos 0 <ℤ p)
  by_turn (pos zero) n left right = absurd (n refl)
  by_turn (pos (suc k)) n left right =
      let b = below_is r (pos (suc k)) v (omega (arith, ints)) some in
      let l = left (omega (arith, ints)) in
      ((λ x. l.1 (b.0 x)), (λ y. b.1 (l.0 y)))
  by_turn (negsuc k) n left right =
      let b = below_is (pos 0 -ℤ r) (pos (suc k)) v (omega (arith, ints)) some in
      let l = right (omega (arith, ints)) in
      let e = minus_times k v in (
        (λ x. l.1 (let y = b.0 x in omega (arith, ints, y, e))),
        (λ y. b.1 (let x = l.0 y in omega (arith, ints, x, e))),
      )

abbrev Weighed : HalfArc → Point → ℤ
Weighed h q = (circle_x h *ℤ (q.x -ℤ h.from.x)) +ℤ (circle_y h *ℤ (q.y -ℤ h.from.y))

pub leads_out : ((h : HalfArc) (q : Point) → pos 0 <ℤ bend h
    → (pos 0 <ℤ power h (point q)) ↔ (Weighed h q <ℤ (bend h *ℤ square h.from q)))
    → ((h : HalfArc) (q : Point) → bend h <ℤ pos 0
    → (pos 0 <ℤ power h (point q)) ↔ ((bend h *ℤ square h.from q) <ℤ Weighed h q))
    → (h : HalfArc) (q : Point) → HasCircle h → pos 0 <ℤ square h.from q
    → LeadsOut h q ↔ (pos 0 <ℤ power h (point q))
leads_out left right h q c some =
    by_turn (power h (point q)) (Weighed h q) (square h.from q) some (bend h) c.bent (left h q)
    (right h q)
