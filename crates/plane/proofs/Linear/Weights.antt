-- Weights exist, and with a weight an edge rises.
use Rattle.std.proofs.Common.{ℤ, pos, ◌*ℤ◌, ◌-ℤ◌, ◌<ℤ◌, ◌≤ℤ◌, inl, inr, List, [], ◌∷◌, refl, arith}
use Rattle.std.proofs.Common.{ap}
use Rattle.std.proofs.lemmas.Int.{ints}
use Rattle.plane.specs.declared.kinds.Point.{Point}
use Rattle.plane.specs.Forms.Vectors.{point, sweep, rise, Edge, Before}
use Rattle.plane.specs.Lists.{Each, Has}
use Rattle.plane.specs.Forms.Weights.{Weight}
use Rattle.plane.proofs.Algebra.Laws.{weight_at_most}
use Rattle.plane.proofs.Algebra.Ring.{at, minus, times, vars, ring}
use Rattle.plane.proofs.ListLemmas.Lists.{each_has}
use Rattle.plane.proofs.Linear.Vectors.{rise-is}

weighs : (w l h : ℤ) (a b : Point) → pos 0 <ℤ w → (h -ℤ l) <ℤ w → l ≤ℤ a.y → b.y ≤ℤ h → a.y ≤ℤ h
    → l ≤ℤ b.y → Before a b → sweep w (point a) <ℤ sweep w (point b)
unfolding sweep
weighs w l h a b hw spread al bh ah bl (inl k) =
    let p = weight_at_most w (b.x -ℤ a.x) (omega (arith, ints, hw)) (omega (arith, ints, k)) in
    let e = ring (times (at 0) (minus (at 2) (at 1)))
    (minus (times (at 0) (at 2)) (times (at 0) (at 1))) (vars (w ∷ a.x ∷ b.x ∷ [])) refl in
    omega (arith, ints, p, e, spread, ah, bl)
weighs w l h a b hw spread al bh ah bl (inr k) =
    let x = ap (λ c. w *ℤ c) k.0 in let y = k.1 in omega (arith, ints, x, y)

-- a number greater than the spread of y is a weight
pub weight_from_spread : (w l h : ℤ) (pts : List Point) → pos 0 <ℤ w → (h -ℤ l) <ℤ w
    → Each (λ p. (l ≤ℤ p.y) × (p.y ≤ℤ h)) pts → Weight w pts
weight_from_spread w l h pts hw spread all a b ka kb before =
    let x = each_has (λ p. (l ≤ℤ p.y) × (p.y ≤ℤ h)) pts a all ka in
    let y = each_has (λ p. (l ≤ℤ p.y) × (p.y ≤ℤ h)) pts b all kb in
    weighs w l h a b hw spread x.0 y.1 x.1 y.0 before

-- with a weight of its ends, an edge whose low end comes first rises
pub rise_positive : (w : ℤ) (pts : List Point) (e : Edge) → Weight w pts → Has e.low pts
    → Has e.high pts → Before e.low e.high → pos 0 <ℤ rise w e
rise_positive w pts e weight low high before =
    let a = weight e.low e.high low high before in
    omega (arith, ints, a, rise-is w e)
