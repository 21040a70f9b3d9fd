-- Each list of points has a weight above 0.
-- It is twice a bound of the y of all points, and 1.
use Rattle.std.proofs.Common.{suc, zero, List, [], ◌∷◌, ℤ, pos, negsuc, ◌+ℤ◌, ◌*ℤ◌, ◌-ℤ◌, ◌<ℤ◌}
use Rattle.std.proofs.Common.{◌≤ℤ◌, arith}
use Rattle.std.proofs.lemmas.Int.{ints}
use Rattle.plane.specs.declared.kinds.Point.{Point}
use Rattle.plane.specs.Lists.{Each}
use Rattle.plane.specs.Forms.Weights.{Weight}
use Rattle.plane.proofs.ListLemmas.Lists.{each_map}
use Rattle.plane.proofs.Linear.Weights.{weight_from_spread}

square_most : (b : ℤ) → ((pos 0 -ℤ (b *ℤ b)) ≤ℤ b) × (b ≤ℤ (b *ℤ b))
square_most (pos zero) = (omega (arith, ints), omega (arith, ints))
square_most (pos (suc n)) = (omega (arith, ints), omega (arith, ints))
square_most (negsuc n) = (omega (arith, ints), omega (arith, ints))

bounds : (pts : List Point)
    → (n : ℤ) × (pos 0 ≤ℤ n) × Each (λ p. ((pos 0 -ℤ n) ≤ℤ p.y) × (p.y ≤ℤ n)) pts
bounds [] = (pos 0, omega (arith, ints), tt)
bounds (p ∷ pts) =
    let b = bounds pts in
    let n = b.0 in
    let least = b.1 in
    let s = square_most p.y in
    let low = s.0 in
    let high = s.1 in
    let top = n +ℤ (p.y *ℤ p.y) in (
      top,
      omega (arith, ints, least, low, high),
      (
        (omega (arith, ints, least, low), omega (arith, ints, least, high)),
        each_map (λ q. ((pos 0 -ℤ n) ≤ℤ q.y) × (q.y ≤ℤ n))
            (λ q. ((pos 0 -ℤ top) ≤ℤ q.y) × (q.y ≤ℤ top)) pts
            (λ q h. let x = h.0 in let y = h.1 in
            (omega (arith, ints, x, low, high), omega (arith, ints, y, low, high))) b.2,
      ),
    )

-- for any list of points
pub some_weight : (pts : List Point) → (w : ℤ) × (pos 0 <ℤ w) × Weight w pts
some_weight pts =
    let b = bounds pts in
    let n = b.0 in
    let least = b.1 in
    let w = (n +ℤ n) +ℤ pos 1 in (
      w,
      omega (arith, ints, least),
      weight_from_spread w (pos 0 -ℤ n) n pts
          (omega (arith, ints, least)) (omega (arith, ints)) b.2,
    )
