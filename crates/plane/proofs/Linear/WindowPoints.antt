-- Points of one window are near each other.
use Rattle.std.proofs.Common.{◌^◌, arith}
use Rattle.std.proofs.lemmas.Int.{ints}
use Rattle.plane.specs.declared.kinds.Point.{Point}
use Rattle.plane.specs.Rule.Turns.{AreNear}
use Rattle.plane.specs.Rule.Windows.{IsNarrow, IsInside}

pub inside_near : (low high p q : Point) → IsNarrow low high → IsInside low high p
    → IsInside low high q → AreNear (2 ^ 40) p q
inside_near low high p q n h k =
    let nx = n.x in let ny = n.y in
    let a = h.left in let b = h.right in let c = h.bottom in let d = h.top in
    let e = k.left in let f = k.right in let g = k.bottom in let i = k.top in
    record {
      x = record { above = omega (arith, ints, nx, b, e); below = omega (arith, ints, nx, a, f) };
      y = record { above = omega (arith, ints, ny, d, g); below = omega (arith, ints, ny, c, i) };
    }

pub nearer : (p q : Point) → AreNear (2 ^ 40) p q → AreNear (2 ^ 41) p q
nearer p q h =
    let a = h.x.above in let b = h.x.below in let c = h.y.above in let d = h.y.below in
    record {
      x = record { above = omega (arith, ints, a); below = omega (arith, ints, b) };
      y = record { above = omega (arith, ints, c); below = omega (arith, ints, d) };
    }
