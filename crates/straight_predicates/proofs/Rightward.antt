-- The direction of an edge is to the right, or straight up.
use Rattle.std.proofs.Common.{◌≡◌, inl, inr, ℤ, ◌-ℤ◌, arith}
use Rattle.std.proofs.lemmas.Int.{ints}
use Rattle.plane.specs.declared.kinds.Point.{Point}
use Rattle.plane.specs.Forms.Vectors.{Before}
use Rattle.straight_predicates.specs.Rightward.{IsRightward}

-- x and y as they are kept, and as they were given
pub rightward : (low high : Point) (kept_x kept_y x y : ℤ) → Before low high → kept_x ≡ x
    → kept_y ≡ y → x ≡ high.x -ℤ low.x → y ≡ high.y -ℤ low.y → IsRightward kept_x kept_y
rightward low high kx ky x y (inl l) ex ey fx fy =
    record {
      least = omega (arith, ints, l, ex, fx);
      upright = λ z. absurd (omega (arith, ints, l, ex, fx, z));
    }
rightward low high kx ky x y (inr l) ex ey fx fy =
    let a = l.0 in
    let b = l.1 in
    record { least = omega (arith, ints, a, ex, fx); upright = λ z. omega (arith, ints, b, ey, fy) }
