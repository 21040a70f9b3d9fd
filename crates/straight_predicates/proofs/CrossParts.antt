-- A cross product from its four differences.
use Rattle.std.proofs.Common.{◌≡◌, ℤ, ◌*ℤ◌, ◌-ℤ◌}
use Rattle.plane.specs.declared.kinds.Point.{Point}
use Rattle.plane.specs.Rule.Turns.{cross}

pub cross_parts : (a b c : Point) (bx by cx cy r : ℤ) → bx ≡ b.x -ℤ a.x → by ≡ b.y -ℤ a.y
    → cx ≡ c.x -ℤ a.x → cy ≡ c.y -ℤ a.y
    → r ≡ (bx *ℤ cy) -ℤ (by *ℤ cx) → r ≡ cross a b c
cross_parts a b c bx by cx cy r e f g h k = cc
