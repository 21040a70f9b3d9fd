-- What lies over a cap: a word of the lemmas on caps.
use Rattle.std.specs.Prelude.{pos, ◌<ℤ◌, ◌≤ℤ◌, ◌⊎◌}
use Rattle.plane.specs.Forms.Vectors.{Vector}
use Rattle.plane.specs.Tubes.Caps.{Cap, shape, InSlab}

-- the place is in the slab and over the circle's lower part
pub record IsOver (c : Cap) (v : Vector) : Type 0 where
  pub slab : InSlab c v
  pub over : (shape c v <ℤ pos 0) ⊎ (pos 0 ≤ℤ v.y)
