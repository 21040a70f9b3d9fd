-- A cap of a circle over a chord, in its own picture: the chord lies on the x axis from 0 to
-- `chord`.
use Rattle.std.specs.Prelude.{ℤ, pos, ◌+ℤ◌, ◌*ℤ◌, ◌-ℤ◌, ◌<ℤ◌, ◌≤ℤ◌}
use Rattle.plane.specs.Forms.Vectors.{Vector}
use Rattle.plane.specs.Forms.Arcs.{HalfArc, bend, chord, facing}

pub record Cap : Type 0 where
  pub size : ℤ
  pub chord : ℤ
  pub sag : ℤ

pub record IsCap (c : Cap) : Type 0 where
  pub size : pos 0 <ℤ c.size
  pub chord : pos 0 <ℤ c.chord
  pub sag : pos 0 <ℤ c.sag

-- below 0 strictly inside the circle, 0 on it, above 0 strictly outside
unfoldable pub shape : Cap → Vector → ℤ
shape c v = (c.size *ℤ (v.x *ℤ (v.x -ℤ (c.chord *ℤ v.n)))) +ℤ (v.y *ℤ (v.y +ℤ (c.sag *ℤ v.n)))

-- the place is in the slab over and under the chord
pub record InSlab (c : Cap) (v : Vector) : Type 0 where
  pub low : pos 0 ≤ℤ v.x
  pub high : v.x ≤ℤ (c.chord *ℤ v.n)

-- the cap of a half arc
abbrev pub cap : HalfArc → Cap
cap h = record { size = bend h *ℤ bend h; chord = chord h; sag = chord h *ℤ facing h }
