-- Working forms of half arcs: how places are seen from the chord, and hits with the segment's
-- places as means of its ends.
use Rattle.std.specs.Prelude.{◌⊎◌, ℤ, pos, ◌+ℤ◌, ◌*ℤ◌, ◌-ℤ◌, ◌<ℤ◌}
use Rattle.plane.specs.Forms.Vectors.{Vector}
pub use Rattle.plane.specs.Rule.HalfArcs.{HalfArc, wide, tall, third_x, third_y, off_x, off_y}
unfoldable pub use Rattle.plane.specs.Rule.HalfArcs.{bend, circle_x, circle_y, power, bow}

-- the square of the chord
unfoldable pub chord : HalfArc → ℤ
chord h = (wide h *ℤ wide h) +ℤ (tall h *ℤ tall h)

-- (from - third) . (to - third): above 0 where the half arc is less than half a turn
unfoldable pub facing : HalfArc → ℤ
facing h = (third_x h *ℤ (third_x h -ℤ wide h)) +ℤ (third_y h *ℤ (third_y h -ℤ tall h))

-- how far v lies along the chord, times its length and n
unfoldable pub along : HalfArc → Vector → ℤ
along h v = (wide h *ℤ off_x h v) +ℤ (tall h *ℤ off_y h v)

-- v on the half arc's own picture: the chord lies on the x axis from 0 on, third is below it
abbrev pub seen : HalfArc → Vector → Vector
seen h v = record { x = along h v; y = bow h v; n = v.n }

-- p and q are both strictly inside the circle or both strictly outside
abbrev pub SameSign : HalfArc → Vector → Vector → Type 0
SameSign h p q =
    ((power h p <ℤ pos 0) × (power h q <ℤ pos 0)) ⊎ ((pos 0 <ℤ power h p) × (pos 0 <ℤ power h q))
