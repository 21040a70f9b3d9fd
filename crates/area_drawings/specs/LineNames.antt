-- The lines by which curves and objects of a drawing are named.
use Rattle.std.specs.Prelude.{ℕ, pos, get_or}
use Rattle.plane.specs.Rule.Plans.{Plan, curve}

-- the line of the transfer that a curve has
abbrev pub curve_line : Plan → ℕ → ℕ
curve_line d i = (curve d i).line

-- the line of the transfer that an object has
abbrev pub object_line : Plan → ℕ → ℕ
object_line d j =
    (get_or d.points j (record { at = record { x = pos 0; y = pos 0 }; line = 0 })).line
