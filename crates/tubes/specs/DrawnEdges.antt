-- The edges of a drawing of straights.
use Rattle.std.specs.Prelude.{◌≡◌, ℕ, ◌<◌, Bool, cond, List, length, map, get_or, pos}
use Rattle.std.specs.Ordering.{is_lt, int_cmp, ordering_then}
use Rattle.plane.specs.declared.kinds.Point.{Point}
use Rattle.plane.specs.declared.kinds.Edge.{Edge}
use Rattle.plane.specs.declared.kinds.Curve.{Curve}
use Rattle.plane.specs.declared.kinds.CurveKind.TheVariants as kind
use Rattle.plane.specs.Rule.Plans.{Plan, straight}

-- p comes before q: by x, then by y
abbrev pub comes_first : Point → Point → Bool
comes_first p q = is_lt (ordering_then (int_cmp p.x q.x) (int_cmp p.y q.y))

-- the edge of two points, the one that comes first as its low end
abbrev pub edge_from : Point → Point → Edge
edge_from p q = cond (comes_first p q) (record { low = p; high = q }) (record { low = q; high = p })

-- the edge of a straight
abbrev pub straight_edge : Curve → Edge
straight_edge c = edge_from c.from c.to

-- the edges of a drawing of straights, one for each curve in their order
abbrev pub edges_of : Plan → List Edge
edges_of d = map straight_edge d.curves

-- the curve of a number; beyond the last one it is not meant
abbrev pub nth_curve : List Curve → ℕ → Curve
nth_curve curves i =
    get_or curves i (straight (record { x = pos 0; y = pos 0 }) (record { x = pos 0; y = pos 0 }) 0)

-- all curves are straights
abbrev pub AreAllStraight : List Curve → Type 0
AreAllStraight curves = (i : ℕ) → i < length curves → (nth_curve curves i).kind ≡ kind.Straight

-- all curves of the drawing are straights
abbrev pub AreStraights : Plan → Type 0
AreStraights d = AreAllStraight d.curves
