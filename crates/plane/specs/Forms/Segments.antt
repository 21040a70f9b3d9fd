-- Edges in the words of places on a straight, and the edges of curves.
use Rattle.std.specs.Prelude.{◌≡◌, ◌⊎◌, ℕ, ◌<◌, length}
use Rattle.plane.specs.declared.kinds.Curve.{Curve}
use Rattle.plane.specs.declared.kinds.CurveKind.TheVariants as kind
use Rattle.plane.specs.Rule.Plans.{Plan, curve}
use Rattle.plane.specs.Forms.Vectors.{Vector, Place, point, Edge}
use Rattle.plane.specs.Rule.Straights.{IsOnStraight}

-- The straight between p and q has a place on the edge.
pub record SharesPlace (p q : Vector) (e : Edge) : Type 0 where
  pub z : Vector
  pub place : Place z
  pub of_segment : IsOnStraight p q z
  pub of_edge : IsOnStraight (point e.low) (point e.high) z

-- The edge has the same two ends as the curve.
abbrev pub IsEdgeOf : Edge → Curve → Type 0
IsEdgeOf e c = ((e.low ≡ c.from) × (e.high ≡ c.to)) ⊎ ((e.low ≡ c.to) × (e.high ≡ c.from))

-- All curves of the drawing are straights, and the edge of each number is the edge of the curve of
-- that number.
pub record AreEdgesOf (E : ℕ → Edge) (d : Plan) : Type 0 where
  pub straight : (i : ℕ) → i < length d.curves → (curve d i).kind ≡ kind.Straight
  pub edge : (i : ℕ) → i < length d.curves → IsEdgeOf (E i) (curve d i)
