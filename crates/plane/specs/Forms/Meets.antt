-- How two edges meet, in the words of places on a straight.
use Rattle.std.specs.Prelude.{◌≡◌, ◌⊎◌}
use Rattle.plane.specs.declared.kinds.Point.{Point}
use Rattle.plane.specs.Forms.Vectors.{Vector, Place, point, Same, Edge}
use Rattle.plane.specs.Rule.Straights.{IsOnStraight}

-- The place v is on the edge.
abbrev pub OnStraight : Edge → Vector → Type 0
OnStraight e v = IsOnStraight (point e.low) (point e.high) v

-- The point is one of the two ends of the edge.
abbrev pub IsEnd : Edge → Point → Type 0
IsEnd e p = (e.low ≡ p) ⊎ (e.high ≡ p)

-- The place z is a common end of the two edges.
pub record CommonEnd (a b : Edge) (z : Vector) : Type 0 where
  pub at : Point
  pub of_first : IsEnd a at
  pub of_second : IsEnd b at
  pub is : Same z (point at)

-- The edges share no place.
abbrev pub Disjoint : Edge → Edge → Type 0
Disjoint a b = (z : Vector) → Place z → OnStraight a z → OnStraight b z → ⊥

-- The edges share one end and nothing else.
pub record Touch (a b : Edge) : Type 0 where
  pub at : Point
  pub of_first : IsEnd a at
  pub of_second : IsEnd b at
  pub only : (z : Vector) → Place z → OnStraight a z → OnStraight b z → Same z (point at)

-- Each common place is a common end; then the edges are apart or touch.
abbrev pub Fine : Edge → Edge → Type 0
Fine a b = (z : Vector) → Place z → OnStraight a z → OnStraight b z → CommonEnd a b z

-- The edges share a place that is no common end: one more than a common end, or another.
pub record Bad (a b : Edge) : Type 0 where
  pub at : Vector
  pub place : Place at
  pub of_first : OnStraight a at
  pub of_second : OnStraight b at
  pub no_end : CommonEnd a b at → ⊥
