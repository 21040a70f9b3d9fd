-- Edges as a list, and what the calls on lists of edges ask of them.
use Rattle.std.specs.Prelude.{◌≡◌, ◌⊎◌, ℕ, ◌<◌, pos, List, length, slice_index_or}
use Rattle.plane.specs.declared.kinds.Point.{Point}
use Rattle.plane.specs.declared.kinds.Edge.{Edge}
use Rattle.plane.specs.Forms.Vectors.{Before}
use Rattle.straight_predicates.specs.Meetings.{AreClose, EdgesAreClose}

-- The edge has these two ends.
abbrev pub HasEnds : Edge → Point → Point → Type 0
HasEnds e p q = ((e.low ≡ p) × (e.high ≡ q)) ⊎ ((e.low ≡ q) × (e.high ≡ p))

-- a point that is not meant
abbrev pub no_point : Point
no_point = record { x = pos 0; y = pos 0 }

-- an edge beyond the last one; it is not meant
abbrev pub no_edge : Edge
no_edge = record { low = no_point; high = no_point }

-- The edge of each number.
abbrev pub edge_of : List Edge → ℕ → Edge
edge_of edges e = slice_index_or edges e no_edge

-- Each edge has its low end before its high end.
abbrev pub AreSorted : List Edge → Type 0
AreSorted edges = (e : ℕ) → e < length edges → Before (edge_of edges e).low (edge_of edges e).high

-- All ends of all edges are close.
abbrev pub AreAllClose : List Edge → Type 0
AreAllClose edges =
    (d e : ℕ) → d < length edges → e < length edges
    → EdgesAreClose (edge_of edges d) (edge_of edges e)

-- Each edge is less than 2 ^ 41 units wide and high, and its low end as close to the point.
pub record IsCloseToAll (edges : List Edge) (at : Point) : Type 0 where
  pub ends : (e : ℕ) → e < length edges → AreClose (edge_of edges e).low (edge_of edges e).high
  pub point : (e : ℕ) → e < length edges → AreClose (edge_of edges e).low at

-- Each number is that of one of so many edges.
abbrev pub AreBelow : ℕ → List ℕ → Type 0
AreBelow m numbers = (i : ℕ) → i < length numbers → slice_index_or numbers i 0 < m
