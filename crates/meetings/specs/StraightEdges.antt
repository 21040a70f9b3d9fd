-- The edges of curves.
use Rattle.std.specs.Prelude.{◌≡◌, ℕ, ◌<◌, ◌≤◌, List, length, slice_index, slice_index_or}
use Rattle.plane.specs.declared.kinds.Curve.{Curve}
use Rattle.plane.specs.declared.kinds.CurveKind.TheVariants as kind
use Rattle.plane.specs.declared.kinds.Edge.{Edge}
use Rattle.plane.specs.Rule.Plans.{straight}
use Rattle.plane.specs.Forms.Vectors.{Before}
use Rattle.plane.specs.Forms.Segments.{IsEdgeOf}
use Rattle.straight_predicates.specs.EdgeLists.{edge_of, no_point}

-- The curve of each number.
abbrev pub curve_of : List Curve → ℕ → Curve
curve_of curves i = slice_index_or curves i (straight no_point no_point 0)

-- The edges of the first k curves, each with its low end first.
pub record AreEdgesTo (curves : List Curve) (k : ℕ) (edges : List Edge) : Type 0 where
  pub size : length edges ≡ k
  pub sorted : (i : ℕ) → i < k → Before (edge_of edges i).low (edge_of edges i).high
  pub ends : (i : ℕ) → i < k → IsEdgeOf (edge_of edges i) (curve_of curves i)

-- All curves are straights.
abbrev pub AreStraights : List Curve → Type 0
AreStraights curves = (i : ℕ) → i < length curves → (curve_of curves i).kind ≡ kind.Straight

-- The edge is that of a straight among the first k curves, with its low end first.
pub record IsStraightEdge (curves : List Curve) (k : ℕ) (edge : Edge) (number : ℕ) : Type 0 where
  pub known : number < k
  pub kind : (curve_of curves number).kind ≡ kind.Straight
  pub sorted : Before edge.low edge.high
  pub ends : IsEdgeOf edge (curve_of curves number)

-- The numbers rise.
abbrev pub IsRising : List ℕ → Type 0
IsRising numbers =
    (m n : ℕ) → m < n → n < length numbers → slice_index numbers m < slice_index numbers n

-- The edges of the straights among the first k curves, each with the number of its curve, in their
-- order.
pub record AreStraightsTo (curves : List Curve) (k : ℕ) (edges : List Edge)
    (numbers : List ℕ) : Type 0 where
  pub size : length numbers ≡ length edges
  pub few : length edges ≤ k
  pub each : (m : ℕ) → m < length edges
      → IsStraightEdge curves k (edge_of edges m) (slice_index numbers m)
  pub rising : IsRising numbers
  pub whole : (i : ℕ) → i < k → (curve_of curves i).kind ≡ kind.Straight
      → (m : ℕ) × (m < length edges) × (slice_index numbers m ≡ i)
