-- The place of a point in a list of edges, by turns.
use Rattle.std.specs.Prelude.{◌≡◌, ℕ, suc, ◌<◌, ◌≤◌, pos, ◌<ℤ◌, Option, List, length}
use Rattle.std.specs.Prelude.{slice_index_or}
use Rattle.plane.specs.declared.kinds.Point.{Point}
use Rattle.plane.specs.declared.kinds.Edge.{Edge}
use Rattle.plane.specs.Lists.{Has}
use Rattle.plane.specs.Runs.Gaps.{edge_at, edge_before}
use Rattle.plane.specs.Runs.Positions.{turn_at}
use Rattle.point_location.specs.declared.places.Place.{Place}
use Rattle.point_location.specs.declared.places.Place.TheVariants as place

-- The point is strictly above the edge before the place and strictly below the edge at it, which
-- are these.
pub record IsGapOf (E : ℕ → Edge) (live : List ℕ) (at : Point) (position : ℕ)
    (lower upper : Option ℕ) : Type 0 where
  pub within : position ≤ length live
  pub above : (i : ℕ) → position ≡ suc i → pos 0 <ℤ turn_at E (slice_index_or live i 0) at
  pub below : position < length live → turn_at E (slice_index_or live position 0) at <ℤ pos 0
  pub lower_is : lower ≡ edge_before live position
  pub upper_is : upper ≡ edge_at live position

-- The edge is one of the list, and its line goes through the point.
pub record IsOnLine (E : ℕ → Edge) (live : List ℕ) (at : Point) (e : ℕ) : Type 0 where
  pub live_edge : Has e live
  pub line : turn_at E e at ≡ pos 0

abbrev pub IsBetween : (ℕ → Edge) → List ℕ → Point → Place → Type 0
IsBetween E live at (place.Cell position lower upper) = IsGapOf E live at position lower upper
IsBetween E live at (place.OnEdge e) = IsOnLine E live at e
