-- Where points lie in a run over edges.
use Rattle.std.specs.Prelude.{◌≡◌, ℕ, ◌<◌, ◌≤◌, ℤ, Option, List, [], length, take, slice_index_or}
use Rattle.plane.specs.declared.kinds.Point.{Point}
use Rattle.plane.specs.declared.kinds.Edge.{Edge}
use Rattle.plane.specs.Forms.Meets.{OnStraight}
use Rattle.plane.specs.Forms.Vectors.{point}
use Rattle.plane.specs.Runs.Gaps.{edge_at, edge_before}
use Rattle.plane.specs.Runs.Moves.{Move, live_from, steps_from}
use Rattle.plane.specs.Faces.PlacedPoints.{IsLocated}
use Rattle.plane.specs.Faces.Replays.{replay}
use Rattle.straight_predicates.specs.EdgeLists.{edge_of, no_point}
use Rattle.point_location.specs.declared.places.Place.{Place}
use Rattle.point_location.specs.declared.places.Place.TheVariants as place

-- After the events before the point, it lies at this place of the live list, on no edge, with these
-- edges beside it.
pub record IsCell (edges : List Edge) (moves : List Move) (at : Point) (position : ℕ)
    (lower upper : Option ℕ) : Type 0 where
  pub events : ℕ
  pub known : events ≤ length moves
  pub located : (w : ℤ)
      → IsLocated (replay w (length edges) (edge_of edges) (steps_from [] moves)) at events position
  pub lower_is : lower ≡ edge_before (live_from [] (take events moves)) position
  pub upper_is : upper ≡ edge_at (live_from [] (take events moves)) position

-- The point lies on this edge, and on none of a lesser number.
pub record IsLeastOn (edges : List Edge) (at : Point) (e : ℕ) : Type 0 where
  pub known : e < length edges
  pub on : OnStraight (edge_of edges e) (point at)
  pub least : (d : ℕ) → d < e → OnStraight (edge_of edges d) (point at) → ⊥

abbrev pub IsPlaceOf : List Edge → List Move → Point → Place → Type 0
IsPlaceOf edges moves at (place.Cell position lower upper) =
    IsCell edges moves at position lower upper
IsPlaceOf edges moves at (place.OnEdge e) = IsLeastOn edges at e

abbrev pub no_place : Place
no_place = place.OnEdge 0

-- Each point has its place, under its number.
pub record ArePlaces (edges : List Edge) (moves : List Move) (points : List Point)
    (places : List Place) : Type 0 where
  pub size : length places ≡ length points
  pub each : (j : ℕ) → j < length points
      → IsPlaceOf edges moves (slice_index_or points j no_point) (slice_index_or places j no_place)
