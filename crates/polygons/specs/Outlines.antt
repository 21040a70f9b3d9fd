-- The rings of many polygons, by the number of their face.
use Rattle.std.specs.Prelude.{ℕ, ◌≡◌, ◌<◌, List, [], length, map, slice_index, slice_index_or}
use Rattle.std.specs.Prelude.{take}
use Rattle.plane.specs.declared.kinds.Point.{Point}
use Rattle.half_edges.specs.HalfEdges.{HalfEdges}
use Rattle.polygons.specs.declared.kinds.Polygon.{Polygon}
use Rattle.polygons.specs.Circles.{of_face}
use Rattle.polygons.specs.Leading.{AreFilled, IsMoved, shapes}
use Rattle.polygons.specs.Polygons.{AreTraced, IsPolygonOf}

-- The corners of the rings of each polygon.
abbrev pub outlines : List Polygon → List (List (List Point))
outlines polygons = map (λ (p : Polygon). shapes p.rings.items) polygons

-- the rings of the face of that number
abbrev pub outline : List (List (List Point)) → ℕ → List (List Point)
outline os f = slice_index_or os f []

-- There is one polygon for each face below the count, and each is that of its face.
pub record ArePolygons (m : HalfEdges) (at : List Point) (count : ℕ)
    (os : List (List (List Point))) : Type 0 where
  pub size : length os ≡ count
  pub each : (f : ℕ) → f < count → IsPolygonOf m at f (outline os f)

-- Each polygon has the rings of its face that begin at the first n half-edges of the list.
pub record AreAllTraced (m : HalfEdges) (at : List Point) (starts : List ℕ) (n : ℕ)
    (os : List (List (List Point))) : Type 0 where
  pub each : (f : ℕ) → f < length os → AreTraced m at (of_face m f (take n starts)) (outline os f)

abbrev pub AreAllFilled : List (List (List Point)) → Type 0
AreAllFilled os = (f : ℕ) → f < length os → AreFilled (outline os f)

-- Of each polygon the ring with the least corner is moved to the front.
pub record AreAllMoved (old new : List (List (List Point))) : Type 0 where
  pub size : length new ≡ length old
  pub each : (f : ℕ) → f < length old → IsMoved (outline old f) (outline new f)

-- There is one polygon for each of these faces, in their order.
pub record AreChosen (m : HalfEdges) (at : List Point) (faces : List ℕ)
    (os : List (List (List Point))) : Type 0 where
  pub size : length os ≡ length faces
  pub each : (j : ℕ) → j < length faces → IsPolygonOf m at (slice_index faces j) (outline os j)

-- The first n of these polygons of the list are taken.
pub record AreTaken (all : List (List (List Point))) (numbers : List ℕ) (n : ℕ)
    (taken : List (List (List Point))) : Type 0 where
  pub size : length taken ≡ n
  pub each : (j : ℕ) → j < n → outline taken j ≡ outline all (slice_index numbers j)
