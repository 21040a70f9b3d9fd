-- The half-edges of the rest on the sides of its curves, and which of these follow one another.
use Rattle.std.specs.Prelude.{◌≡◌, ℕ, ◌<◌, Some, List, length, slice_get, slice_index}
use Rattle.fault_lists.specs.FaceLists.{side_number}
use Rattle.fault_lists.specs.Rings.{end_of, start_of}
use Rattle.fault_lists.specs.declared.kinds.SideAt.{SideAt}
use Rattle.half_edges.specs.HalfEdges.{HalfEdges, next_of}
use Rattle.plane.specs.Faces.Directions.{origin}
use Rattle.plane.specs.Faces.Halves.{Half, edge_of, number, twin}
use Rattle.plane.specs.Rule.Doubled.{twice}
use Rattle.plane.specs.Rule.Plans.{Plan}
use Rattle.straight_predicates.specs.EdgeLists.{edge_of as nth_edge}
use Rattle.area_faults.specs.RestFaces.{half_edges}

-- The half-edge is on the side of a curve: it is that of the curve's edge in half units, in the
-- direction that has the side on the left.
pub record IsHalfOn (d : Plan) (kept : List ℕ) (s : SideAt) (h : ℕ) : Type 0 where
  pub half : Half
  pub is : number half ≡ h
  pub there : edge_of half < length kept
  pub curve_is : slice_index kept (edge_of half) ≡ s.curve
  pub starts : origin (nth_edge (half_edges d kept)) half ≡ twice (start_of d s)
  pub ends : origin (nth_edge (half_edges d kept)) (twin half) ≡ twice (end_of d s)

-- The half-edge is on a side, and the next one round its face is on the side whose number is the
-- entry of the first.
pub record IsFollowed (d : Plan) (kept : List ℕ) (mesh : HalfEdges) (next : List ℕ)
    (h : ℕ) : Type 0 where
  pub side : SideAt
  pub after : SideAt
  pub on : IsHalfOn d kept side h
  pub next_on : IsHalfOn d kept after (next_of mesh h)
  pub said : slice_get next (side_number side) ≡ Some (side_number after)

-- Each of the first k half-edges is.
abbrev pub AreFollowedTo : Plan → List ℕ → HalfEdges → ℕ → List ℕ → Type 0
AreFollowedTo d kept mesh k next = (h : ℕ) → h < k → IsFollowed d kept mesh next h
