-- A drawing of straights of which some curves are left out: the rest in half units, what a run over
-- it gives, and what is read off it.
use Rattle.std.specs.Prelude.{◌≡◌, ◌⊎◌, ℕ, ◌*◌, ◌<◌, ◌≤◌, ℤ, Bool, true, false, Option, Some, None}
use Rattle.std.specs.Prelude.{List, [], ◌++◌, length, map, slice_index, slice_index_or}
use Rattle.area_search.specs.Faced.{IsAmong}
use Rattle.area_search.specs.Settled.Cases.{face_over}
use Rattle.area_search.specs.Unsettled.CurvePoints.{AreMarkedTo, AreNumbers}
use Rattle.event_mesh.specs.Turned.{IsEventAt}
use Rattle.faces.specs.declared.labelled.Labelled.{Labelled}
use Rattle.fault_lists.specs.declared.faces.CurveFaces.{CurveFaces}
use Rattle.fault_lists.specs.declared.faces.DrawingFaces.{DrawingFaces}
use Rattle.fault_lists.specs.declared.faces.PointPlace.{PointPlace}
use Rattle.fault_lists.specs.declared.faces.PointPlace.TheVariants.{InFace, OnCurve}
use Rattle.half_edges.specs.HalfEdges.{origin_of, over_of, size, under_of}
use Rattle.half_edges.specs.Meshes.{IsMesh}
use Rattle.near_pairs.specs.Boxes.{mark_of}
use Rattle.plane.specs.declared.kinds.Curve.{Curve}
use Rattle.plane.specs.declared.kinds.Edge.{Edge}
use Rattle.plane.specs.declared.kinds.Placed.{Placed}
use Rattle.plane.specs.declared.kinds.Point.{Point}
use Rattle.plane.specs.Faces.Classes.{IsFaces}
use Rattle.plane.specs.Faces.Directions.{origin}
use Rattle.plane.specs.Faces.Halves.{Half, edge_of, number}
use Rattle.plane.specs.Faces.Replays.{replay}
use Rattle.plane.specs.Faces.RestRuns.{sum}
use Rattle.plane.specs.Forms.Vectors.{Before}
use Rattle.plane.specs.Rule.BadPairs.{IsBadPair}
use Rattle.plane.specs.Rule.Doubled.{twice, twice_curve}
use Rattle.plane.specs.Rule.Plans.{Plan, curve}
use Rattle.plane.specs.Rule.Windows.{IsShort}
use Rattle.plane.specs.Runs.Moves.{Move, steps_from}
use Rattle.plane.specs.Runs.Steps.{Run}
use Rattle.point_location.specs.declared.places.Place.{Place}
use Rattle.point_location.specs.declared.places.Place.TheVariants as place
use Rattle.point_location.specs.Places.{no_place}
use Rattle.tubes.specs.DrawnEdges.{AreStraights, nth_curve, straight_edge}

-- ---- the rest
-- Straights, of which both of each two that meet badly are left out.
pub record AreMendable (d : Plan) (out : ℕ → Bool) : Type 0 where
  pub straights : AreStraights d
  pub few : length d.curves ≤ 16000000
  pub pairs : (i j : ℕ) → IsBadPair d i j → (out i ≡ true) × (out j ≡ true)

-- The numbers of the curves that stay and of those that are left out, by their marks.
pub record AreParted (d : Plan) (marks : List Bool) (kept left : List ℕ) : Type 0 where
  pub size : length marks ≡ length d.curves
  pub kept_are : AreMarkedTo marks false (length d.curves) kept
  pub left_are : AreMarkedTo marks true (length d.curves) left

-- the drawing of the curves of these numbers
abbrev pub rest_plan : Plan → List ℕ → Plan
rest_plan d kept = record d { curves = map (λ (i : ℕ). curve d i) kept }

-- a drawing in half units
abbrev pub half_plan : Plan → Plan
half_plan d = record d { curves = map twice_curve d.curves }

-- the edges in half units of the curves of these numbers
abbrev pub half_edges : Plan → List ℕ → List Edge
half_edges d kept = map (λ (i : ℕ). straight_edge (twice_curve (curve d i))) kept

-- These are edges in half units of curves of the drawing.
abbrev pub AreHalfEdges : Plan → List Edge → Type 0
AreHalfEdges d edges =
    (kept : List ℕ) × AreNumbers (length d.curves) kept × (edges ≡ half_edges d kept)

-- the objects' points in half units, and then the middles of the curves of these numbers
abbrev pub half_points : Plan → List ℕ → List Point
half_points d left =
    map (λ (p : Placed). twice p.at) d.points ++ map (λ (i : ℕ). sum (curve d i)) left

-- Its ends differ, and have at most 18 digits in each coordinate.
pub record IsWritten (c : Curve) : Type 0 where
  pub from : IsShort c.from
  pub to : IsShort c.to
  pub distinct : c.from ≡ c.to → ⊥

-- ---- the faces of its run
-- The half-edges have the face numbers of the run over so many edges, whichever edges these are,
-- and begin at the events of its edges' ends; each number below the count but 0 is that of some
-- half-edge.
pub record AreRunFaces (m : ℕ) (vs : List Move) (l : Labelled) : Type 0 where
  pub size_is : size l.mesh ≡ 2 * m
  pub entries : length l.mesh.face ≡ size l.mesh
  pub faces : (w : ℤ) (E : ℕ → Edge) → Run m E (steps_from [] vs)
      → IsFaces (replay w m E (steps_from [] vs)) (λ h. slice_index l.mesh.face (number h))
  pub below : (h : ℕ) → h < size l.mesh → slice_index l.mesh.face h < l.count
  pub some : 0 < l.count
  pub used : (n : ℕ) → 0 < n → n < l.count
      → (h : ℕ) × (h < size l.mesh) × (slice_index l.mesh.face h ≡ n)
  pub mesh_is : IsMesh l.mesh
  pub begins : (E : ℕ → Edge) → Run m E (steps_from [] vs) → (h : Half) → edge_of h < m
      → IsEventAt (steps_from [] vs) (origin_of l.mesh (number h)) (origin E h)

-- ---- what is read off it
-- The edge of the place, or the one under its cell, has its half-edges among so many.
abbrev pub IsKnownPlace : ℕ → Place → Type 0
IsKnownPlace n (place.Cell position lower upper) = IsAmong n lower
IsKnownPlace n (place.OnEdge e) = over_of e < n

-- the face of a place, if it is in a cell
abbrev pub place_face : List ℕ → Place → Option ℕ
place_face faces (place.Cell position lower upper) = Some (face_over faces lower)
place_face faces (place.OnEdge e) = None

abbrev pub place_at : List Place → ℕ → Place
place_at places j = slice_index_or places j no_place

-- The face of the place was opened, if it has one, and no other.
pub record IsOpenedBy (faces : List ℕ) (p : Place) (old new : List Bool) : Type 0 where
  pub size : length new ≡ length old
  pub opened : (n : ℕ) → place_face faces p ≡ Some n → mark_of new n ≡ true
  pub still : (n : ℕ) → mark_of old n ≡ true → mark_of new n ≡ true
  pub only : (n : ℕ) → mark_of new n ≡ true
      → (mark_of old n ≡ true) ⊎ (place_face faces p ≡ Some n)

-- Of so many faces those are open in which some place lies whose number is from the first one to
-- below k.
pub record AreOpenTo (faces : List ℕ) (count : ℕ) (places : List Place) (first k : ℕ)
    (open_marks : List Bool) : Type 0 where
  pub size : length open_marks ≡ count
  pub opened : (j n : ℕ) → first ≤ j → j < k → place_face faces (place_at places j) ≡ Some n
      → mark_of open_marks n ≡ true
  pub only : (n : ℕ) → mark_of open_marks n ≡ true
      → (j : ℕ) × (first ≤ j) × (j < k) × (place_face faces (place_at places j) ≡ Some n)

-- where a point lies, by its place
abbrev pub point_place : List ℕ → List ℕ → Place → PointPlace
point_place faces kept (place.Cell position lower upper) = InFace (face_over faces lower)
point_place faces kept (place.OnEdge e) = OnCurve (slice_index kept e)

-- The faces on both sides of a curve are those of its edge, number k: what is over the edge is on
-- the left where the curve runs from the edge's low end.
pub record AreSidesOf (c : Curve) (faces : List ℕ) (k : ℕ) (f : CurveFaces) : Type 0 where
  pub forth : Before c.from c.to
      → (f.left ≡ slice_index faces (over_of k)) × (f.right ≡ slice_index faces (under_of k))
  pub back : (Before c.from c.to → ⊥)
      → (f.left ≡ slice_index faces (under_of k)) × (f.right ≡ slice_index faces (over_of k))

abbrev pub sides_at : List (Option CurveFaces) → ℕ → Option CurveFaces
sides_at fs i = slice_index_or fs i None

-- The curves of the first k of these numbers have their faces, and no others.
pub record AreCurveFacesTo (curves : List Curve) (kept faces : List ℕ) (k : ℕ)
    (fs : List (Option CurveFaces)) : Type 0 where
  pub size : length fs ≡ length curves
  pub each : (m : ℕ) → m < k → (f : CurveFaces) × (sides_at fs (slice_index kept m) ≡ Some f)
      × AreSidesOf (nth_curve curves (slice_index kept m)) faces m f
  pub none : (i : ℕ) → ((m : ℕ) → m < k → slice_index kept m ≡ i → ⊥) → sides_at fs i ≡ None

-- Each point has its place, and each curve its faces.
pub record HasSizes (d : Plan) (f : DrawingFaces) : Type 0 where
  pub points : length f.points.items ≡ length d.points
  pub curves : length f.curves.items ≡ length d.curves
