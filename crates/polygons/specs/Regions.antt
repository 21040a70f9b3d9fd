-- What the rings of a polygon are in the plane: the boundary of what is joined to a point.
use Rattle.std.specs.Prelude.{ℕ, ◌≡◌, ◌↔◌, ◌*◌, ◌<◌, true, List, [], ◌∷◌, ◌++◌, length, map}
use Rattle.plane.specs.declared.kinds.Edge.{Edge}
use Rattle.plane.specs.declared.kinds.Point.{Point}
use Rattle.plane.specs.Faces.Directions.{IsClockwiseNext, origin}
use Rattle.plane.specs.Faces.Halves.{Half, edge_of, half_of, number, over, twin, under}
use Rattle.plane.specs.Faces.Parity.{crosses_vertical, parity}
use Rattle.plane.specs.Forms.Segments.{AreEdgesOf}
use Rattle.plane.specs.Forms.Vectors.{Before, Place, Vector, point}
use Rattle.plane.specs.Lists.{Each, Once}
use Rattle.plane.specs.Rule.CrossedCurves.{CrossesCurve}
use Rattle.plane.specs.Rule.Partition.{IsOff, Joined}
use Rattle.plane.specs.Rule.Plans.{Plan, object}
use Rattle.straight_predicates.specs.EdgeLists.{HasEnds}
use Rattle.half_edges.specs.HalfEdges.{HalfEdges, face_of, next_of, size}
use Rattle.polygons.specs.Outlines.{outline}
use Rattle.polygons.specs.Polygons.{IsPolygonOf, place_of}

-- ---- the edges of a drawing
-- All curves are straights, and the edge of each number is that curve from its low end to its high
-- end.
pub record AreRisingEdges (E : ℕ → Edge) (d : Plan) : Type 0 where
  pub edges : AreEdgesOf E d
  pub rising : (i : ℕ) → i < length d.curves → Before (E i).low (E i).high

-- ---- sides
-- A side of a ring leads from a corner to the next one, or from the last corner to the first.
pub record Side : Type 0 where
  pub from : Point
  pub to : Point

-- From p through the corners in turn, and on to the end.
abbrev pub sides_to : Point → Point → List Point → List Side
sides_to end p [] = record { from = p; to = end } ∷ []
sides_to end p (q ∷ qs) = record { from = p; to = q } ∷ sides_to end q qs

-- the sides of a ring, from each corner to the next one and from the last to the first
abbrev pub sides_of : List Point → List Side
sides_of [] = []
sides_of (p ∷ ps) = sides_to p p ps

-- the sides of all rings
abbrev pub all_sides : List (List Point) → List Side
all_sides [] = []
all_sides (ring ∷ rings) = sides_of ring ++ all_sides rings

-- The sides run along the edges of these numbers, in their order.
abbrev pub AreAlong : (ℕ → Edge) → List Side → List ℕ → Type 0
AreAlong E [] [] = Unit {0}
AreAlong E [] (i ∷ lines) = ⊥
AreAlong E (s ∷ sides) [] = ⊥
AreAlong E (s ∷ sides) (i ∷ lines) = HasEnds (E i) s.from s.to × AreAlong E sides lines

-- Each side runs along a straight of the drawing, and no straight stands twice in the rings.
pub record AreLines (d : Plan) (E : ℕ → Edge) (rings : List (List Point))
    (lines : List ℕ) : Type 0 where
  pub there : Each (λ i. i < length d.curves) lines
  pub along : AreAlong E (all_sides rings) lines
  pub once : Once lines

-- A place on no curve has an odd number of these edges straight over it exactly where it is joined
-- to the point.
abbrev pub Enclose : Plan → Point → List Edge → Type 0
Enclose d a edges =
    (z : Vector) → Place z → IsOff d z
    → (parity (crosses_vertical z) edges ≡ true) ↔ Joined d z (point a)

-- ---- the order of rings and corners
-- Of a segment that crosses the edge, and hits no other, the end on the half-edge's left is joined
-- to the point.
abbrev pub HasOnLeft : Plan → (ℕ → Edge) → Point → Half → Type 0
HasOnLeft d E a (under i) =
    (p : Vector) × (q : Vector) × CrossesCurve d (E i) i p q × Joined d q (point a)
HasOnLeft d E a (over i) =
    (p : Vector) × (q : Vector) × CrossesCurve d (E i) i p q × Joined d p (point a)

-- The half-edges of the drawing, by number: each begins at its end of the edge, and the next one is
-- the first clockwise after its twin; the face f is that of those which have on their left what is
-- joined to the point.
pub record AreHalvesOf (d : Plan) (E : ℕ → Edge) (a : Point) (m : HalfEdges) (at : List Point)
    (f : ℕ) : Type 0 where
  pub count : size m ≡ 2 * length d.curves
  pub begins : (h : Half) → edge_of h < length d.curves → place_of m at (number h) ≡ origin E h
  pub next : (h : Half) → edge_of h < length d.curves
      → (edge_of (half_of (next_of m (number h))) < length d.curves)
      × IsClockwiseNext (length d.curves) E (twin h) (half_of (next_of m (number h)))
  pub face : (h : Half) → edge_of h < length d.curves
      → (face_of m (number h) ≡ f) ↔ HasOnLeft d E a h

-- The rings are those of the polygon of such a face.
pub record AreInOrder (d : Plan) (E : ℕ → Edge) (a : Point)
    (rings : List (List Point)) : Type 0 where
  pub m : HalfEdges
  pub at : List Point
  pub f : ℕ
  pub halves : AreHalvesOf d E a m at f
  pub rings_are : IsPolygonOf m at f rings

-- ---- the polygon
-- The rings bound what is joined to the point: their sides are straights of the drawing, each once;
-- these enclose it and nothing else; and the corners and the rings stand in order.
pub record AreRingsAbout (d : Plan) (E : ℕ → Edge) (a : Point)
    (rings : List (List Point)) : Type 0 where
  pub edges : AreRisingEdges E d
  pub line_numbers : List ℕ
  pub lines : AreLines d E rings line_numbers
  pub enclose : Enclose d a (map E line_numbers)
  pub order : AreInOrder d E a rings

-- The rings are the polygon of object k.
abbrev pub PolygonOf : Plan → (ℕ → Edge) → ℕ → List (List Point) → Type 0
PolygonOf d E k rings = AreRingsAbout d E (object d k) rings

-- There is a polygon for each object, in order.
pub record ArePolygonsOf (d : Plan) (E : ℕ → Edge) (os : List (List (List Point))) : Type 0 where
  pub size : length os ≡ length d.points
  pub each : (k : ℕ) → k < length d.points → PolygonOf d E k (outline os k)
