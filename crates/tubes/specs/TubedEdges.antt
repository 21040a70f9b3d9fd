-- The edges of a drawing whose half arcs have tubes at a level, each with its curve.
use Rattle.std.specs.Prelude.{◌≡◌, ℕ, ◌+◌, ◌<◌, Bool, true, false, Option, Some, None, List, []}
use Rattle.std.specs.Prelude.{◌∷◌, ◌++◌, length, map}
use Rattle.plane.specs.CurveRuns.TubedRuns as runs
use Rattle.plane.specs.Rule.Curves.{arc}
use Rattle.plane.specs.Rule.HalfArcs.{HalfArc}
use Rattle.plane.specs.Rule.Plans.{IsHalfArc, Plan, curve, object}
use Rattle.plane.specs.Tubes.Bays.{Bay, bays}
use Rattle.plane.specs.Rule.Windows.{IsShort}
use Rattle.plane.specs.declared.kinds.Curve.{Curve}
use Rattle.plane.specs.declared.kinds.CurveKind.TheVariants as kind
use Rattle.plane.specs.declared.kinds.Edge.{Edge}
use Rattle.plane.specs.declared.kinds.Point.{Point}
use Rattle.arc_predicates.specs.Circles.{AreClose}
use Rattle.straight_predicates.specs.EdgeLists.{AreAllClose, AreSorted, IsCloseToAll}
use Rattle.tubes.specs.DrawnEdges.{edge_from}
use Rattle.tubes.specs.HalfArcTubes.{HasNoTube, IsTubeOf, inner_points, outer_points}
use Rattle.tubes.specs.declared.kinds.EdgeList.{EdgeList}
use Rattle.tubes.specs.declared.kinds.Owner.{Owner}
use Rattle.tubes.specs.declared.kinds.Part.{Part}
use Rattle.tubes.specs.declared.kinds.Part.TheVariants as part

-- The half arc has a tube at the level.
abbrev pub HasTube : HalfArc → ℕ → Type 0
HasTube h level = (inner : List Point) × (outer : List Point) × IsTubeOf h level inner outer

-- The points that are made; none where none can be made.
abbrev pub made : Option (List Point) → List Point
made None = []
made (Some points) = points

-- The bays of the half arc's tube at the level, where it has one.
unfoldable pub bays_at : HalfArc → ℕ → List Bay
bays_at h level =
    bays (made (inner_points h (level + 1)))
    (made (outer_points h h.from (made (inner_points h (level + 1)))))

-- The bays of the tube of the curve of a number at the level, where it has one.
abbrev pub drawn_bays : Plan → (ℕ → ℕ) → ℕ → List Bay
drawn_bays d level i = bays_at (arc (curve d i)) (level i)

-- What an edge is of its curve, in code.
abbrev pub part_of : runs.Part → Part
part_of runs.whole = part.Straight
part_of runs.inner = part.Inner
part_of runs.outer = part.Outer

-- The edge of an owned one, from the end that comes first by x, then y, and its owner.
abbrev pub edge_as : runs.Owned → Edge
edge_as o = edge_from o.from o.to

abbrev pub owner_as : runs.Owned → Owner
owner_as o = record { curve = o.curve; part = part_of o.part }

-- All half arcs have tubes at the level, and the list is that of the curves in their order: a
-- straight gives its edge, a half arc its inner chain, then its outer one.
pub record IsTubedList (d : Plan) (level : ℕ → ℕ) (list : EdgeList) : Type 0 where
  pub tubes : (i : ℕ) → IsHalfArc d i → HasTube (arc (curve d i)) (level i)
  pub edges : list.edges.items ≡ map edge_as (runs.edge_list (drawn_bays d level) 0 d.curves)
  pub owners : list.owners.items ≡ map owner_as (runs.edge_list (drawn_bays d level) 0 d.curves)

-- A half arc has no tube at the level, or the list is that of the drawing.
abbrev pub IsListAt : Plan → (ℕ → ℕ) → Option EdgeList → Type 0
IsListAt d level None = (i : ℕ) × IsHalfArc d i × HasNoTube (arc (curve d i)) (level i)
IsListAt d level (Some list) = IsTubedList d level list

-- The edges have their low ends first, and are close enough to each other and to the objects'
-- points for the exact predicates.
pub record AreUsable (d : Plan) (edges : List Edge) : Type 0 where
  pub sorted : AreSorted edges
  pub close : AreAllClose edges
  pub points : (j : ℕ) → j < length d.points → IsCloseToAll edges (object d j)

abbrev pub IsUsable : Plan → Option EdgeList → Type 0
IsUsable d None = Unit {0}
IsUsable d (Some list) = AreUsable d list.edges.items

-- ---- what the code adds
-- The edges from p through the points in turn, and one owner for each of them.
abbrev pub chain_edges : Point → List Point → List Edge
chain_edges p [] = []
chain_edges p (q ∷ qs) = edge_from p q ∷ chain_edges q qs

abbrev pub each_owner : Owner → List Point → List Owner
each_owner o [] = []
each_owner o (q ∷ qs) = o ∷ each_owner o qs

-- Every two neighbours from p on differ.
abbrev pub AreDistinct : Point → List Point → Type 0
AreDistinct p [] = Unit {0}
AreDistinct p (q ∷ qs) = (p ≡ q → ⊥) × AreDistinct q qs

-- A tube can be asked for the curve, and its ends differ.
pub record IsFit (c : Curve) : Type 0 where
  pub short : IsShort c.from
  pub ends : AreClose c.from c.to
  pub first : AreClose c.from c.third
  pub second : AreClose c.to c.third
  pub distinct : c.from ≡ c.to → ⊥

-- The lists have grown by the edges of the owned ones, and by their owners.
pub record AreGrown (all : List runs.Owned) (before grown : List Edge)
    (past more : List Owner) : Type 0 where
  pub edges : grown ≡ before ++ map edge_as all
  pub owners : more ≡ past ++ map owner_as all

-- The half arc has a tube, whose chains are added; or it has none.
abbrev pub IsTubeAdded : ℕ → Curve → ℕ → List Edge → List Edge → List Owner → List Owner → Bool
    → Type 0
IsTubeAdded i c level edges grown owners more true =
    HasTube (arc c) level
    × AreGrown (runs.edges_of i kind.HalfArc c (bays_at (arc c) level)) edges grown owners more
IsTubeAdded i c level edges grown owners more false = HasNoTube (arc c) level

-- The curve's edges are added; or it is a half arc without a tube.
abbrev pub IsAdded : ℕ → Curve → ℕ → List Edge → List Edge → List Owner → List Owner → Bool → Type 0
IsAdded i c level edges grown owners more true =
    (c.kind ≡ kind.HalfArc → HasTube (arc c) level)
    × AreGrown (runs.edges_of i c.kind c (bays_at (arc c) level)) edges grown owners more
IsAdded i c level edges grown owners more false = (c.kind ≡ kind.HalfArc) × HasNoTube (arc c) level
