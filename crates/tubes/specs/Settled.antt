-- Which drawings are settled at a level, which two curves break a level, and which tube the edges
-- at a level face.
use Rattle.std.specs.Prelude.{◌≡◌, ◌⊎◌, ℕ, ◌<◌, ◌≤◌, Option, Some, None, List, length, map}
use Rattle.std.specs.Prelude.{slice_index_or, pos, ◌≤ℤ◌}
use Rattle.plane.specs.CurveRuns.Levels.{IsSettledRun}
use Rattle.plane.specs.CurveRuns.TubedRuns as runs
use Rattle.plane.specs.Faces.Halves.{Half, under, over}
use Rattle.plane.specs.Forms.Meets.{Bad, Disjoint, IsEnd, Touch}
use Rattle.plane.specs.Forms.Vectors.{point}
use Rattle.plane.specs.Lists.{Has}
use Rattle.plane.specs.Rule.BadPairs.{HaveSameEnds, IsEndOf}
use Rattle.plane.specs.Rule.Curves.{arc}
use Rattle.plane.specs.Rule.HalfArcs.{bow}
use Rattle.plane.specs.Rule.Plans.{IsHalfArc, IsStraight, Plan, curve}
use Rattle.plane.specs.Runs.Timetables.{Timed}
use Rattle.plane.specs.Tubes.Bays.{Bay}
use Rattle.plane.specs.Tubes.Windings.{InTile, IsCornerOf, Tile, tiles}
use Rattle.plane.specs.declared.kinds.Curve.{Curve}
use Rattle.plane.specs.declared.kinds.CurveKind.TheVariants as kind
use Rattle.plane.specs.declared.kinds.Edge.{Edge}
use Rattle.plane.specs.declared.kinds.Point.{Point}
use Rattle.straight_predicates.specs.EdgeEvents.{event_of}
use Rattle.straight_predicates.specs.EdgeLists.{edge_of}
use Rattle.tubes.specs.HalfArcTubes.{HasNoTube}
use Rattle.tubes.specs.Making.{IsTubeAt}
use Rattle.tubes.specs.TubedEdges.{HasTube, drawn_bays, edge_as}
use Rattle.tubes.specs.declared.kinds.Facing.{Facing}
use Rattle.tubes.specs.declared.kinds.Facing.TheVariants as facing
use Rattle.tubes.specs.declared.kinds.Tube.{Tube}

-- ---- the edges at a level, by number
-- The edges of the drawing at a level.
abbrev pub edges_at : Plan → (ℕ → ℕ) → List Edge
edges_at d level = map edge_as (runs.edge_list (drawn_bays d level) 0 d.curves)

-- The edge of a number at a level.
abbrev pub edge_at : Plan → (ℕ → ℕ) → ℕ → Edge
edge_at d level = edge_of (edges_at d level)

-- That edge in the direction of its curve, with its owner.
abbrev pub owned_at : Plan → (ℕ → ℕ) → ℕ → runs.Owned
owned_at d level e = runs.owned d (drawn_bays d level) e

-- ---- settled at a level
-- All half arcs have tubes at the level.
abbrev pub HaveTubes : Plan → (ℕ → ℕ) → Type 0
HaveTubes d level = (i : ℕ) → IsHalfArc d i → HasTube (arc (curve d i)) (level i)

-- At the point, if it is a corner of a tube and no end of its half arc, no other curve's edge ends.
abbrev pub IsOwnCorner : Plan → (ℕ → ℕ) → Point → Type 0
IsOwnCorner d level p =
    (e f : ℕ) → e < length (edges_at d level) → f < length (edges_at d level)
    → runs.IsOfTube (owned_at d level e).part → IsEnd (edge_at d level e) p
    → IsEnd (edge_at d level f) p
    → (p ≡ (curve d (owned_at d level e).curve).from)
    ⊎ ((p ≡ (curve d (owned_at d level e).curve).to)
    ⊎ ((owned_at d level f).curve ≡ (owned_at d level e).curve))

-- All half arcs have tubes; every two edges share no place, or one end and nothing else; corners of
-- tubes but the half arcs' ends are their own; no end of an edge lies in a triangle of a tube
-- except as a corner of it, and no straight joins the ends of a half arc that has an inner corner
-- on the chord or beyond it.
pub record IsSettledAt (d : Plan) (level : ℕ → ℕ) : Type 0 where
  pub tubes : HaveTubes d level
  pub meet : (e f : ℕ) → e < length (edges_at d level) → f < length (edges_at d level) → (e ≡ f → ⊥)
      → Disjoint (edge_at d level e) (edge_at d level f)
      ⊎ Touch (edge_at d level e) (edge_at d level f)
  pub corners : (p : Point) → IsOwnCorner d level p
  pub triangles : IsSettledRun d (drawn_bays d level) (length (edges_at d level)) (edge_at d level)

-- ---- two curves that break a level
-- the edges of curve i at the level, with their ends from `from` to `to`
abbrev pub group : Plan → (ℕ → ℕ) → ℕ → List runs.Owned
group d level i = runs.edges_of i (curve d i).kind (curve d i) (drawn_bays d level i)

-- The curve has edges at the level: it is a straight, or a half arc with a tube.
pub record HasGroup (d : Plan) (level : ℕ → ℕ) (i : ℕ) : Type 0 where
  pub there : i < length d.curves
  pub tube : IsHalfArc d i → HasTube (arc (curve d i)) (level i)

-- An edge of the curve ends at the point.
abbrev pub EndsAt : Plan → (ℕ → ℕ) → ℕ → Point → Type 0
EndsAt d level i p = (o : runs.Owned) × Has o (group d level i) × IsEnd (edge_as o) p

-- Edges of the two curves share a place that is no common end, or more than one.
abbrev pub EdgesMeet : Plan → (ℕ → ℕ) → ℕ → ℕ → Type 0
EdgesMeet d level i j =
    (o : runs.Owned) × (u : runs.Owned) × Has o (group d level i) × Has u (group d level j)
    × Bad (edge_as o) (edge_as u)

-- An end of an edge of curve j lies in a triangle of the tube of half arc i and is no corner of it.
pub record EntersTube (d : Plan) (level : ℕ → ℕ) (i j : ℕ) : Type 0 where
  pub half_arc : IsHalfArc d i
  pub p : Point
  pub ends : EndsAt d level j p
  pub triangle : Tile
  pub of_tube : Has triangle (tiles (curve d i).from (drawn_bays d level i))
  pub holds : InTile triangle (point p)
  pub no_corner : IsCornerOf triangle p → ⊥

-- A corner of the tube of half arc i, other than the ends of the half arc, is an end of an edge of
-- curve j.
pub record SharesCorner (d : Plan) (level : ℕ → ℕ) (i j : ℕ) : Type 0 where
  pub half_arc : IsHalfArc d i
  pub p : Point
  pub corner : EndsAt d level i p
  pub no_end : IsEndOf (curve d i) p → ⊥
  pub ends : EndsAt d level j p

-- The straight i joins the ends of half arc j, whose tube has an inner corner, no end of the half
-- arc, on the chord or beyond it.
pub record LiesUnderChord (d : Plan) (level : ℕ → ℕ) (i j : ℕ) : Type 0 where
  pub straight : IsStraight d i
  pub half_arc : IsHalfArc d j
  pub joins : HaveSameEnds (curve d i) (curve d j)
  pub b : Bay
  pub of_tube : Has b (drawn_bays d level j)
  pub no_end : IsEndOf (curve d j) b.inner → ⊥
  pub low : bow (arc (curve d j)) (point b.inner) ≤ℤ pos 0

-- Curve i breaks the level against curve j, in one of the ways that have an order.
abbrev pub BreaksOneWay : Plan → (ℕ → ℕ) → ℕ → ℕ → Type 0
BreaksOneWay d level i j =
    EntersTube d level i j ⊎ (SharesCorner d level i j ⊎ LiesUnderChord d level i j)

-- Two curves that have edges at the level break it; or a half arc alone, named twice, as it has no
-- tube.
pub data Breaks (d : Plan) (level : ℕ → ℕ) (i j : ℕ) : Type 0 where
  missing : i ≡ j → IsHalfArc d i → HasNoTube (arc (curve d i)) (level i) → Breaks d level i j
  edges : (i ≡ j → ⊥) → HasGroup d level i → HasGroup d level j → EdgesMeet d level i j
      → Breaks d level i j
  corners : (i ≡ j → ⊥) → HasGroup d level i → HasGroup d level j
      → BreaksOneWay d level i j ⊎ BreaksOneWay d level j i → Breaks d level i j

-- The least pair that breaks the level, by its first number, then by its second, which is not less.
pub record IsFirstBreak (d : Plan) (level : ℕ → ℕ) (i j : ℕ) : Type 0 where
  pub order : i ≤ j
  pub breaks : Breaks d level i j
  pub no_first : (k l : ℕ) → k < i → k ≤ l → Breaks d level k l → ⊥
  pub no_second : (l : ℕ) → l < j → i ≤ l → Breaks d level i l → ⊥

-- ---- what calls say
-- which side of an edge faces its tube from within
abbrev pub facing_of : runs.Part → Half → Facing
facing_of runs.whole h = facing.Neither
facing_of runs.inner (under e) = facing.Below
facing_of runs.inner (over e) = facing.Above
facing_of runs.outer (under e) = facing.Below
facing_of runs.outer (over e) = facing.Above

abbrev pub facing_at : Plan → (ℕ → ℕ) → ℕ → Facing
facing_at d level e =
    facing_of (owned_at d level e).part
    (runs.half_within d (drawn_bays d level) (edge_at d level) e)

pub record AreFacings (d : Plan) (level : ℕ → ℕ) (facings : List Facing) : Type 0 where
  pub count : length facings ≡ length (edges_at d level)
  pub each : (e : ℕ) → e < length (edges_at d level)
      → slice_index_or facings e facing.Neither ≡ facing_at d level e

-- The first event at which a corner of a tube is not its own; there is none.
abbrev pub IsFirstForeign : Plan → (ℕ → ℕ) → List Timed → Option ℕ → Type 0
IsFirstForeign d level table None =
    (k : ℕ) → k < length table → IsOwnCorner d level (event_of table k).at
IsFirstForeign d level table (Some k) =
    (k < length table) × (IsOwnCorner d level (event_of table k).at → ⊥)
    × ((j : ℕ) → j < k → IsOwnCorner d level (event_of table j).at)

-- The tube of each half arc by the number of its curve, where it has one; straights have none.
abbrev pub IsTubeFor : Curve → ℕ → Option Tube → Type 0
IsTubeFor c level tube =
    (c.kind ≡ kind.HalfArc → IsTubeAt (arc c) level tube) × (c.kind ≡ kind.Straight → tube ≡ None)

pub record AreTubesAt (d : Plan) (level : ℕ → ℕ) (tubes : List (Option Tube)) : Type 0 where
  pub count : length tubes ≡ length d.curves
  pub each : (i : ℕ) → i < length d.curves
      → IsTubeFor (curve d i) (level i) (slice_index_or tubes i None)
