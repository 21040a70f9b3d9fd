-- The edges that stand for a drawing with half arcs: one for each straight, and for each half arc
-- the bounds of its tube.
use Rattle.std.specs.Prelude.{◌≡◌, ◌⊎◌, ℕ, ◌<◌, List, ◌∷◌, map, cond, length, pos, ◌<ℤ◌}
use Rattle.plane.specs.declared.kinds.Curve.{Curve}
use Rattle.plane.specs.Lists.{Has, Once}
use Rattle.plane.specs.Forms.Vectors.{Edge}
use Rattle.plane.specs.Forms.Arcs.{HalfArc, bend}
use Rattle.plane.specs.Rule.Curves.{arc}
use Rattle.plane.specs.Rule.Plans.{Plan, curve, IsStraight, IsHalfArc}
use Rattle.plane.specs.Forms.Segments.{IsEdgeOf}
use Rattle.plane.specs.Faces.Halves.{Half, edge_of}
use Rattle.plane.specs.Tubes.Bays.{Bay, IsTube, IsSome}
use Rattle.plane.specs.Tubes.Windings.{Tile, tiles, bounds}
use Rattle.plane.specs.Tubes.Facing.{way}
use Rattle.plane.specs.CurveRuns.TubedRuns.{owned, half_within, third_is_left, first_edge}
use Rattle.plane.specs.CurveRuns.TubedRuns.{tube_start, tube_bays, tube_edges, first_bay}
use Rattle.plane.specs.CurveRuns.TubedRuns.{later_bays}

-- A half arc from its other end.
abbrev pub turned : HalfArc → HalfArc
turned h = record { from = h.to; to = h.from; third = h.third }

-- The tube of a half arc: the half arc from the end from which its third point lies on the right,
-- the bays of the tube from
-- there on, and the half-edges that face the tube from within, in the order of its bounds.
pub record DrawnTube : Type 0 where
  pub arc : HalfArc
  pub bay : Bay
  pub bays : List Bay
  pub halves : List Half

-- The triangles of the tube.
abbrev pub tiles_of : DrawnTube → List Tile
tiles_of t = tiles t.arc.from (t.bay ∷ t.bays)

-- It is a tube of the curve, with at least two bays, and its bounds are edges with numbers below m,
-- each once.
pub record IsTubeOf (m : ℕ) (E : ℕ → Edge) (c : Curve) (t : DrawnTube) : Type 0 where
  pub is : (t.arc ≡ arc c) ⊎ (t.arc ≡ turned (arc c))
  pub right : bend t.arc <ℤ pos 0
  pub tube : IsTube t.arc (t.bay ∷ t.bays)
  pub wide : IsSome t.bays
  pub bounds : bounds t.arc.from (t.bay ∷ t.bays) ≡ map (way E) t.halves
  pub fits : (h : Half) → Has h t.halves → edge_of h < m
  pub once : Once (map edge_of t.halves)

-- Edges by number, the curve to which each belongs, the edge of each straight and the tube of each
-- half arc.
pub record EdgeList : Type 0 where
  pub edges : ℕ
  pub edge : ℕ → Edge
  pub owner : ℕ → ℕ
  pub straight : ℕ → ℕ
  pub tube : ℕ → DrawnTube

-- They are the edges of the drawing: all half arcs have tubes, and each edge belongs to one
-- straight or one tube.
pub record IsEdgeList (d : Plan) (l : EdgeList) : Type 0 where
  pub owned : (e : ℕ) → e < l.edges → l.owner e < length d.curves
  pub straights : (i : ℕ) → IsStraight d i
      → (l.straight i < l.edges) × IsEdgeOf (l.edge (l.straight i)) (curve d i)
      × (l.owner (l.straight i) ≡ i)
  pub straight_only : (e : ℕ) → e < l.edges → IsStraight d (l.owner e) → e ≡ l.straight (l.owner e)
  pub tubes : (i : ℕ) → IsHalfArc d i → IsTubeOf l.edges l.edge (curve d i) (l.tube i)
  pub tube_owner : (i : ℕ) → IsHalfArc d i → (h : Half) → Has h (l.tube i).halves
      → l.owner (edge_of h) ≡ i
  pub tube_only : (e : ℕ) → e < l.edges → IsHalfArc d (l.owner e)
      → (h : Half) × Has h (l.tube (l.owner e)).halves × (edge_of h ≡ e)

-- The edge list, with each tube from that end of its half arc from which the third point is on the
-- right.
abbrev pub level : Plan → (ℕ → List Bay) → ℕ → (ℕ → Edge) → EdgeList
level d bays m E = record {
  edges = m;
  edge = E;
  owner = λ e. (owned d bays e).curve;
  straight = λ i. first_edge bays 0 d.curves i;
  tube = λ i. record {
    arc = record {
      from = tube_start (curve d i);
      to = cond (third_is_left (curve d i)) (curve d i).from (curve d i).to;
      third = (curve d i).third;
    };
    bay = first_bay (tube_bays (curve d i) (bays i));
    bays = later_bays (tube_bays (curve d i) (bays i));
    halves = map (half_within d bays E)
        (tube_edges (third_is_left (curve d i)) (first_edge bays 0 d.curves i) (bays i));
  };
}
