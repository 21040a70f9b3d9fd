-- Complete runs over the edge list of a drawing whose half arcs have tubes, and the labels of their
-- sides.
-- The edge list follows the curves: a straight gives one edge; a half arc gives its inner chain,
-- then its outer chain.
use Rattle.std.specs.Prelude.{◌≡◌, ◌⊎◌, ℕ, zero, suc, ◌+◌, ◌<◌, ◌≤◌, Bool, true, false, cond, List}
use Rattle.std.specs.Prelude.{[], ◌∷◌, ◌++◌, map, length, get_or, pos, ◌-ℤ◌, ℤ}
use Rattle.plane.specs.declared.kinds.Point.{Point}
use Rattle.plane.specs.declared.kinds.Curve.{Curve}
use Rattle.plane.specs.declared.kinds.CurveKind.{CurveKind}
use Rattle.plane.specs.declared.kinds.CurveKind.TheVariants as kind
use Rattle.plane.specs.Forms.Vectors.{Vector, point, Edge}
use Rattle.plane.specs.Forms.Arcs.{along}
use Rattle.plane.specs.Rule.HalfArcs.{bend, power, HitsHalfArc}
use Rattle.plane.specs.Rule.Curves.{arc}
use Rattle.plane.specs.Rule.Plans.{Plan, curve, IsStraight}
use Rattle.plane.specs.Forms.Meets.{IsEnd}
use Rattle.plane.specs.Runs.Steps.{Step, Run}
use Rattle.plane.specs.Faces.Replays.{Replay, replay, no_step}
use Rattle.plane.specs.Faces.Cells.{is_positive}
use Rattle.plane.specs.Faces.Halves.{Half, under, over, twin, edge_of, mark, IsMatched}
use Rattle.plane.specs.Faces.Labels.{Labels}
use Rattle.plane.specs.Tubes.Bays.{Bay, IsTube}
use Rattle.plane.specs.Tubes.Windings.{arrow}
use Rattle.plane.specs.Tubes.Facing.{way}
use Rattle.plane.specs.CurveRuns.Extended.{Tubes}

-- ---- the edge list
-- What an edge is of its curve: the straight itself, or an edge of the inner or of the outer chain
-- of its tube.
pub data Part : Type 0 where
  whole : Part
  inner : Part
  outer : Part

-- An edge with its owner, in the direction of the curve.
pub record Owned : Type 0 where
  pub from : Point
  pub to : Point
  pub curve : ℕ
  pub part : Part

-- The edges of curve i from p through the points in turn.
abbrev pub chain : ℕ → Part → Point → List Point → List Owned
chain i part p [] = []
chain i part p (q ∷ qs) = record { from = p; to = q; curve = i; part = part } ∷ chain i part q qs

-- v1 to vK, the inner corners of a tube after its first one.
abbrev pub inner_corners : List Bay → List Point
inner_corners [] = []
inner_corners (b ∷ bs) = b.inner ∷ inner_corners bs

-- o1 to oK, the outer corners of a tube after its first one.
abbrev pub outer_corners : List Bay → List Point
outer_corners [] = []
outer_corners (b ∷ bs) = b.outer ∷ outer_corners bs

-- The edges of curve i: a straight itself, or the two chains of a half arc's tube.
abbrev pub edges_of : ℕ → CurveKind → Curve → List Bay → List Owned
edges_of i kind.Straight c bs = chain i whole c.from (c.to ∷ [])
edges_of i kind.HalfArc c bs =
    chain i inner c.from (inner_corners bs) ++ chain i outer c.from (outer_corners bs ++ c.to ∷ [])

-- The edges of the curves from number i on; `bays` has the bays of each half arc's tube by the
-- number of its curve.
abbrev pub edge_list : (ℕ → List Bay) → ℕ → List Curve → List Owned
edge_list bays i [] = []
edge_list bays i (c ∷ cs) = edges_of i c.kind c (bays i) ++ edge_list bays (suc i) cs

-- an edge beyond the last one; it is not meant
abbrev pub no_edge : Owned
no_edge =
    record {
      from = record { x = pos 0; y = pos 0 };
      to = record { x = pos 0; y = pos 0 };
      curve = 0;
      part = whole;
    }

-- the edge of a number, with its owner
abbrev pub owned : Plan → (ℕ → List Bay) → ℕ → Owned
owned d bays e = get_or (edge_list bays 0 d.curves) e no_edge

-- the curve to which an edge belongs
abbrev pub owner : Plan → (ℕ → List Bay) → ℕ → Curve
owner d bays e = curve d (owned d bays e).curve

-- The edge joins the two points.
abbrev pub Connects : Edge → Point → Point → Type 0
Connects e p q = ((e.low ≡ p) × (e.high ≡ q)) ⊎ ((e.low ≡ q) × (e.high ≡ p))

-- The edge belongs to a tube.
abbrev pub IsOfTube : Part → Type 0
IsOfTube whole = ⊥
IsOfTube inner = Unit {0}
IsOfTube outer = Unit {0}

-- A complete run over the edge list of a drawing with tubes. At an event that is a corner of a
-- tube, but no end of its half arc, all edges are the tube's.
pub record IsTubedRun (d : Plan) (bays : ℕ → List Bay) (m : ℕ) (E : ℕ → Edge)
    (steps : List Step) : Type 0 where
  pub tube : (i : ℕ) → i < length d.curves → (curve d i).kind ≡ kind.HalfArc
      → IsTube (arc (curve d i)) (bays i)
  pub count : m ≡ length (edge_list bays 0 d.curves)
  pub edge : (e : ℕ) → e < m → Connects (E e) (owned d bays e).from (owned d bays e).to
  pub run : Run m E steps
  pub corner : (k e f : ℕ) → k < length steps → e < m → f < m → IsOfTube (owned d bays e).part
      → IsEnd (E e) (get_or steps k no_step).at → IsEnd (E f) (get_or steps k no_step).at
      → ((get_or steps k no_step).at ≡ (owner d bays e).from)
      ⊎ (((get_or steps k no_step).at ≡ (owner d bays e).to)
      ⊎ ((owned d bays f).curve ≡ (owned d bays e).curve))

-- ---- labels
-- 0 is the label of the outer region, j + 1 that of point j, and the number of points, plus 1, plus
-- i that of the inside of curve i's tube.
abbrev pub tube_label : Plan → ℕ → ℕ
tube_label d i = suc (length d.points + i)

-- Whether the third point is on the left of the way from the half arc's first end to its second
-- one.
abbrev pub third_is_left : Curve → Bool
third_is_left c = is_positive (bend (arc c))

-- An edge of a tube as the arrow that has the tube on its left.
abbrev pub inward : Bool → Part → Point → Point → Edge
inward false inner p q = arrow p q
inward true inner p q = arrow q p
inward false outer p q = arrow q p
inward true outer p q = arrow p q
inward left whole p q = arrow p q

-- The half-edge faces the tube of its edge from within.
pub record FacesTube (d : Plan) (bays : ℕ → List Bay) (E : ℕ → Edge) (e : ℕ)
    (h : Half) : Type 0 where
  pub edge : edge_of h ≡ e
  pub left : way E h
      ≡ inward (third_is_left (owner d bays e)) (owned d bays e).part (owned d bays e).from
      (owned d bays e).to

-- How a program says that half-edge: an edge of a chain runs on where it goes along the chord from
-- its low end to its high end, and the tube is on the left of an inner edge that runs on where the
-- third point is on the right of the half arc.
abbrev pub runs_on : Curve → Edge → Bool
runs_on c e = is_positive (along (arc c) (point e.high) -ℤ along (arc c) (point e.low))

-- The half-edge of edge e that faces the tube from within: by whether the third point is left of
-- the chord, which chain it is, and whether the edge runs on.
abbrev pub side_within : Bool → Part → Bool → ℕ → Half
side_within false inner true e = over e
side_within false inner false e = under e
side_within true inner true e = under e
side_within true inner false e = over e
side_within false outer true e = under e
side_within false outer false e = over e
side_within true outer true e = over e
side_within true outer false e = under e
side_within left whole on e = over e

-- The half-edge of an edge that faces its tube from within.
abbrev pub half_within : Plan → (ℕ → List Bay) → (ℕ → Edge) → ℕ → Half
half_within d bays E e =
    side_within (third_is_left (owner d bays e)) (owned d bays e).part
    (runs_on (owner d bays e) (E e)) e

-- What a certificate's labels have to meet: neighbours match; half-edges that face a tube from
-- within have its label, and all others have the label of a region; outside all inner edges of a
-- tube is one label, and so outside all outer ones.
-- `within` is the half-edge of each edge of a tube that faces it from within.
pub record AreTubeLabels (d : Plan) (bays : ℕ → List Bay) (r : Replay) (lab : Labels)
    (within : ℕ → Half) (inside outside : ℕ → ℕ) : Type 0 where
  pub matched : IsMatched r lab
  pub faces : (e : ℕ) → e < r.edges → IsOfTube (owned d bays e).part
      → FacesTube d bays r.edge e (within e)
  pub within_label : (e : ℕ) → e < r.edges → IsOfTube (owned d bays e).part
      → mark lab (within e) ≡ tube_label d (owned d bays e).curve
  pub outer_label : (e : ℕ) → e < r.edges → IsOfTube (owned d bays e).part
      → mark lab (twin (within e)) ≤ length d.points
  pub straight_label : (e : ℕ) → e < r.edges → (owned d bays e).part ≡ whole
      → (lab.below e ≤ length d.points) × (lab.above e ≤ length d.points)
  pub inner_chain : (e : ℕ) → e < r.edges → (owned d bays e).part ≡ inner
      → mark lab (twin (within e)) ≡ inside (owned d bays e).curve
  pub outer_chain : (e : ℕ) → e < r.edges → (owned d bays e).part ≡ outer
      → mark lab (twin (within e)) ≡ outside (owned d bays e).curve

-- ---- the tubes by number
abbrev pub listed_arc : CurveKind → ℕ → List ℕ → List ℕ
listed_arc kind.Straight i is = is
listed_arc kind.HalfArc i is = i ∷ is

-- the numbers of the half arcs among the curves from number i on
abbrev pub half_arcs : ℕ → List Curve → List ℕ
half_arcs i [] = []
half_arcs i (c ∷ cs) = listed_arc c.kind i (half_arcs (suc i) cs)

-- the curve of tube c
abbrev pub arc_at : Plan → ℕ → ℕ
arc_at d c = get_or (half_arcs 0 d.curves) c 0

-- the number of the first edge of a curve
abbrev pub first_edge : (ℕ → List Bay) → ℕ → List Curve → ℕ → ℕ
first_edge bays j [] i = 0
first_edge bays j (c ∷ cs) zero = 0
first_edge bays j (c ∷ cs) (suc i) =
    length (edges_of j c.kind c (bays j)) + first_edge bays (suc j) cs i

-- the bays from the other end of the half arc
abbrev pub backward : Point → List Bay → List Bay
backward a [] = []
backward a (b ∷ bs) = backward b.inner bs ++ record { outer = b.outer; inner = a } ∷ []

-- A tube goes from that end of its half arc from which the third point is on the right.
abbrev pub tube_start : Curve → Point
tube_start c = cond (third_is_left c) c.to c.from

abbrev pub tube_bays : Curve → List Bay → List Bay
tube_bays c bs = cond (third_is_left c) (backward c.from bs) bs

-- the edges of a tube in the order of its bounds, with s and n the next edges of the inner and of
-- the outer chain
abbrev pub onward_edges : ℕ → ℕ → List Bay → List ℕ
onward_edges s n [] = n ∷ []
onward_edges s n (b ∷ bs) = s ∷ n ∷ onward_edges (suc s) (suc n) bs

abbrev pub backward_edges : ℕ → ℕ → List Bay → List ℕ
backward_edges s n [] = []
backward_edges s n (b ∷ bs) = backward_edges (suc s) (suc n) bs ++ s ∷ n ∷ []

abbrev pub tube_edges : Bool → ℕ → List Bay → List ℕ
tube_edges false s bs = onward_edges s (s + length bs) bs
tube_edges true s bs = backward_edges s (suc (s + length bs)) bs ++ (s + length bs) ∷ []

abbrev pub first_bay : List Bay → Bay
first_bay [] =
    record { outer = record { x = pos 0; y = pos 0 }; inner = record { x = pos 0; y = pos 0 } }
first_bay (b ∷ bs) = b

abbrev pub later_bays : List Bay → List Bay
later_bays [] = []
later_bays (b ∷ bs) = bs

-- The tubes of the drawing, numbered as its half arcs.
abbrev pub tubes : Plan → (ℕ → List Bay) → (ℕ → Half) → (ℕ → ℕ) → (ℕ → ℕ) → Tubes
tubes d bays within inside outside = record {
  count = length (half_arcs 0 d.curves);
  label = λ c. tube_label d (arc_at d c);
  first = λ c. tube_start (curve d (arc_at d c));
  bay = λ c. first_bay (tube_bays (curve d (arc_at d c)) (bays (arc_at d c)));
  bays = λ c. later_bays (tube_bays (curve d (arc_at d c)) (bays (arc_at d c)));
  halves =
      λ c.
      map within
      (tube_edges (third_is_left (curve d (arc_at d c)))
      (first_edge bays 0 d.curves (arc_at d c)) (bays (arc_at d c)));
  inner = λ c. inside (arc_at d c);
  outer = λ c. outside (arc_at d c);
  form = λ c z. power (arc (curve d (arc_at d c))) z;
}

-- The segment from p to q hits the half arc of tube c.
abbrev pub MeetsArc : Plan → ℕ → Vector → Vector → Type 0
MeetsArc d c p q = HitsHalfArc (arc (curve d (arc_at d c))) p q

-- ---- the premises of the laws on such runs
-- A run over the edge list with labels as a certificate's rules ask.
pub record IsLabelledRun (w : ℤ) (d : Plan) (bays : ℕ → List Bay) (m : ℕ) (E : ℕ → Edge)
    (steps : List Step) (lab : Labels) (within : ℕ → Half) (inside outside : ℕ → ℕ) : Type 0 where
  pub run : IsTubedRun d bays m E steps
  pub labels : AreTubeLabels d bays (replay w m E steps) lab within inside outside

-- Edge e is that of curve i, a straight.
pub record IsStraightEdge (d : Plan) (bays : ℕ → List Bay) (m i e : ℕ) : Type 0 where
  pub straight : IsStraight d i
  pub fits : e < m
  pub curve : (owned d bays e).curve ≡ i
  pub part : (owned d bays e).part ≡ whole
