-- Marks for curves of which each bad pair has one.
use Rattle.std.specs.Prelude.{◌≡◌, ℕ, ◌<◌, ◌≤◌, Bool, true, false, List, length}
use Rattle.std.specs.Prelude.{slice_index}
use Rattle.plane.specs.Forms.Segments.{IsEdgeOf}
use Rattle.plane.specs.Forms.Vectors.{Before}
use Rattle.plane.specs.Rule.BadPairs.{IsBadPair}
use Rattle.plane.specs.Rule.Plans.{Plan, curve}
use Rattle.plane.specs.declared.kinds.Curve.{Curve}
use Rattle.plane.specs.declared.kinds.CurveKind.TheVariants as kind
use Rattle.plane.specs.declared.kinds.Edge.{Edge}
use Rattle.straight_predicates.specs.EdgeLists.{edge_of}
use Rattle.near_pairs.specs.Boxes.{IsOneMarked, mark_of}
use Rattle.meetings.specs.CurveBoxes.{AreMarksTo}
use Rattle.meetings.specs.CurvePairs.{IsArcPair}
use Rattle.meetings.specs.StraightEdges.{curve_of}
use Rattle.area_faults.specs.declared.marks.CurveEdges.{CurveEdges}

-- Of each bad pair of curves one is marked.
pub record AreMeetingMarks (d : Plan) (marks : List Bool) : Type 0 where
  pub size : length marks ≡ length d.curves
  pub pairs : (i j : ℕ) → IsBadPair d i j → IsOneMarked marks i j

-- Of each bad pair with a half arc one is marked.
pub record AreArcPairMarks (d : Plan) (marks : List Bool) : Type 0 where
  pub size : length marks ≡ length d.curves
  pub pairs : (i j : ℕ) → IsArcPair d i j → IsOneMarked marks i j

-- ---- while they are looked for
-- Of the first k curves those are marked that the second list marks, and those straights that the
-- first list marks.
pub record AreBothTo (d : Plan) (marks few : List Bool) (k : ℕ) (both : List Bool) : Type 0 where
  pub size : length both ≡ k
  pub of_few : (i : ℕ) → i < k → mark_of few i ≡ true → mark_of both i ≡ true
  pub of_straight : (i : ℕ) → i < k → mark_of marks i ≡ true
      → (curve d i).kind ≡ kind.Straight → mark_of both i ≡ true

-- The half arcs of the drawing are marked, and maybe others.
abbrev pub HasArcMarks : Plan → List Bool → Type 0
HasArcMarks d marks = AreMarksTo d.curves (length d.curves) marks

-- What was marked is still marked.
pub record AreMoreMarks (before after : List Bool) : Type 0 where
  pub size : length after ≡ length before
  pub kept : (i : ℕ) → mark_of before i ≡ true → mark_of after i ≡ true

-- The edge is that of a curve among the first k, with its low end first.
pub record IsCurveEdge (curves : List Curve) (k : ℕ) (edge : Edge) (number : ℕ) : Type 0 where
  pub known : number < k
  pub sorted : Before edge.low edge.high
  pub ends : IsEdgeOf edge (curve_of curves number)

-- The edges of the curves among the first k that are not marked, each with the number of its curve.
pub record AreUnmarkedTo (curves : List Curve) (marks : List Bool) (k : ℕ) (edges : List Edge)
    (numbers : List ℕ) : Type 0 where
  pub size : length numbers ≡ length edges
  pub few : length edges ≤ k
  pub each : (m : ℕ) → m < length edges
      → IsCurveEdge curves k (edge_of edges m) (slice_index numbers m)
  pub whole : (i : ℕ) → i < k → mark_of marks i ≡ false
      → (m : ℕ) × (m < length edges) × (slice_index numbers m ≡ i)

-- All of them.
abbrev pub AreUnmarked : List Curve → List Bool → CurveEdges → Type 0
AreUnmarked curves marks e =
    AreUnmarkedTo curves marks (length curves) e.edges.items e.numbers.items
