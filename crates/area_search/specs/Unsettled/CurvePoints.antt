-- Objects' points on curves: the least of a kind, and the lists in which those on curves that are
-- chosen by their marks are looked for.
use Rattle.std.specs.Prelude.{◌≡◌, ◌⊎◌, ℕ, ◌+◌, ◌-◌, ◌<◌, ◌≤◌, Bool, Option, Some, None, List}
use Rattle.std.specs.Prelude.{length, slice_index, slice_index_or, ⊤}
use Rattle.plane.specs.Forms.Boxes.{HoldsCurve, InBox}
use Rattle.plane.specs.Rule.Places.{point}
use Rattle.plane.specs.Rule.Plans.{Plan, curve, object}
use Rattle.plane.specs.declared.kinds.CurveKind.TheVariants as kind
use Rattle.plane.specs.declared.kinds.Placed.{Placed}
use Rattle.plane.specs.declared.kinds.Point.{Point}
use Rattle.straight_predicates.specs.EdgeLists.{no_point}
use Rattle.point_location.specs.Places.{no_place}
use Rattle.point_location.specs.declared.places.Place.{Place}
use Rattle.point_location.specs.declared.places.Place.TheVariants as place
use Rattle.near_pairs.specs.Boxes.{box_of, mark_of, reach_of}
use Rattle.near_pairs.specs.LeastPairs.{IsLess}
use Rattle.near_pairs.specs.declared.reaches.Reach.{Reach}
use Rattle.meetings.specs.CurvePairs.{IsJudgedOn}
use Rattle.meetings.specs.StraightEdges.{IsRising}
use Rattle.area_search.specs.Answers.{IsLeastOn}
use Rattle.area_search.specs.Faults.{LiesOn}
use Rattle.area_search.specs.declared.points.OnCurve.{OnCurve}

-- ---- points on curves
-- The least point on a curve and the least curve with it; no point is on a curve.
abbrev pub IsFirstOnCurve : Plan → Option OnCurve → Type 0
IsFirstOnCurve d None = (j i : ℕ) → LiesOn d j i → ⊥
IsFirstOnCurve d (Some p) = IsLeastOn d p.point p.curve

pub record LiesOnStraight (d : Plan) (j i : ℕ) : Type 0 where
  pub on : LiesOn d j i
  pub straight : (curve d i).kind ≡ kind.Straight

-- on a curve with this mark
pub record LiesOnMarked (d : Plan) (marks : List Bool) (mark : Bool) (j i : ℕ) : Type 0 where
  pub on : LiesOn d j i
  pub mark_is : mark_of marks i ≡ mark

-- The least of the pairs, by the point, then by the curve; there are none.
abbrev pub IsLeastOf : (ℕ → ℕ → Type 0) → Option OnCurve → Type 0
IsLeastOf R None = (j i : ℕ) → R j i → ⊥
IsLeastOf R (Some p) = R p.point p.curve × ((j i : ℕ) → R j i → IsLess j i p.point p.curve → ⊥)

-- The first is not after the second; none is after all.
abbrev pub IsNotAfter : Option OnCurve → Option OnCurve → Type 0
IsNotAfter r None = ⊤
IsNotAfter None (Some p) = ⊥
IsNotAfter (Some q) (Some p) = IsLess p.point p.curve q.point q.curve → ⊥

pub record IsLesserOn (a b r : Option OnCurve) : Type 0 where
  pub is : (r ≡ a) ⊎ (r ≡ b)
  pub not_first : IsNotAfter r a
  pub not_second : IsNotAfter r b

-- ---- points on straights
-- the place is no edge
abbrev pub IsInCell : Place → Type 0
IsInCell (place.Cell position lower upper) = ⊤
IsInCell (place.OnEdge e) = ⊥

-- the first k points are on no edge
abbrev pub AreInCells : List Place → ℕ → Type 0
AreInCells places k = (j : ℕ) → j < k → IsInCell (slice_index_or places j no_place)

-- the first point on an edge, with its edge; all points are on none
abbrev pub IsFirstOn : List Place → Option OnCurve → Type 0
IsFirstOn places None = AreInCells places (length places)
IsFirstOn places (Some p) =
    AreInCells places p.point × (p.point < length places)
    × (slice_index_or places p.point no_place ≡ place.OnEdge p.curve)

-- ---- numbers that are chosen
-- all numbers of the list are below n
abbrev pub AreNumbers : ℕ → List ℕ → Type 0
AreNumbers n numbers = (m : ℕ) → m < length numbers → slice_index numbers m < n

-- The numbers below k with this mark, in their order.
pub record AreMarkedTo (marks : List Bool) (mark : Bool) (k : ℕ) (numbers : List ℕ) : Type 0 where
  pub few : length numbers ≤ k
  pub known : AreNumbers k numbers
  pub mark_is : (m : ℕ) → m < length numbers → mark_of marks (slice_index numbers m) ≡ mark
  pub rising : IsRising numbers
  pub whole : (i : ℕ) → i < k → mark_of marks i ≡ mark
      → (m : ℕ) × (m < length numbers) × (slice_index numbers m ≡ i)

-- ---- points on these curves
-- The number i is that of a point, and j, less the number of points, that of a curve in the list,
-- on which it is judged to lie.
pub record IsPointOnCurve (d : Plan) (numbers : List ℕ) (i j : ℕ) : Type 0 where
  pub point_there : i < length d.points
  pub after : length d.points ≤ j
  pub within : (j - length d.points) < length numbers
  pub judged : IsJudgedOn (curve d (slice_index numbers (j - length d.points))) (object d i)

-- the point of each number
abbrev pub placed_at : List Placed → ℕ → Point
placed_at points j = (slice_index_or points j (record { at = no_point; line = 0 })).at

-- The boxes of the first k points.
pub record ArePointBoxes (points : List Placed) (k : ℕ) (boxes : List Reach) : Type 0 where
  pub size : length boxes ≡ k
  pub holds : (j : ℕ) → j < k → InBox (box_of (reach_of boxes j)) (point (placed_at points j))

-- The boxes of all points, and then those of the first k curves of the list.
pub record AreCurveBoxes (d : Plan) (numbers : List ℕ) (k : ℕ) (boxes : List Reach) : Type 0 where
  pub size : length boxes ≡ length d.points + k
  pub points : (j : ℕ) → j < length d.points
      → InBox (box_of (reach_of boxes j)) (point (object d j))
  pub holds : (m : ℕ) → m < k
      → HoldsCurve (box_of (reach_of boxes (length d.points + m)))
      (curve d (slice_index numbers m))
