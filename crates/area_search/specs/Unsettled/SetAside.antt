-- Curves of a drawing that are set aside, and the drawing of the others.
use Rattle.std.specs.Prelude.{◌≡◌, ℕ, ◌<◌, Bool, true, false, Option, Some, None, List, length, ⊤}
use Rattle.std.specs.Prelude.{slice_index}
use Rattle.plane.specs.Rule.Plans.{Plan, plan}
use Rattle.plane.specs.declared.kinds.Curve.{Curve}
use Rattle.plane.specs.declared.kinds.CurveKind.TheVariants as kind
use Rattle.plane.specs.declared.kinds.Placed.{Placed}
use Rattle.near_pairs.specs.Boxes.{IsOneMarked, mark_of}
use Rattle.meetings.specs.CurvePairs.{IsArcPair}
use Rattle.level_breaks.specs.LevelLists.{AreBreaksMarked}
use Rattle.tubes.specs.DrawnEdges.{nth_curve}
use Rattle.tubes.specs.Settled.{Breaks}
use Rattle.area_search.specs.declared.points.OnCurve.{OnCurve}
use Rattle.area_search.specs.declared.unsettled.rest.SubDrawing.{SubDrawing}
use Rattle.area_search.specs.declared.unsettled.settling.LastLevel.{LastLevel}
use Rattle.area_search.specs.declared.unsettled.settling.LastLevel.TheVariants as settling
use Rattle.area_search.specs.Answers.{HasNoBadPair}
use Rattle.area_search.specs.Unsettled.CurvePoints.{AreMarkedTo, IsFirstOnCurve, IsLeastOf}
use Rattle.area_search.specs.Unsettled.CurvePoints.{LiesOnMarked}

-- Curves are set aside by their marks: of each bad pair with a half arc and of each two curves that
-- break the last level one is; and this is the least point on one of the other curves, if there is
-- one.
pub record AreAside (d : Plan) (marks : List Bool) (on_others : Option OnCurve) : Type 0 where
  pub size : length marks ≡ length d.curves
  pub pairs : (i j : ℕ) → IsArcPair d i j → IsOneMarked marks i j
  pub breaks : AreBreaksMarked d (λ n. 5) marks
  pub points : IsLeastOf (LiesOnMarked d marks false) on_others

-- Of the first k curves those of half arcs are marked, and no others.
pub record AreArcMarks (curves : List Curve) (k : ℕ) (marks : List Bool) : Type 0 where
  pub size : length marks ≡ k
  pub half_arc : (i : ℕ) → i < k → (nth_curve curves i).kind ≡ kind.HalfArc → mark_of marks i ≡ true
  pub straight : (i : ℕ) → i < k → (nth_curve curves i).kind ≡ kind.Straight
      → mark_of marks i ≡ false

-- The point, with the number of its curve in place of the curve's place among the numbers.
abbrev pub IsNumbered : List ℕ → Option OnCurve → Option OnCurve → Type 0
IsNumbered numbers None r = r ≡ None
IsNumbered numbers (Some p) r =
    r ≡ Some (record { point = p.point; curve = slice_index numbers p.curve })

-- ---- the others
-- The curves of the first k of these numbers.
pub record AreCurvesAt (all : List Curve) (numbers : List ℕ) (k : ℕ)
    (curves : List Curve) : Type 0 where
  pub size : length curves ≡ k
  pub each : (m : ℕ) → m < k → nth_curve curves m ≡ nth_curve all (slice_index numbers m)

-- The drawing of the curves that are not marked, with these points, and the numbers of the curves.
pub record IsRest (d : Plan) (marks : List Bool) (points : List Placed) (r : SubDrawing) : Type 0 where
  pub numbers : AreMarkedTo marks false (length d.curves) r.numbers.items
  pub curves : AreCurvesAt d.curves r.numbers.items (length r.numbers.items)
      (plan r.drawing).curves
  pub points_are : (plan r.drawing).points ≡ points

-- ---- the last level
abbrev pub HasNoBreak : Plan → Type 0
HasNoBreak d = (i j : ℕ) → Breaks d (λ n. 5) i j → ⊥

-- What the last level shows: no two curves are bad or break it, and the first point on a curve, if
-- there is one; or nothing.
abbrev pub IsSettling : Plan → LastLevel → Type 0
IsSettling d (settling.Settled on) = HasNoBadPair d × HasNoBreak d × IsFirstOnCurve d on
IsSettling d (settling.Near near) = ⊤
IsSettling d settling.Unsettled = ⊤
