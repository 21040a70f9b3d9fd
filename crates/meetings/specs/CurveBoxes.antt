-- The box and the mark of each curve.
use Rattle.std.specs.Prelude.{◌≡◌, ℕ, ◌<◌, Bool, true, List, length}
use Rattle.plane.specs.declared.kinds.Curve.{Curve}
use Rattle.plane.specs.declared.kinds.CurveKind.TheVariants as kind
use Rattle.plane.specs.Forms.Boxes.{HoldsCurve}
use Rattle.near_pairs.specs.Boxes.{box_of, mark_of, reach_of}
use Rattle.near_pairs.specs.declared.reaches.Reach.{Reach}
use Rattle.meetings.specs.PlacedCurves.{ArePlaced, IsPlaced}
use Rattle.meetings.specs.StraightEdges.{curve_of}

-- The boxes of the first k curves.
pub record AreReachesTo (curves : List Curve) (k : ℕ) (reaches : List Reach) : Type 0 where
  pub size : length reaches ≡ k
  pub holds : (i : ℕ) → i < k → HoldsCurve (box_of (reach_of reaches i)) (curve_of curves i)

-- The marks of the first k curves: half arcs are marked.
pub record AreMarksTo (curves : List Curve) (k : ℕ) (marks : List Bool) : Type 0 where
  pub size : length marks ≡ k
  pub half_arc : (i : ℕ) → i < k → (curve_of curves i).kind ≡ kind.HalfArc → mark_of marks i ≡ true

-- Each curve, and each two curves, may be drawn in one window.
abbrev pub IsEachPlaced : List Curve → Type 0
IsEachPlaced curves = (i : ℕ) → i < length curves → IsPlaced (curve_of curves i)

abbrev pub IsEachPairPlaced : List Curve → Type 0
IsEachPairPlaced curves =
    (i j : ℕ) → i < length curves → j < length curves
    → ArePlaced (curve_of curves i) (curve_of curves j)
