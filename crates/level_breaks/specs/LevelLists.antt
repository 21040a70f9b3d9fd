-- The tubes, boxes and marks of the curves of a drawing.
use Rattle.std.specs.Prelude.{◌≡◌, ℕ, ◌<◌, ◌⊎◌, Bool, true, false, Option, Some, None, List, length}
use Rattle.std.specs.Prelude.{slice_index_or, IfSome}
use Rattle.plane.specs.Rule.BadPairs.{AreBad}
use Rattle.plane.specs.Rule.Plans.{IsStraight, Plan, curve}
use Rattle.plane.specs.declared.kinds.Curve.{Curve}
use Rattle.plane.specs.declared.kinds.CurveKind.TheVariants as kind
use Rattle.near_pairs.specs.Boxes.{IsOneMarked, box_of, mark_of, reach_of}
use Rattle.near_pairs.specs.LeastPairs.{IsLess}
use Rattle.near_pairs.specs.declared.pairs.NearPair.{NearPair}
use Rattle.near_pairs.specs.declared.reaches.Reach.{Reach}
use Rattle.tubes.specs.DrawnEdges.{nth_curve}
use Rattle.tubes.specs.Settled.{Breaks, IsTubeFor}
use Rattle.tubes.specs.declared.kinds.Tube.{Tube}
use Rattle.level_breaks.specs.Groups.{HoldsAll, corners}
use Rattle.level_breaks.specs.declared.pairs.LevelBreak.{LevelBreak}

abbrev pub tube_of : List (Option Tube) → ℕ → Option Tube
tube_of tubes i = slice_index_or tubes i None

-- The tubes of the first k curves.
pub record AreTubesTo (curves : List Curve) (level : ℕ → ℕ) (k : ℕ)
    (tubes : List (Option Tube)) : Type 0 where
  pub size : length tubes ≡ k
  pub each : (i : ℕ) → i < k → IsTubeFor (nth_curve curves i) (level i) (tube_of tubes i)

-- The boxes of the first k curves with their tubes.
pub record AreBoxesTo (curves : List Curve) (tubes : List (Option Tube)) (k : ℕ)
    (boxes : List Reach) : Type 0 where
  pub size : length boxes ≡ k
  pub holds : (i : ℕ) → i < k
      → HoldsAll (box_of (reach_of boxes i)) (corners (nth_curve curves i) (tube_of tubes i))

-- The marks of the first k curves: half arcs are marked.
pub record AreMarksTo (curves : List Curve) (k : ℕ) (marks : List Bool) : Type 0 where
  pub size : length marks ≡ k
  pub half_arc : (i : ℕ) → i < k → (nth_curve curves i).kind ≡ kind.HalfArc → mark_of marks i ≡ true

-- The curve is a half arc without a tube.
pub record IsBare (curves : List Curve) (tubes : List (Option Tube)) (i : ℕ) : Type 0 where
  pub there : i < length curves
  pub kind : (nth_curve curves i).kind ≡ kind.HalfArc
  pub none : tube_of tubes i ≡ None

-- The first such curve, where there is one.
abbrev pub IsFirstBare : List Curve → List (Option Tube) → Option ℕ → Type 0
IsFirstBare curves tubes None = (i : ℕ) → IsBare curves tubes i → ⊥
IsFirstBare curves tubes (Some i) =
    IsBare curves tubes i × ((k : ℕ) → k < i → IsBare curves tubes k → ⊥)

-- No two straights of the drawing are bad.
abbrev pub HasNoBadStraights : Plan → Type 0
HasNoBadStraights d =
    (i j : ℕ) → IsStraight d i → IsStraight d j → i < j → AreBad (curve d i) (curve d j) → ⊥

-- Of each two curves that break the level one is marked.
abbrev pub AreBreaksMarked : Plan → (ℕ → ℕ) → List Bool → Type 0
AreBreaksMarked d level marked =
    (i j : ℕ) → i < j → j < length d.curves → Breaks d level i j → IsOneMarked marked i j

-- Of the curves that are marked none breaks the level with another curve.
abbrev pub AreAlone : Plan → (ℕ → ℕ) → List Bool → Type 0
AreAlone d level marked =
    (i j : ℕ) → i < j → j < length d.curves → Breaks d level i j
    → (mark_of marked i ≡ false) × (mark_of marked j ≡ false)

-- The pair of two curves, or the one curve named twice; neither of them is less.
pub record IsLesser (pair : Option NearPair) (bare : Option ℕ) (r : LevelBreak) : Type 0 where
  pub is : (pair ≡ Some (record { first = r.first; second = r.second }))
      ⊎ ((bare ≡ Some r.first) × (r.first ≡ r.second))
  pub not_pair : IfSome pair (λ p. IsLess p.first p.second r.first r.second → ⊥)
  pub not_bare : IfSome bare (λ i. IsLess i i r.first r.second → ⊥)
