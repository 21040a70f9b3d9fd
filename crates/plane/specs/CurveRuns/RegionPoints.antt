-- The label of a point of a drawing with half arcs: by a cell, which may also be under all edges or
-- over all, or by a tube and its side.
use Rattle.std.specs.Prelude.{◌≡◌, ◌⊎◌, ℕ, ◌≤◌, List, length}
use Rattle.plane.specs.declared.kinds.Point.{Point}
use Rattle.plane.specs.Rule.Plans.{Plan}
use Rattle.plane.specs.Faces.Replays.{Replay}
use Rattle.plane.specs.Faces.Cells.{label_of}
use Rattle.plane.specs.Faces.Labels.{Labels}
use Rattle.plane.specs.Faces.PlacedPoints.{IsLocated}
use Rattle.plane.specs.Tubes.Bays.{Bay}
use Rattle.plane.specs.CurveRuns.CertifiedCurves.{IsInTube}

-- The point lies in a cell with the label n, which is that of a region and of no tube.
pub record IsInRegion (d : Plan) (r : Replay) (lab : Labels) (v : Point) (n : ℕ) : Type 0 where
  pub strip : ℕ
  pub index : ℕ
  pub located : IsLocated r v strip index
  pub label : label_of lab r (record { strip = strip; index = index }) ≡ n
  pub region : n ≤ length d.points

-- The point has the label n.
abbrev pub HasRegion : Plan → (ℕ → List Bay) → Replay → Labels → (ℕ → ℕ) → (ℕ → ℕ) → Point → ℕ
    → Type 0
HasRegion d bays r lab inside outside v n =
    IsInRegion d r lab v n ⊎ IsInTube d bays inside outside v n
