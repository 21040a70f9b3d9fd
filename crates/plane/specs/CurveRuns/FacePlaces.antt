-- The face numbers of places and points in a run over the edge list of a drawing with half arcs.
use Rattle.std.specs.Prelude.{◌≡◌, ◌⊎◌, ℕ, List}
use Rattle.plane.specs.declared.kinds.Point.{Point}
use Rattle.plane.specs.Forms.Vectors.{Vector}
use Rattle.plane.specs.Rule.Plans.{Plan}
use Rattle.plane.specs.Faces.Replays.{Replay}
use Rattle.plane.specs.Faces.Halves.{Half, over, AtBefore}
use Rattle.plane.specs.Faces.Classes.{Lead, numbers, face_of}
use Rattle.plane.specs.Faces.PlacedPoints.{IsLocated}
use Rattle.plane.specs.Tubes.Bays.{Bay}
use Rattle.plane.specs.CurveRuns.Extended.{HasLabel}
use Rattle.plane.specs.CurveRuns.TubedRuns.{half_within, tubes}
use Rattle.plane.specs.CurveRuns.CertifiedCurves.{IsInTube, ArePlaced, IsCurveRoot, CertifiedCurves}
use Rattle.plane.specs.CurveRuns.Levels.{beside_inner, beside_outer}
use Rattle.plane.specs.CurveRuns.FacedTubes.{faced}

-- The place has the number n: in a tube that beside the chain on its side of the circle, else that
-- of its cell.
abbrev pub HasFace : Plan → (ℕ → List Bay) → Replay → (Half → ℕ) → Vector → ℕ → Type 0
HasFace d bays r face z n =
    HasLabel r (numbers face)
    (tubes d bays (half_within d bays r.edge)
    (beside_inner d bays r.edge face) (beside_outer d bays r.edge face))
    z n

-- The point lies in a cell with the number n, which is in no tube: the half-edge over the cell's
-- lower edge faces none.
pub record IsInFace (d : Plan) (bays : ℕ → List Bay) (r : Replay) (face : Half → ℕ) (v : Point)
    (n : ℕ) : Type 0 where
  pub strip : ℕ
  pub index : ℕ
  pub located : IsLocated r v strip index
  pub clear : (e : ℕ) → AtBefore (r.list strip) index e → faced d bays r.edge (over e) ≡ 0
  pub number : face_of r face (record { strip = strip; index = index }) ≡ n

-- The point has the number n, by its position or by a tube and its side of the circle.
abbrev pub PointHasFace : Plan → (ℕ → List Bay) → Replay → (Half → ℕ) → Point → ℕ → Type 0
PointHasFace d bays r face v n =
    IsInFace d bays r face v n
    ⊎ IsInTube d bays (beside_inner d bays r.edge face) (beside_outer d bays r.edge face) v n

-- ---- a certificate whose labels are the face numbers
abbrev pub ArePlacedByFaces : Plan → (ℕ → List Bay) → Replay → (Half → ℕ) → Type 0
ArePlacedByFaces d bays r face =
    ArePlaced d bays r (numbers face) (beside_inner d bays r.edge face)
    (beside_outer d bays r.edge face)

abbrev pub IsFaceRoot : Plan → (ℕ → List Bay) → Replay → (Half → ℕ) → Half → Type 0
IsFaceRoot d bays r face h =
    IsCurveRoot d bays r (numbers face) (half_within d bays r.edge)
    (beside_inner d bays r.edge face) (beside_outer d bays r.edge face) h

abbrev pub CertifiedByFaces : Plan → (ℕ → List Bay) → Replay → (Half → ℕ) → (Half → ℕ)
    → (Half → Lead) → Type 0
CertifiedByFaces d bays r face rank link =
    CertifiedCurves d bays r (numbers face) (half_within d bays r.edge)
    (beside_inner d bays r.edge face) (beside_outer d bays r.edge face) rank link
