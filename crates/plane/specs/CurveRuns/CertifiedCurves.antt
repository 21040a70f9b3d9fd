-- What a certificate says of a drawing of straights and half arcs, over the lists of its replay.
-- The labels are those of regions and tubes (`TubedRuns`); for a drawing of straights alone see
-- `Faces/Certified`.
use Rattle.std.specs.Prelude.{◌≡◌, ◌⊎◌, ℕ, suc, ◌<◌, List, length, pos, ◌<ℤ◌}
use Rattle.plane.specs.declared.kinds.Point.{Point}
use Rattle.plane.specs.declared.kinds.CurveKind.TheVariants as kind
use Rattle.plane.specs.Forms.Vectors.{point}
use Rattle.plane.specs.Rule.HalfArcs.{power}
use Rattle.plane.specs.Rule.Curves.{arc}
use Rattle.plane.specs.Rule.Plans.{Plan, curve, object}
use Rattle.plane.specs.Faces.Replays.{Replay}
use Rattle.plane.specs.Faces.Labels.{Labels}
use Rattle.plane.specs.Faces.Halves.{Half, twin, mark, Beside}
use Rattle.plane.specs.Faces.Classes.{Touches, Lead, AreLeads}
use Rattle.plane.specs.Tubes.Bays.{Bay, InTube}
use Rattle.plane.specs.CurveRuns.TubedRuns.{inner, outer, owned, IsOfTube, AreTubeLabels}
use Rattle.plane.specs.Faces.PlacedPoints.{IsPlaced}

-- The point lies in a cell by its position: both edges beside it have the label n on its side.
pub record IsInCell (r : Replay) (lab : Labels) (v : Point) (n : ℕ) : Type 0 where
  pub strip : ℕ
  pub index : ℕ
  pub placed : IsPlaced r v strip index
  pub lower_label : lab.above placed.lower ≡ n
  pub upper_label : lab.below placed.upper ≡ n

-- The point lies in a tube, strictly inside the circle or strictly outside: the label outside the
-- chain on that side is n.
pub record IsInTube (d : Plan) (bays : ℕ → List Bay) (inside outside : ℕ → ℕ) (v : Point)
    (n : ℕ) : Type 0 where
  pub number : ℕ
  pub fits : number < length d.curves
  pub bent : (curve d number).kind ≡ kind.HalfArc
  pub holds : InTube (curve d number).from (bays number) (point v)
  pub side : ((power (arc (curve d number)) (point v) <ℤ pos 0) × (inside number ≡ n))
      ⊎ ((pos 0 <ℤ power (arc (curve d number)) (point v)) × (outside number ≡ n))

-- Each object's point has a place, with the label of its number.
abbrev pub ArePlaced : Plan → (ℕ → List Bay) → Replay → Labels → (ℕ → ℕ) → (ℕ → ℕ) → Type 0
ArePlaced d bays r lab inside outside =
    (j : ℕ) → j < length d.points
    → IsInCell r lab (object d j) (suc j) ⊎ IsInTube d bays inside outside (object d j) (suc j)

-- The half-edge bounds the cell of point j.
pub record BoundsCell (d : Plan) (r : Replay) (lab : Labels) (h : Half) (j : ℕ) : Type 0 where
  pub place : IsInCell r lab (object d j) (suc j)
  pub beside : Beside r h (record { strip = place.strip; index = place.index })

-- The half-edge lies outside a tube that holds point j, at an edge of the chain on the point's side
-- of the circle.
pub record BoundsSide (d : Plan) (bays : ℕ → List Bay) (r : Replay) (within : ℕ → Half)
    (inside outside : ℕ → ℕ) (h : Half) (j : ℕ) : Type 0 where
  pub place : IsInTube d bays inside outside (object d j) (suc j)
  pub edge : ℕ
  pub fits : edge < r.edges
  pub of_curve : (owned d bays edge).curve ≡ place.number
  pub side : (((owned d bays edge).part ≡ inner)
      × (power (arc (curve d place.number)) (point (object d j)) <ℤ pos 0))
      ⊎ (((owned d bays edge).part ≡ outer)
      × (pos 0 <ℤ power (arc (curve d place.number)) (point (object d j))))
  pub is : h ≡ twin (within edge)

-- A root faces a tube from within, or has label 0 and was a neighbour of a border, or bounds the
-- cell or the side where its label's point lies.
abbrev pub IsCurveRoot : Plan → (ℕ → List Bay) → Replay → Labels → (ℕ → Half) → (ℕ → ℕ) → (ℕ → ℕ)
    → Half → Type 0
IsCurveRoot d bays r lab within inside outside h =
    ((e : ℕ) × (e < r.edges) × IsOfTube (owned d bays e).part × (h ≡ within e))
    ⊎ (((mark lab h ≡ 0) × Touches r h)
    ⊎ ((j : ℕ) × (j < length d.points) × (mark lab h ≡ suc j)
    × (BoundsCell d r lab h j ⊎ BoundsSide d bays r within inside outside h j)))

pub record CertifiedCurves (d : Plan) (bays : ℕ → List Bay) (r : Replay) (lab : Labels)
    (within : ℕ → Half) (inside outside : ℕ → ℕ) (rank : Half → ℕ)
    (link : Half → Lead) : Type 0 where
  -- neighbours match, and the labels give the tubes
  pub labels : AreTubeLabels d bays r lab within inside outside
  -- each point has a place, with the label of its number
  pub placed : ArePlaced d bays r lab inside outside
  -- links lead to roots
  pub links : AreLeads r (mark lab) rank link (IsCurveRoot d bays r lab within inside outside)
