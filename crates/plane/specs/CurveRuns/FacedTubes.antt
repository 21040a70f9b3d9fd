-- Which tube a half-edge faces, cells with one tube or none on both sides, and where a point lies
-- in a settled run.
use Rattle.std.specs.Prelude.{◌≡◌, ℕ, zero, suc, ◌<◌, List, length, pos}
use Rattle.plane.specs.declared.kinds.Point.{Point}
use Rattle.plane.specs.declared.kinds.CurveKind.TheVariants as kind
use Rattle.plane.specs.Forms.Vectors.{Vector, point, Edge}
use Rattle.plane.specs.Rule.HalfArcs.{power}
use Rattle.plane.specs.Rule.Curves.{arc, IsOn}
use Rattle.plane.specs.Rule.Plans.{Plan, curve}
use Rattle.plane.specs.Rule.Partition.{IsOff}
use Rattle.plane.specs.Faces.Replays.{Replay}
use Rattle.plane.specs.Faces.Labels.{Labels}
use Rattle.plane.specs.Faces.Halves.{Half, under, over, edge_of}
use Rattle.plane.specs.Faces.Classes.{Across, Touches, numbers}
use Rattle.plane.specs.Tubes.Bays.{Bay, InTube}
use Rattle.plane.specs.CurveRuns.TubedRuns.{Part, whole, inner, outer, owned, half_within}
use Rattle.plane.specs.CurveRuns.TubedRuns.{tube_label}

-- ---- the tube that a half-edge faces
-- The number n where both half-edges are under their edges or both are over, else 0.
abbrev pub on_one_side : Half → Half → ℕ → ℕ
on_one_side (under e) (under f) n = n
on_one_side (over e) (over f) n = n
on_one_side (under e) (over f) n = 0
on_one_side (over e) (under f) n = 0

abbrev pub tube_tag : Part → ℕ → ℕ
tube_tag whole i = 0
tube_tag inner i = suc i
tube_tag outer i = suc i

-- The number of the curve whose tube the half-edge faces from within, plus 1; 0 where it faces
-- none.
abbrev pub faced : Plan → (ℕ → List Bay) → (ℕ → Edge) → Half → ℕ
faced d bays E h =
    on_one_side h (half_within d bays E (edge_of h))
    (tube_tag (owned d bays (edge_of h)).part (owned d bays (edge_of h)).curve)

-- Half-edges on both sides of a cell face one tube, or none; at the border none does.
pub record AreCellsPaired (d : Plan) (bays : ℕ → List Bay) (r : Replay) : Type 0 where
  pub across : (g h : Half) → Across r g h → faced d bays r.edge g ≡ faced d bays r.edge h
  pub border : (h : Half) → Touches r h → faced d bays r.edge h ≡ 0

-- ---- labels that give the tubes and nothing else
abbrev pub blank_label : Plan → ℕ → ℕ
blank_label d zero = 0
blank_label d (suc i) = tube_label d i

abbrev pub blank_labels : Plan → (ℕ → List Bay) → (ℕ → Edge) → Labels
blank_labels d bays E = numbers (λ h. blank_label d (faced d bays E h))

-- ---- points
-- The place is on curve i and on no curve of a lesser number.
pub record IsFirstOn (d : Plan) (i : ℕ) (z : Vector) : Type 0 where
  pub there : i < length d.curves
  pub on : IsOn (curve d i) z
  pub least : (j : ℕ) → j < i → IsOn (curve d j) z → ⊥

-- The point is in the tube of half arc i: it is on the half arc where its power is 0, else on no
-- curve.
pub record LiesInTube (d : Plan) (bays : ℕ → List Bay) (i : ℕ) (v : Point) : Type 0 where
  pub there : i < length d.curves
  pub bent : (curve d i).kind ≡ kind.HalfArc
  pub holds : InTube (curve d i).from (bays i) (point v)
  pub on : power (arc (curve d i)) (point v) ≡ pos 0 → IsFirstOn d i (point v)
  pub off : (power (arc (curve d i)) (point v) ≡ pos 0 → ⊥) → IsOff d (point v)
