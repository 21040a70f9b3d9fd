-- In a settled drawing with half arcs places are joined exactly where they have one face number,
-- and outer exactly where it is 0; the
-- number of a place in a tube is that beside the tube on its side of the circle.
use Rattle.std.proofs.Common.{◌≡◌, ◌↔◌, ℕ, ◌<◌, List, ℤ, pos, ◌<ℤ◌, refl, sym, ◌∙◌}
use Rattle.plane.specs.declared.kinds.Placed.{Placed}
use Rattle.plane.specs.Forms.Vectors.{Vector, Place, Edge}
use Rattle.plane.specs.Rule.Plans.{Plan}
use Rattle.plane.specs.Rule.Partition.{IsOff, Joined, IsOuter}
use Rattle.plane.specs.Runs.Steps.{Step, WeighedRun}
use Rattle.plane.specs.Faces.Replays.{replay}
use Rattle.plane.specs.Faces.Halves.{Half, under, over, edge_of, mark}
use Rattle.plane.specs.Faces.Classes.{IsFaces, numbers}
use Rattle.plane.specs.Tubes.Bays.{Bay}
use Rattle.plane.specs.CurveRuns.Extended.{HasLabel}
use Rattle.plane.specs.CurveRuns.TubedRuns.{IsTubedRun, AreTubeLabels, half_within, tubes}
use Rattle.plane.specs.CurveRuns.Levels.{AreWide, IsSettledRun, AreCertificateNumbers, beside_inner}
use Rattle.plane.specs.CurveRuns.Levels.{beside_outer}
use Rattle.plane.proofs.Settling.RunFaces.{run_labels}
use Rattle.plane.proofs.CurveAreas.TubedFaces.{joined_is_label, outer_is_label, joined_with}
use Rattle.plane.proofs.CurveAreas.TubedFaces.{joined_without, outer_with, outer_without}

-- the labels are the face numbers
pub number_is : (face : Half → ℕ) (h : Half) → mark (numbers face) h ≡ face h
number_is face (under e) = refl
number_is face (over e) = refl

-- the numbers may be those of a certificate for other points
module _ (w : ℤ) (d : Plan) (ps : List Placed) (bays : ℕ → List Bay) (m : ℕ) (E : ℕ → Edge)
    (steps : List Step) (face : Half → ℕ) (swept : WeighedRun w m E steps)
    (is : IsTubedRun (record d { points = ps }) bays m E steps)
    (wide : AreWide (record d { points = ps }) bays)
    (settled : IsSettledRun (record d { points = ps }) bays m E)
    (faces : IsFaces (replay w m E steps) face)
    (named : AreCertificateNumbers (record d { points = ps }) bays m E face) where
  abbrev other : Plan
  other = record d { points = ps }

  abbrev Numbered : Vector → ℕ → Type 0
  Numbered z l =
      HasLabel (replay w m E steps) (numbers face)
      (tubes other bays (half_within other bays E) (beside_inner other bays E face)
      (beside_outer other bays E face)) z l

  L : AreTubeLabels other bays (replay w m E steps) (numbers face) (half_within other bays E)
      (beside_inner other bays E face) (beside_outer other bays E face)
  L = run_labels other bays m E steps is wide settled w swept face faces named

  fine : (g h : Half) → edge_of g < m → edge_of h < m
      → mark (numbers face) g ≡ mark (numbers face) h → face g ≡ face h
  fine g h lg lh e = sym (number_is face g) ∙ e ∙ number_is face h

  none : (h : Half) → edge_of h < m → mark (numbers face) h ≡ 0 → face h ≡ 0
  none h lh e = sym (number_is face h) ∙ e

  pub joined_is_number : (p q : Vector) (l k : ℕ) → Place p → Place q → IsOff d p → Numbered p l
      → Numbered q k → Joined d p q ↔ (l ≡ k)
  joined_is_number p q l k P Q off hp hq =
      let b = joined_is_label w other bays m E steps (numbers face) (half_within other bays E)
      (beside_inner other bays E face)
      (beside_outer other bays E face) swept is L face faces fine none p q l k P Q off hp hq in
      ((λ j. b.0 (joined_without d ps p q j)), (λ e. joined_with d ps p q (b.1 e)))

  pub outer_is_number : pos 0 <ℤ w → (p : Vector) (l : ℕ) → Place p → IsOff d p → Numbered p l
      → IsOuter d p ↔ (l ≡ 0)
  outer_is_number heavy p l P off hp =
      let b = outer_is_label w other bays m E steps (numbers face) (half_within other bays E)
      (beside_inner other bays E face)
      (beside_outer other bays E face) swept is L face faces fine none heavy p l P off hp in
      ((λ o. b.0 (outer_without d ps p o)), (λ e. outer_with d ps p (b.1 e)))
