-- The face numbers of a settled drawing with half arcs, with placed points, lack only links of a
-- search to make a certificate.
use Rattle.std.proofs.Common.{◌≡◌, ℕ, ◌<◌, List, [], ℤ, sym, ◌∙◌}
use Rattle.plane.specs.Forms.Vectors.{Edge}
use Rattle.plane.specs.Rule.Plans.{Plan}
use Rattle.plane.specs.Runs.Steps.{Step}
use Rattle.plane.specs.Faces.Replays.{Replay, replay}
use Rattle.plane.specs.Faces.Halves.{Half, edge_of, mark}
use Rattle.plane.specs.Faces.Labels.{Labels}
use Rattle.plane.specs.Faces.Classes.{Across, Lead, IsFaces, numbers}
use Rattle.plane.specs.Faces.Certified.{FoundLead}
use Rattle.plane.specs.Tubes.Bays.{Bay}
use Rattle.plane.specs.CurveRuns.TubedRuns.{IsTubedRun, AreTubeLabels, half_within}
use Rattle.plane.specs.CurveRuns.Levels.{AreWide, IsSettledRun, AreCertificateNumbers, beside_inner}
use Rattle.plane.specs.CurveRuns.Levels.{beside_outer}
use Rattle.plane.specs.CurveRuns.CertifiedCurves.{ArePlaced, IsCurveRoot, CertifiedCurves}
use Rattle.plane.proofs.Runs.RunWeights.{run_weight}
use Rattle.plane.proofs.Turning.AnyWeight.{faces_to}
use Rattle.plane.proofs.TubedRuns.TubedWeights.{labels_to}
use Rattle.plane.proofs.Settling.RunFaces.{run_labels}
use Rattle.plane.proofs.CurveAreas.SettledPlaces.{number_is}
use Rattle.plane.proofs.CurveAreas.TubedCompleteness.{run_reached, run_certified}

module _ (w : ℤ) (d : Plan) (bays : ℕ → List Bay) (m : ℕ) (E : ℕ → Edge) (steps : List Step)
    (face : Half → ℕ) (is : IsTubedRun d bays m E steps) (wide : AreWide d bays)
    (settled : IsSettledRun d bays m E)
    (faces : IsFaces (replay w m E steps) face)
    (named : AreCertificateNumbers d bays m E face) where
  abbrev r : Replay
  r = replay w m E steps

  abbrev lab : Labels
  lab = numbers face

  abbrev within : ℕ → Half
  within = half_within d bays E

  abbrev inside : ℕ → ℕ
  inside = beside_inner d bays E face

  abbrev outside : ℕ → ℕ
  outside = beside_outer d bays E face

  L : AreTubeLabels d bays r lab within inside outside
  L =
      let u = run_weight m E steps [] is.run in
      labels_to u.weight w d bays m E steps lab within inside outside
      (run_labels d bays m E steps is wide settled u.weight u.swept face
      (faces_to w u.weight m E steps face faces) named)

  fine : (g h : Half) → edge_of g < m → edge_of h < m → mark lab g ≡ mark lab h → face g ≡ face h
  fine g h lg lh e = sym (number_is face g) ∙ e ∙ number_is face h

  none : (h : Half) → edge_of h < m → mark lab h ≡ 0 → face h ≡ 0
  none h lh e = sym (number_is face h) ∙ e

  module _ (placed : ArePlaced d bays r lab inside outside) where
    pub reached : (Reached : Half → Type 0)
        → ((h : Half) → edge_of h < m → IsCurveRoot d bays r lab within inside outside h
        → Reached h)
        → ((g h : Half) → Reached g → Across r h g → Reached h) → (h : Half) → edge_of h < m
        → Reached h
    reached Reached roots closed =
        run_reached d bays m E steps lab within inside outside is w L placed face faces fine none
        Reached roots closed

    pub certified : (rank : Half → ℕ) (link : Half → Lead)
        → ((h : Half) → edge_of h < m
        → FoundLead r rank (IsCurveRoot d bays r lab within inside outside) h (link h))
        → CertifiedCurves d bays r lab within inside outside rank link
    certified rank link found =
        run_certified d bays m E steps lab within inside outside is w L placed face faces fine none
        rank link found
