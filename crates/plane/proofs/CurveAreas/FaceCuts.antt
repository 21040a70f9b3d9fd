-- In a settled run with face numbers a curve has one face on both sides exactly where the numbers
-- of its two sides are equal.
use Rattle.std.proofs.Common.{◌≡◌, ◌↔◌, ℕ, ◌<◌, length, List, [], ℤ, inl, inr, refl, sym, ◌∙◌}
use Rattle.std.proofs.Common.{subst}
use Rattle.plane.specs.declared.kinds.CurveKind.TheVariants as kind
use Rattle.plane.specs.declared.kinds.Placed.{Placed}
use Rattle.plane.specs.Forms.Vectors.{Edge}
use Rattle.plane.specs.Rule.Plans.{Plan, curve}
use Rattle.plane.specs.Rule.Cuts.{IsCut}
use Rattle.plane.specs.Runs.Steps.{Step}
use Rattle.plane.specs.Faces.Replays.{replay}
use Rattle.plane.specs.Faces.Labels.{Labels}
use Rattle.plane.specs.Faces.Halves.{Half, under, over}
use Rattle.plane.specs.Faces.Classes.{IsFaces, numbers}
use Rattle.plane.specs.Tubes.Bays.{Bay}
use Rattle.plane.specs.CurveRuns.TubedRuns.{whole, owned, IsOfTube, IsTubedRun, AreTubeLabels}
use Rattle.plane.specs.CurveRuns.TubedRuns.{half_within}
use Rattle.plane.specs.CurveRuns.Levels.{AreWide, IsSettledRun, beside_inner, beside_outer}
use Rattle.plane.proofs.Runs.RunWeights.{RunWeight, run_weight}
use Rattle.plane.proofs.TubedRuns.OwnedEdges.{IsOfStraight, owner_is}
use Rattle.plane.proofs.CurveAreas.CutCurves.{cut_with, cut_without, straight_equal, arc_equal}
use Rattle.plane.proofs.CurveAreas.CutCurves.{straight_is_cut, arc_is_cut}
use Rattle.plane.proofs.CurveAreas.FaceLabels as as_labels

module _ (d : Plan) (bays : ℕ → List Bay) (m : ℕ) (E : ℕ → Edge) (steps : List Step)
    (is : IsTubedRun d bays m E steps) (wide : AreWide d bays) (settled : IsSettledRun d bays m E)
    (v : ℤ) (face : Half → ℕ) (given : IsFaces (replay v m E steps) face) where
  abbrev full : Plan
  full = as_labels.full d bays m E steps is wide settled v face given

  abbrev extra : List Placed
  extra = as_labels.extra d bays m E steps is wide settled v face given

  abbrev num : Half → ℕ
  num = as_labels.num d bays m E steps is wide settled v face given

  abbrev lab : Labels
  lab = numbers num

  abbrev inside : ℕ → ℕ
  inside = beside_inner full bays E num

  abbrev outside : ℕ → ℕ
  outside = beside_outer full bays E num

  u : RunWeight m E steps []
  u = run_weight m E steps [] is.run

  full_run : IsTubedRun full bays m E steps
  full_run = as_labels.full_run d bays m E steps is wide settled v face given

  L : AreTubeLabels full bays (replay u.weight m E steps) lab (half_within d bays E) inside outside
  L = as_labels.labels d bays m E steps is wide settled v face given u.weight u.swept

  faces : IsFaces (replay u.weight m E steps) num
  faces = as_labels.num_faces d bays m E steps is wide settled v face given u.weight u.swept

  of_straight : (e : ℕ) → e < m → (owned d bays e).part ≡ whole → IsOfStraight d bays m E steps is e
  of_straight e l part = elim (owner_is d bays m E steps is e l) [
    | inl s ↦ s
    | inr b ↦ absurd (subst IsOfTube part b.part)
  ]

  pub straight_cut_by_faces : (e : ℕ) → e < m → (owned d bays e).part ≡ whole
      → IsCut d (owned d bays e).curve ↔ (face (over e) ≡ face (under e))
  straight_cut_by_faces e l part =
      let s = of_straight e l part in
      let i = (owned d bays e).curve in
      let fits : i < length d.curves = subst (λ (n : ℕ). n < length d.curves)
      (sym s.number) s.fits in
      let straight : (curve d i).kind ≡ kind.Straight = subst
      (λ (n : ℕ). (curve d n).kind ≡ kind.Straight) (sym s.number) s.straight in (
        (λ c. as_labels.back d bays m E steps is wide settled v face given (over e) (under e) l l
            (straight_equal u.weight full bays m E steps lab
            (half_within d bays E) inside outside full_run L i e fits straight l refl part
            (cut_without d extra i c))),
        (λ k. cut_with d extra i
            (straight_is_cut u.weight full bays m E steps lab
            (half_within d bays E) inside outside full_run L num faces
            (as_labels.fine d bays m E steps is wide settled v face given)
            (as_labels.none d bays m E steps is wide settled v face given) i e fits straight l
            refl part
            (as_labels.forth d bays m E steps is wide settled v face given (over e)
            (under e) l l k))),
      )

  pub arc_cut_by_faces : (i : ℕ) → i < length d.curves → (curve d i).kind ≡ kind.HalfArc
      → IsCut d i ↔ (beside_inner d bays E face i ≡ beside_outer d bays E face i)
  arc_cut_by_faces i fits bent =
      let a = as_labels.same_inner d bays m E steps is wide settled v face given i in
      let b = as_labels.same_outer d bays m E steps is wide settled v face given i in (
        (λ c. sym a ∙ arc_equal u.weight full bays m E steps lab
            (half_within d bays E) inside outside full_run L i fits bent (cut_without d extra i c)
            ∙ b),
        (λ k. cut_with d extra i
            (arc_is_cut u.weight full bays m E steps lab
            (half_within d bays E) inside outside full_run L num faces
            (as_labels.fine d bays m E steps is wide settled v face given)
            (as_labels.none d bays m E steps is wide settled v face given) i fits bent (a ∙ k
            ∙ sym b))),
      )
