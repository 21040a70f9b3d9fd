-- What holds of face numbers of a run, with any weight: next half-edges have one number, each
-- half-edge crosses to a root, and the
-- labels of a certificate are face numbers.
use Rattle.std.proofs.Common.{◌≡◌, ℕ, ◌<◌, List, [], length, ℤ, inl, inr, sym, ◌∙◌}
use Rattle.plane.specs.Forms.Vectors.{Edge}
use Rattle.plane.specs.Runs.Steps.{Step, Run}
use Rattle.plane.specs.Faces.Replays.{Replay, replay}
use Rattle.plane.proofs.Runs.RunWords.{IsRun, IsLawful}
use Rattle.plane.specs.Faces.Labels.{Labels}
use Rattle.plane.specs.Faces.Halves.{Half, edge_of, mark}
use Rattle.plane.specs.Faces.Classes.{Next, Crossing, same, cross, Lead, root, IsFaces, numbers}
use Rattle.plane.specs.Rule.Plans.{Plan, object}
use Rattle.plane.specs.Faces.Certified.{IsRoot, Certified, IsComplete}
use Rattle.plane.specs.Faces.DrawnRuns.{IsRunOf, drawn}
use Rattle.plane.proofs.Runs.Numbered.{swept_run}
use Rattle.plane.proofs.Runs.Lawful.{swept_lawful}
use Rattle.plane.proofs.Turning.CellWalls.{beside_fits}
use Rattle.plane.proofs.FaceLemmas.FaceNumbers.{faces_matched, beside_face}
use Rattle.plane.proofs.LabelLemmas.HalfLabels.{linked_label}
use Rattle.plane.proofs.Turning.Rotation.{next_cells}
use Rattle.plane.proofs.FaceLemmas.PlacedPoints.{placed_is}
use Rattle.plane.proofs.FaceLemmas.Completeness.{crossing_root}
use Rattle.plane.proofs.FaceLemmas.CertifiedRuns.{reweighed, complete_to, root_to}
use Rattle.plane.proofs.FaceLemmas.CertifiedFaces as certified
use Rattle.plane.proofs.Turning.AnyWeight.{next_to, across_to, faces_to}
use Rattle.plane.proofs.Runs.RunWeights.{RunWeight, run_weight}

-- ---- next half-edges
next_same : (r : Replay) → IsRun r → IsLawful r → (face : Half → ℕ) → IsFaces r face → (h g : Half)
    → Next r h g → face h ≡ face g
next_same r run law face f h g n =
    let m = next_cells r run law g h n in
    sym (beside_face r run law face f h m.0 m.2 m.4)
    ∙ linked_label r run law (numbers face) (faces_matched r run law face f) m.0 m.1 m.6
    ∙ beside_face r run law face f g m.1 m.3 m.5

pub run_next_face : (w : ℤ) (m : ℕ) (E : ℕ → Edge) (steps : List Step) (face : Half → ℕ)
    (h g : Half)
    → Run m E steps → IsFaces (replay w m E steps) face → Next (replay w m E steps) h g
    → face h ≡ face g
run_next_face w m E steps face h g run f n =
    let u = run_weight m E steps [] run in
    next_same (replay u.weight m E steps) (swept_run u.weight m E steps u.swept)
    (swept_lawful u.weight m E steps u.swept) face (faces_to w u.weight m E steps face f) h g
    (next_to w u.weight m E steps h g n)

-- ---- roots
pub crossing_to : (v w : ℤ) (m : ℕ) (E : ℕ → Edge) (steps : List Step) (g h : Half)
    → Crossing (replay v m E steps) g h → Crossing (replay w m E steps) g h
crossing_to v w m E steps _ _ (same g h e) = same g h e
crossing_to v w m E steps _ _ (cross g h i a k) =
    cross g h i (across_to v w m E steps g h a) (crossing_to v w m E steps h i k)

module _ (v : ℤ) (d : Plan) (E : ℕ → Edge) (steps : List Step) (run : IsRunOf d E steps) where
  abbrev u : RunWeight (length d.curves) E steps []
  u = run_weight (length d.curves) E steps [] run.run

  abbrev there : Replay
  there = drawn u.weight d E steps

  is_run : IsRun there
  is_run = swept_run u.weight (length d.curves) E steps u.swept

  is_lawful : IsLawful there
  is_lawful = swept_lawful u.weight (length d.curves) E steps u.swept

  pub run_rooted : (face : Half → ℕ) (strip index : ℕ → ℕ)
      → IsComplete d (drawn v d E steps) face strip index → (h : Half) → edge_of h < length d.curves
      → (g : Half) × (edge_of g < length d.curves) × Crossing (drawn v d E steps) h g
      × IsRoot d (drawn v d E steps) (numbers face) strip index g
  run_rooted face strip index c h l =
      let there_complete = complete_to v u.weight d E steps face strip index c in
      let (g, k, at_root) = crossing_root d there is_run is_lawful face strip index there_complete h
      l in (
        g,
        fits there_complete g at_root,
        crossing_to u.weight v (length d.curves) E steps h g k,
        root_to u.weight v d E steps (numbers face) face (λ x. root) strip index g at_root,
      )
    where
      fits : IsComplete d there face strip index → (g : Half)
          → IsRoot d there (numbers face) strip index g → edge_of g < length d.curves
      fits k g (inl a) = beside_fits there is_run is_lawful g a.1.0 a.1.1 a.1.2
      fits k g (inr a) =
          beside_fits there is_run is_lawful g (record { strip = strip a.0; index = index a.0 })
          (placed_is there is_run is_lawful (strip a.0) (index a.0) (object d a.0)
          (k.placed a.0 a.1)) a.3

  pub run_label_faces : (lab : Labels) (rank : Half → ℕ) (link : Half → Lead)
      → Certified d (drawn v d E steps) lab rank link → IsFaces (drawn v d E steps) (mark lab)
  run_label_faces lab rank link c =
      faces_to u.weight v (length d.curves) E steps (mark lab)
      (certified.labels_are_faces d there is_run is_lawful lab rank link
      (reweighed v u.weight d E steps lab rank link c))
