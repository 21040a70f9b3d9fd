-- Laws on drawings with half arcs with any weight in the replay: what is said of labels and edges
-- does not read it.
use Rattle.std.proofs.Common.{◌≡◌, ℕ, ◌<◌, List, [], length, ℤ}
use Rattle.plane.specs.Forms.Vectors.{Edge}
use Rattle.plane.specs.Rule.Plans.{Plan, curve}
use Rattle.plane.specs.Rule.Triangles.{Apart}
use Rattle.plane.specs.Runs.Steps.{Step}
use Rattle.plane.specs.Faces.Replays.{replay}
use Rattle.plane.specs.Faces.Halves.{Half}
use Rattle.plane.specs.Faces.Labels.{Labels}
use Rattle.plane.specs.Tubes.Bays.{Bay}
use Rattle.plane.specs.CurveRuns.TubedRuns.{IsTubedRun, AreTubeLabels}
use Rattle.plane.proofs.Runs.RunWeights.{run_weight}
use Rattle.plane.proofs.TubedRuns.TubedApart as apart

module _ (v w : ℤ) (d : Plan) (bays : ℕ → List Bay) (m : ℕ) (E : ℕ → Edge) (steps : List Step)
    (lab : Labels) (within : ℕ → Half) (inside outside : ℕ → ℕ) where
  pub labels_to : AreTubeLabels d bays (replay v m E steps) lab within inside outside
      → AreTubeLabels d bays (replay w m E steps) lab within inside outside
  labels_to L = record {
    matched = L.matched;
    faces = L.faces;
    within_label = L.within_label;
    outer_label = L.outer_label;
    straight_label = L.straight_label;
    inner_chain = L.inner_chain;
    outer_chain = L.outer_chain;
  }

pub curves_apart : (v : ℤ) (d : Plan) (bays : ℕ → List Bay) (m : ℕ) (E : ℕ → Edge)
    (steps : List Step) (lab : Labels) (within : ℕ → Half) (inside outside : ℕ → ℕ)
    → IsTubedRun d bays m E steps
    → AreTubeLabels d bays (replay v m E steps) lab within inside outside → (i j : ℕ)
    → i < length d.curves → j < length d.curves → (i ≡ j → ⊥) → Apart (curve d i) (curve d j)
curves_apart v d bays m E steps lab within inside outside is L =
    let u = run_weight m E steps [] is.run in
    apart.curves_apart u.weight d bays m E steps lab within inside outside u.swept is
    (labels_to v u.weight d bays m E steps lab within inside outside L)
