-- The ends of a segment that crosses a curve from its left to its right are joined exactly where
-- its two sides have one number.
use Rattle.std.proofs.Common.{◌≡◌, ◌↔◌, ℕ, ◌<◌, List, length, ℤ, inl, inr}
use Rattle.plane.specs.Forms.Vectors.{Vector, Edge}
use Rattle.plane.specs.Runs.Steps.{Step}
use Rattle.plane.specs.Faces.Halves.{Half, under, over}
use Rattle.plane.specs.Faces.Classes.{IsFaces}
use Rattle.plane.specs.Rule.Plans.{Plan, curve}
use Rattle.plane.specs.Rule.Partition.{Joined}
use Rattle.plane.specs.Forms.Segments.{IsEdgeOf}
use Rattle.plane.specs.Faces.DrawnRuns.{IsRunOf, drawn}
use Rattle.plane.specs.Rule.CurveCrossings.{Crosses}
use Rattle.plane.proofs.FaceLemmas.CurveCrossings.{crosses_same, crosses_back}
use Rattle.plane.proofs.FaceLemmas.PointFaces.{ends_joined, ends_joined_back}

pub crossed_joined : (w : ℤ) (d : Plan) (E : ℕ → Edge) (steps : List Step) (face : Half → ℕ) (i : ℕ)
    (p q : Vector)
    → IsRunOf d E steps → IsFaces (drawn w d E steps) face → i < length d.curves
    → Crosses d i p q → Joined d p q ↔ (face (over i) ≡ face (under i))
crossed_joined w d E steps face i p q on faces l x = by_end (on.edges.edge i l)
  where
    by_end : IsEdgeOf (E i) (curve d i) → Joined d p q ↔ (face (over i) ≡ face (under i))
    by_end (inl h) =
        ends_joined w d E steps on face faces i l p q ((crosses_same d E i p q h.0 h.1).0 x)
    by_end (inr h) =
        ends_joined_back w d E steps on face faces i l p q
        ((crosses_back d E i p q on.edges l h.0 h.1).0 x)
