-- Places off the curves of a drawing are joined exactly where their faces have one number, and
-- outer exactly where it is 0.
-- The words are those of the partition rule; the numbers are those of the half-edges of a run over
-- the drawing's edges.
use Rattle.std.proofs.Common.{◌≡◌, ◌↔◌, ℕ, pos, ◌<ℤ◌}
use Rattle.plane.specs.Forms.Vectors.{Vector, Place}
use Rattle.plane.specs.Rule.Plans.{Plan}
use Rattle.plane.specs.Rule.Partition.{IsOff, Joined, IsOuter}
use Rattle.plane.specs.Faces.Replays.{Replay}
use Rattle.plane.proofs.Runs.RunWords.{IsRun, IsLawful}
use Rattle.plane.specs.Faces.Cells.{sector, corner, Linked}
use Rattle.plane.specs.Faces.Halves.{Half}
use Rattle.plane.specs.Faces.Classes.{IsFaces, face_of}
use Rattle.plane.proofs.FaceLemmas.Drawn.{Draws, off_edges, joined_edges, joined_curves}
use Rattle.plane.proofs.FaceLemmas.Drawn.{outer_edges, outer_curves}
use Rattle.plane.proofs.Strips.Joins.{joined_is_linked}
use Rattle.plane.proofs.Strips.Outer.{outer_is_linked}
use Rattle.plane.proofs.FaceLemmas.FaceNumbers.{joined_is_face, outer_is_face}

module _ (d : Plan) (r : Replay) (run : IsRun r) (law : IsLawful r) (draws : Draws d r) where
  pub drawn_linked : (p q : Vector) → Place p → Place q → IsOff d p → IsOff d q
      → Joined d p q ↔ Linked r (sector r p) (sector r q)
  drawn_linked p q P Q n m =
      let a = off_edges d r run draws p P n in
      let f = joined_is_linked r run law p q P Q a (off_edges d r run draws q Q m) in (
        (λ j. f.0 (joined_edges d r run draws p q P j)),
        (λ l. joined_curves d r run draws p q P a (f.1 l)),
      )

  pub drawn_outer : pos 0 <ℤ r.weight → (p : Vector) → Place p → IsOff d p
      → IsOuter d p ↔ Linked r (sector r p) corner
  drawn_outer heavy p P n =
      let a = off_edges d r run draws p P n in
      let f = outer_is_linked r run law heavy p P a in (
        (λ o. f.0 (outer_edges d r run draws p P o)),
        (λ l. outer_curves d r run draws p P a (f.1 l)),
      )

  module _ (face : Half → ℕ) (faces : IsFaces r face) where
    pub drawn_face : (p q : Vector) → Place p → Place q → IsOff d p → IsOff d q
        → Joined d p q ↔ (face_of r face (sector r p) ≡ face_of r face (sector r q))
    drawn_face p q P Q n m =
        let a = off_edges d r run draws p P n in
        let f = joined_is_face r run law face faces p q P Q a (off_edges d r run draws q Q m) in (
          (λ j. f.0 (joined_edges d r run draws p q P j)),
          (λ e. joined_curves d r run draws p q P a (f.1 e)),
        )

    pub outer_face : pos 0 <ℤ r.weight → (p : Vector) → Place p → IsOff d p
        → IsOuter d p ↔ (face_of r face (sector r p) ≡ 0)
    outer_face heavy p P n =
        let a = off_edges d r run draws p P n in
        let f = outer_is_face r run law face faces heavy p P a in (
          (λ o. f.0 (outer_edges d r run draws p P o)),
          (λ e. outer_curves d r run draws p P a (f.1 e)),
        )
