-- With face numbers, places off the edges are joined exactly where the numbers of their cells are
-- equal.
-- They are outer exactly where the number is 0.
use Rattle.std.proofs.Common.{◌≡◌, ◌↔◌, ℕ, zero, suc, List, [], ◌∷◌, ap, sym, ◌∙◌, inl, inr, pos}
use Rattle.std.proofs.Common.{◌<ℤ◌}
use Rattle.plane.specs.Forms.Vectors.{Vector, Place}
use Rattle.plane.specs.Faces.Labels.{Labels, label_at}
use Rattle.plane.specs.Faces.Replays.{Replay, IsOffEdges}
use Rattle.plane.proofs.Runs.RunWords.{IsRun, IsLawful}
use Rattle.plane.specs.Faces.Cells.{Sector, IsSector, corner, sector, IsBorder, Linked}
use Rattle.plane.specs.Faces.Cells.{JoinedByEdges}
use Rattle.plane.proofs.Strips.OuterWords.{IsOuterByEdges}
use Rattle.plane.specs.Faces.Halves.{Half, under, over, At, AtBefore, Beside, IsMatched}
use Rattle.plane.proofs.LabelLemmas.LabelWords.{label_over}
use Rattle.plane.specs.Faces.Classes.{IsFaces, numbers, face_of}
use Rattle.plane.proofs.Strips.OneStrip.{linked_back, linked_join}
use Rattle.plane.proofs.Strips.Columns.{cell_is}
use Rattle.plane.proofs.Strips.Joins.{joined_linked, linked_joined}
use Rattle.plane.proofs.Strips.Borders.{border_linked}
use Rattle.plane.proofs.Strips.Outer.{outer_linked, linked_outer}
use Rattle.plane.proofs.LabelLemmas.PairedSides.{sides_matched}
use Rattle.plane.proofs.LabelLemmas.HalfLabels.{upper_label, border_label, linked_label}
use Rattle.plane.proofs.Turning.CellWalls.{wall, beside_fits, touches_linked, connected_linked}

-- the label above the edge just before a place, and below the edge at it
pub label_before : (lab : Labels) (l i : ℕ) (es : List ℕ) (e : ℕ) → AtBefore es i e
    → label_at lab l i es ≡ lab.above e
label_before lab l zero es e h = absurd h
label_before lab l (suc i) [] e h = absurd h
label_before lab l (suc zero) (d ∷ es) e h = ap lab.above (sym h)
label_before lab l (suc (suc i)) (d ∷ es) e h = label_before lab (lab.above d) (suc i) es e h

pub label_under : (lab : Labels) (g i : ℕ) (es : List ℕ) (e : ℕ) → At es i e
    → label_over lab g i es ≡ lab.below e
label_under lab g i [] e h = absurd h
label_under lab g zero (d ∷ es) e h = ap lab.below (sym h)
label_under lab g (suc i) (d ∷ es) e h = label_under lab g i es e h

module _ (r : Replay) (run : IsRun r) (law : IsLawful r) (face : Half → ℕ)
    (faces : IsFaces r face) where
  -- the numbers match as labels
  pub faces_matched : IsMatched r (numbers face)
  faces_matched = sides_matched r run face faces.across faces.border

  -- the number of a cell is that of each half-edge beside it
  pub beside_face : (h : Half) (c : Sector) → IsSector r c → Beside r h c
      → face_of r face c ≡ face h
  beside_face (under e) c C b = upper_label r run law (numbers face) faces_matched c C
      ∙ label_under (numbers face) 0 c.index (r.list c.strip) e b
  beside_face (over e) c C b = label_before (numbers face) 0 c.index (r.list c.strip) e b

  pub zero_face : (c : Sector) → IsSector r c → face_of r face c ≡ 0 → Linked r c corner
  zero_face c C z = elim (wall r run law c C) [
    | inl b ↦ border_linked r run law c C b
    | inr h ↦ (
        let t = faces.outside h.0 (beside_fits r run law h.0 c C h.1) (sym (beside_face h.0 c C h.1)
        ∙ z) in
        let u = t.2 in
        linked_join r c u.0 corner (connected_linked r run law h.0 t.0 t.1 c u.0 C u.1 h.1 u.2)
        (touches_linked r run law t.0 u.0 t.2 u.1 u.2))
  ]

  pub border_face : (c : Sector) → IsSector r c → IsBorder r c → face_of r face c ≡ 0
  border_face = border_label r run law (numbers face) faces_matched

  pub one_face : (c d : Sector) → IsSector r c → IsSector r d → face_of r face c ≡ face_of r face d
      → Linked r c d
  one_face c d C D e = elim (wall r run law c C) [
    | inl b ↦ outside (border_face c C b)
    | inr g ↦ elim (wall r run law d D) [
      | inl b ↦ outside (e ∙ border_face d D b)
      | inr h ↦ connected_linked r run law g.0 h.0
          (faces.one g.0 h.0 (beside_fits r run law g.0 c C g.1) (beside_fits r run law h.0 d D h.1)
          (sym (beside_face g.0 c C g.1) ∙ e ∙ beside_face h.0 d D h.1)) c d C D g.1 h.1
    ]
  ]
    where
      outside : face_of r face c ≡ 0 → Linked r c d
      outside z = linked_join r c corner d (zero_face c C z)
          (linked_back r d corner (zero_face d D (sym e ∙ z)))

  -- cells are linked exactly where they have one number
  pub linked_is_face : (c d : Sector) → IsSector r c → IsSector r d
      → Linked r c d ↔ (face_of r face c ≡ face_of r face d)
  linked_is_face c d C D =
      (linked_label r run law (numbers face) faces_matched c d, one_face c d C D)

  -- joined places, and outer ones
  pub joined_is_face : (p q : Vector) → Place p → Place q → IsOffEdges r p → IsOffEdges r q
      → JoinedByEdges r p q ↔ (face_of r face (sector r p) ≡ face_of r face (sector r q))
  joined_is_face p q P Q off_p off_q =
      let f = linked_is_face (sector r p) (sector r q) (cell_is r run law p P)
      (cell_is r run law q Q) in (
        (λ j. f.0 (joined_linked r run law p q j P Q off_p)),
        (λ e. linked_joined r run law p q P Q off_p off_q (f.1 e)),
      )

  pub outer_is_face : pos 0 <ℤ r.weight → (p : Vector) → Place p → IsOffEdges r p
      → IsOuterByEdges r p ↔ (face_of r face (sector r p) ≡ 0)
  outer_is_face heavy p P off = (
    (λ o. linked_label r run law (numbers face) faces_matched (sector r p) corner
        (outer_linked r run law p P off o)),
    (λ e. linked_outer r run law heavy p P off (zero_face (sector r p) (cell_is r run law p P) e)),
  )
