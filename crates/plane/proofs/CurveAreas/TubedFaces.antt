-- Faces in a drawing with half arcs: with labels that tell the faces apart, places off the curves
-- are joined exactly where their labels
-- are equal, and outer exactly where the label is 0.
use Rattle.std.proofs.Common.{◌≡◌, ◌↔◌, ℕ, ◌<◌, List, ℤ, pos, ◌<ℤ◌, inl, inr, sym, ◌∙◌}
use Rattle.plane.specs.declared.kinds.Placed.{Placed}
use Rattle.plane.specs.Forms.Vectors.{Vector, Place, Edge}
use Rattle.plane.specs.Rule.Plans.{Plan}
use Rattle.plane.specs.Rule.Partition.{IsOff, Joined, IsOuter}
use Rattle.plane.specs.Runs.Steps.{Step, WeighedRun}
use Rattle.plane.specs.Faces.Replays.{Replay, replay}
use Rattle.plane.specs.Faces.Cells.{Sector, IsSector, corner, sector, Linked, label_of}
use Rattle.plane.specs.Faces.Labels.{Labels}
use Rattle.plane.specs.Faces.Halves.{Half, edge_of, mark, Beside}
use Rattle.plane.specs.Faces.Classes.{IsFaces}
use Rattle.plane.specs.Tubes.Bays.{Bay}
use Rattle.plane.specs.CurveRuns.Extended.{Tubes, AreTubes, HasLabel}
use Rattle.plane.proofs.TubePaths.PieceWords.{AreSides}
use Rattle.plane.specs.CurveRuns.TubedRuns.{IsTubedRun, AreTubeLabels, tubes, MeetsArc}
use Rattle.plane.proofs.Strips.OneStrip.{linked_back, linked_join}
use Rattle.plane.proofs.Strips.Columns.{cell_is}
use Rattle.plane.proofs.Strips.Borders.{border_linked}
use Rattle.plane.proofs.Turning.CellWalls.{wall, beside_fits, connected_linked}
use Rattle.plane.proofs.FaceLemmas.FaceNumbers.{beside_face, zero_face}
use Rattle.plane.proofs.LabelLemmas.HalfLabels.{border_label}
use Rattle.plane.proofs.Windings.Whole.{IsWhole, swept_whole}
use Rattle.plane.proofs.TubedRuns.RunTubes.{are_tubes}
use Rattle.plane.proofs.TubedRuns.TubedLabels.{joined_label, outer_label}
use Rattle.plane.proofs.TubePaths.TubedSides.{are_sides}
use Rattle.plane.proofs.TubePaths.TubedPaths.{curves_joined, curves_outer}
use Rattle.plane.proofs.TubePaths.WaysOut.{cell_label, path_join, path_back, linked_path}
use Rattle.plane.proofs.TubePaths.CurveFaces.{seat, linked_curve_outer}

module _ (w : ℤ) (d : Plan) (bays : ℕ → List Bay) (m : ℕ) (E : ℕ → Edge) (steps : List Step)
    (lab : Labels) (within : ℕ → Half) (inside outside : ℕ → ℕ)
    (swept : WeighedRun w m E steps) (is : IsTubedRun d bays m E steps)
    (L : AreTubeLabels d bays (replay w m E steps) lab within inside outside)
    (face : Half → ℕ) (faces : IsFaces (replay w m E steps) face)
    (fine : (g h : Half) → edge_of g < m → edge_of h < m → mark lab g ≡ mark lab h
    → face g ≡ face h) (zero : (h : Half) → edge_of h < m → mark lab h ≡ 0 → face h ≡ 0) where
  abbrev r : Replay
  r = replay w m E steps

  abbrev T : Tubes
  T = tubes d bays within inside outside

  whole : IsWhole r
  whole = swept_whole w m E steps swept

  all : AreTubes r lab T (MeetsArc d)
  all = are_tubes w d bays m E steps lab within inside outside swept is L

  sides : AreSides r lab T (MeetsArc d)
  sides = are_sides w d bays m E steps lab within inside outside swept is L

  side_label : (h : Half) (c : Sector) → IsSector r c → Beside r h c → label_of lab r c ≡ mark lab h
  side_label h c C b = cell_label r whole lab L.matched T (MeetsArc d) all sides h c C b

  -- cells with the label 0 are linked to the first one
  zero_cell : (c : Sector) → IsSector r c → label_of lab r c ≡ 0 → Linked r c corner
  zero_cell c C e = elim (wall r whole.run whole.law c C) [
    | inl b ↦ border_linked r whole.run whole.law c C b
    | inr h ↦ zero_face r whole.run whole.law face faces c C
        (beside_face r whole.run whole.law face faces h.0 c C h.1
        ∙ zero h.0 (beside_fits r whole.run whole.law h.0 c C h.1) (sym (side_label h.0 c C h.1)
        ∙ e))
  ]

  -- cells with one label are linked
  one_cell : (c e : Sector) → IsSector r c → IsSector r e → label_of lab r c ≡ label_of lab r e
      → Linked r c e
  one_cell c e C D q = elim (wall r whole.run whole.law c C) [
    | inl b ↦ at_border (border_label r whole.run whole.law lab L.matched c C b)
    | inr g ↦ elim (wall r whole.run whole.law e D) [
      | inl b ↦ at_border (q ∙ border_label r whole.run whole.law lab L.matched e D b)
      | inr h ↦
          let lg = beside_fits r whole.run whole.law g.0 c C g.1 in
          let lh = beside_fits r whole.run whole.law h.0 e D h.1 in
          connected_linked r whole.run whole.law g.0 h.0
          (faces.one g.0 h.0 lg lh
          (fine g.0 h.0 lg lh (sym (side_label g.0 c C g.1) ∙ q ∙ side_label h.0 e D h.1))) c e
          C D g.1 h.1
    ]
  ]
    where
      at_border : label_of lab r c ≡ 0 → Linked r c e
      at_border z =
          linked_join r c corner e (zero_cell c C z)
          (linked_back r e corner (zero_cell e D (sym q ∙ z)))

  pub joined_is_label : (p q : Vector) (l k : ℕ) → Place p → Place q → IsOff d p
      → HasLabel r lab T p l → HasLabel r lab T q k → Joined d p q ↔ (l ≡ k)
  joined_is_label p q l k P Q off hp hq = (
    (λ j. joined_label w d bays m E steps lab within inside outside swept is L p q l k P Q j hp hq),
    (λ e.
        let a = seat r whole lab L.matched T (MeetsArc d) all sides p l P hp in
        let b = seat r whole lab L.matched T (MeetsArc d) all sides q k Q hq in
        let c = one_cell (sector r a.0) (sector r b.0) (cell_is r whole.run whole.law a.0 a.1.place)
        (cell_is r whole.run whole.law b.0 b.1.place) (a.1.label ∙ e ∙ sym b.1.label) in
        curves_joined w d bays m E steps lab within inside outside swept is L p q P off
        (path_join r whole lab L.matched T (MeetsArc d) all sides p a.0 q a.1.path
        (path_join r whole lab L.matched T (MeetsArc d) all sides a.0 b.0 q
        (linked_path r whole lab L.matched T
        (MeetsArc d) all sides a.0 b.0 a.1.place b.1.place a.1.off b.1.off a.1.outside c)
        (path_back r whole lab L.matched T (MeetsArc d) all sides q b.0 Q b.1.path)))),
  )

  pub outer_is_label : pos 0 <ℤ w → (p : Vector) (l : ℕ) → Place p → IsOff d p
      → HasLabel r lab T p l → IsOuter d p ↔ (l ≡ 0)
  outer_is_label heavy p l P off hp = (
    (λ o. outer_label w d bays m E steps lab within inside outside swept is L p l P o hp),
    (λ e.
        let a = seat r whole lab L.matched T (MeetsArc d) all sides p l P hp in
        let out = linked_curve_outer r whole lab L.matched T
        (MeetsArc d) all sides heavy a.0 a.1.place a.1.off
        (zero_cell (sector r a.0) (cell_is r whole.run whole.law a.0 a.1.place) (a.1.label
        ∙ e)) in
        curves_outer w d bays m E steps lab within inside outside swept is L p P off
        (λ b. let q = out b in (
          q.0,
          q.1,
          path_join r whole lab L.matched T
              (MeetsArc d) all sides p a.0 q.0 a.1.path q.2,
          q.3,
        ))),
  )

-- ---- the points of a drawing do not matter to its faces
module _ (d : Plan) (ps : List Placed) where
  abbrev pub with_points : Plan
  with_points = record d { points = ps }

  pub joined_with : (p q : Vector) → Joined with_points p q → Joined d p q
  joined_with p q j = record {
    first = j.first;
    rest = j.rest;
    begins = j.begins;
    ends = j.ends;
    places = j.places;
    clear = j.clear;
  }

  pub joined_without : (p q : Vector) → Joined d p q → Joined with_points p q
  joined_without p q j = record {
    first = j.first;
    rest = j.rest;
    begins = j.begins;
    ends = j.ends;
    places = j.places;
    clear = j.clear;
  }

  pub outer_with : (p : Vector) → IsOuter with_points p → IsOuter d p
  outer_with p o b = let q = o b in (q.0, q.1, joined_with p q.0 q.2, q.3)

  pub outer_without : (p : Vector) → IsOuter d p → IsOuter with_points p
  outer_without p o b = let q = o b in (q.0, q.1, joined_without p q.0 q.2, q.3)

  pub run_with : (bays : ℕ → List Bay) (m : ℕ) (E : ℕ → Edge) (steps : List Step)
      → IsTubedRun with_points bays m E steps → IsTubedRun d bays m E steps
  run_with bays m E steps is = record {
    tube = is.tube;
    count = is.count;
    edge = is.edge;
    run = is.run;
    corner = is.corner;
  }

  pub run_without : (bays : ℕ → List Bay) (m : ℕ) (E : ℕ → Edge) (steps : List Step)
      → IsTubedRun d bays m E steps → IsTubedRun with_points bays m E steps
  run_without bays m E steps is = record {
    tube = is.tube;
    count = is.count;
    edge = is.edge;
    run = is.run;
    corner = is.corner;
  }
