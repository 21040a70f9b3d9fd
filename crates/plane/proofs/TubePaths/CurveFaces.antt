-- Over a run with tubes and links that fall to roots, each place off the curves is outer or joined
-- to a point.
use Rattle.std.proofs.Common.{◌≡◌, ℕ, suc, ◌<◌, pos, ◌<ℤ◌, refl, arith, sym, ◌∙◌, ◌⊎◌, inl, inr}
use Rattle.std.proofs.Common.{subst}
use Rattle.plane.specs.Lists.{Has}
use Rattle.plane.specs.Forms.Vectors.{Vector, Place}
use Rattle.plane.specs.Faces.Replays.{Replay, IsOffEdges}
use Rattle.plane.specs.Faces.Cells.{Sector, IsSector, corner, sector, Linked, label_of}
use Rattle.plane.specs.Faces.Halves.{Half, mark, twin, Beside, IsMatched}
use Rattle.plane.specs.Faces.Labels.{Labels}
use Rattle.plane.specs.Faces.Classes.{Touches, Lead, AreLeads}
use Rattle.plane.specs.CurveRuns.Extended.{Tubes, InTubeAt, AreTubes, HasLabel}
use Rattle.plane.proofs.TubePaths.PieceWords.{Side, inner_side, outer_side, IsOnSide, side_label}
use Rattle.plane.proofs.TubePaths.PieceWords.{AreSides, CurvePath, IsCurveOuter}
use Rattle.plane.proofs.TubePaths.PieceWords as paths
use Rattle.plane.proofs.Strips.OneStrip.{linked_join}
use Rattle.plane.proofs.Strips.Columns.{cell_is}
use Rattle.plane.proofs.Strips.Borders.{border_linked}
use Rattle.plane.proofs.Strips.Outer.{linked_outer}
use Rattle.plane.proofs.LabelLemmas.HalfLabels.{linked_label}
use Rattle.plane.proofs.Turning.CellWalls.{wall, beside_fits}
use Rattle.plane.proofs.Turning.InnerClasses.{rooted}
use Rattle.plane.proofs.Windings.Whole.{IsWhole}
use Rattle.plane.proofs.TubePaths.WaysOut.{Outside, IsBeside, path_join, path_back, beside_label}
use Rattle.plane.proofs.TubePaths.WaysOut.{tube_label_of, label_tube, way_out, joined_path}
use Rattle.plane.proofs.TubePaths.WaysOut.{linked_path}

module _ (r : Replay) (whole : IsWhole r) (lab : Labels) (matched : IsMatched r lab) (T : Tubes)
    (Meets : ℕ → Vector → Vector → Type 0) (tubes : AreTubes r lab T Meets)
    (sides : AreSides r lab T Meets) where
  abbrev Out : Vector → Type 0
  Out z = Outside r whole lab matched T Meets tubes sides z

  -- ---- outer places
  corner_outside : (q : Vector) → Place q → IsOffEdges r q → Linked r (sector r q) corner → Out q
  corner_outside q Q off k c l i =
      (tubes.tube c l).faced.some_label
      (sym (tube_label_of r whole lab matched T Meets tubes sides c l q Q off i)
      ∙ linked_label r whole.run whole.law lab matched (sector r q) corner k)

  pub linked_curve_outer : pos 0 <ℤ r.weight → (p : Vector) → Place p → IsOffEdges r p
      → Linked r (sector r p) corner → IsCurveOuter r T Meets p
  linked_curve_outer heavy p P off k b =
      let g = linked_outer r whole.run whole.law heavy p P off k b in (
        g.0,
        g.1,
        joined_path r whole lab matched T Meets tubes sides p g.0 g.2 P g.1 off
            (corner_outside p P off k),
        g.3,
      )

  -- ---- from each labelled place to a place outside the tubes, in a cell with its label
  pub record IsSeat (z : Vector) (l : ℕ) (o : Vector) : Type 0 where
    pub place : Place o
    pub off : IsOffEdges r o
    pub outside : Out o
    pub label : label_of lab r (sector r o) ≡ l
    pub path : CurvePath r T Meets z o

  side_seat : (c : ℕ) → c < T.count → (s : Side) (z : Vector) → Place z → InTubeAt T c z
      → IsOnSide T c s z → (o : Vector) × IsSeat z (side_label T c s) o
  side_seat c l s z Z i k =
      let w = sides.wall c l s in
      let o = way_out r whole lab matched T Meets tubes sides c l s w.0 w.1 z Z i k in (
        o.0,
        record {
          place = o.1.place;
          off = o.1.off;
          outside = o.1.outside;
          label = beside_label r whole lab matched T Meets tubes sides
              (twin w.0) o.0 o.1.place o.1.beside ∙ w.1.label;
          path = o.1.path;
        },
      )

  pub seat : (z : Vector) (l : ℕ) → Place z → HasLabel r lab T z l → (o : Vector) × IsSeat z l o
  seat z l Z (inl h) = elim h.3 [
    | inl k ↦ (let o = side_seat h.0 h.1 inner_side z Z h.2 k.0 in
        (o.0, subst (λ (n : ℕ). IsSeat z n o.0) (sym k.1) o.1))
    | inr k ↦ (let o = side_seat h.0 h.1 outer_side z Z h.2 k.0 in
        (o.0, subst (λ (n : ℕ). IsSeat z n o.0) (sym k.1) o.1))
  ]
  seat z l Z (inr h) = (
    z,
    record {
      place = Z;
      off = h.1;
      outside = h.0;
      label = sym h.2;
      path = paths.ends z z refl;
    },
  )

  -- ---- n points by number; Bounds j g: the half-edge g bounds where point j lies
  module _ (n : ℕ) (spot : ℕ → Vector) (S : (j : ℕ) → Place (spot j)) (Bounds : ℕ → Half
      → Type 0) where
    -- a root faces a tube from within, or has label 0 and was a neighbour of a border, or bounds
    -- where its label's point lies
    abbrev pub Root : Half → Type 0
    Root h = ((c : ℕ) × (c < T.count) × Has h (T.halves c))
        ⊎ (((mark lab h ≡ 0) × Touches r h)
        ⊎ ((j : ℕ) × (j < n) × (mark lab h ≡ suc j) × Bounds j h))

    module _ (positive : pos 0 <ℤ r.weight) (reach : (j : ℕ) → j < n → (g : Half) → Bounds j g
        → (o : Vector) × IsBeside r whole lab matched T Meets tubes sides g (spot j) o)
        (rank : Half → ℕ) (link : Half → Lead) (links : AreLeads r (mark lab) rank link Root) where
      abbrev Ends : Vector → Type 0
      Ends z = IsCurveOuter r T Meets z ⊎ ((j : ℕ) × (j < n) × CurvePath r T Meets z (spot j))

      to_point : (z : Vector) → Place z → IsOffEdges r z → Out z → (g : Half)
          → ((c : Sector) → IsSector r c → Beside r g c → Linked r (sector r z) c) → (j : ℕ) → j < n
          → Bounds j g → CurvePath r T Meets z (spot j)
      to_point z Z off out g linked j l b =
          let o = reach j l g b in
          path_join r whole lab matched T Meets tubes sides z o.0 (spot j)
          (linked_path r whole lab matched T Meets tubes sides z o.0 Z o.1.place off o.1.off out
          (linked (sector r o.0) (cell_is r whole.run whole.law o.0 o.1.place) o.1.beside))
          (path_back r whole lab matched T Meets tubes sides (spot j) o.0 (S j) o.1.path)

      outside_ends : (z : Vector) → Place z → IsOffEdges r z → Out z → Ends z
      outside_ends z Z off out =
          let c = sector r z in
          let C = cell_is r whole.run whole.law z Z in
          elim (wall r whole.run whole.law c C) [
            | inl b ↦ inl
                (linked_curve_outer positive z Z off (border_linked r whole.run whole.law c C b))
            | inr h ↦ (
                let g = rooted r whole.run whole.law (mark lab) rank link Root links
                (suc (rank h.0)) h.0 (beside_fits r whole.run whole.law h.0 c C h.1)
                (omega arith) in
                elim g.1.good [
                  | inl t ↦ absurd
                      (out t.0 t.1
                      (label_tube r whole lab matched T Meets tubes sides t.0 t.1 z Z off
                      (beside_label r whole lab matched T Meets tubes sides h.0 z Z h.1
                      ∙ sym g.1.label ∙ (tubes.tube t.0 t.1).faced.faces g.0 t.2)))
                  | inr m ↦ elim m [
                    | inl o ↦ inl
                        (linked_curve_outer positive z Z off
                        (linked_join r c o.1.0 corner (g.1.linked c o.1.0 C o.1.1 h.1 o.1.2)
                        (border_linked r whole.run whole.law o.1.0 o.1.1 o.1.3)))
                    | inr o ↦ inr (
                      o.0,
                      o.1,
                      to_point z Z off out g.0
                          (λ e E b. g.1.linked c e C E h.1 b) o.0 o.1 o.3,
                    )
                  ]
                ])
          ]

      -- each labelled place is outer or joined to a point
      pub place_filled : (z : Vector) (l : ℕ) → Place z → HasLabel r lab T z l
          → IsCurveOuter r T Meets z ⊎ ((j : ℕ) × (j < n) × CurvePath r T Meets z (spot j))
      place_filled z l Z h =
          let o = seat z l Z h in
          elim (outside_ends o.0 o.1.place o.1.off o.1.outside) [
            | inl out ↦ inl (λ b. let q = out b in (
              q.0,
              q.1,
              path_join r whole lab matched T Meets tubes sides z o.0 q.0 o.1.path q.2,
              q.3,
            ))
            | inr m ↦ inr (
              m.0,
              m.1,
              path_join r whole lab matched T Meets tubes sides z o.0
                  (spot m.0) o.1.path m.2,
            )
          ]
