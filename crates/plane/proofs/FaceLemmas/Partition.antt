-- A certificate over a run of a drawing's straights, with a weight of its events and points, proves
-- the partition rule.
-- Each of the five parts stands under its own name.
use Rattle.std.proofs.Common.{length, ◌≡◌, ℕ, suc, ◌<◌, List, ℤ, pos, ◌<ℤ◌, refl, arith, ap, sym}
use Rattle.std.proofs.Common.{◌∙◌, ◌⊎◌, inl, inr, subst}
use Rattle.plane.specs.declared.kinds.Point.{Point}
use Rattle.plane.specs.Lists.{Each, Has}
use Rattle.plane.specs.Forms.Vectors.{Vector, Place, point, Edge}
use Rattle.plane.specs.Runs.Steps.{Step, Run, WeighedRun}
use Rattle.plane.specs.Forms.Weights.{Weight}
use Rattle.plane.specs.Faces.Replays.{Replay, IsOffEdges, replay}
use Rattle.plane.proofs.Runs.RunWords.{IsRun, IsLawful}
use Rattle.plane.specs.Faces.Cells.{label_of, Sector, corner, sector, Linked}
use Rattle.plane.specs.Faces.Halves.{Half, mark}
use Rattle.plane.specs.Faces.Labels.{Labels}
use Rattle.plane.specs.Faces.Classes.{Lead}
use Rattle.plane.specs.Rule.Plans.{Plan, curve, object}
use Rattle.plane.specs.Rule.Partition as rule
use Rattle.plane.specs.Rule.Partition.{Joined, IsOuter, IsPartition}
use Rattle.plane.specs.Rule.Triangles.{Apart}
use Rattle.plane.specs.Forms.Segments.{AreEdgesOf}
use Rattle.plane.specs.Faces.Certified.{IsRoot, Certified}
use Rattle.plane.proofs.ListLemmas.Lists.{each_has}
use Rattle.plane.proofs.Runs.Moments.{swept}
use Rattle.plane.proofs.Runs.Meeting.{meet_in_ends}
use Rattle.plane.proofs.Runs.Numbered.{swept_run, has_nth}
use Rattle.plane.proofs.Runs.Lawful.{swept_lawful}
use Rattle.plane.proofs.Strips.OneStrip.{linked_join}
use Rattle.plane.proofs.Strips.Columns.{cell_is}
use Rattle.plane.proofs.Strips.Joins.{linked_joined}
use Rattle.plane.proofs.Strips.Borders.{border_linked}
use Rattle.plane.proofs.Strips.Outer.{linked_outer}
use Rattle.plane.proofs.LabelLemmas.HalfLabels.{joined_label, outer_label}
use Rattle.plane.proofs.Turning.CellWalls.{wall, beside_fits}
use Rattle.plane.proofs.Turning.InnerClasses.{rooted}
use Rattle.plane.proofs.FaceLemmas.PlacedPoints.{placed_point, placed_is}
use Rattle.plane.proofs.FaceLemmas.FaceNumbers.{label_before}
use Rattle.plane.proofs.FaceLemmas.Drawn.{Draws, on_edge, off_edges, off_curves, joined_edges}
use Rattle.plane.proofs.FaceLemmas.Drawn.{joined_curves, outer_edges, outer_curves}
use Rattle.plane.proofs.Covers.CurveEdges.{controls_from}
use Rattle.plane.proofs.Covers.StraightCovers.{straights_apart_is}
use Rattle.plane.proofs.Linear.EdgePlaces.{place_point}

module _ (w : ℤ) (pts : List Point) (d : Plan) (E : ℕ → Edge) (steps : List Step) (lab : Labels)
    (rank : Half → ℕ) (link : Half → Lead)
    (positive : pos 0 <ℤ w) (heavy : Weight w pts) (events : Each (λ s. Has s.at pts) steps)
    (known : (j : ℕ) → j < length d.points → Has (object d j) pts)
    (edges : AreEdgesOf E d) (replayed : Run (length d.curves) E steps)
    (cert : Certified d (replay w (length d.curves) E steps) lab rank link) where
  abbrev r : Replay
  r = replay w (length d.curves) E steps

  all : WeighedRun w (length d.curves) E steps
  all = swept w pts (length d.curves) E steps heavy events replayed

  run : IsRun r
  run = swept_run w (length d.curves) E steps all

  law : IsLawful r
  law = swept_lawful w (length d.curves) E steps all

  draws : Draws d r
  draws = record { count = refl; edges = edges }

  event_known : (j : ℕ) → j < r.steps → Has (r.step j).at pts
  event_known j l = each_has (λ s. Has s.at pts) steps (r.step j) events (has_nth steps j l)

  -- 1: two curves are apart
  apart : (i j : ℕ) → i < length d.curves → j < length d.curves → (i ≡ j → ⊥)
      → Apart (curve d i) (curve d j)
  apart i j li lj differ =
      (straights_apart_is (curve d i) (curve d j) (edges.straight i li) (edges.straight j lj)).1
      (λ z Z a b.
      let x = on_edge w (E i) (curve d i) z (edges.edge i li) (edges.straight i li)
      (run.rise i li) Z a in
      let y = on_edge w (E j) (curve d j) z (edges.edge j lj) (edges.straight j lj)
      (run.rise j lj) Z b in
      controls_from (E i) (E j) (curve d i) (curve d j) z (edges.edge i li) (edges.edge j lj)
      (meet_in_ends w (length d.curves) E steps z i j all li lj differ Z x y))

  -- 2: the points
  abbrev spot : ℕ → Vector
  spot j = point (object d j)

  abbrev cell_for : ℕ → Sector
  cell_for j = record { strip = cert.strip j; index = cert.index j }

  placed : (j : ℕ) → j < length d.points → IsOffEdges r (spot j) × (sector r (spot j) ≡ cell_for j)
  placed j l =
      placed_point r run law pts (object d j) (cert.strip j) (cert.index j) heavy
      (known j l) event_known (cert.placed j l)

  point_label : (j : ℕ) → j < length d.points → label_of lab r (sector r (spot j)) ≡ suc j
  point_label j l =
      let p = cert.placed j l in
      ap (label_of lab r) (placed j l).1
      ∙ label_before lab 0 (cert.index j) (r.list (cert.strip j)) p.lower p.is_lower
      ∙ cert.lower_label j l

  off : (j : ℕ) → j < length d.points → rule.IsOff d (spot j)
  off j l = off_curves d r run draws (spot j) (place_point (object d j)) (placed j l).0

  -- 3: no point is outer
  bounded : (j : ℕ) → j < length d.points → IsOuter d (spot j) → ⊥
  bounded j l o =
      let P = place_point (object d j) in
      let e = outer_label r run law lab cert.matched (spot j) P (placed j l).0
      (outer_edges d r run draws (spot j) P o) in
      let f = point_label j l in
      omega (arith, e, f)

  -- 4: no two points are joined
  alone : (i j : ℕ) → i < length d.points → j < length d.points → (i ≡ j → ⊥)
      → Joined d (spot i) (spot j) → ⊥
  alone i j li lj differ path =
      let P = place_point (object d i) in
      let e = joined_label r run law lab cert.matched (spot i) (spot j)
      (joined_edges d r run draws (spot i) (spot j) P path) P (place_point (object d j))
      (placed i li).0 in
      let f = point_label i li in
      let g = point_label j lj in
      differ (omega (arith, e, f, g))

  -- 5: each place is outer or joined to a point
  linked_outside : (z : Vector) → Place z → IsOffEdges r z → Linked r (sector r z) corner
      → IsOuter d z
  linked_outside z Z free l =
      outer_curves d r run draws z Z free (linked_outer r run law positive z Z free l)

  filled : (z : Vector) → Place z → rule.IsOff d z
      → IsOuter d z ⊎ ((j : ℕ) × (j < length d.points) × Joined d z (spot j))
  filled z Z none =
      let free = off_edges d r run draws z Z none in
      let c = sector r z in
      let C = cell_is r run law z Z in
      elim (wall r run law c C) [
        | inl b ↦ inl (linked_outside z Z free (border_linked r run law c C b))
        | inr h ↦ (
            let g = rooted r run law (mark lab) rank link
            (IsRoot d r lab cert.strip cert.index) cert.links (suc (rank h.0)) h.0
            (beside_fits r run law h.0 c C h.1) (omega arith) in
            elim g.1.good [
              | inl o ↦ inl
                  (linked_outside z Z free
                  (linked_join r c o.1.0 corner (g.1.linked c o.1.0 C o.1.1 h.1 o.1.2)
                  (border_linked r run law o.1.0 o.1.1 o.1.3)))
              | inr o ↦ inr (
                o.0,
                o.1,
                (let p = cert.placed o.0 o.1 in
                    let l = g.1.linked c (cell_for o.0) C
                    (placed_is r run law (cert.strip o.0) (cert.index o.0) (object d o.0) p) h.1
                    o.3 in
                    joined_curves d r run draws z (spot o.0) Z free
                    (linked_joined r run law z (spot o.0) Z (place_point (object d o.0)) free
                    (placed o.0 o.1).0
                    (subst (λ (u : Sector). Linked r c u) (sym (placed o.0 o.1).1) l))),
              )
            ])
      ]

  -- all five parts
  pub partition : IsPartition d
  partition = record { apart = apart; off = off; bounded = bounded; alone = alone; filled = filled }
