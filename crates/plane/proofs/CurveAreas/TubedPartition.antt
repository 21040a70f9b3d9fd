-- A certificate over a run with tubes proves the partition rule of a drawing of straights and half
-- arcs, all five parts.
-- The weight in the replay may be any: the proof takes one of its own.
use Rattle.std.proofs.Common.{◌≡◌, ℕ, suc, ◌+◌, ◌<◌, length, List, ℤ, pos, ◌<ℤ◌, ◌⊎◌, inl, inr}
use Rattle.std.proofs.Common.{refl, arith, ap, sym, ◌∙◌, subst}
use Rattle.plane.specs.declared.kinds.Point.{Point}
use Rattle.plane.specs.Lists.{Has}
use Rattle.plane.specs.Forms.Vectors.{Vector, Place, point, Edge}
use Rattle.plane.specs.Rule.HalfArcs.{power}
use Rattle.plane.specs.Rule.Curves.{arc}
use Rattle.plane.specs.Rule.Plans.{Plan, curve, object}
use Rattle.plane.specs.Rule.Partition as rule
use Rattle.plane.specs.Rule.Partition.{Joined, IsOuter, IsPartition}
use Rattle.plane.specs.Runs.Steps.{Step}
use Rattle.plane.specs.Faces.Replays.{Replay, replay}
use Rattle.plane.specs.Faces.Cells.{Sector, sector, label_of}
use Rattle.plane.specs.Faces.Labels.{Labels}
use Rattle.plane.specs.Faces.Halves.{Half, twin, mark, Beside}
use Rattle.plane.specs.Faces.Classes.{Lead}
use Rattle.plane.specs.Tubes.Bays.{Bay}
use Rattle.plane.specs.Tubes.Bays as one
use Rattle.plane.specs.CurveRuns.Extended.{Tubes, AreTubes}
use Rattle.plane.proofs.TubePaths.PieceWords.{Side, inner_side, outer_side, IsOnSide, AreSides}
use Rattle.plane.proofs.TubePaths.PieceWords.{CurvePath, IsCurveOuter}
use Rattle.plane.proofs.TubePaths.PieceWords as paths
use Rattle.plane.specs.CurveRuns.TubedRuns.{owned, IsOfTube, IsTubedRun, AreTubeLabels, arc_at}
use Rattle.plane.specs.CurveRuns.TubedRuns.{tubes, MeetsArc}
use Rattle.plane.specs.CurveRuns.CertifiedCurves.{IsInCell, IsInTube, ArePlaced, BoundsCell}
use Rattle.plane.specs.CurveRuns.CertifiedCurves.{BoundsSide, IsCurveRoot, CertifiedCurves}
use Rattle.plane.proofs.Linear.EdgePlaces.{place_point}
use Rattle.plane.proofs.FaceLemmas.PlacedPoints.{placed_point}
use Rattle.plane.proofs.FaceLemmas.FaceNumbers.{label_before}
use Rattle.plane.proofs.Turning.AnyWeight.{touches_to, placed_to, link_to}
use Rattle.plane.proofs.Runs.RunWeights.{RunWeight, run_weight, event_known, points_of, points_has}
use Rattle.plane.proofs.Windings.Whole.{IsWhole, swept_whole}
use Rattle.plane.proofs.TubedRuns.OwnedEdges.{owner_is}
use Rattle.plane.proofs.TubedRuns.RunTubes.{are_tubes, edge_in_tube, tube_places}
use Rattle.plane.proofs.TubedRuns.TubedCurves.{tube_of}
use Rattle.plane.proofs.TubedRuns.TubedLabels.{off_label}
use Rattle.plane.proofs.TubedRuns.TubedWeights.{labels_to, curves_apart}
use Rattle.plane.proofs.CurveAreas.TubedPoints as points
use Rattle.plane.proofs.TubePaths.TubedPaths.{curves_joined, curves_outer}
use Rattle.plane.proofs.TubePaths.TubedSides.{part_of, are_sides, part_wall}
use Rattle.plane.proofs.TubePaths.WaysOut.{IsBeside, tube_label_of, way_out}
use Rattle.plane.proofs.TubePaths.CurveFaces.{Root, place_filled}

-- ---- the same with another weight
module _ (v w : ℤ) (d : Plan) (bays : ℕ → List Bay) (m : ℕ) (E : ℕ → Edge) (steps : List Step)
    (lab : Labels) (within : ℕ → Half) (inside outside : ℕ → ℕ) where
  abbrev from : Replay
  from = replay v m E steps

  abbrev to : Replay
  to = replay w m E steps

  abbrev in_cell_to : (p : Point) (n : ℕ) → IsInCell from lab p n → IsInCell to lab p n
  in_cell_to p n c = record {
    strip = c.strip;
    index = c.index;
    placed = placed_to v w m E steps p c.strip c.index c.placed;
    lower_label = c.lower_label;
    upper_label = c.upper_label;
  }

  pub places_to : ArePlaced d bays from lab inside outside → ArePlaced d bays to lab inside outside
  places_to a j l = elim (a j l) [ inl c ↦ inl (in_cell_to (object d j) (suc j) c) | inr c ↦ inr c ]

  cell_to : (h : Half) (j : ℕ) → BoundsCell d from lab h j → BoundsCell d to lab h j
  cell_to h j b = record { place = in_cell_to (object d j) (suc j) b.place; beside = b.beside }

  side_to : (h : Half) (j : ℕ) → BoundsSide d bays from within inside outside h j
      → BoundsSide d bays to within inside outside h j
  side_to h j b = record {
    place = b.place;
    edge = b.edge;
    fits = b.fits;
    of_curve = b.of_curve;
    side = b.side;
    is = b.is;
  }

  pub root_to : (h : Half) → IsCurveRoot d bays from lab within inside outside h
      → IsCurveRoot d bays to lab within inside outside h
  root_to h (inl a) = inl a
  root_to h (inr (inl a)) = inr (inl (a.0, touches_to v w m E steps h a.1))
  root_to h (inr (inr a)) =
      inr (inr (
        a.0,
        a.1,
        a.2,
        elim a.3 [
          | inl b ↦ inl (cell_to h a.0 b)
          | inr b ↦ inr (side_to h a.0 b)
        ],
      ))

module _ (v : ℤ) (d : Plan) (bays : ℕ → List Bay) (m : ℕ) (E : ℕ → Edge) (steps : List Step)
    (lab : Labels) (within : ℕ → Half) (inside outside : ℕ → ℕ) (rank : Half → ℕ) (link : Half
    → Lead)
    (is : IsTubedRun d bays m E steps)
    (cert : CertifiedCurves d bays (replay v m E steps) lab within inside outside rank
    link) where
  u : RunWeight m E steps (points_of (object d) (length d.points))
  u = run_weight m E steps (points_of (object d) (length d.points)) is.run

  abbrev w : ℤ
  w = u.weight

  abbrev r : Replay
  r = replay w m E steps

  whole : IsWhole r
  whole = swept_whole w m E steps u.swept

  L : AreTubeLabels d bays r lab within inside outside
  L = labels_to v w d bays m E steps lab within inside outside cert.labels

  placed : ArePlaced d bays r lab inside outside
  placed = places_to v w d bays m E steps lab within inside outside cert.placed

  known : (j : ℕ) → j < length d.points → Has (object d j) u.points
  known j l = u.known (object d j) (points_has (object d) (length d.points) j l)

  abbrev T : Tubes
  T = tubes d bays within inside outside

  all : AreTubes r lab T (MeetsArc d)
  all = are_tubes w d bays m E steps lab within inside outside u.swept is L

  sides : AreSides r lab T (MeetsArc d)
  sides = are_sides w d bays m E steps lab within inside outside u.swept is L

  abbrev spot : ℕ → Vector
  spot j = point (object d j)

  S : (j : ℕ) → Place (spot j)
  S j = place_point (object d j)

  -- ---- from each point to a place beside the half-edges that bound it
  abbrev Reached : ℕ → Half → Type 0
  Reached j g = (o : Vector) × IsBeside r whole lab L.matched T (MeetsArc d) all sides g (spot j) o

  too_great : (n i j : ℕ) → suc (n + i) ≡ suc j → j < n → ⊥
  too_great n i j e l = omega (arith, e, l)

  reach_cell : (j : ℕ) → j < length d.points → (g : Half) (p : IsInCell r lab (object d j) (suc j))
      → Beside r g (record { strip = p.strip; index = p.index }) → Reached j g
  reach_cell j l g p b =
      let q = placed_point r whole.run whole.law u.points (object d j) p.strip p.index u.heavy
      (known j l) (event_known m E steps (points_of (object d) (length d.points)) u) p.placed in
      let label : label_of lab r (sector r (spot j)) ≡ suc j = ap (label_of lab r) q.1
      ∙ label_before lab 0 p.index (r.list p.strip) p.placed.lower p.placed.is_lower
      ∙ p.lower_label in (
        spot j,
        record {
          place = S j;
          off = q.0;
          outside = λ c lc i. too_great (length d.points) (arc_at d c) j
              (sym (tube_label_of r whole lab L.matched T (MeetsArc d) all sides c lc (spot j)
              (S j) q.0 i) ∙ label) l;
          beside = subst (λ (c : Sector). Beside r g c) (sym q.1) b;
          path = paths.ends (spot j) (spot j) refl;
        },
      )

  reach_side : (j : ℕ) (g : Half) (p : IsInTube d bays inside outside (object d j) (suc j))
      (s : Side)
      → ((c : ℕ) → arc_at d c ≡ p.number → IsOnSide T c s (spot j))
      → (e : ℕ) → e < m → (owned d bays e).curve ≡ p.number → (owned d bays e).part ≡ part_of s
      → g ≡ twin (within e) → Reached j g
  reach_side j g p s on e le own part name =
      let c = tube_of w d bays m E steps lab within inside outside u.swept is L p.number p.fits
      p.bent in
      let there = (tube_places w d bays m E steps lab within inside outside u.swept is L c.0 c.1
      (spot j)).1 (subst (λ (n : ℕ). one.InTube (curve d n).from (bays n) (spot j))
      (sym c.2) p.holds) in
      let wall = part_wall w d bays m E steps lab within inside outside u.swept is L c.0 c.1 s e le
      (own ∙ sym c.2) part in
      let o = way_out r whole lab L.matched T (MeetsArc d) all sides c.0 c.1 s (within e) wall
      (spot j) (S j) there (on c.0 c.2) in (
        o.0,
        subst (λ (h : Half). IsBeside r whole lab L.matched T (MeetsArc d) all sides h
            (spot j) o.0) (sym name) o.1,
      )

  abbrev Bounds : ℕ → Half → Type 0
  Bounds j g = BoundsCell d r lab g j ⊎ BoundsSide d bays r within inside outside g j

  reach : (j : ℕ) → j < length d.points → (g : Half) → Bounds j g → Reached j g
  reach j l g (inl b) = reach_cell j l g b.place b.beside
  reach j l g (inr b) = elim b.side [
    | inl k ↦ reach_side j g b.place inner_side
        (λ c n. subst (λ (i : ℕ). power (arc (curve d i)) (spot j) <ℤ pos 0) (sym n) k.1) b.edge
        b.fits b.of_curve k.0 b.is
    | inr k ↦ reach_side j g b.place outer_side
        (λ c n. subst (λ (i : ℕ). pos 0 <ℤ power (arc (curve d i)) (spot j)) (sym n) k.1) b.edge
        b.fits b.of_curve k.0 b.is
  ]

  abbrev TubeRoot : Half → Type 0
  TubeRoot = Root r whole lab L.matched T (MeetsArc d) all sides (length d.points) spot S Bounds

  tube_root : (h : Half) → IsCurveRoot d bays r lab within inside outside h → TubeRoot h
  tube_root h (inr a) = inr a
  tube_root h (inl a) = elim (owner_is d bays m E steps is a.0 a.1) [
    | inl s ↦ absurd (subst IsOfTube s.part a.2)
    | inr b ↦
        let c = tube_of w d bays m E steps lab within inside outside u.swept is L b.index b.fits
        b.bent in
        let k = edge_in_tube w d bays m E steps lab within inside outside u.swept is L c.0 c.1 a.0
        a.1 (b.number ∙ sym c.2) in
        inl (c.0, c.1, subst (λ (g : Half). Has g (T.halves c.0)) (sym a.3) k.0)
  ]

  -- ---- each place
  filled : (z : Vector) → Place z → rule.IsOff d z
      → IsOuter d z ⊎ ((j : ℕ) × (j < length d.points) × Joined d z (spot j))
  filled z Z none =
      let h = off_label w d bays m E steps lab within inside outside u.swept is L z Z none in
      elim (place_filled r whole lab L.matched T (MeetsArc d) all sides
      (length d.points) spot S Bounds u.positive reach rank link
      (λ g l. link_to v w m E steps (mark lab) rank
      (IsCurveRoot d bays (replay v m E steps) lab within inside outside) TubeRoot
      (λ k root. tube_root k (root_to v w d bays m E steps lab within inside outside k root)) g
      (link g) (cert.links g l)) z h.0 Z h.1) [
        | inl o ↦ inl
            (curves_outer w d bays m E steps lab within inside outside u.swept is L z Z none o)
        | inr o ↦ inr (
          o.0,
          o.1,
          curves_joined w d bays m E steps lab within inside outside u.swept is L z
              (spot o.0) Z none o.2,
        )
      ]

  -- all five parts
  pub tubed_partition : IsPartition d
  tubed_partition = record {
    apart = curves_apart v d bays m E steps lab within inside outside is cert.labels;
    off = points.off w u.points d bays m E steps lab within inside outside u.heavy u.events known
        u.swept is L placed;
    bounded = points.bounded w u.points d bays m E steps lab within inside outside u.heavy u.events
        known u.swept is L placed;
    alone = points.alone w u.points d bays m E steps lab within inside outside u.heavy u.events
        known u.swept is L placed;
    filled = filled;
  }
