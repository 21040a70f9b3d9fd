-- Any face numbers of a settled run as labels that meet a certificate's rules, as if the drawing
-- had as many points as they need: the numbers stay, but for
-- the half-edges that face a tube from within.
use Rattle.std.proofs.Common.{◌≡◌, ◌⊎◌, ℕ, zero, suc, ◌+◌, ◌<◌, ◌≤◌, List, [], ◌∷◌, length, ℤ, pos}
use Rattle.std.proofs.Common.{inl, inr, refl, arith, ap, sym, ◌∙◌, subst}
use Rattle.plane.specs.declared.kinds.Point.{Point}
use Rattle.plane.specs.declared.kinds.Placed.{Placed}
use Rattle.plane.specs.Forms.Vectors.{Vector, Place, Edge}
use Rattle.plane.specs.Rule.Plans.{Plan}
use Rattle.plane.specs.Runs.Steps.{Step, WeighedRun}
use Rattle.plane.specs.Faces.Replays.{Replay, replay, IsOffEdges}
use Rattle.plane.specs.Faces.Cells.{Sector, IsSector, sector}
use Rattle.plane.specs.Faces.Labels.{label_at}
use Rattle.plane.specs.Faces.Halves.{Half, under, over, edge_of, twin, mark, AtBefore}
use Rattle.plane.specs.Faces.Classes.{IsFaces, numbers, face_of}
use Rattle.plane.specs.Tubes.Bays.{Bay}
use Rattle.plane.specs.CurveRuns.Extended.{Tubes, InTubeAt, AreTubes, HasLabel}
use Rattle.plane.proofs.TubePaths.PieceWords.{AreSides}
use Rattle.plane.specs.CurveRuns.TubedRuns.{owned, IsOfTube, IsTubedRun, AreTubeLabels, tube_label}
use Rattle.plane.specs.CurveRuns.TubedRuns.{half_within, first_edge, arc_at, tubes, MeetsArc}
use Rattle.plane.specs.CurveRuns.RegionPoints.{HasRegion}
use Rattle.plane.specs.CurveRuns.Levels.{AreWide, IsSettledRun, AreFacesOfTubes}
use Rattle.plane.specs.CurveRuns.Levels.{AreCertificateNumbers, beside_inner, beside_outer}
use Rattle.plane.specs.CurveRuns.FacedTubes.{faced}
use Rattle.plane.specs.CurveRuns.FacePlaces.{HasFace, PointHasFace}
use Rattle.plane.proofs.Strips.OneStrip.{by_last}
use Rattle.plane.proofs.Turning.ListPlaces.{at_some}
use Rattle.plane.proofs.Strips.Columns.{cell_is}
use Rattle.plane.proofs.Turning.CellWalls.{beside_fits}
use Rattle.plane.proofs.FaceLemmas.FaceNumbers.{label_before}
use Rattle.plane.proofs.Windings.Whole.{IsWhole, swept_whole}
use Rattle.plane.proofs.Runs.RunWeights.{run_weight}
use Rattle.plane.proofs.Turning.AnyWeight.{located_to, faces_to}
use Rattle.plane.proofs.TubedRuns.FacedTubes.{IsFaced, faced_within, faced_twin, faced_is}
use Rattle.plane.proofs.Settling.RunFaces.{run_faces, run_labels}
use Rattle.plane.proofs.Settling.OtherPoints.{settled_from}
use Rattle.plane.proofs.TubedRuns.OwnedEdges.{owner_is}
use Rattle.plane.proofs.TubedRuns.RunTubes.{are_tubes}
use Rattle.plane.proofs.TubedRuns.TubedCurves.{tube_of}
use Rattle.plane.proofs.TubePaths.TubedSides.{are_sides}
use Rattle.plane.proofs.CurveAreas.TubedFaces.{run_without}
use Rattle.plane.proofs.CurveAreas.SettledPlaces.{number_is}
use Rattle.plane.proofs.TubePaths.WaysOut.{label_tube}

-- ---- a number that no face number exceeds
most : (Half → ℕ) → ℕ → ℕ
most face zero = 0
most face (suc m) = most face m + (face (under m) + face (over m))

most_least : (face : Half → ℕ) (m : ℕ) (h : Half) → edge_of h < m → face h ≤ most face m
unfolding most
most_least face zero h l = absurd (omega arith)
most_least face (suc m) h l = by_last (edge_of h) m l
    (λ (k : edge_of h < m). let a = most_least face m h k in omega (arith, a))
    (λ (e : edge_of h ≡ m). last h e)
  where
    last : (h : Half) → edge_of h ≡ m → face h ≤ (most face m + (face (under m) + face (over m)))
    last (under x) e =
        subst (λ (n : ℕ). face (under n) ≤ (most face m + (face (under m) + face (over m)))) (sym e)
        (omega arith)
    last (over x) e =
        subst (λ (n : ℕ). face (over n) ≤ (most face m + (face (under m) + face (over m)))) (sym e)
        (omega arith)

-- so many points
points_of : ℕ → List Placed
points_of zero = []
points_of (suc n) = record { at = record { x = pos 0; y = pos 0 }; line = 0 } ∷ points_of n

points_length : (n : ℕ) → length (points_of n) ≡ n
unfolding points_of
points_length zero = refl
points_length (suc n) = ap suc (points_length n)

-- over the first i edges of a list is the border or an edge
first_or_edge : (es : List ℕ) (i : ℕ) → i ≤ length es → (i ≡ 0) ⊎ ((e : ℕ) × AtBefore es i e)
first_or_edge es zero l = inl refl
first_or_edge es (suc i) l = inr (at_some es i (omega (arith, l)))

-- the label of a tube for a half-edge that faces it, else the number
abbrev pub renamed : Plan → ℕ → ℕ → ℕ
renamed d zero n = n
renamed d (suc i) n = tube_label d i

module _ (d : Plan) (bays : ℕ → List Bay) (m : ℕ) (E : ℕ → Edge) (steps : List Step)
    (is : IsTubedRun d bays m E steps) (wide : AreWide d bays) (settled : IsSettledRun d bays m E)
    (v : ℤ) (face : Half → ℕ) (given : IsFaces (replay v m E steps) face) where
  pub extra : List Placed
  extra = points_of (most face m)

  abbrev pub full : Plan
  full = record d { points = extra }

  pub num : Half → ℕ
  num h = renamed full (faced d bays E h) (face h)

  at_most : (h : Half) → edge_of h < m → face h ≤ length full.points
  unfolding extra
  at_most h l =
      subst (λ (n : ℕ). face h ≤ n) (sym (points_length (most face m))) (most_least face m h l)

  pub num_plain : (h : Half) → faced d bays E h ≡ 0 → num h ≡ face h
  unfolding num
  num_plain h e = ap (λ (n : ℕ). renamed full n (face h)) e

  num_tube : (h : Half) (c : ℕ) → faced d bays E h ≡ suc c → num h ≡ tube_label full c
  unfolding num
  num_tube h c e = ap (λ (n : ℕ). renamed full n (face h)) e

  by_faced : (h : Half) → (faced d bays E h ≡ 0) ⊎ ((c : ℕ) × (faced d bays E h ≡ suc c))
  by_faced h = by_number (faced d bays E h) refl
    where
      by_number : (n : ℕ) → faced d bays E h ≡ n
          → (faced d bays E h ≡ 0) ⊎ ((c : ℕ) × (faced d bays E h ≡ suc c))
      by_number zero e = inl e
      by_number (suc c) e = inr (c, e)

  beside : AreFacesOfTubes d bays m E face
  beside =
      let u = run_weight m E steps [] is.run in
      run_faces d bays m E steps is wide settled u.weight u.swept face
      (faces_to v u.weight m E steps face given)

  is_faced : (h : Half) (c : ℕ) → faced d bays E h ≡ suc c → IsFaced d bays E h c
  is_faced h c e = faced_is d bays E h c e

  -- what has the number of a half-edge that faces a tube faces it
  faces_too : (g h : Half) (c : ℕ) → edge_of g < m → edge_of h < m → faced d bays E g ≡ suc c
      → face g ≡ face h → faced d bays E h ≡ suc c
  faces_too g h c lg lh e q =
      let a = is_faced g c e in
      let o = beside.own (edge_of g) h lg lh a.part (sym (ap face a.is) ∙ q) in
      ap (faced d bays E) o.2 ∙ faced_within d bays E (edge_of h) o.0 ∙ ap suc (o.1 ∙ a.curve)

  -- ---- equal numbers stay equal, and others stay others
  pub forth : (g h : Half) → edge_of g < m → edge_of h < m → face g ≡ face h → num g ≡ num h
  forth g h lg lh q = elim (by_faced g) [
    | inr a ↦ num_tube g a.0 a.1 ∙ sym (num_tube h a.0 (faces_too g h a.0 lg lh a.1 q))
    | inl a ↦ elim (by_faced h) [
      | inr b ↦ num_tube g b.0 (faces_too h g b.0 lh lg b.1 (sym q)) ∙ sym (num_tube h b.0 b.1)
      | inl b ↦ num_plain g a ∙ q ∙ sym (num_plain h b)
    ]
  ]

  too_great : (n c k : ℕ) → k ≡ suc (n + c) → k ≤ n → ⊥
  too_great n c k e l = omega (arith, e, l)

  one_curve : (n a b : ℕ) → suc (n + a) ≡ suc (n + b) → a ≡ b
  one_curve n a b e = omega (arith, e)

  pub back : (g h : Half) → edge_of g < m → edge_of h < m → num g ≡ num h → face g ≡ face h
  back g h lg lh q = elim (by_faced g) [
    | inl a ↦ elim (by_faced h) [
      | inl b ↦ sym (num_plain g a) ∙ q ∙ num_plain h b
      | inr b ↦ absurd
          (too_great (length full.points) b.0 (face g) (sym (num_plain g a) ∙ q
          ∙ num_tube h b.0 b.1) (at_most g lg))
    ]
    | inr a ↦ elim (by_faced h) [
      | inl b ↦ absurd
          (too_great (length full.points) a.0 (face h) (sym (num_plain h b) ∙ sym q
          ∙ num_tube g a.0 a.1) (at_most h lh))
      | inr b ↦
          let x = is_faced g a.0 a.1 in
          let y = is_faced h b.0 b.1 in
          let c = one_curve (length full.points) a.0 b.0 (sym (num_tube g a.0 a.1) ∙ q
          ∙ num_tube h b.0 b.1) in
          ap face x.is
          ∙ beside.one (edge_of g) (edge_of h) lg lh x.part y.part (x.curve ∙ c ∙ sym y.curve)
          ∙ sym (ap face y.is)
    ]
  ]

  pub zero_forth : (h : Half) → edge_of h < m → face h ≡ 0 → num h ≡ 0
  zero_forth h l q = elim (by_faced h) [
    | inl a ↦ num_plain h a ∙ q
    | inr a ↦ let x = is_faced h a.0 a.1 in
        absurd (beside.bounded (edge_of h) l x.part (sym (ap face x.is) ∙ q))
  ]

  pub zero_back : (h : Half) → edge_of h < m → num h ≡ 0 → face h ≡ 0
  zero_back h l q = elim (by_faced h) [
    | inl a ↦ sym (num_plain h a) ∙ q
    | inr a ↦ absurd (no_suc (length full.points + a.0) (sym (num_tube h a.0 a.1) ∙ q))
  ]
    where
      no_suc : (n : ℕ) → suc n ≡ 0 → ⊥
      no_suc n e = omega (arith, e)

  -- ---- the new numbers are face numbers, and those of a certificate
  pub full_run : IsTubedRun full bays m E steps
  full_run = run_without d extra bays m E steps is

  named : AreCertificateNumbers full bays m E num
  named = record {
    tubes = λ e l o. num_tube (half_within d bays E e) (owned d bays e).curve
        (faced_within d bays E e o);
    rest = λ h l. elim (by_faced h) [
      | inl a ↦ inl (subst (λ (n : ℕ). n ≤ length full.points) (sym (num_plain h a)) (at_most h l))
      | inr a ↦ let x = is_faced h a.0 a.1 in inr (edge_of h, l, x.part, ap num x.is)
    ];
  }

  pub same_inner : (i : ℕ) → beside_inner full bays E num i ≡ beside_inner d bays E face i
  same_inner i =
      num_plain (twin (half_within d bays E (first_edge bays 0 d.curves i)))
      (faced_twin d bays E (first_edge bays 0 d.curves i))

  pub same_outer : (i : ℕ) → beside_outer full bays E num i ≡ beside_outer d bays E face i
  same_outer i =
      num_plain (twin (half_within d bays E (first_edge bays 0 d.curves i + length (bays i))))
      (faced_twin d bays E (first_edge bays 0 d.curves i + length (bays i)))

  pub fine : (g h : Half) → edge_of g < m → edge_of h < m
      → mark (numbers num) g ≡ mark (numbers num) h → num g ≡ num h
  fine g h lg lh e = sym (number_is num g) ∙ e ∙ number_is num h

  pub none : (h : Half) → edge_of h < m → mark (numbers num) h ≡ 0 → num h ≡ 0
  none h l e = sym (number_is num h) ∙ e

  -- ---- with a weight of the run
  module _ (w : ℤ) (swept : WeighedRun w m E steps) where
    abbrev r : Replay
    r = replay w m E steps

    whole : IsWhole r
    whole = swept_whole w m E steps swept

    faces : IsFaces r face
    faces = faces_to v w m E steps face given

    pub num_faces : IsFaces r num
    num_faces = record {
      across = λ g h a. forth g h (beside_fits r whole.run whole.law g a.0 a.1 a.2)
          (beside_fits r whole.run whole.law h a.0 a.1 a.3) (faces.across g h a);
      border = λ h t. zero_forth h (beside_fits r whole.run whole.law h t.0 t.1 t.2)
          (faces.border h t);
      one = λ g h lg lh e. faces.one g h lg lh (back g h lg lh e);
      outside = λ h l e. faces.outside h l (zero_back h l e);
    }

    pub labels : AreTubeLabels full bays r (numbers num) (half_within d bays E)
        (beside_inner full bays E num) (beside_outer full bays E num)
    labels = run_labels full bays m E steps full_run wide
        (settled_from d extra bays m E settled) w swept num num_faces named

    abbrev T : Tubes
    T = tubes full bays (half_within d bays E) (beside_inner full bays E num)
        (beside_outer full bays E num)

    all : AreTubes r (numbers num) T (MeetsArc full)
    all = are_tubes w full bays m E steps (numbers num) (half_within d bays E)
        (beside_inner full bays E num) (beside_outer full bays E num) swept full_run labels

    sides : AreSides r (numbers num) T (MeetsArc full)
    sides = are_sides w full bays m E steps (numbers num) (half_within d bays E)
        (beside_inner full bays E num) (beside_outer full bays E num) swept full_run labels

    -- a cell that faces no tube keeps its number
    pub cell_number : (c : Sector) → IsSector r c
        → ((e : ℕ) → AtBefore (r.list c.strip) c.index e → faced d bays E (over e) ≡ 0)
        → face_of r num c ≡ face_of r face c
    cell_number c C clear = elim (first_or_edge (r.list c.strip) c.index C.index) [
      | inl z ↦ ap (λ (i : ℕ). label_at (numbers num) 0 i (r.list c.strip)) z
          ∙ sym (ap (λ (i : ℕ). label_at (numbers face) 0 i (r.list c.strip)) z)
      | inr e ↦ label_before (numbers num) 0 c.index (r.list c.strip) e.0 e.1
          ∙ num_plain (over e.0) (clear e.0 e.1)
          ∙ sym (label_before (numbers face) 0 c.index (r.list c.strip) e.0 e.1)
    ]

    pub cell_small : (c : Sector) → IsSector r c → face_of r face c ≤ length full.points
    cell_small c C = elim (first_or_edge (r.list c.strip) c.index C.index) [
      | inl z ↦ subst (λ (n : ℕ). n ≤ length full.points)
          (sym (ap (λ (i : ℕ). label_at (numbers face) 0 i (r.list c.strip)) z)) (omega arith)
      | inr e ↦ subst (λ (n : ℕ). n ≤ length full.points)
          (sym (label_before (numbers face) 0 c.index (r.list c.strip) e.0 e.1))
          (at_most (over e.0) (beside_fits r whole.run whole.law (over e.0) c C e.1))
    ]

    -- the cell of a place in no tube faces none
    clear_cell : (z : Vector) → Place z → ((c : ℕ) → c < T.count → InTubeAt T c z → ⊥)
        → IsOffEdges r z → (e : ℕ) → AtBefore (r.list (sector r z).strip) (sector r z).index e
        → faced d bays E (over e) ≡ 0
    clear_cell z Z out off e b = elim (by_faced (over e)) [
      | inl a ↦ a
      | inr a ↦
          let l = beside_fits r whole.run whole.law (over e) (sector r z)
          (cell_is r whole.run whole.law z Z) b in
          let x = is_faced (over e) a.0 a.1 in
          elim (owner_is d bays m E steps is e l) [
            | inl o ↦ absurd (subst IsOfTube o.part x.part)
            | inr o ↦
                let c = tube_of w full bays m E steps (numbers num) (half_within d bays E)
                (beside_inner full bays E num)
                (beside_outer full bays E num) swept full_run labels o.index o.fits o.bent in
                let same : a.0 ≡ arc_at d c.0 = sym x.curve ∙ o.number ∙ sym c.2 in
                let name = label_before (numbers num) 0 (sector r z).index
                (r.list (sector r z).strip) e b ∙ num_tube (over e) a.0 a.1
                ∙ ap (tube_label full) same in
                absurd (out c.0 c.1
                (label_tube r whole (numbers num) labels.matched T
                (MeetsArc full) all sides c.0 c.1 z Z off name))
          ]
    ]

    -- ---- places
    pub relabel : (z : Vector) (n : ℕ) → Place z → HasFace d bays r face z n
        → HasLabel r (numbers num) T z n
    relabel z n Z (inl h) =
        inl (
          h.0,
          h.1,
          h.2,
          elim h.3 [
            | inl a ↦ inl (a.0, a.1 ∙ sym (same_inner (arc_at d h.0)))
            | inr a ↦ inr (a.0, a.1 ∙ sym (same_outer (arc_at d h.0)))
          ],
        )
    relabel z n Z (inr h) =
        inr (
          h.0,
          h.1,
          h.2
              ∙ sym (cell_number (sector r z) (cell_is r whole.run whole.law z Z)
              (clear_cell z Z h.0 h.1)),
        )

    pub relabel_back : (z : Vector) (n : ℕ) → Place z → HasLabel r (numbers num) T z n
        → HasFace d bays r face z n
    relabel_back z n Z (inl h) =
        inl (
          h.0,
          h.1,
          h.2,
          elim h.3 [
            | inl a ↦ inl (a.0, a.1 ∙ same_inner (arc_at d h.0))
            | inr a ↦ inr (a.0, a.1 ∙ same_outer (arc_at d h.0))
          ],
        )
    relabel_back z n Z (inr h) =
        inr (
          h.0,
          h.1,
          h.2
              ∙ cell_number (sector r z) (cell_is r whole.run whole.law z Z) (clear_cell z Z h.0 h.1),
        )

    -- ---- points, by positions with any weight in the replay
    pub region : (u : ℤ) (a : Point) (n : ℕ) → PointHasFace d bays (replay u m E steps) face a n
        → HasRegion full bays r (numbers num) (beside_inner full bays E num)
        (beside_outer full bays E num) a n
    region u a n (inl h) =
        let at_w = located_to u w m E steps a h.strip h.index h.located in
        let C : IsSector r (record {
          strip = h.strip;
          index = h.index;
        }) = record { strip = at_w.fits; index = at_w.index } in
        inl (record {
          strip = h.strip;
          index = h.index;
          located = at_w;
          label = cell_number (record { strip = h.strip; index = h.index }) C h.clear ∙ h.number;
          region = subst (λ (k : ℕ). k ≤ length full.points) h.number
              (cell_small (record { strip = h.strip; index = h.index }) C);
        })
    region u a n (inr h) = inr (record {
      number = h.number;
      fits = h.fits;
      bent = h.bent;
      holds = h.holds;
      side = elim h.side [
        | inl k ↦ inl (k.0, same_inner h.number ∙ k.1)
        | inr k ↦ inr (k.0, same_outer h.number ∙ k.1)
      ];
    })
