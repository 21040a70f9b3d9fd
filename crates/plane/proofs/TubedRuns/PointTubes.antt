-- Where a place lies in a run with tubes and labels: on its least edge it is on that edge's curve
-- and on none of a lesser number, and
-- in a cell the label of the lower edge tells the tube.
use Rattle.std.proofs.Common.{◌≡◌, ℕ, zero, suc, ◌+◌, ◌<◌, ◌≤◌, List, [], ◌∷◌, length, ℤ, pos, ◌<ℤ◌}
use Rattle.std.proofs.Common.{◌≤ℤ◌, ◌⊎◌, inl, inr, refl, arith, ap, sym, ◌∙◌, subst}
use Rattle.std.proofs.lemmas.Int.{ints, by_lt_z}
use Rattle.plane.specs.declared.kinds.Point.{Point}
use Rattle.plane.specs.declared.kinds.CurveKind.TheVariants as kind
use Rattle.plane.specs.Lists.{Has}
use Rattle.plane.specs.Forms.Vectors.{Vector, Place, Same, point, Edge, rise, On}
use Rattle.plane.specs.Forms.Meets.{IsEnd}
use Rattle.plane.specs.Rule.HalfArcs.{power}
use Rattle.plane.specs.Rule.Curves.{arc, IsOn}
use Rattle.plane.specs.Rule.Plans.{Plan, curve}
use Rattle.plane.specs.Rule.Partition.{IsOff}
use Rattle.plane.specs.Forms.Weights.{Weight}
use Rattle.plane.specs.Runs.Steps.{Step, WeighedRun}
use Rattle.plane.specs.Faces.Replays.{Replay, replay}
use Rattle.plane.specs.Faces.Replays as edges
use Rattle.plane.specs.Faces.Cells.{Sector, sector, label_of}
use Rattle.plane.specs.Faces.Labels.{Labels}
use Rattle.plane.specs.Faces.Halves.{Half, over, edge_of, twin, mark, At, AtBefore}
use Rattle.plane.specs.Faces.PlacedPoints.{IsLocated}
use Rattle.plane.specs.Tubes.Bays.{Bay}
use Rattle.plane.specs.Tubes.Bays as one
use Rattle.plane.specs.Tubes.Windings.{tiles}
use Rattle.plane.specs.CurveRuns.Extended.{Tubes, InTubeAt, AreTubes}
use Rattle.plane.specs.CurveRuns.TubedRuns.{whole, owned, IsOfTube, IsTubedRun, AreTubeLabels}
use Rattle.plane.specs.CurveRuns.TubedRuns.{half_within, tube_label, arc_at, tubes, MeetsArc}
use Rattle.plane.specs.CurveRuns.FacedTubes.{faced, IsFirstOn, LiesInTube}
use Rattle.plane.proofs.Linear.EdgePlaces.{place_point}
use Rattle.plane.proofs.Covers.SamePlace.{same_sym}
use Rattle.plane.proofs.Linear.Clear.{on_same}
use Rattle.plane.proofs.FaceLemmas.Drawn.{on_curve, on_edge}
use Rattle.plane.proofs.Covers.CurvePlaces.{hits_alone}
use Rattle.plane.proofs.Turning.CellWalls.{beside_fits}
use Rattle.plane.proofs.FaceLemmas.FaceNumbers.{label_before}
use Rattle.plane.proofs.FaceLemmas.PlacedPoints.{located_is, located_point}
use Rattle.plane.proofs.Windings.TubeCells.{in_tube}
use Rattle.plane.proofs.Windings.Whole.{IsWhole, swept_whole}
use Rattle.plane.proofs.Windings.Enters.{look_below, decide_same, edge_outside, event_corner}
use Rattle.plane.proofs.Windings.CommonPlaces.{in_some_same}
use Rattle.plane.proofs.TubePaths.Bounding.{wall_in}
use Rattle.plane.proofs.TubedRuns.HalfArcLists.{decide_kind}
use Rattle.plane.proofs.TubedRuns.FacingHalves.{faces}
use Rattle.plane.proofs.TubedRuns.OwnedEdges.{owner_is, straight_edge}
use Rattle.plane.proofs.Settling.SettledEdges.{low_on, high_on}
use Rattle.plane.proofs.TubedRuns.RunTubes.{are_tubes, arc_bent, edge_in_tube, tube_owner}
use Rattle.plane.proofs.TubedRuns.RunTubes.{tube_places}
use Rattle.plane.proofs.TubedRuns.TubedCurves.{tube_of, hits_bent}
use Rattle.plane.proofs.TubedRuns.TubedOff.{from_tube, in_its_tube, label_off}
use Rattle.plane.proofs.TubedRuns.FacedTubes.{IsFaced, faced_is, not_faced, one_faces}
use Rattle.plane.proofs.TubedRuns.EdgeOrder.{edge_before}

-- an edge stands before each place but the first one
some_at : (es : List ℕ) (i : ℕ) → i < length es → (e : ℕ) × At es i e
some_at [] i l = absurd (omega arith)
some_at (e ∷ es) zero l = (e, refl)
some_at (e ∷ es) (suc i) l = some_at es i (omega (arith, l))

some_before : (es : List ℕ) (i : ℕ) → i ≤ length es → (i ≡ 0) ⊎ ((e : ℕ) × AtBefore es i e)
some_before es zero l = inl refl
some_before es (suc i) l = inr (some_at es i (omega (arith, l)))

-- the half arc of an edge of a tube
pub edge_arc : (d : Plan) (bays : ℕ → List Bay) (m : ℕ) (E : ℕ → Edge) (steps : List Step)
    → IsTubedRun d bays m E steps → (e : ℕ) → e < m → IsOfTube (owned d bays e).part
    → ((owned d bays e).curve < length d.curves)
    × ((curve d (owned d bays e).curve).kind ≡ kind.HalfArc)
edge_arc d bays m E steps is e l o = elim (owner_is d bays m E steps is e l) [
  | inl s ↦ absurd (subst IsOfTube s.part o)
  | inr a ↦ (
    subst (λ (i : ℕ). i < length d.curves) (sym a.number) a.fits,
    subst (λ (i : ℕ). (curve d i).kind ≡ kind.HalfArc) (sym a.number) a.bent,
  )
]

module _ (w : ℤ) (d : Plan) (bays : ℕ → List Bay) (m : ℕ) (E : ℕ → Edge) (steps : List Step)
    (lab : Labels) (within : ℕ → Half) (inside outside : ℕ → ℕ)
    (swept : WeighedRun w m E steps) (is : IsTubedRun d bays m E steps)
    (L : AreTubeLabels d bays (replay w m E steps) lab within inside outside) where
  abbrev r : Replay
  r = replay w m E steps

  abbrev T : Tubes
  T = tubes d bays within inside outside

  run_whole : IsWhole r
  run_whole = swept_whole w m E steps swept

  all : AreTubes r lab T (MeetsArc d)
  all = are_tubes w d bays m E steps lab within inside outside swept is L

  end_on : (x : ℕ) → x < m → (v : Point) → IsEnd (E x) v → On w (E x) (point v)
  end_on x l v (inl e) =
      subst (λ (p : Point). On w (E x) (point p)) e (low_on w (E x) (swept.rises x l))
  end_on x l v (inr e) =
      subst (λ (p : Point). On w (E x) (point p)) e (high_on w (E x) (swept.rises x l))

  module _ (z : Vector) (Z : Place z) where
    -- where an edge of another curve meets a tube, an edge of the tube meets it
    touched : (c : ℕ) → c < T.count → (e : ℕ) → e < m → ((owned d bays e).curve ≡ arc_at d c → ⊥)
        → On w (E e) z → InTubeAt T c z
        → (x : ℕ) × (x < m) × ((owned d bays x).curve ≡ arc_at d c) × On w (E x) z
    touched c lc e le n on inner =
        elim (look_below (λ k. Same z (point (r.step k).at)) r.steps
        (λ k. decide_same z (point (r.step k).at))) [
          | inr none ↦ absurd
              (edge_outside r run_whole lab L.matched (T.label c) (T.first c) (T.bay c) (T.bays c)
              (T.halves c) (all.tube c lc) e z le not_its Z (λ k l s. none (k, l, s)) on inner)
          | inl s ↦
              let v = (r.step s.0).at in
              let h = event_corner r run_whole lab L.matched (T.label c) (T.first c) (T.bay c)
              (T.bays c) (T.halves c) (all.tube c lc) s.0 s.1
              (in_some_same (tiles (T.first c) (T.bay c ∷ T.bays c)) z (point v) Z s.2 inner) in
              let k = (all.tube c lc).faced.fits h.0 h.1 in (
                edge_of h.0,
                k,
                tube_owner w d bays m E steps lab within inside outside swept is L c lc h.0 h.1,
                on_same w (E (edge_of h.0)) (point v) z (same_sym z (point v) s.2) (place_point v) Z
                    (end_on (edge_of h.0) k v h.2),
              )
        ]
      where
        not_its : (h : Half) → Has h (T.halves c) → edge_of h ≡ e → ⊥
        not_its h k q =
            n (ap (λ (y : ℕ). (owned d bays y).curve) (sym q)
            ∙ tube_owner w d bays m E steps lab within inside outside swept is L c lc h k)

    -- on its least edge a place is on no curve of a lesser number
    least : (e : ℕ) → e < m → On w (E e) z → ((x : ℕ) → x < e → On w (E x) z → ⊥) → (j : ℕ)
        → j < (owned d bays e).curve → j < length d.curves → IsOn (curve d j) z → ⊥
    least e le on first j lj fits there = elim (decide_kind (curve d j).kind) [
      | inl k ↦
          let x = straight_edge d bays m E steps is j fits k in
          first x.0 (edge_before d bays m E steps is x.0 e x.1 le (below x.0 x.2))
          (on_edge w (E x.0) (curve d j) z x.3 k (swept.rises x.0 x.1) Z there)
      | inr k ↦
          let c = in_its_tube w d bays m E steps lab within inside outside swept is L z Z j fits k
          there in
          let x = touched c.0 c.1 e le (λ q. differ (q ∙ c.2)) on c.3 in
          first x.0 (edge_before d bays m E steps is x.0 e x.1 le (below x.0 (x.2 ∙ c.2))) x.3
    ]
      where
        below : (x : ℕ) → (owned d bays x).curve ≡ j
            → (owned d bays x).curve < (owned d bays e).curve
        below x q = omega (arith, q, lj)

        differ : (owned d bays e).curve ≡ j → ⊥
        differ q = omega (arith, q, lj)

    pub straight_first : (e : ℕ) → e < m → (owned d bays e).part ≡ whole → On w (E e) z
        → ((x : ℕ) → x < e → On w (E x) z → ⊥) → IsFirstOn d (owned d bays e).curve z
    straight_first e le p on first = elim (owner_is d bays m E steps is e le) [
      | inr a ↦ absurd (subst IsOfTube p a.part)
      | inl s ↦
          let fits = subst (λ (i : ℕ). i < length d.curves) (sym s.number) s.fits in
          record {
            there = fits;
            on = subst (λ (i : ℕ). IsOn (curve d i) z) (sym s.number)
                (on_curve w (E e) (curve d s.index) z s.edge s.straight (swept.rises e le) Z on);
            least = λ j l there. least e le on first j l (let f = fits in
                omega (arith, f, l)) there;
          }
    ]

    -- ---- in a tube
    on_arc : (c : ℕ) → c < T.count → InTubeAt T c z → power (arc (curve d (arc_at d c))) z ≡ pos 0
        → IsOn (curve d (arc_at d c)) z
    on_arc c lc inner y =
        (hits_alone (curve d (arc_at d c)) z Z).0
        (hits_bent w d bays m E steps lab within inside outside swept is L (arc_at d c) z z
        (arc_bent w d bays m E steps lab within inside outside swept is L c lc)
        (all.circle c lc z Z inner y))

    off_arc : (c : ℕ) → c < T.count → InTubeAt T c z
        → (power (arc (curve d (arc_at d c))) z ≡ pos 0 → ⊥) → IsOff d z
    off_arc c lc inner n =
        from_tube w d bays m E steps lab within inside outside swept is L z Z c lc inner
        (by_lt_z (power (arc (curve d (arc_at d c))) z) (pos 0) (λ l. inl l)
        (λ (k : pos 0 ≤ℤ power (arc (curve d (arc_at d c))) z). by_lt_z (pos 0)
        (power (arc (curve d (arc_at d c))) z) (λ l. inr l)
        (λ (j : power (arc (curve d (arc_at d c))) z ≤ℤ pos 0). absurd
        (n (omega (arith, ints, k, j))))))

    on_tube : (e : ℕ) → e < m → (c : ℕ) → c < T.count → (owned d bays e).curve ≡ arc_at d c
        → On w (E e) z → InTubeAt T c z
    on_tube e le c lc q on =
        let h = edge_in_tube w d bays m E steps lab within inside outside swept is L c lc e le q in
        wall_in r lab (T.label c) (T.first c) (T.bay c) (T.bays c) (T.halves c) (all.tube c lc)
        (within e) h.0 z Z
        (subst (λ (x : ℕ). pos 0 <ℤ rise w (E x)) (sym h.1) (swept.rises e le))
        (subst (λ (x : ℕ). On w (E x) z) (sym h.1) on)

  -- a point in the tube of half arc i
  lies : (i : ℕ) → i < length d.curves → (curve d i).kind ≡ kind.HalfArc → (v : Point)
      → ((c : ℕ) → c < T.count → arc_at d c ≡ i → InTubeAt T c (point v))
      → ((j : ℕ) → j < i → j < length d.curves → IsOn (curve d j) (point v) → ⊥)
      → LiesInTube d bays i v
  lies i fits bent v inner lesser =
      let c = tube_of w d bays m E steps lab within inside outside swept is L i fits bent in
      let there = inner c.0 c.1 c.2 in
      let V = place_point v in
      record {
        there = fits;
        bent = bent;
        holds = subst (λ (n : ℕ). one.InTube (curve d n).from (bays n) (point v)) c.2
            ((tube_places w d bays m E steps lab within inside outside swept is L c.0 c.1
            (point v)).0 there);
        on = λ y. record {
          there = fits;
          on = subst (λ (n : ℕ). IsOn (curve d n) (point v)) c.2
              (on_arc (point v) V c.0 c.1 there
              (subst (λ (n : ℕ). power (arc (curve d n)) (point v) ≡ pos 0) (sym c.2) y));
          least = λ j l on. lesser j l (let f = fits in omega (arith, f, l)) on;
        };
        off = λ n. off_arc (point v) V c.0 c.1 there
            (λ y. n (subst (λ (n : ℕ). power (arc (curve d n)) (point v) ≡ pos 0) c.2 y));
      }

  pub tube_first : (e : ℕ) → e < m → IsOfTube (owned d bays e).part → (v : Point)
      → On w (E e) (point v) → ((x : ℕ) → x < e → On w (E x) (point v) → ⊥)
      → LiesInTube d bays (owned d bays e).curve v
  tube_first e le o v on first =
      let a = edge_arc d bays m E steps is e le o in
      lies (owned d bays e).curve a.0 a.1 v
      (λ c lc q. on_tube (point v) (place_point v) e le c lc (sym q) on)
      (λ j l fits there. least (point v) (place_point v) e le on first j l fits there)

  -- ---- in a cell
  -- the label over an edge that faces no tube is that of a region
  pub region_most : (e : ℕ) → e < m → faced d bays E (over e) ≡ 0 → lab.above e ≤ length d.points
  region_most e le t = elim (owner_is d bays m E steps is e le) [
    | inl s ↦ (L.straight_label e le s.part).1
    | inr a ↦
        let same : within e ≡ half_within d bays E e = one_faces d bays E e (half_within d bays E e)
        (within e) (is.run.edges e le) (faces d bays m E steps is e le a.part)
        (L.faces e le a.part) in
        subst (λ (n : ℕ). n ≤ length d.points)
        (sym (ap (mark lab) (not_faced d bays E (over e) a.part t ∙ ap twin (sym same))))
        (L.outer_label e le a.part)
  ]

  module _ (pts : List Point) (v : Point) (k i : ℕ) (heavy : Weight w pts) (known : Has v pts)
      (events : (j : ℕ) → j < r.steps → Has (r.step j).at pts) (p : IsLocated r v k i) where
    abbrev z : Vector
    z = point v

    abbrev here : Sector
    here = record { strip = k; index = i }

    Z : Place z
    Z = place_point v

    q : edges.IsOffEdges r z × (sector r z ≡ here)
    q = located_point r run_whole.run run_whole.law pts v k i heavy known events p

    fits_edge : (e : ℕ) → AtBefore (r.list k) i e → e < m
    fits_edge e b =
        beside_fits r run_whole.run run_whole.law (over e) here
        (located_is r run_whole.run run_whole.law k i v p) b

    cell_label : (e : ℕ) → AtBefore (r.list k) i e → label_of lab r (sector r z) ≡ lab.above e
    cell_label e b = ap (label_of lab r) q.1 ∙ label_before lab 0 i (r.list k) e b

    tube_label_is : (c : ℕ) → c < T.count → InTubeAt T c z → label_of lab r (sector r z) ≡ T.label c
    tube_label_is c lc inner =
        (in_tube r run_whole.run run_whole.law run_whole.once lab L.matched (T.label c) (T.first c)
        (T.bay c) (T.bays c) (T.halves c) (all.tube c lc) z Z q.0).0 inner

    one_number : (n a b l : ℕ) → l ≡ suc (n + a) → l ≡ suc (n + b) → b ≡ a
    one_number n a b l e f = omega (arith, e, f)

    module _ (e : ℕ) (b : AtBefore (r.list k) i e) (c : ℕ)
        (t : faced d bays E (over e) ≡ suc c) where
      of_tube : IsFaced d bays E (over e) c
      of_tube = faced_is d bays E (over e) c t

      le : e < m
      le = fits_edge e b

      its_arc : (c < length d.curves) × ((curve d c).kind ≡ kind.HalfArc)
      its_arc = subst (λ (j : ℕ). (j < length d.curves) × ((curve d j).kind ≡ kind.HalfArc))
          of_tube.curve (edge_arc d bays m E steps is e le of_tube.part)

      label_is : label_of lab r (sector r z) ≡ tube_label d c
      label_is =
          let same : within e ≡ half_within d bays E e = one_faces d bays E e
          (half_within d bays E e) (within e) (is.run.edges e le)
          (faces d bays m E steps is e le of_tube.part) (L.faces e le of_tube.part) in
          cell_label e b ∙ ap (mark lab) (of_tube.is ∙ sym same) ∙ L.within_label e le of_tube.part
          ∙ ap (tube_label d) of_tube.curve

      in_its : (x : ℕ) → x < T.count → arc_at d x ≡ c → InTubeAt T x z
      in_its x lx y =
          (in_tube r run_whole.run run_whole.law run_whole.once lab L.matched (T.label x)
          (T.first x) (T.bay x) (T.bays x) (T.halves x) (all.tube x lx) z Z q.0).1 (label_is
          ∙ ap (tube_label d) (sym y))

      -- on no other curve
      pub cell_only : (j : ℕ) → j < length d.curves → IsOn (curve d j) z → j ≡ c
      cell_only j fits on = elim (decide_kind (curve d j).kind) [
        | inl y ↦ let x = straight_edge d bays m E steps is j fits y in
            absurd (q.0 x.0 x.1 (on_edge w (E x.0) (curve d j) z x.3 y (swept.rises x.0 x.1) Z on))
        | inr y ↦
            let x = in_its_tube w d bays m E steps lab within inside outside swept is L z Z j fits y
            on in
            one_number (length d.points) c j (label_of lab r (sector r z)) label_is
            (tube_label_is x.0 x.1 x.3 ∙ ap (tube_label d) x.2)
      ]

      pub cell_lies : LiesInTube d bays c v
      cell_lies = lies c its_arc.0 its_arc.1 v in_its (λ j l fits on. less (cell_only j fits on) l)
        where
          less : {j : ℕ} → j ≡ c → j < c → ⊥
          less y l = omega (arith, y, l)

    -- the lower edge faces no tube, or there is none
    module _ (t : (e : ℕ) → AtBefore (r.list k) i e → faced d bays E (over e) ≡ 0) where
      low_label : label_of lab r (sector r z) ≤ length d.points
      low_label = elim (some_before (r.list k) i p.index) [
        | inl y ↦ zero_most
            (ap (label_of lab r) (q.1 ∙ ap (λ (n : ℕ). record { strip = k; index = n }) y))
        | inr y ↦ subst (λ (n : ℕ). n ≤ length d.points) (sym (cell_label y.0 y.1))
            (region_most y.0 (fits_edge y.0 y.1) (t y.0 y.1))
      ]
        where
          zero_most : label_of lab r (sector r z) ≡ 0
              → label_of lab r (sector r z) ≤ length d.points
          zero_most y = omega (arith, y)

      too_great : (n a l : ℕ) → l ≡ suc (n + a) → l ≤ n → ⊥
      too_great n a l y h = omega (arith, y, h)

      no_tube : (c : ℕ) → c < T.count → InTubeAt T c z → ⊥
      no_tube c lc inner =
          too_great (length d.points) (arc_at d c) (label_of lab r (sector r z))
          (tube_label_is c lc inner) low_label

      pub cell_off : IsOff d z
      cell_off = label_off w d bays m E steps lab within inside outside swept is L z Z
          (label_of lab r (sector r z)) (inr (no_tube, q.0, refl))

      pub cell_outside : (j : ℕ) → j < length d.curves → (curve d j).kind ≡ kind.HalfArc
          → one.InTube (curve d j).from (bays j) z → ⊥
      cell_outside j fits bent inner =
          let c = tube_of w d bays m E steps lab within inside outside swept is L j fits bent in
          no_tube c.0 c.1
          ((tube_places w d bays m E steps lab within inside outside swept is L c.0 c.1 z).1
          (subst (λ (n : ℕ). one.InTube (curve d n).from (bays n) z) (sym c.2) inner))
