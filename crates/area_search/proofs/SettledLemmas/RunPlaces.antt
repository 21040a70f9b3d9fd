-- Places off the curves of a drawing with a settled run, by their face numbers: an outer one, one
-- on
-- each side of each curve, and what each number belongs to.
use Rattle.std.proofs.Common.{◌≡◌, ◌↔◌, ◌⊎◌, inl, inr, ℕ, zero, suc, ◌+◌, ◌<◌, ◌≤◌, ℤ, pos, ◌-ℤ◌}
use Rattle.std.proofs.Common.{◌<ℤ◌, List, [], ◌∷◌, length, get_or, refl, sym, ap, subst, ◌∙◌, arith}
use Rattle.std.proofs.lemmas.Int.{ints}
use Rattle.plane.specs.CurveRuns.Extended.{InTubeAt, Tubes}
use Rattle.plane.specs.CurveRuns.FacePlaces.{HasFace, PointHasFace}
use Rattle.plane.specs.CurveRuns.FacedTubes.{faced}
use Rattle.plane.specs.CurveRuns.Levels.{AreWide, IsSettledRun, beside_inner, beside_outer}
use Rattle.plane.specs.CurveRuns.TubedRuns.{AreTubeLabels, IsOfTube, IsTubedRun, MeetsArc, arc_at}
use Rattle.plane.specs.CurveRuns.TubedRuns.{half_within, owned, tube_label, tubes, whole}
use Rattle.plane.specs.Faces.Cells.{Sector, IsSector, label_of, sector}
use Rattle.plane.specs.Faces.Classes.{IsFaces, numbers}
use Rattle.plane.specs.Faces.Halves.{AtBefore, Half, edge_of, mark, over, under}
use Rattle.plane.specs.Faces.Labels.{Labels, label_at}
use Rattle.plane.specs.Faces.PlacedPoints.{IsLocated}
use Rattle.plane.specs.Faces.Replays.{IsOffEdges, Replay, no_step, replay}
use Rattle.plane.specs.declared.kinds.Edge.{Edge}
use Rattle.plane.specs.Lists.{Has}
use Rattle.plane.specs.Rule.CrossedCurves.{CrossesCurve, CrossesHalfArc}
use Rattle.plane.specs.Rule.Partition.{IsOff, IsOuter, Joined}
use Rattle.plane.specs.Rule.Places.{Place, Vector, point}
use Rattle.plane.specs.Rule.Plans.{IsHalfArc, Plan, curve, object}
use Rattle.plane.specs.Runs.Steps.{Step}
use Rattle.plane.specs.Tubes.Bays.{Bay}
use Rattle.plane.specs.declared.kinds.CurveKind.TheVariants as kind
use Rattle.plane.specs.declared.kinds.Placed.{Placed}
use Rattle.plane.specs.declared.kinds.Point.{Point}
use Rattle.plane.proofs.CurveAreas.CrossedStraights.{straight_crossed}
use Rattle.plane.proofs.CurveAreas.EmptyHalfArcs as arcs
use Rattle.plane.proofs.CurveAreas.EmptyStraights as straights
use Rattle.plane.proofs.CurveAreas.FaceLabels as as_labels
use Rattle.plane.proofs.CurveAreas.FaceSides as sides
use Rattle.plane.proofs.CurveAreas.PlacedFaces.{at_border}
use Rattle.plane.proofs.CurveAreas.RegionPoints.{region_label}
use Rattle.plane.proofs.FaceLemmas.FaceNumbers.{label_before}
use Rattle.plane.proofs.Linear.Signs.{by_sign}
use Rattle.plane.proofs.Runs.RunWeights.{RunWeight, event_known, points_has, points_of, run_weight}
use Rattle.plane.proofs.Strips.Columns.{cell_is}
use Rattle.plane.proofs.TubePaths.TubedSides.{are_sides}
use Rattle.plane.proofs.TubePaths.WaysOut.{label_tube}
use Rattle.plane.proofs.TubedRuns.FacedTubes.{faced_is}
use Rattle.plane.proofs.TubedRuns.OwnedEdges.{owner_is}
use Rattle.plane.proofs.TubedRuns.RunTubes.{arc_bent, arc_fits, are_tubes}
use Rattle.plane.proofs.TubedRuns.TubedCrossings.{arc_crossed}
use Rattle.plane.proofs.TubedRuns.TubedCurves.{tube_of}
use Rattle.plane.proofs.Turning.CellWalls.{beside_fits}
use Rattle.plane.proofs.Turning.ListPlaces.{at_some}
use Rattle.plane.proofs.Windings.Whole.{IsWhole, swept_whole}

pub a_place : (v : Point) → Place (point v)
a_place v = omega (arith, ints)

-- ---- a point before all events
-- an x less than that of each event
abbrev IsBefore : List Step → ℤ → Type 0
IsBefore steps x = (j : ℕ) → j < length steps → x <ℤ (get_or steps j no_step).at.x

less_first : (s : Step) (steps : List Step) (x : ℤ) → IsBefore steps x
    → ((s.at.x -ℤ pos 1) <ℤ x) → IsBefore (s ∷ steps) (s.at.x -ℤ pos 1)
less_first s steps x h k zero l = omega (arith, ints)
less_first s steps x h k (suc j) l =
    let a = h j (omega (arith, l)) in
    omega (arith, ints, a, k)

less_rest : (s : Step) (steps : List Step) (x : ℤ) → IsBefore steps x → x <ℤ s.at.x
    → IsBefore (s ∷ steps) x
less_rest s steps x h k zero l = k
less_rest s steps x h k (suc j) l = h j (omega (arith, l))

before_all : (steps : List Step) → (x : ℤ) × IsBefore steps x
before_all [] = (pos 0, λ j l. absurd (omega (arith, l)))
before_all (s ∷ steps) =
    let r = before_all steps in
    by_sign (s.at.x -ℤ r.0)
    (λ (k : (s.at.x -ℤ r.0) <ℤ pos 0).
    (s.at.x -ℤ pos 1, less_first s steps r.0 r.1 (omega (arith, ints, k))))
    (λ (k : (s.at.x -ℤ r.0) ≡ pos 0).
    (s.at.x -ℤ pos 1, less_first s steps r.0 r.1 (omega (arith, ints, k))))
    (λ (k : pos 0 <ℤ (s.at.x -ℤ r.0)). (r.0, less_rest s steps r.0 r.1 (omega (arith, ints, k))))

-- over the first i edges of a list is the border or an edge
first_or_edge : (es : List ℕ) (i : ℕ) → i ≤ length es → (i ≡ 0) ⊎ ((e : ℕ) × AtBefore es i e)
first_or_edge es zero l = inl refl
first_or_edge es (suc i) l = inr (at_some es i (omega (arith, l)))

module _ (d : Plan) (bays : ℕ → List Bay) (m : ℕ) (E : ℕ → Edge) (steps : List Step)
    (is : IsTubedRun d bays m E steps) (wide : AreWide d bays) (settled : IsSettledRun d bays m E)
    (face : Half → ℕ) (given : IsFaces (replay (pos 0) m E steps) face) where
  -- ---- an outer point
  pub far : Point
  far = record { x = (before_all steps).0; y = pos 0 }

  far_located : IsLocated (replay (pos 0) m E steps) far 0 0
  unfolding far
  far_located = record {
    fits = omega arith;
    index = omega arith;
    passed = λ j l. absurd (omega (arith, l));
    coming = λ j k l. inl ((before_all steps).1 j l);
    above = λ e b. absurd b;
    below = λ e b. absurd b;
  }

  pub far_face : PointHasFace d bays (replay (pos 0) m E steps) face far 0
  far_face = at_border (pos 0) d bays m E steps face far 0 far_located

  -- ---- a weight of the run, of the objects' points and of that point
  abbrev more : List Point
  more = far ∷ points_of (object d) (length d.points)

  pub u : RunWeight m E steps more
  u = run_weight m E steps more is.run

  abbrev w : ℤ
  w = u.weight

  abbrev r : Replay
  r = replay w m E steps

  abbrev pub Face : Vector → ℕ → Type 0
  Face z k = HasFace d bays r face z k

  -- ---- the numbers as labels
  abbrev full : Plan
  full = as_labels.full d bays m E steps is wide settled (pos 0) face given

  abbrev extra : List Placed
  extra = as_labels.extra d bays m E steps is wide settled (pos 0) face given

  abbrev num : Half → ℕ
  num = as_labels.num d bays m E steps is wide settled (pos 0) face given

  abbrev lab : Labels
  lab = numbers num

  abbrev within : ℕ → Half
  within = half_within d bays E

  abbrev inside : ℕ → ℕ
  inside = beside_inner full bays E num

  abbrev outside : ℕ → ℕ
  outside = beside_outer full bays E num

  abbrev T : Tubes
  T = tubes full bays within inside outside

  full_run : IsTubedRun full bays m E steps
  full_run = as_labels.full_run d bays m E steps is wide settled (pos 0) face given

  L : AreTubeLabels full bays r lab within inside outside
  L = as_labels.labels d bays m E steps is wide settled (pos 0) face given w u.swept

  whole_run : IsWhole r
  whole_run = swept_whole w m E steps u.swept

  -- ---- what numbers tell of places
  pub numbered : (z : Vector) → Place z → IsOff d z → (k : ℕ) × Face z k
  numbered = sides.place_numbered d bays m E steps is wide settled (pos 0) face given w u.swept

  pub joined_is : (p q : Vector) (l k : ℕ) → Place p → Place q → IsOff d p → Face p l → Face q k
      → Joined d p q ↔ (l ≡ k)
  joined_is = sides.places_joined d bays m E steps is wide settled (pos 0) face given w u.swept

  pub outer_is : (p : Vector) (l : ℕ) → Place p → IsOff d p → Face p l → IsOuter d p ↔ (l ≡ 0)
  outer_is =
      sides.place_outer d bays m E steps is wide settled (pos 0) face given w u.swept u.positive

  pub point_off : (v : Point) (k : ℕ) → PointHasFace d bays (replay (pos 0) m E steps) face v k
      → IsOff d (point v)
  point_off = sides.off_point d bays m E steps is wide settled (pos 0) face given

  point_face : (v : Point) (k : ℕ) → Has v more
      → PointHasFace d bays (replay (pos 0) m E steps) face v k → Face (point v) k
  point_face v k h p =
      as_labels.relabel_back d bays m E steps is wide settled (pos 0) face given w u.swept (point v)
      k (a_place v)
      (region_label w full bays m E steps lab within inside outside u.swept full_run L u.points v k
      u.heavy (u.known v h) (event_known m E steps more u)
      (as_labels.region d bays m E steps is wide settled (pos 0) face given w u.swept
      (pos 0) v k p))

  pub far_number : Face (point far) 0
  far_number = point_face far 0 (inl refl) far_face

  pub object_number : (j : ℕ) → j < length d.points → (k : ℕ)
      → PointHasFace d bays (replay (pos 0) m E steps) face (object d j) k
      → Face (point (object d j)) k
  object_number j l k p =
      point_face (object d j) k (inr (points_has (object d) (length d.points) j l)) p

  -- ---- what a number belongs to
  -- no face of the drawing but the outer one, half-edge that faces no tube, or side of a tube
  pub data Owns (k : ℕ) : Type 0 where
    outer : k ≡ 0 → Owns k
    edge : (h : Half) → edge_of h < m → faced d bays E h ≡ 0 → k ≡ face h → Owns k
    inside_of : (i : ℕ) → IsHalfArc d i → k ≡ beside_inner d bays E face i → Owns k
    outside_of : (i : ℕ) → IsHalfArc d i → k ≡ beside_outer d bays E face i → Owns k

  its_arc : (c : ℕ) → c < T.count → IsHalfArc d (arc_at d c)
  its_arc c l = record {
    there = arc_fits w full bays m E steps lab within inside outside u.swept full_run L c l;
    kind = arc_bent w full bays m E steps lab within inside outside u.swept full_run L c l;
  }

  -- a cell in no tube is not over an edge that faces a tube
  module _ (z : Vector) (Z : Place z) (out : (c : ℕ) → c < T.count → InTubeAt T c z → ⊥)
      (off : IsOffEdges r z) where
    abbrev c : Sector
    c = sector r z

    C : IsSector r c
    C = cell_is r whole_run.run whole_run.law z Z

    not_within : (e k : ℕ) → AtBefore (r.list c.strip) c.index e → faced d bays E (over e) ≡ suc k
        → ⊥
    not_within e k b q =
        let l = beside_fits r whole_run.run whole_run.law (over e) c C b in
        let t = faced_is d bays E (over e) k q in
        elim (owner_is d bays m E steps is e l) [
          | inl o ↦ absurd (subst IsOfTube o.part t.part)
          | inr o ↦
              let a = tube_of w full bays m E steps lab within inside outside u.swept full_run L
              o.index o.fits o.bent in
              let name : label_of lab r c ≡ T.label a.0 =
              label_before lab 0 c.index (r.list c.strip) e b ∙ ap (mark lab) t.is
              ∙ L.within_label e l t.part ∙ ap (tube_label full) (o.number ∙ sym a.2) in
              out a.0 a.1
              (label_tube r whole_run lab L.matched T (MeetsArc full)
              (are_tubes w full bays m E steps lab within inside outside u.swept full_run L)
              (are_sides w full bays m E steps lab within inside outside u.swept full_run L) a.0 a.1
              z Z off name)
        ]

    cell_owns : (k : ℕ) → k ≡ label_of (numbers face) r c → Owns k
    cell_owns k q = elim (first_or_edge (r.list c.strip) c.index C.index) [
      | inl y ↦ outer (q ∙ ap (λ (i : ℕ). label_at (numbers face) 0 i (r.list c.strip)) y)
      | inr y ↦
          by_faced y.0 y.1 (q ∙ label_before (numbers face) 0 c.index (r.list c.strip) y.0 y.1)
          (faced d bays E (over y.0)) refl
    ]
      where
        by_faced : (e : ℕ) → AtBefore (r.list c.strip) c.index e → k ≡ face (over e) → (v : ℕ)
            → faced d bays E (over e) ≡ v → Owns k
        by_faced e b number zero g =
            edge (over e) (beside_fits r whole_run.run whole_run.law (over e) c C b) g number
        by_faced e b number (suc v) g = absurd (not_within e v b g)

  pub face_owns : (z : Vector) → Place z → (k : ℕ) → Face z k → Owns k
  face_owns z Z k (inl (c, l, i, inl (a, e))) = inside_of (arc_at d c) (its_arc c l) e
  face_owns z Z k (inl (c, l, i, inr (a, e))) = outside_of (arc_at d c) (its_arc c l) e
  face_owns z Z k (inr (out, off, e)) = cell_owns z Z out off k e

  -- ---- segments that cross curves
  pub arc_segment : (i : ℕ) → IsHalfArc d i → (p : Vector) × (q : Vector) × CrossesHalfArc d i p q
  arc_segment i h =
      let c = arc_crossed w full bays m E steps lab within inside outside u.swept full_run L i
      h.there h.kind in
      (c.0, c.1, arcs.crosses_with d extra i c.0 c.1 c.2)

  pub arc_ends : (i : ℕ) → IsHalfArc d i → (p q : Vector) → CrossesHalfArc d i p q
      → Face p (beside_inner d bays E face i) × Face q (beside_outer d bays E face i)
  arc_ends i h p q x = (
    sides.inner_number d bays m E steps is wide settled
        (pos 0) face given w u.swept i h.there h.kind
        p q x,
    sides.outer_number d bays m E steps is wide settled
        (pos 0) face given w u.swept i h.there h.kind
        p q x,
  )

  module _ (i e : ℕ) (fits : e < m) (own : (owned d bays e).curve ≡ i)
      (part : (owned d bays e).part ≡ whole) where
    pub straight_segment : i < length d.curves → (curve d i).kind ≡ kind.Straight
        → (p : Vector) × (q : Vector) × CrossesCurve d (E e) i p q
    straight_segment l s =
        let c = straight_crossed w full bays m E steps lab within inside outside u.swept full_run L
        i l s e fits own part in
        (c.0, c.1, straights.crosses_with d extra (E e) i c.0 c.1 c.2)

    pub straight_ends : (p q : Vector) → CrossesCurve d (E e) i p q
        → Face p (face (over e)) × Face q (face (under e))
    straight_ends p q x =
        let y = subst (λ (j : ℕ). CrossesCurve d (E e) j p q) (sym own) x in (
          sides.over_number d bays m E steps is wide settled (pos 0) face given w u.swept e fits
              part p q y,
          sides.under_number d bays m E steps is wide settled (pos 0) face given w u.swept e fits
              part p q y,
        )
