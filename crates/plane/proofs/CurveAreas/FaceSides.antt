-- In a settled run with face numbers: what they tell of places, of points, of the ends of crossing
-- segments and of empty sides.
use Rattle.std.proofs.Common.{◌≡◌, ◌↔◌, ℕ, ◌<◌, length, List, [], ℤ, pos, ◌<ℤ◌, inl, inr, sym, ◌∙◌}
use Rattle.std.proofs.Common.{subst}
use Rattle.plane.specs.declared.kinds.Point.{Point}
use Rattle.plane.specs.declared.kinds.Placed.{Placed}
use Rattle.plane.specs.declared.kinds.CurveKind.TheVariants as kind
use Rattle.plane.specs.Lists.{Has}
use Rattle.plane.specs.Forms.Vectors.{Vector, Place, point, Edge}
use Rattle.plane.specs.Rule.Plans.{Plan, curve, object}
use Rattle.plane.specs.Rule.Partition.{IsOff, Joined, IsOuter}
use Rattle.plane.specs.Rule.CrossedCurves.{CrossesCurve, CrossesHalfArc, IsLost}
use Rattle.plane.specs.Runs.Steps.{Step, WeighedRun}
use Rattle.plane.specs.Faces.Replays.{replay}
use Rattle.plane.specs.Faces.Labels.{Labels}
use Rattle.plane.specs.Faces.Halves.{Half, under, over, edge_of, mark}
use Rattle.plane.specs.Faces.Classes.{IsFaces, numbers}
use Rattle.plane.specs.Tubes.Bays.{Bay}
use Rattle.plane.specs.CurveRuns.Extended.{HasLabel}
use Rattle.plane.specs.CurveRuns.TubedRuns.{whole, owned, IsOfTube, IsTubedRun, AreTubeLabels}
use Rattle.plane.specs.CurveRuns.TubedRuns.{half_within, tubes}
use Rattle.plane.specs.CurveRuns.RegionPoints.{HasRegion}
use Rattle.plane.specs.CurveRuns.Levels.{AreWide, IsSettledRun, beside_inner, beside_outer}
use Rattle.plane.specs.CurveRuns.FacePlaces.{HasFace, PointHasFace}
use Rattle.plane.specs.Rule.CrossedCurves.{IsUnnamed}
use Rattle.plane.proofs.Runs.RunWeights.{RunWeight, points_of, points_has, run_weight, event_known}
use Rattle.plane.proofs.TubedRuns.OwnedEdges.{IsOfStraight, owner_is}
use Rattle.plane.proofs.TubedRuns.FacedTubes.{faced_whole}
use Rattle.plane.proofs.TubedRuns.TubedLabels.{off_label}
use Rattle.plane.proofs.CurveAreas.TubedFaces.{joined_is_label, outer_is_label, joined_with}
use Rattle.plane.proofs.CurveAreas.TubedFaces.{joined_without, outer_with, outer_without}
use Rattle.plane.proofs.CurveAreas.RegionPoints.{region_label, point_off, points_joined}
use Rattle.plane.proofs.CurveAreas.RegionPoints.{point_outer}
use Rattle.plane.proofs.CurveAreas.ArcSideLabels.{inner_end, outer_end}
use Rattle.plane.proofs.CurveAreas.StraightCrossings.{above_label, below_label}
use Rattle.plane.proofs.CurveAreas.EmptyHalfArcs as arcs
use Rattle.plane.proofs.CurveAreas.EmptyStraights as straights
use Rattle.plane.proofs.CurveAreas.FaceLabels as as_labels

module _ (d : Plan) (bays : ℕ → List Bay) (m : ℕ) (E : ℕ → Edge) (steps : List Step)
    (is : IsTubedRun d bays m E steps) (wide : AreWide d bays) (settled : IsSettledRun d bays m E)
    (v : ℤ) (face : Half → ℕ) (given : IsFaces (replay v m E steps) face) where
  abbrev full : Plan
  full = as_labels.full d bays m E steps is wide settled v face given

  abbrev num : Half → ℕ
  num = as_labels.num d bays m E steps is wide settled v face given

  abbrev lab : Labels
  lab = numbers num

  abbrev within : ℕ → Half
  within = half_within d bays E

  abbrev inside : ℕ → ℕ
  inside = beside_inner full bays E num

  abbrev outside : ℕ → ℕ
  outside = beside_outer full bays E num

  abbrev extra : List Placed
  extra = as_labels.extra d bays m E steps is wide settled v face given

  full_run : IsTubedRun full bays m E steps
  full_run = as_labels.full_run d bays m E steps is wide settled v face given

  fine : (g h : Half) → edge_of g < m → edge_of h < m → mark lab g ≡ mark lab h → num g ≡ num h
  fine = as_labels.fine d bays m E steps is wide settled v face given

  none : (h : Half) → edge_of h < m → mark lab h ≡ 0 → num h ≡ 0
  none = as_labels.none d bays m E steps is wide settled v face given

  same_inner : (i : ℕ) → inside i ≡ beside_inner d bays E face i
  same_inner = as_labels.same_inner d bays m E steps is wide settled v face given

  same_outer : (i : ℕ) → outside i ≡ beside_outer d bays E face i
  same_outer = as_labels.same_outer d bays m E steps is wide settled v face given

  same_whole : (h : Half) → (owned d bays (edge_of h)).part ≡ whole → num h ≡ face h
  same_whole h part =
      as_labels.num_plain d bays m E steps is wide settled v face given h
      (faced_whole d bays E h part)

  of_straight : (e : ℕ) → e < m → (owned d bays e).part ≡ whole → IsOfStraight d bays m E steps is e
  of_straight e l part = elim (owner_is d bays m E steps is e l) [
    | inl s ↦ s
    | inr b ↦ absurd (subst IsOfTube part b.part)
  ]

  -- ---- with a weight of the run
  module _ (w : ℤ) (swept : WeighedRun w m E steps) where
    L : AreTubeLabels full bays (replay w m E steps) lab within inside outside
    L = as_labels.labels d bays m E steps is wide settled v face given w swept

    faces : IsFaces (replay w m E steps) num
    faces = as_labels.num_faces d bays m E steps is wide settled v face given w swept

    abbrev Label : Vector → ℕ → Type 0
    Label z n = HasLabel (replay w m E steps) lab (tubes full bays within inside outside) z n

    abbrev Face : Vector → ℕ → Type 0
    Face z n = HasFace d bays (replay w m E steps) face z n

    to_label : (z : Vector) (n : ℕ) → Place z → Face z n → Label z n
    to_label = as_labels.relabel d bays m E steps is wide settled v face given w swept

    to_face : (z : Vector) (n : ℕ) → Place z → Label z n → Face z n
    to_face = as_labels.relabel_back d bays m E steps is wide settled v face given w swept

    -- ---- places
    pub place_numbered : (z : Vector) → Place z → IsOff d z → (n : ℕ) × Face z n
    place_numbered z Z off =
        let k = off_label w full bays m E steps lab within inside outside swept full_run L z Z
        off in
        (k.0, to_face z k.0 Z k.1)

    pub places_joined : (p q : Vector) (l k : ℕ) → Place p → Place q → IsOff d p → Face p l
        → Face q k → Joined d p q ↔ (l ≡ k)
    places_joined p q l k P Q off hp hq =
        let b = joined_is_label w full bays m E steps lab within inside outside swept full_run L num
        faces fine none p q l k P Q off (to_label p l P hp) (to_label q k Q hq) in
        ((λ j. b.0 (joined_without d extra p q j)), (λ e. joined_with d extra p q (b.1 e)))

    pub place_outer : pos 0 <ℤ w → (p : Vector) (l : ℕ) → Place p → IsOff d p → Face p l
        → IsOuter d p ↔ (l ≡ 0)
    place_outer heavy p l P off hp =
        let b = outer_is_label w full bays m E steps lab within inside outside swept full_run L num
        faces fine none heavy p l P off (to_label p l P hp) in
        ((λ o. b.0 (outer_without d extra p o)), (λ e. outer_with d extra p (b.1 e)))

    -- ---- the ends of crossing segments
    pub inner_number : (i : ℕ) → i < length d.curves → (curve d i).kind ≡ kind.HalfArc
        → (p q : Vector) → CrossesHalfArc d i p q → Face p (beside_inner d bays E face i)
    inner_number i l bent p q x = to_face p (beside_inner d bays E face i) x.p_place
        (subst (λ (n : ℕ). Label p n) (same_inner i)
        (inner_end w full bays m E steps lab within inside outside swept full_run L i l bent p q
        (arcs.crosses_without d extra i p q x)))

    pub outer_number : (i : ℕ) → i < length d.curves → (curve d i).kind ≡ kind.HalfArc
        → (p q : Vector) → CrossesHalfArc d i p q → Face q (beside_outer d bays E face i)
    outer_number i l bent p q x = to_face q (beside_outer d bays E face i) x.q_place
        (subst (λ (n : ℕ). Label q n) (same_outer i)
        (outer_end w full bays m E steps lab within inside outside swept full_run L i l bent p q
        (arcs.crosses_without d extra i p q x)))

    module _ (e : ℕ) (l : e < m) (part : (owned d bays e).part ≡ whole) (p q : Vector)
        (x : CrossesCurve d (E e) (owned d bays e).curve p q) where
      s : IsOfStraight d bays m E steps is e
      s = of_straight e l part

      y : CrossesCurve full (E e) s.index p q
      y = straights.crosses_without d extra (E e) s.index p q
          (subst (λ (i : ℕ). CrossesCurve d (E e) i p q) s.number x)

      pub over_number : Face p (face (over e))
      over_number =
          let k = off_label w full bays m E steps lab within inside outside swept full_run L p
          x.p_place x.p_off in
          let a = above_label w full bays m E steps lab within inside outside swept full_run L
          s.index s.fits s.straight e l s.number part p q y k.0 k.1 in
          to_face p (face (over e)) x.p_place
          (subst (λ (n : ℕ). Label p n) (a ∙ same_whole (over e) part) k.1)

      pub under_number : Face q (face (under e))
      under_number =
          let k = off_label w full bays m E steps lab within inside outside swept full_run L q
          x.q_place x.q_off in
          let a = below_label w full bays m E steps lab within inside outside swept full_run L
          s.index s.fits s.straight e l s.number part p q y k.0 k.1 in
          to_face q (face (under e)) x.q_place
          (subst (λ (n : ℕ). Label q n) (a ∙ same_whole (under e) part) k.1)

  -- ---- points, by positions
  module _ (more : List Point) where
    abbrev u : RunWeight m E steps more
    u = run_weight m E steps more is.run

    region : (a : Point) (n : ℕ) → PointHasFace d bays (replay v m E steps) face a n
        → HasRegion full bays (replay u.weight m E steps) lab inside outside a n
    region a n h =
        as_labels.region d bays m E steps is wide settled v face given u.weight u.swept v a n h

    point_label : (a : Point) (n : ℕ) → Has a more
        → PointHasFace d bays (replay v m E steps) face a n → Label u.weight u.swept (point a) n
    point_label a n k h =
        region_label u.weight full bays m E steps lab within inside outside u.swept full_run
        (L u.weight u.swept) u.points a n u.heavy (u.known a k) (event_known m E steps more u)
        (region a n h)

  -- with some weight of the run
  abbrev W : RunWeight m E steps []
  W = u []

  pub off_point : (a : Point) (n : ℕ) → PointHasFace d bays (replay v m E steps) face a n
      → IsOff d (point a)
  off_point a n h =
      point_off W.weight full bays m E steps lab within inside outside full_run
      (L W.weight W.swept) num (faces W.weight W.swept) fine none a n (region [] a n h)

  pub joined_points : (a b : Point) (l k : ℕ) → PointHasFace d bays (replay v m E steps) face a l
      → PointHasFace d bays (replay v m E steps) face b k → Joined d (point a) (point b) ↔ (l ≡ k)
  joined_points a b l k ha hb =
      let j = points_joined W.weight full bays m E steps lab within inside outside full_run
      (L W.weight W.swept) num (faces W.weight W.swept) fine none a b l k (region [] a l ha)
      (region [] b k hb) in (
        (λ p. j.0 (joined_without d extra (point a) (point b) p)),
        (λ e. joined_with d extra (point a) (point b) (j.1 e)),
      )

  pub outer_point : (a : Point) (l : ℕ) → PointHasFace d bays (replay v m E steps) face a l
      → IsOuter d (point a) ↔ (l ≡ 0)
  outer_point a l ha =
      let j = point_outer W.weight full bays m E steps lab within inside outside full_run
      (L W.weight W.swept) num (faces W.weight W.swept) fine none a l (region [] a l ha) in
      ((λ o. j.0 (outer_without d extra (point a) o)), (λ e. outer_with d extra (point a) (j.1 e)))

  -- ---- empty sides; point j has the number k j
  module _ (k : ℕ → ℕ) (placed : (j : ℕ) → j < length d.points
      → PointHasFace d bays (replay v m E steps) face (object d j) (k j)) where
    abbrev more : List Point
    more = points_of (object d) (length d.points)

    abbrev R : RunWeight m E steps more
    R = u more

    labelled : (j : ℕ) → j < length d.points → Label R.weight R.swept (point (object d j)) (k j)
    labelled j n =
        point_label more (object d j) (k j) (points_has (object d) (length d.points) j n)
        (placed j n)

    renamed : (a b : ℕ) → a ≡ b → IsUnnamed d k a → IsUnnamed d k b
    renamed a b e n = ((λ z. n.0 (e ∙ z)), (λ j l z. n.1 j l (e ∙ z)))

    told : {A : Type 0} (a b : ℕ) → a ≡ b → A ↔ IsUnnamed d k a → A ↔ IsUnnamed d k b
    told a b e t = ((λ x. renamed a b e (t.0 x)), (λ n. t.1 (renamed b a (sym e) n)))

    pub inside_empty : (i : ℕ) → i < length d.curves → (curve d i).kind ≡ kind.HalfArc
        → ((p : Vector) × (q : Vector) × CrossesHalfArc d i p q × IsLost d p)
        ↔ IsUnnamed d k (beside_inner d bays E face i)
    inside_empty i l bent = told (inside i) (beside_inner d bays E face i) (same_inner i)
        (arcs.empty_inside R.weight d extra bays m E steps lab within inside outside R.swept
        full_run (L R.weight R.swept) num
        (faces R.weight R.swept) fine none i l bent R.positive k labelled)

    pub outside_empty : (i : ℕ) → i < length d.curves → (curve d i).kind ≡ kind.HalfArc
        → ((p : Vector) × (q : Vector) × CrossesHalfArc d i p q × IsLost d q)
        ↔ IsUnnamed d k (beside_outer d bays E face i)
    outside_empty i l bent = told (outside i) (beside_outer d bays E face i) (same_outer i)
        (arcs.empty_outside R.weight d extra bays m E steps lab within inside outside R.swept
        full_run (L R.weight R.swept) num
        (faces R.weight R.swept) fine none i l bent R.positive k labelled)

    module _ (e : ℕ) (l : e < m) (part : (owned d bays e).part ≡ whole) where
      s_of : IsOfStraight d bays m E steps is e
      s_of = of_straight e l part

      pub above_empty : ((p : Vector) × (q : Vector)
          × CrossesCurve d (E e) (owned d bays e).curve p q × IsLost d p)
          ↔ IsUnnamed d k (face (over e))
      above_empty =
          subst (λ (i : ℕ). ((p : Vector) × (q : Vector) × CrossesCurve d (E e) i p q × IsLost d p)
          ↔ IsUnnamed d k (face (over e))) (sym s_of.number)
          (told (num (over e)) (face (over e)) (same_whole (over e) part)
          (straights.empty_above R.weight d extra bays m E steps lab within inside outside R.swept
          full_run (L R.weight R.swept) num
          (faces R.weight R.swept) fine none s_of.index s_of.fits s_of.straight e l s_of.number
          part R.positive k labelled))

      pub below_empty : ((p : Vector) × (q : Vector)
          × CrossesCurve d (E e) (owned d bays e).curve p q × IsLost d q)
          ↔ IsUnnamed d k (face (under e))
      below_empty =
          subst (λ (i : ℕ). ((p : Vector) × (q : Vector) × CrossesCurve d (E e) i p q × IsLost d q)
          ↔ IsUnnamed d k (face (under e))) (sym s_of.number)
          (told (num (under e)) (face (under e)) (same_whole (under e) part)
          (straights.empty_below R.weight d extra bays m E steps lab within inside outside R.swept
          full_run (L R.weight R.swept) num
          (faces R.weight R.swept) fine none s_of.index s_of.fits s_of.straight e l s_of.number
          part R.positive k labelled))
