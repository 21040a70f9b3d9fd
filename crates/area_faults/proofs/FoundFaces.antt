-- What is read off the run of the rest are the numbers of the faces of the drawing without the
-- curves that are left out.
use Rattle.std.proofs.Common.{◌≡◌, ◌⊎◌, Bool, true, false, ℕ, zero, suc, ◌+◌, ◌-◌, ◌<◌, ◌≤◌, Option}
use Rattle.std.proofs.Common.{Some, List, [], length, map, take, slice_index, slice_index_or, pos}
use Rattle.std.proofs.Common.{arith, refl, inl, inr, sym, ◌∙◌, subst, ap, All}
use Rattle.std.proofs.lemmas.Bool.{cases_lt}
use Rattle.std.proofs.lemmas.List.{get_or-map, get_or-take, length-map, length-take-le}
use Rattle.area_search.specs.Settled.Cases.{face_over}
use Rattle.area_search.proofs.SettledLemmas.TurnedCrossings.{crosses_forth, crosses_turned}
use Rattle.faces.specs.declared.labelled.Labelled.{Labelled}
use Rattle.fault_lists.specs.declared.faces.CurveFaces.{CurveFaces}
use Rattle.fault_lists.specs.declared.faces.DrawingFaces.{DrawingFaces}
use Rattle.fault_lists.specs.declared.faces.PointPlace.{PointPlace}
use Rattle.fault_lists.specs.declared.faces.PointPlace.TheVariants.{InFace}
use Rattle.fault_lists.specs.DrawingFaces.{AreCurveFaces, AreDrawingFaces, AreFacePlaces}
use Rattle.fault_lists.specs.DrawingFaces.{HasCurveBeside, HasCurveFaces, HasFaces, IsInFace}
use Rattle.fault_lists.specs.DrawingFaces.{IsNumbered, IsPlaceBelow, IsPointPlace, AreFacesBelow}
use Rattle.fault_lists.specs.Faults.{LiesOn}
use Rattle.fault_lists.specs.Sides.{end_on, is_first_kind, side_end}
use Rattle.half_edges.specs.HalfEdges.{over_of, under_of}
use Rattle.near_pairs.specs.Boxes.{mark_of}
use Rattle.plane.specs.declared.kinds.Curve.{Curve}
use Rattle.plane.specs.declared.kinds.CurveKind.{CurveKind}
use Rattle.plane.specs.declared.kinds.CurveKind.TheVariants as kind
use Rattle.plane.specs.declared.kinds.Edge.{Edge}
use Rattle.plane.specs.declared.kinds.Point.{Point}
use Rattle.plane.specs.Faces.Classes.{IsFaces}
use Rattle.plane.specs.Faces.DrawnRuns.{IsRunOf, drawn}
use Rattle.plane.specs.Faces.Halves.{Half, edge_of as half_edge_of, number, over, under}
use Rattle.plane.specs.Faces.RestRuns.{sum}
use Rattle.plane.specs.Forms.Meets.{OnStraight}
use Rattle.plane.specs.Forms.Segments.{IsEdgeOf}
use Rattle.plane.specs.Forms.Vectors.{Before}
use Rattle.plane.specs.Rule.CrossedCurves.{CrossesCurve}
use Rattle.plane.specs.Rule.Curves.{IsOn}
use Rattle.plane.specs.Rule.Cuts.{CrossesKind, CrossesOne, course}
use Rattle.plane.specs.Rule.Doubled.{IsDoubled, doubled, twice, twice_curve}
use Rattle.plane.specs.Rule.LeftOut.{AreStraightsOut, IsClosed, IsOpen, IsRestOf, MissesEnds}
use Rattle.plane.specs.Rule.LeftOut.{middle}
use Rattle.plane.specs.Rule.Places.{Vector, Place, point}
use Rattle.plane.specs.Rule.Plans.{Plan, curve, object}
use Rattle.plane.specs.Rule.Windows.{IsDrawn}
use Rattle.plane.specs.Runs.Moves.{Move, steps_from}
use Rattle.plane.specs.Runs.Steps.{Run}
use Rattle.plane.proofs.Covers.CurveEdges.{on_edge_is}
use Rattle.plane.proofs.FaceLemmas.PointCells.{point_off}
use Rattle.plane.proofs.FewerCurves.Crossings.{crossing_stays}
use Rattle.plane.proofs.FewerCurves.Middles.{middle_inner, middle_on, middle_place}
use Rattle.plane.proofs.FewerCurves.OneFace.{inner_off}
use Rattle.plane.proofs.FewerCurves.Paths.{on_back}
use Rattle.plane.proofs.HalfUnits.DoubledCurves.{curve_doubled, doubled_curve}
use Rattle.plane.proofs.HalfUnits.DoubledPaths.{doubled_off}
use Rattle.plane.proofs.HalfUnits.HalvedCrossings.{IsHalfEdge}
use Rattle.plane.proofs.HalfUnits.RestFaces.{middle_there}
use Rattle.plane.proofs.Covers.CurvePlaces.{on_same}
use Rattle.plane.proofs.Covers.SamePlace.{same_sym}
use Rattle.plane.proofs.Linear.EdgePlaces.{place_point}
use Rattle.point_location.specs.declared.places.Place.{Place as Spot}
use Rattle.point_location.specs.declared.places.Place.TheVariants as place
use Rattle.point_location.specs.Places.{ArePlaces, IsLeastOn as IsLeastEdge, IsPlaceOf, no_place}
use Rattle.straight_predicates.specs.EdgeLists.{edge_of}
use Rattle.tubes.specs.DrawnEdges.{edges_of}
use Rattle.area_faults.specs.RestFaces.{AreCurveFacesTo, AreMendable, AreOpenTo, AreParted}
use Rattle.area_faults.specs.RestFaces.{AreRunFaces, AreSidesOf, HasSizes, half_edges, half_plan}
use Rattle.area_faults.specs.RestFaces.{half_points, place_at, place_face, point_place, rest_plan}
use Rattle.area_faults.specs.RestFaces.{sides_at}
use Rattle.area_faults.proofs.HalfUnits.{before_once, before_twice}
use Rattle.area_faults.proofs.LeftPlaces.{IsRightOf}
use Rattle.area_faults.proofs.PlacedFaces.{cell_below, cell_number, curves_count, edges_are}
use Rattle.area_faults.proofs.PlacedFaces.{edges_count, face_below, face_used, faces_there, is_run}
use Rattle.area_faults.proofs.PlacedFaces.{middle_point, object_point, points_count}
use Rattle.area_faults.proofs.RestDrawings.{inside, is_doubled, is_drawn, is_rest, is_right, outs}
use Rattle.area_faults.proofs.RestDrawings.{rest_count, rest_curve, rest_straights}
use Rattle.area_faults.proofs.RestNumbers.{IsAt, closed_number, face_place, in_face, middle_at}
use Rattle.area_faults.proofs.RestNumbers.{open_number, place_all, place_at as place_number}
use Rattle.area_faults.proofs.RestNumbers.{place_off, place_once, place_outer, place_there}
use Rattle.area_faults.proofs.RestNumbers.{point_at}
use Rattle.area_faults.proofs.RestSides.{IsCrossedBy, any_crossing, half_of_edge, some_crossing}

not_true : (b : Bool) → b ≡ false → b ≡ true → ⊥
not_true b e f = absurd (let q : true ≡ false = sym f ∙ e in cc)

some_face : (m n : ℕ) → Some m ≡ Some n → m ≡ n
some_face m n e = cc

not_arc : (c : Curve) → c.kind ≡ kind.Straight → c.kind ≡ kind.HalfArc → ⊥
not_arc c s h = absurd cc

-- the ends of a segment beside a straight
side_left : (c : Curve) (p q : Vector) → c.kind ≡ kind.Straight → side_end c true p q ≡ p
side_left c p q e = ap (λ (k : CurveKind). end_on (is_first_kind k c true) p q) e

side_right : (c : Curve) (p q : Vector) → c.kind ≡ kind.Straight → side_end c false p q ≡ q
side_right c p q e = ap (λ (k : CurveKind). end_on (is_first_kind k c false) p q) e

-- a segment that holds no end holds none the other way round
misses_back : (c : Curve) (p q : Vector) → Place p → Place q → MissesEnds c p q → MissesEnds c q p
misses_back c p q P Q miss z Z on = miss z Z (on_back q p z Q P Z on)

module _ (d : Plan) (marks : List Bool) (kept left : List ℕ) (parted : AreParted d marks kept left)
    (mend : AreMendable d (mark_of marks))
    (low high : Point) (held : All (λ (c : Curve). IsDrawn low high c) d.curves)
    (vs : List Move)
    (run : Run (length (half_edges d kept)) (edge_of (half_edges d kept)) (steps_from [] vs))
    (l : Labelled) (faces : AreRunFaces (length kept) vs l)
    (places : List Spot)
    (located : ArePlaces (half_edges d kept) vs (half_points d left) places) where
  abbrev out : ℕ → Bool
  out i = mark_of marks i

  abbrev r : Plan
  r = rest_plan d kept

  abbrev e : Plan
  e = half_plan (rest_plan d kept)

  known : (m : ℕ) → m < length kept → slice_index kept m < length d.curves
  known = parted.kept_are.known

  stays_in : (m : ℕ) → m < length kept → mark_of marks (slice_index kept m) ≡ false
  stays_in = parted.kept_are.mark_is

  rises : (m n : ℕ) → m < n → n < length kept → slice_index kept m < slice_index kept n
  rises = parted.kept_are.rising

  whole : (i : ℕ) → i < length d.curves → mark_of marks i ≡ false
      → (m : ℕ) × (m < length kept) × (slice_index kept m ≡ i)
  whole = parted.kept_are.whole

  pub rest : IsRestOf d (rest_plan d kept) (λ (i : ℕ). mark_of marks i)
  rest = is_rest d out kept known stays_in rises whole

  st : (k : ℕ) → k < length (rest_plan d kept).curves
      → (curve (rest_plan d kept) k).kind ≡ kind.Straight
  st = rest_straights d out kept known stays_in rises whole mend.straights

  abbrev E : ℕ → Edge
  E = edge_of (edges_of (half_plan (rest_plan d kept)))

  on : IsRunOf (half_plan (rest_plan d kept)) (edge_of (edges_of (half_plan (rest_plan d kept))))
      (steps_from [] vs)
  on = is_run d kept st vs run

  half : IsDoubled (rest_plan d kept) (half_plan (rest_plan d kept))
  half = is_doubled (rest_plan d kept)

  abbrev face : Half → ℕ
  face h = slice_index l.mesh.face (number h)

  F : IsFaces (drawn (pos 0) (half_plan (rest_plan d kept))
      (edge_of (edges_of (half_plan (rest_plan d kept)))) (steps_from [] vs))
      (λ h. slice_index l.mesh.face (number h))
  F = faces_there d kept st vs run l faces

  right : IsRightOf low.x (rest_plan d kept)
  right = is_right d out kept known stays_in rises whole low high held mend.straights

  At : Vector → ℕ → Type 0
  At z n = IsAt r e E (steps_from [] vs) on face z n

  below : (h : Half) → half_edge_of h < length (half_plan (rest_plan d kept)).curves
      → slice_index l.mesh.face (number h) < l.count
  below = face_below d kept st vs run l faces

  used : (n : ℕ) → 0 < n → n < l.count
      → (h : Half) × (half_edge_of h < length (half_plan (rest_plan d kept)).curves)
      × (slice_index l.mesh.face (number h) ≡ n)
  used = face_used d kept st vs run l faces

  -- ---- a place in each face
  pub at_face : ℕ → Vector
  at_face = face_place r e half E (steps_from [] vs) on face F low.x right l.count faces.some below
      used

  pub face_places : AreFacePlaces r l.count at_face
  unfolding at_face
  face_places = record {
    some = faces.some;
    place = place_there r e half E (steps_from [] vs) on face F low.x right l.count faces.some below
        used;
    off = place_off r e half E (steps_from [] vs) on face F low.x right l.count faces.some below
        used;
    once = place_once r e half E (steps_from [] vs) on face F low.x right l.count faces.some below
        used;
    outer = place_outer r e half E (steps_from [] vs) on face F low.x right l.count faces.some below
        used;
    all = place_all r e half E (steps_from [] vs) on face F low.x right l.count faces.some below
        used;
  }

  number_at : (n : ℕ) → n < l.count → IsAt r e E (steps_from [] vs) on face (at_face n) n
  unfolding at_face
  number_at = place_number r e half E
      (steps_from [] vs) on face F low.x right l.count faces.some below used

  there_at : (n : ℕ) → n < l.count → Place (at_face n)
  there_at n k = face_places.place n k

  lies : (z : Vector) (n : ℕ) → Place z → IsAt r e E (steps_from [] vs) on face z n → n < l.count
      → IsInFace r l.count at_face z n
  unfolding at_face
  lies z n Z at_z k = record {
    there = k;
    joined = in_face r e half E (steps_from [] vs) on face F low.x right l.count faces.some below
        used z n Z at_z k;
  }

  -- ---- places on edges
  fits : (m : ℕ) → m < length kept → m < length (rest_plan d kept).curves
  fits m k = let n = rest_count d out kept known stays_in rises whole in omega (arith, k, n)

  fits_half : (m : ℕ) → m < length kept → m < length (half_plan (rest_plan d kept)).curves
  fits_half m k = let n = curves_count d kept st vs run in omega (arith, k, n)

  -- the curve of an edge in half units
  half_curve : (m : ℕ) → m < length kept
      → curve (half_plan (rest_plan d kept)) m ≡ twice_curve (curve d (slice_index kept m))
  half_curve m k = half.curves m (fits m k)
      ∙ ap twice_curve (rest_curve d out kept known stays_in rises whole m (fits m k))

  same_edge : (m : ℕ)
      → edge_of (half_edges d kept) m ≡ edge_of (edges_of (half_plan (rest_plan d kept))) m
  same_edge m = ap (λ (es : List Edge). edge_of es m) (edges_are d kept)

  on_curve : (m : ℕ) → m < length kept → (v : Vector) → Place v
      → OnStraight (edge_of (half_edges d kept) m) v
      → IsOn (twice_curve (curve d (slice_index kept m))) v
  on_curve m k v V h =
      let f = on_edge_is (E m) (curve e m) v (on.edges.edge m (fits_half m k))
      (on.edges.straight m (fits_half m k)) V in
      subst (λ (c : Curve). IsOn c v) (half_curve m k)
      (f.0 (subst (λ (x : Edge). OnStraight x v) (same_edge m) h))

  curve_on : (m : ℕ) → m < length kept → (v : Vector) → Place v
      → IsOn (twice_curve (curve d (slice_index kept m))) v
      → OnStraight (edge_of (half_edges d kept) m) v
  curve_on m k v V h =
      let f = on_edge_is (E m) (curve e m) v (on.edges.edge m (fits_half m k))
      (on.edges.straight m (fits_half m k)) V in
      subst (λ (x : Edge). OnStraight x v) (sym (same_edge m))
      (f.1 (subst (λ (c : Curve). IsOn c v) (sym (half_curve m k)) h))

  edge_known : (i : ℕ) → i < length (half_edges d kept) → i < length kept
  edge_known i k = let n = edges_count d kept st vs run in omega (arith, k, n)

  -- ---- points
  by_mark : (i : ℕ) → (mark_of marks i ≡ true) ⊎ (mark_of marks i ≡ false)
  by_mark i = two (mark_of marks i)
    where
      two : (b : Bool) → (b ≡ true) ⊎ (b ≡ false)
      two true = inl refl
      two false = inr refl

  no_lesser : (j i : ℕ) → IsLeastEdge (half_edges d kept) (twice (object d j)) i → (k : ℕ)
      → k < slice_index kept i → (mark_of marks k ≡ true → ⊥) → LiesOn d j k → ⊥
  no_lesser j i c k b free h = elim (by_mark k) [
    | inl t ↦ free t
    | inr f ↦ (
        let (m, lm, q) = whole k h.curve_there f in
        let z = point (object d j) in
        let Z = place_point (object d j) in
        elim (cases_lt m i) [
          | inl n ↦ c.least m n
              (curve_on m lm (doubled z) Z
              (curve_doubled (curve d (slice_index kept m)) z Z
              (subst (λ (x : ℕ). IsOn (curve d x) z) (sym q) h.on)))
          | inr n ↦ elim (cases_lt i m) [
            | inl o ↦ absurd (let s = rises i m o lm in omega (arith, s, q, b))
            | inr o ↦ absurd (let s : m ≡ i = omega (arith, n, o) in
                let t = ap (slice_index kept) s in omega (arith, t, q, b))
          ]
        ])
  ]

  by_spot : (j : ℕ) → j < length d.points → (s : Spot)
      → IsPlaceOf (half_edges d kept) vs (twice (object d j)) s
      → IsPointPlace d r (λ (i : ℕ). mark_of marks i) l.count at_face j
      (point_place l.mesh.face kept s)
  by_spot j k (place.Cell p lower upper) c =
      let (at_v, f) = cell_number d kept st vs run l faces (twice (object d j)) p lower upper c in
      let z = point (object d j) in
      let Z = place_point (object d j) in
      let at_n = subst (λ (n : ℕ). IsAt r e E (steps_from [] vs) on face z n) f
      (point_at r e half E (steps_from [] vs) on face F (object d j) c.events p at_v) in
      record {
        off = (doubled_off r e half z Z).1
            (point_off (pos 0) e E (steps_from [] vs) on (twice (object d j)) c.events p at_v);
        in_face = lies z (face_over l.mesh.face lower) Z at_n
            (cell_below d kept st vs run l faces (twice (object d j)) p lower upper c);
      }
  by_spot j k (place.OnEdge i) c =
      let m = edge_known i c.known in
      let z = point (object d j) in
      let Z = place_point (object d j) in
      record {
        on = record {
          point_there = k;
          curve_there = known i m;
          on = doubled_curve (curve d (slice_index kept i)) z Z (on_curve i m (doubled z) Z c.on);
          has_side = λ h. absurd
              (not_arc (curve d (slice_index kept i))
              (mend.straights (slice_index kept i) (known i m)) h);
        };
        kept = not_true (mark_of marks (slice_index kept i)) (stays_in i m);
        least = no_lesser j i c;
      }

  first_known : (j : ℕ) → j < length d.points → j < length (half_points d left)
  first_known j k = let n = points_count d left in omega (arith, k, n)

  pub point_in : (j : ℕ) → j < length d.points
      → IsPointPlace d r (λ (i : ℕ). mark_of marks i) l.count at_face j
      (point_place l.mesh.face kept (place_at places j))
  point_in j k =
      by_spot j k (place_at places j)
      (subst (λ (v : Point). IsPlaceOf (half_edges d kept) vs v (place_at places j))
      (object_point d left j k) (located.each j (first_known j k)))

  pub point_below : (j : ℕ) → j < length d.points
      → IsPlaceBelow l.count (point_place l.mesh.face kept (place_at places j))
  point_below j k =
      of_spot (place_at places j)
      (subst (λ (v : Point). IsPlaceOf (half_edges d kept) vs v (place_at places j))
      (object_point d left j k) (located.each j (first_known j k)))
    where
      of_spot : (s : Spot) → IsPlaceOf (half_edges d kept) vs (twice (object d j)) s
          → IsPlaceBelow l.count (point_place l.mesh.face kept s)
      of_spot (place.Cell p lower upper) c =
          cell_below d kept st vs run l faces (twice (object d j)) p lower upper c
      of_spot (place.OnEdge i) c = tt

  -- ---- middles
  goes_out : AreStraightsOut d (rest_plan d kept) (λ (i : ℕ). mark_of marks i)
  goes_out = outs d out kept known stays_in rises whole mend.straights mend.pairs

  middle_free : (i : ℕ) → i < length d.curves → mark_of marks i ≡ true
      → (curve d i).from ≡ (curve d i).to → ⊥
  middle_free i k t = (is_drawn d out kept known stays_in rises whole low high held i k).distinct

  by_middle : (i : ℕ) → i < length d.curves → mark_of marks i ≡ true → (s : Spot)
      → IsPlaceOf (half_edges d kept) vs (sum (curve d i)) s
      → (n : ℕ) × (place_face l.mesh.face s ≡ Some n)
      × IsAt r e E (steps_from [] vs) on face (middle (curve d i)) n
  by_middle i k t (place.Cell p lower upper) c =
      let (at_v, f) = cell_number d kept st vs run l faces (sum (curve d i)) p lower upper c in (
        face_over l.mesh.face lower,
        refl,
        subst (λ (n : ℕ). IsAt r e E (steps_from [] vs) on face (middle (curve d i)) n) f
            (middle_at r e half E (steps_from [] vs) on face F (curve d i) c.events p at_v),
      )
  by_middle i k t (place.OnEdge g) c =
      let v = curve d i in
      let m = edge_known g c.known in
      let S = place_point (sum v) in
      let M = middle_place v in
      let other = curve d (slice_index kept g) in
      let on_m = doubled_curve other (middle v) M
      (on_same (twice_curve other) (point (sum v)) (doubled (middle v)) S M
      (same_sym (doubled (middle v)) (point (sum v)) (middle_there v))
      (on_curve g m (point (sum v)) S c.on)) in
      absurd (inner_off r v (goes_out i k t).0 (goes_out i k t).1 (middle v) M
      (middle_on v (goes_out i k t).0) (middle_inner v (middle_free i k t)) g (fits g m)
      (subst (λ (x : Curve). IsOn x (middle v))
      (sym (rest_curve d out kept known stays_in rises whole g (fits g m))) on_m))

  middle_spot : (m : ℕ) → m < length left
      → (n : ℕ) × (place_face l.mesh.face (place_at places (length d.points + m)) ≡ Some n)
      × IsAt r e E (steps_from [] vs) on face (middle (curve d (slice_index left m))) n
  middle_spot m k =
      let n = points_count d left in
      by_middle (slice_index left m) (parted.left_are.known m k) (parted.left_are.mark_is m k)
      (place_at places (length d.points + m))
      (subst (λ (v : Point). IsPlaceOf (half_edges d kept) vs v
      (place_at places (length d.points + m))) (middle_point d left m k)
      (located.each (length d.points + m) (omega (arith, k, n))))

  -- ---- closed faces and open ones
  module _ (open_marks : List Bool)
      (opened : AreOpenTo l.mesh.face l.count places (length d.points)
      (length places) open_marks) where
    places_count : length places ≡ length d.points + length left
    places_count = located.size ∙ points_count d left

    pub closed_face : (n : ℕ) → n < l.count → mark_of open_marks n ≡ false
        → IsClosed d r (λ (i : ℕ). mark_of marks i) (at_face n)
    closed_face n k f =
        closed_number r e half E (steps_from [] vs) on face F low.x right d out st goes_out
        middle_free (at_face n) n (there_at n k) (number_at n k) (λ i b t.
        let (m, lm, q) = parted.left_are.whole i b t in
        let (c, face_is, at_m) = middle_spot m lm in (
          c,
          subst (λ (x : ℕ). IsAt r e E (steps_from [] vs) on face (middle (curve d x)) c) q at_m,
          λ s.
              not_true (mark_of open_marks n) f
              (opened.opened (length d.points + m) n (omega arith) (let z = places_count in
              omega (arith, lm, z)) (face_is ∙ ap (λ (x : ℕ). Some x) s)),
        ))

    pub open_face : (n : ℕ) → n < l.count → mark_of open_marks n ≡ true
        → IsOpen d r (λ (i : ℕ). mark_of marks i) (at_face n)
    open_face n k t =
        let (j, first, b, face_is) = opened.only n t in
        let z = places_count in
        let m = j - length d.points in
        let lm : m < length left = omega (arith, first, b, z) in
        let s : length d.points + m ≡ j = omega (arith, first) in
        let (c, also, at_m) = middle_spot m lm in
        let q = some_face c n (sym also
        ∙ ap (λ (x : ℕ). place_face l.mesh.face (place_at places x)) s ∙ face_is) in
        open_number r e half E (steps_from [] vs) on face F low.x right d out st goes_out
        middle_free (at_face n) n (slice_index left m) (there_at n k) (number_at n k)
        (parted.left_are.known m lm) (parted.left_are.mark_is m lm)
        (subst (λ (x : ℕ). IsAt r e E (steps_from [] vs) on face
        (middle (curve d (slice_index left m))) x) q at_m)

  -- ---- curves
  module _ (k : ℕ) (lk : k < length kept) where
    abbrev c : Curve
    c = curve (rest_plan d kept) k

    m : k < length (rest_plan d kept).curves
    m = fits k lk

    straight : (curve (rest_plan d kept) k).kind ≡ kind.Straight
    straight = st k m

    curve_is : curve (rest_plan d kept) k ≡ curve d (slice_index kept k)
    curve_is = rest_curve d out kept known stays_in rises whole k m

    whole_straight : (curve d (slice_index kept k)).kind ≡ kind.Straight
    whole_straight = ap (λ (v : Curve). v.kind) (sym curve_is) ∙ straight

    -- between the words of the curve's direction and those of its course
    to_one : (p q : Vector)
        → CrossesCurve d (course (curve (rest_plan d kept) k)) (slice_index kept k) p q
        → CrossesOne d (slice_index kept k) p q
    to_one p q x =
        subst (λ (t : CurveKind). CrossesKind t d (slice_index kept k) p q) (sym whole_straight)
        (subst (λ (v : Curve). CrossesCurve d (course v) (slice_index kept k) p q) curve_is x)

    as_course : (p q : Vector) → CrossesOne (rest_plan d kept) k p q
        → CrossesCurve (rest_plan d kept) (course (curve (rest_plan d kept) k)) k p q
    as_course p q x = subst (λ (t : CurveKind). CrossesKind t r k p q) straight x

    -- each segment that crosses the curve has these faces at its ends
    module _ (a b : ℕ) (a_there : a < l.count) (b_there : b < l.count)
        (any : (p q : Vector)
        → CrossesCurve (rest_plan d kept) (course (curve (rest_plan d kept) k)) k p q
        → IsAt r e E (steps_from [] vs) on face p a
        × IsAt r e E (steps_from [] vs) on face q b) where
      has_faces : (p q : Vector)
          → CrossesCurve (rest_plan d kept) (course (curve (rest_plan d kept) k)) k p q
          → MissesEnds (curve (rest_plan d kept) k) p q
          → HasCurveFaces d r (λ (i : ℕ). mark_of marks i) rest l.count at_face k
          (record { left = a; right = b })
      unfolding rest is_rest
      has_faces p q x miss =
          record {
            left = λ u v w.
                let y = as_course u v w in
                subst (λ (z : Vector). IsInFace r l.count at_face z a)
                (sym (side_left c u v straight)) (lies u a y.p_place (any u v y).0 a_there);
            right = λ u v w.
                let y = as_course u v w in
                subst (λ (z : Vector). IsInFace r l.count at_face z b)
                (sym (side_right c u v straight)) (lies v b y.q_place (any u v y).1 b_there);
            p = p;
            q = q;
            crossing = subst (λ (t : CurveKind). CrossesKind t r k p q) (sym straight) x;
            stays = λ cp cq. to_one p q
                (crossing_stays d r out rest st (course c) k p q m
                (inl (refl, refl)) x goes_out miss cp cq);
          }

    sorted : Before (edge_of (edges_of (half_plan (rest_plan d kept))) k).low
        (edge_of (edges_of (half_plan (rest_plan d kept))) k).high
    sorted = on.run.edges k (fits_half k lk)

    below_over : slice_index l.mesh.face (number (over k)) < l.count
    below_over = below (over k) (fits_half k lk)

    below_under : slice_index l.mesh.face (number (under k)) < l.count
    below_under = below (under k) (fits_half k lk)

    runs_forth : (g : Edge)
        (part : IsHalfEdge g (edge_of (edges_of (half_plan (rest_plan d kept))) k)
        (curve (rest_plan d kept) k))
        → g.low ≡ (curve (rest_plan d kept) k).from → g.high ≡ (curve (rest_plan d kept) k).to
        → Before (curve (rest_plan d kept) k).from (curve (rest_plan d kept) k).to
    runs_forth g part lo hi =
        before_twice c.from c.to
        (subst (λ (v : Point). Before (twice c.from) v) (part.high ∙ ap twice hi)
        (subst (λ (v : Point). Before v (E k).high) (part.low ∙ ap twice lo) sorted))

    runs_back : (g : Edge)
        (part : IsHalfEdge g (edge_of (edges_of (half_plan (rest_plan d kept))) k)
        (curve (rest_plan d kept) k))
        → g.low ≡ (curve (rest_plan d kept) k).to → g.high ≡ (curve (rest_plan d kept) k).from
        → Before (curve (rest_plan d kept) k).from (curve (rest_plan d kept) k).to → ⊥
    runs_back g part lo hi b =
        before_once c.to c.from
        (before_twice c.to c.from
        (subst (λ (v : Point). Before (twice c.to) v) (part.high ∙ ap twice hi)
        (subst (λ (v : Point). Before v (E k).high) (part.low ∙ ap twice lo) sorted))) b

    direction : Before (curve (rest_plan d kept) k).from (curve (rest_plan d kept) k).to
        ⊎ (Before (curve (rest_plan d kept) k).from (curve (rest_plan d kept) k).to → ⊥)
    direction =
        let (g, part) = half_of_edge r e half st E (steps_from [] vs) on face F k m in
        by_part g part part.of
      where
        by_part : (g : Edge)
            (part : IsHalfEdge g (edge_of (edges_of (half_plan (rest_plan d kept))) k)
            (curve (rest_plan d kept) k))
            → IsEdgeOf g (curve (rest_plan d kept) k)
            → Before (curve (rest_plan d kept) k).from (curve (rest_plan d kept) k).to
            ⊎ (Before (curve (rest_plan d kept) k).from (curve (rest_plan d kept) k).to → ⊥)
        by_part g part (inl h) = inl (runs_forth g part h.0 h.1)
        by_part g part (inr h) = inr (runs_back g part h.0 h.1)

    over_number : over_of k ≡ number (over k)
    over_number = omega arith

    under_number : under_of k ≡ number (under k)
    under_number = omega arith

    pub curve_faces : (f : CurveFaces) → AreSidesOf (curve d (slice_index kept k)) l.mesh.face k f
        → HasCurveFaces d r (λ (i : ℕ). mark_of marks i) rest l.count at_face k f
        × (f.left < l.count) × (f.right < l.count)
    curve_faces f sides =
        let (g, part) = half_of_edge r e half st E (steps_from [] vs) on face F k m in
        let (p, q, x) = some_crossing r e half st E (steps_from [] vs) on face F k m g part in
        by_end g part p q x part.of
      where
        own : AreSidesOf (curve (rest_plan d kept) k) l.mesh.face k f
        own = subst (λ (v : Curve). AreSidesOf v l.mesh.face k f) (sym curve_is) sides

        as_faces : (a b : ℕ) → f.left ≡ a → f.right ≡ b → f ≡ record { left = a; right = b }
        as_faces a b s t = λ i. record { left = s i; right = t i }

        done : (a b : ℕ) → f.left ≡ a → f.right ≡ b → a < l.count → b < l.count
            → HasCurveFaces d r (λ (i : ℕ). mark_of marks i) rest l.count at_face k
            (record { left = a; right = b })
            → HasCurveFaces d r (λ (i : ℕ). mark_of marks i) rest l.count at_face k f
            × (f.left < l.count) × (f.right < l.count)
        done a b s t la lb h = (
          subst (λ (v : CurveFaces). HasCurveFaces d r
              (λ (i : ℕ). mark_of marks i) rest l.count at_face k v) (sym (as_faces a b s t)) h,
          omega (arith, s, la),
          omega (arith, t, lb),
        )

        by_end : (g : Edge)
            (part : IsHalfEdge g (edge_of (edges_of (half_plan (rest_plan d kept))) k)
            (curve (rest_plan d kept) k)) (p q : Vector)
            → IsCrossedBy r e E (steps_from [] vs) on face k g p q
            → IsEdgeOf g (curve (rest_plan d kept) k)
            → HasCurveFaces d r (λ (i : ℕ). mark_of marks i) rest l.count at_face k f
            × (f.left < l.count) × (f.right < l.count)
        by_end g part p q x (inl (lo, hi)) =
            let turn = λ (y z : Vector). crosses_forth r g k y z lo hi in
            let along = λ (y z : Vector). crosses_forth r (course c) k y z refl refl in
            let f_is = own.forth (runs_forth g part lo hi) in
            let over = slice_index l.mesh.face (number (over k)) in
            let under = slice_index l.mesh.face (number (under k)) in
            done over under (f_is.0 ∙ ap (slice_index l.mesh.face) over_number) (f_is.1
            ∙ ap (slice_index l.mesh.face) under_number) below_over below_under
            (has_faces over under below_over below_under
            (λ y z w. any_crossing r e half st E (steps_from [] vs) on face F k m g part y z
            ((turn y z).0 ((along y z).1 w)))
            p q ((along p q).0 ((turn p q).1 x.crossing)) x.misses)
        by_end g part p q x (inr (lo, hi)) =
            let turn = λ (y z : Vector). crosses_turned r g k y z lo hi in
            let along = λ (y z : Vector). crosses_forth r (course c) k y z refl refl in
            let f_is = own.back (runs_back g part lo hi) in
            let over = slice_index l.mesh.face (number (over k)) in
            let under = slice_index l.mesh.face (number (under k)) in
            done under over (f_is.0 ∙ ap (slice_index l.mesh.face) under_number) (f_is.1
            ∙ ap (slice_index l.mesh.face) over_number) below_under below_over
            (has_faces under over below_under below_over
            (λ y z w. let s = any_crossing r e half st E
            (steps_from [] vs) on face F k m g part z y ((turn y z).0 ((along y z).1 w)) in
            (s.1, s.0))
            q p ((along q p).0 ((turn q p).1 x.crossing))
            (misses_back c p q x.crossing.p_place x.crossing.q_place x.misses))

    -- one side of the curve has the face over its edge, and one that under it
    pub sides_have : (f : CurveFaces) → AreSidesOf (curve d (slice_index kept k)) l.mesh.face k f
        → ((f.left ≡ slice_index l.mesh.face (number (over k)))
        ⊎ (f.right ≡ slice_index l.mesh.face (number (over k))))
        × ((f.left ≡ slice_index l.mesh.face (number (under k)))
        ⊎ (f.right ≡ slice_index l.mesh.face (number (under k))))
    sides_have f sides = elim direction [
      | inl b ↦ (
          let f_is = (subst (λ (v : Curve). AreSidesOf v l.mesh.face k f)
          (sym curve_is) sides).forth b in (
            inl (f_is.0 ∙ ap (slice_index l.mesh.face) over_number),
            inr (f_is.1 ∙ ap (slice_index l.mesh.face) under_number),
          ))
      | inr b ↦ (
          let f_is = (subst (λ (v : Curve). AreSidesOf v l.mesh.face k f) (sym curve_is) sides).back
          b in (
            inr (f_is.1 ∙ ap (slice_index l.mesh.face) over_number),
            inl (f_is.0 ∙ ap (slice_index l.mesh.face) under_number),
          ))
    ]

  -- ---- all together
  module _ (f : DrawingFaces)
      (opened : AreOpenTo l.mesh.face l.count places (length d.points) (length places) f.open.items)
      (points : f.points.items ≡ map (point_place l.mesh.face kept) (take (length d.points) places))
      (curves : AreCurveFacesTo d.curves kept l.mesh.face (length kept) f.curves.items) where
    point_size : length d.points ≤ length places
    point_size = let z = located.size in let n = points_count d left in omega (arith, z, n)

    nth_point : (j : ℕ) → j < length d.points
        → slice_index_or f.points.items j (InFace 0)
        ≡ point_place l.mesh.face kept (place_at places j)
    nth_point j k =
        let n = length-take-le (length d.points) places point_size in
        ap (λ (ps : List PointPlace). slice_index_or ps j (InFace 0)) points
        ∙ get_or-map (point_place l.mesh.face kept) (take (length d.points) places) j no_place
        (InFace 0) (omega (arith, k, n))
        ∙ ap (point_place l.mesh.face kept) (get_or-take (length d.points) places j no_place k)

    points_size : length f.points.items ≡ length d.points
    points_size =
        ap length points ∙ length-map (take (length d.points) places) (point_place l.mesh.face kept)
        ∙ length-take-le (length d.points) places point_size

    curve_in : (i : ℕ) → i < length d.curves
        → AreCurveFaces d r (λ (i : ℕ). mark_of marks i) rest l.count at_face i
        (sides_at f.curves.items i) × AreFacesBelow l.count (sides_at f.curves.items i)
    unfolding rest is_rest
    curve_in i k = elim (by_mark i) [
      | inl t ↦ (
          let none = curves.none i
          (λ n ln q. not_true (mark_of marks (slice_index kept n)) (stays_in n ln)
          (ap (λ (x : ℕ). mark_of marks x) q ∙ t)) in
          subst (λ (v : Option CurveFaces). AreCurveFaces d r
          (λ (i : ℕ). mark_of marks i) rest l.count at_face i v × AreFacesBelow l.count v)
          (sym none) (t, tt))
      | inr h ↦ (
          let (n, ln, q) = whole i k h in
          let (g, g_is, sides) = curves.each n ln in
          let (faces_are, lo, hi) = curve_faces n ln g sides in
          subst (λ (v : Option CurveFaces). AreCurveFaces d r
          (λ (i : ℕ). mark_of marks i) rest l.count at_face i v × AreFacesBelow l.count v)
          (sym (ap (sides_at f.curves.items) (sym q) ∙ g_is))
          ((not_true (mark_of marks i) h, (n, fits n ln, q, faces_are)), (lo, hi)))
    ]

    -- each half of an edge has its face beside its curve
    beside : (h : Half) → half_edge_of h < length kept
        → HasCurveBeside f (slice_index l.mesh.face (number h))
    beside (over n) k =
        let (g, g_is, sides) = curves.each n k in
        record {
          i = slice_index kept n;
          there = (let z = curves.size in let b = known n k in omega (arith, z, b));
          faces = g;
          is = g_is;
          on = (sides_have n k g sides).0;
        }
    beside (under n) k =
        let (g, g_is, sides) = curves.each n k in
        record {
          i = slice_index kept n;
          there = (let z = curves.size in let b = known n k in omega (arith, z, b));
          faces = g;
          is = g_is;
          on = (sides_have n k g sides).1;
        }

    pub bounded : (n : ℕ) → n < l.count → (n ≡ 0 → ⊥) → HasCurveBeside f n
    bounded zero k free = absurd (free refl)
    bounded (suc n) k free =
        let (h, there, q) = used (suc n) (omega arith) k in
        subst (λ (x : ℕ). HasCurveBeside f x) q
        (beside h (let z = curves_count d kept st vs run in omega (arith, there, z)))

    pub sizes : HasSizes d f
    sizes = record { points = points_size; curves = curves.size }

    pub numbered : IsNumbered f
    numbered = record {
      some = subst (λ (n : ℕ). 0 < n) (sym opened.size) faces.some;
      points = λ j k.
          let b : j < length d.points = (let z = points_size in omega (arith, k, z)) in
          subst (λ (n : ℕ). IsPlaceBelow n (slice_index_or f.points.items j (InFace 0)))
          (sym opened.size)
          (subst (IsPlaceBelow l.count) (sym (nth_point j b)) (point_below j b));
      curves = λ i k. subst (λ (n : ℕ). AreFacesBelow n (sides_at f.curves.items i))
          (sym opened.size) (curve_in i (let z = curves.size in omega (arith, k, z))).1;
    }

    none_out : (k : ℕ) → k < length (rest_plan d kept).curves
        → mark_of marks (rest.number k) ≡ true → ⊥
    unfolding rest is_rest
    none_out k b =
        not_true (mark_of marks (slice_index kept k))
        (stays_in k (inside d out kept known stays_in rises whole k b))

    drawing_faces : AreDrawingFaces d r (λ (i : ℕ). mark_of marks i) rest f
    drawing_faces =
        let n = opened.size in
        record {
          at = at_face;
          none_out = none_out;
          places = subst (λ (n : ℕ). AreFacePlaces r n at_face) (sym n) face_places;
          closed = λ i k q. closed_face f.open.items opened i (omega (arith, k, n)) q;
          broken = λ i k q. open_face f.open.items opened i (omega (arith, k, n)) q;
          point_count = points_size;
          points = λ j k. subst
              (λ (n : ℕ). IsPointPlace d r (λ (i : ℕ). mark_of marks i) n at_face j
              (slice_index_or f.points.items j (InFace 0))) (sym n)
              (subst (IsPointPlace d r (λ (i : ℕ). mark_of marks i) l.count at_face j)
              (sym (nth_point j k)) (point_in j k));
          curve_count = curves.size;
          sides = λ i k free. bounded i (omega (arith, k, n)) free;
          curves = λ i k. subst
              (λ (n : ℕ). AreCurveFaces d r (λ (i : ℕ). mark_of marks i) rest n at_face i
              (sides_at f.curves.items i)) (sym n) (curve_in i k).0;
        }

    pub has_all : HasFaces d (mark_of marks) f
    has_all = (r, rest, drawing_faces)
