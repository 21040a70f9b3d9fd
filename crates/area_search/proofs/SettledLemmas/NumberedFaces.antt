-- The faces of a settled drawing by numbers: of its points, and beside its curves.
use Rattle.std.proofs.Common.{◌≡◌, ◌⊎◌, ℕ, zero, suc, ◌<◌, Bool, true, false, Some, None, List, []}
use Rattle.std.proofs.Common.{◌∷◌}
use Rattle.std.proofs.Common.{map, length, get_or, slice_index, slice_index_or, refl, sym, ap}
use Rattle.std.proofs.Common.{subst}
use Rattle.std.proofs.Common.{◌∙◌, arith, replicate}
use Rattle.std.proofs.lemmas.List.{length-map}
use Rattle.fault_lists.specs.DrawingFaces.{AreCurveFaces, AreFacePlaces, AreFacesBelow, HasFaces}
use Rattle.fault_lists.specs.DrawingFaces.{HasCurveFaces}
use Rattle.fault_lists.specs.DrawingFaces.{IsInFace, IsNumbered, IsPlaceBelow, IsPointPlace}
use Rattle.fault_lists.specs.DrawingFaces.{face_count, faces_of, place_of}
use Rattle.fault_lists.specs.declared.faces.DrawingFaces.{DrawingFaces}
use Rattle.fault_lists.specs.declared.faces.PointPlace.{PointPlace}
use Rattle.fault_lists.specs.declared.faces.PointPlace.TheVariants.{InFace, OnCurve}
use Rattle.half_edges.specs.HalfEdges.{HalfEdges}
use Rattle.plane.specs.Faces.Halves.{Half}
use Rattle.plane.specs.Rule.Partition.{IsOff}
use Rattle.plane.specs.Rule.Places.{Place, Vector, point}
use Rattle.plane.specs.Rule.Plans.{IsHalfArc, Plan, curve, object}
use Rattle.plane.specs.Runs.Moves.{Move, steps_from}
use Rattle.plane.specs.declared.kinds.Edge.{Edge}
use Rattle.plane.specs.declared.kinds.Point.{Point}
use Rattle.tubes.specs.Settled.{edge_at, edges_at}
use Rattle.tubes.specs.TubedEdges.{drawn_bays}
use Rattle.tubes.specs.declared.kinds.Facing.{Facing}
use Rattle.tubes.specs.declared.kinds.Owner.{Owner}
use Rattle.area_search.specs.declared.settled.case.Spot.{Spot}
use Rattle.area_search.specs.declared.settled.case.Spot.TheVariants as spot
use Rattle.area_search.specs.declared.settled.case_sides.Beside.{Beside}
use Rattle.area_search.specs.Settled.Cases.{AreSpots, HasRunFaces, IsCase, IsOffCurves, IsSpot}
use Rattle.area_search.specs.Settled.Cases.{spot_at, spot_face}
use Rattle.area_search.specs.Settled.CaseSides.{AreBeside, beside_at}
use Rattle.area_search.specs.Settled.FaceNumbers.{AreFaceNumbers, HaveFaces, curve_faces}
use Rattle.area_search.specs.Settled.FaceNumbers.{faces_met, point_place}
use Rattle.area_search.proofs.SettledLemmas.CaseCurves.{AreFirstOfArc}
use Rattle.area_search.proofs.SettledLemmas.CaseSpots.{off_spot, on_arc_side}
use Rattle.area_search.proofs.SettledLemmas.FacePlaces.{Face, crossed, face_met}
use Rattle.area_search.proofs.SettledLemmas.FacesBeside.{besides_known}
use Rattle.area_search.proofs.SettledLemmas.NumberedPlaces as numbers
use Rattle.area_search.proofs.SettledLemmas.NumberedPlaces.{never_out, none, rest}
use Rattle.area_search.proofs.SettledLemmas.RunFaces.{face_in}
use Rattle.area_search.proofs.SettledLemmas.RunPlaces as places
use Rattle.area_search.proofs.SettledLemmas.RunPlaces.{a_place}
use Rattle.area_search.proofs.SettledLemmas.SpotFaces.{spot_has_face}

nth_place : (f : Spot → PointPlace) (ss : List Spot) (j : ℕ) → j < length ss
    → slice_index_or (map f ss) j (InFace 0) ≡ f (spot_at ss j)
nth_place f [] j l = absurd (omega (arith, l))
nth_place f (s ∷ ss) zero l = refl
nth_place f (s ∷ ss) (suc j) l = nth_place f ss j (omega (arith, l))

all_false : (n k : ℕ) → slice_index_or (replicate n false) k false ≡ false
all_false zero k = refl
all_false (suc n) zero = refl
all_false (suc n) (suc k) = all_false n k

pub replicate_length : (n : ℕ) → length (replicate n false) ≡ n
replicate_length zero = refl
replicate_length (suc n) = ap suc (replicate_length n)

-- no face is open
pub none_open : (n : ℕ) (opened : List Bool) → opened ≡ replicate n false → (k : ℕ)
    → slice_index_or opened k false ≡ false
none_open n opened e k =
    ap (λ (bs : List Bool). slice_index_or bs k false) e ∙ all_false n k

module _ (d : Plan) (level : ℕ) (edges : List Edge) (owners : List Owner) (facings : List Facing)
    (vs : List Move) (is : IsCase d level edges owners facings vs) (mesh : HalfEdges) (n : ℕ)
    (f : HasRunFaces d level vs mesh n)
    (chains : (i : ℕ) → IsHalfArc d i → AreFirstOfArc d level i) (besides : List Beside)
    (are : AreBeside d level mesh.face (length d.curves) besides) (names : List ℕ) (count : ℕ)
    (size : length names ≡ n) (named : AreFaceNumbers (faces_met besides) names count) where
  abbrev m : ℕ
  m = length (edges_at d (λ n. level))

  abbrev E : ℕ → Edge
  E = edge_at d (λ n. level)

  abbrev face : Half → ℕ
  face = face_in mesh.face

  abbrev HasNumber : Vector → ℕ → Type 0
  HasNumber z k = Face d level edges owners facings vs is mesh n f chains besides are z k

  abbrev far_point : Point
  far_point =
      places.far d (drawn_bays d (λ n. level)) m E (steps_from [] vs) is.settled.run is.settled.wide
      is.settled.settled face f.faces

  abbrev far : Vector
  far = point far_point

  far_off : IsOff d far
  far_off =
      places.point_off d (drawn_bays d (λ n. level)) m E (steps_from [] vs) is.settled.run
      is.settled.wide is.settled.settled face f.faces far_point 0
      (places.far_face d (drawn_bays d (λ n. level)) m E (steps_from [] vs) is.settled.run
      is.settled.wide is.settled.settled face f.faces)

  far_number : HasNumber far 0
  far_number =
      places.far_number d (drawn_bays d (λ n. level)) m E (steps_from [] vs) is.settled.run
      is.settled.wide is.settled.settled face f.faces

  -- what the laws of places say of this drawing
  abbrev at : ℕ → Vector
  at =
      numbers.at d n f.some besides are.size
      (besides_known d level edges owners facings vs is mesh n f chains besides are) HasNumber
      (places.numbered d (drawn_bays d (λ n. level)) m E (steps_from [] vs) is.settled.run
      is.settled.wide is.settled.settled face f.faces)
      (places.joined_is d (drawn_bays d (λ n. level)) m E (steps_from [] vs) is.settled.run
      is.settled.wide is.settled.settled face f.faces)
      (places.outer_is d (drawn_bays d (λ n. level)) m E (steps_from [] vs) is.settled.run
      is.settled.wide is.settled.settled face f.faces)
      (face_met d level edges owners facings vs is mesh n f chains besides are) far
      (a_place far_point)
      far_off far_number (crossed d level edges owners facings vs is mesh n f chains besides are)
      names count size named

  face_places : AreFacePlaces d count at
  face_places =
      numbers.places d n f.some besides are.size
      (besides_known d level edges owners facings vs is mesh n f chains besides are) HasNumber
      (places.numbered d (drawn_bays d (λ n. level)) m E (steps_from [] vs) is.settled.run
      is.settled.wide is.settled.settled face f.faces)
      (places.joined_is d (drawn_bays d (λ n. level)) m E (steps_from [] vs) is.settled.run
      is.settled.wide is.settled.settled face f.faces)
      (places.outer_is d (drawn_bays d (λ n. level)) m E (steps_from [] vs) is.settled.run
      is.settled.wide is.settled.settled face f.faces)
      (face_met d level edges owners facings vs is mesh n f chains besides are) far
      (a_place far_point)
      far_off far_number (crossed d level edges owners facings vs is mesh n f chains besides are)
      names count size named

  place_in : (z : Vector) → Place z → IsOff d z → (g : ℕ) → HasNumber z g
      → IsInFace d count at z (slice_index names g)
  place_in =
      numbers.place_in d n f.some besides are.size
      (besides_known d level edges owners facings vs is mesh n f chains besides are) HasNumber
      (places.numbered d (drawn_bays d (λ n. level)) m E (steps_from [] vs) is.settled.run
      is.settled.wide is.settled.settled face f.faces)
      (places.joined_is d (drawn_bays d (λ n. level)) m E (steps_from [] vs) is.settled.run
      is.settled.wide is.settled.settled face f.faces)
      (places.outer_is d (drawn_bays d (λ n. level)) m E (steps_from [] vs) is.settled.run
      is.settled.wide is.settled.settled face f.faces)
      (face_met d level edges owners facings vs is mesh n f chains besides are) far
      (a_place far_point)
      far_off far_number (crossed d level edges owners facings vs is mesh n f chains besides are)
      names count size named

  curve_is : (i : ℕ) → i < length d.curves
      → HasCurveFaces d d none (rest d) count at i
      (curve_faces (curve d i) (beside_at besides i) names)
  curve_is i l =
      numbers.curve_is d n f.some besides are.size
      (besides_known d level edges owners facings vs is mesh n f chains besides are) HasNumber
      (places.numbered d (drawn_bays d (λ n. level)) m E (steps_from [] vs) is.settled.run
      is.settled.wide is.settled.settled face f.faces)
      (places.joined_is d (drawn_bays d (λ n. level)) m E (steps_from [] vs) is.settled.run
      is.settled.wide is.settled.settled face f.faces)
      (places.outer_is d (drawn_bays d (λ n. level)) m E (steps_from [] vs) is.settled.run
      is.settled.wide is.settled.settled face f.faces)
      (face_met d level edges owners facings vs is mesh n f chains besides are) far
      (a_place far_point)
      far_off far_number (crossed d level edges owners facings vs is mesh n f chains besides are)
      names count size named i l

  abbrev on_side : ℕ → Type 0
  on_side k =
      (i : ℕ) × (i < length d.curves)
      × (((curve_faces (curve d i) (beside_at besides i) names).left ≡ k)
      ⊎ ((curve_faces (curve d i) (beside_at besides i) names).right ≡ k))

  side_of : (k : ℕ) → k < count → (k ≡ 0 → ⊥) → on_side k
  side_of k l inner =
      let s = numbers.number_on_side d n f.some besides are.size
      (besides_known d level edges owners facings vs is mesh n f chains besides are) HasNumber
      (places.numbered d (drawn_bays d (λ n. level)) m E (steps_from [] vs) is.settled.run
      is.settled.wide is.settled.settled face f.faces)
      (places.joined_is d (drawn_bays d (λ n. level)) m E (steps_from [] vs) is.settled.run
      is.settled.wide is.settled.settled face f.faces)
      (places.outer_is d (drawn_bays d (λ n. level)) m E (steps_from [] vs) is.settled.run
      is.settled.wide is.settled.settled face f.faces)
      (face_met d level edges owners facings vs is mesh n f chains besides are) far
      (a_place far_point)
      far_off far_number (crossed d level edges owners facings vs is mesh n f chains besides are)
      names count size named k l inner in
      (s.index, s.fits, s.on)

  -- ---- points
  point_in : (j : ℕ) → j < length d.points → (s : Spot) → IsSpot d level vs (object d j) s
      → IsOffCurves s
      → IsInFace d count at (point (object d j)) (slice_index names (spot_face d level mesh.face s))
  point_in j l s h o =
      place_in (point (object d j)) (a_place (object d j))
      (off_spot d level edges owners facings vs is (object d j) s h o)
      (spot_face d level mesh.face s)
      (places.object_number d (drawn_bays d (λ n. level)) m E (steps_from [] vs) is.settled.run
      is.settled.wide is.settled.settled face f.faces j l (spot_face d level mesh.face s)
      (spot_has_face d level edges owners facings vs is mesh.face (object d j) s h o))

  point_is : (j : ℕ) → j < length d.points → (s : Spot) → IsSpot d level vs (object d j) s
      → IsPointPlace d d none count at j (point_place d level mesh.face names s)
  point_is j l (spot.On c) h = record {
    on = record {
      point_there = l;
      curve_there = h.there;
      on = h.on;
      has_side = λ b. on_arc_side d level edges owners facings vs is (object d j) c
          (record { there = h.there; kind = b }) h.on;
    };
    kept = never_out;
    least = λ k o kept q. h.least k o q.on;
  }
  point_is j l (spot.InTube c b) h = record {
    off = off_spot d level edges owners facings vs is (object d j) (spot.InTube c b) h tt;
    in_face = point_in j l (spot.InTube c b) h tt;
  }
  point_is j l (spot.Cell i lo up) h = record {
    off = off_spot d level edges owners facings vs is (object d j) (spot.Cell i lo up) h tt;
    in_face = point_in j l (spot.Cell i lo up) h tt;
  }

  point_below : (p : PointPlace) (j : ℕ) → IsPointPlace d d none count at j p
      → IsPlaceBelow count p
  point_below (OnCurve c) j h = tt
  point_below (InFace k) j h = h.in_face.there

  -- ---- all of it
  module _ (spots : List Spot) (placed : AreSpots d level vs spots) (g : DrawingFaces)
      (opened : length g.open.items ≡ count)
      (closed : (k : ℕ) → slice_index_or g.open.items k false ≡ false)
      (points_are : g.points.items ≡ map (point_place d level mesh.face names) spots)
      (curves_are : HaveFaces d.curves besides names (length d.curves) g.curves.items) where
    moved : (P : ℕ → Type 0) → P count → P (face_count g)
    moved P h = subst P (sym opened) h

    points_size : length g.points.items ≡ length d.points
    points_size =
        ap length points_are ∙ length-map spots (point_place d level mesh.face names) ∙ placed.size

    its_point : (j : ℕ) → j < length d.points → IsPointPlace d d none count at j (place_of g j)
    its_point j l =
        subst (IsPointPlace d d none count at j)
        (sym (ap (λ (ps : List PointPlace). slice_index_or ps j (InFace 0)) points_are
        ∙ nth_place (point_place d level mesh.face names) spots j
        (let e = placed.size in omega (arith, l, e))))
        (point_is j l (spot_at spots j) (placed.each j l))

    its_curve : (i : ℕ) → i < length d.curves
        → AreCurveFaces d d none (rest d) count at i (faces_of g i)
    its_curve i l =
        subst (AreCurveFaces d d none (rest d) count at i) (sym (curves_are.each i l))
        (never_out, (i, l, refl, curve_is i l))

    pub drawing_faces : HasFaces d none g
    drawing_faces = (
      d,
      rest d,
      record {
        at = at;
        none_out = λ k l o. absurd (never_out o);
        places = moved (λ (k : ℕ). AreFacePlaces d k at) face_places;
        closed = λ k l e i m o. absurd (never_out o);
        broken = λ k l e. absurd (never_out (sym (closed k) ∙ e));
        point_count = points_size;
        points = λ j l. moved (λ (k : ℕ). IsPointPlace d d none k at j (place_of g j))
            (its_point j l);
        curve_count = curves_are.size;
        curves = λ i l. moved (λ (k : ℕ). AreCurveFaces d d none (rest d) k at i (faces_of g i))
            (its_curve i l);
        sides = λ k l inner.
            let (i, m, o) = side_of k (omega (arith, l, opened)) inner in
            record {
              i = i;
              there = (let e = curves_are.size in omega (arith, m, e));
              faces = curve_faces (curve d i) (beside_at besides i) names;
              is = curves_are.each i m;
              on = o;
            };
      },
    )

    pub faces_numbered : IsNumbered g
    faces_numbered = record {
      some = moved (λ (k : ℕ). 0 < k) named.some;
      points = λ j l. moved (λ (k : ℕ). IsPlaceBelow k (place_of g j))
          (point_below (place_of g j) j (its_point j (omega (arith, l, points_size))));
      curves = λ i l. moved (λ (k : ℕ). AreFacesBelow k (faces_of g i))
          (let m : i < length d.curves = (let e = curves_are.size in omega (arith, l, e)) in
          let c = curve_is i m in
          subst (AreFacesBelow count) (sym (curves_are.each i m))
          ((c.left c.p c.q c.crossing).there, (c.right c.p c.q c.crossing).there));
    }
