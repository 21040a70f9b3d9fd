-- The face numbers of places of the rest, by a run over it in half units: they tell which places
-- are joined and outer, each number is that of some place, and whether a face is closed.
use Rattle.std.proofs.Common.{◌≡◌, ◌↔◌, Bool, true, ℕ, zero, suc, ◌<◌, List, length, ℤ, pos, arith}
use Rattle.std.proofs.Common.{refl, inl, inr, sym, ◌∙◌, subst}
use Rattle.std.proofs.lemmas.Bool.{cases_lt}
use Rattle.plane.specs.declared.kinds.Curve.{Curve}
use Rattle.plane.specs.declared.kinds.CurveKind.TheVariants as kind
use Rattle.plane.specs.declared.kinds.Edge.{Edge}
use Rattle.plane.specs.declared.kinds.Point.{Point}
use Rattle.plane.specs.Faces.Cells.{position}
use Rattle.plane.specs.Faces.Classes.{IsFaces, face_of}
use Rattle.plane.specs.Faces.DrawnRuns.{IsRunOf, drawn}
use Rattle.plane.specs.Faces.Halves.{Half, edge_of, over, under}
use Rattle.plane.specs.Faces.PlacedPoints.{IsLocated}
use Rattle.plane.specs.Faces.RestRuns.{sum}
use Rattle.plane.specs.Rule.Doubled.{IsDoubled, doubled, halved, twice}
use Rattle.plane.specs.Rule.LeftOut.{AreStraightsOut, IsClosed, IsOpen, middle}
use Rattle.plane.specs.Rule.Partition.{IsOff, Joined, IsOuter}
use Rattle.plane.specs.Rule.Places.{Vector, Place, point}
use Rattle.plane.specs.Rule.Plans.{Plan, curve}
use Rattle.plane.specs.Runs.Steps.{Step}
use Rattle.plane.proofs.Covers.SamePlace.{same_sym}
use Rattle.plane.proofs.FaceLemmas.PlaceSides.{place_side}
use Rattle.plane.proofs.FaceLemmas.PointCells.{point_off}
use Rattle.plane.proofs.FaceLemmas.PointFaces.{some_inner_crossing}
use Rattle.plane.proofs.FewerCurves.Middles.{closed_by_middles, middle_opens, middle_place}
use Rattle.plane.proofs.FewerCurves.Paths.{joined_back, joined_self, joined_through, joined_to}
use Rattle.plane.proofs.HalfUnits.DoubledForms.{halved_place, there_and_back}
use Rattle.plane.proofs.HalfUnits.DoubledPaths.{doubled_joined, doubled_off, doubled_outer}
use Rattle.plane.proofs.HalfUnits.DoubledPaths.{halved_off}
use Rattle.plane.proofs.HalfUnits.RestFaces.{middle_there}
use Rattle.plane.proofs.Linear.EdgePlaces.{place_point}
use Rattle.area_faults.proofs.LeftPlaces.{IsRightOf, left_outer, left_place, left_place_off}
use Rattle.area_faults.proofs.LeftPlaces.{left_there, outer_along, outer_joined}
use Rattle.area_faults.proofs.PlaceNumbers.{HasNumber, above_number, below_number, number_outer}
use Rattle.area_faults.proofs.PlaceNumbers.{numbers_joined, point_number}

-- A place of the rest has a number: 0 where it is outer, and that of a place in half units to which
-- it is joined there.
pub data IsAt (r e : Plan) (E : ℕ → Edge) (steps : List Step) (on : IsRunOf e E steps) (face : Half
    → ℕ) (z : Vector) (n : ℕ) : Type 0 where
  far : n ≡ 0 → IsOuter r z → IsAt r e E steps on face z n
  near : (y : Vector) → Place y → IsOff e y → HasNumber e E steps on face y n
      → Joined e (doubled z) y → IsAt r e E steps on face z n

module _ (r e : Plan) (half : IsDoubled r e) (E : ℕ → Edge) (steps : List Step)
    (on : IsRunOf e E steps) (face : Half → ℕ)
    (faces : IsFaces (drawn (pos 0) e E steps) face) where
  abbrev At : Vector → ℕ → Type 0
  At z n = IsAt r e E steps on face z n

  pub at_outer : (z : Vector) (n : ℕ) → Place z → IsAt r e E steps on face z n
      → IsOuter r z ↔ (n ≡ 0)
  at_outer z n Z (far q o) = ((λ x. q), (λ x. o))
  at_outer z n Z (near y Y off h j) =
      let f = doubled_outer r e half z Z in
      let g = number_outer e E steps on face faces y n Y off h in (
        (λ o. g.0 (outer_along e y (doubled z) Y Z (joined_back e (doubled z) y Z Y j) (f.0 o))),
        (λ q. f.1 (outer_along e (doubled z) y Z Y j (g.1 q))),
      )

  -- a place whose double is joined to a place with a number
  pub point_at : (a : Point) (k i : ℕ) → IsLocated (drawn (pos 0) e E steps) (twice a) k i
      → IsAt r e E steps on face (point a) (face_of (drawn (pos 0) e E steps) face (position k i))
  point_at a k i at_a =
      let off = point_off (pos 0) e E steps on (twice a) k i at_a in
      near (point (twice a)) (place_point (twice a)) off
      (point_number e E steps on face faces (twice a) k i at_a)
      (joined_self e (point (twice a)) (place_point (twice a)) off)

  pub middle_at : (c : Curve) (k i : ℕ) → IsLocated (drawn (pos 0) e E steps) (sum c) k i
      → IsAt r e E steps on face (middle c) (face_of (drawn (pos 0) e E steps) face (position k i))
  middle_at c k i at_c =
      let y = point (sum c) in
      let Y = place_point (sum c) in
      let m = doubled (middle c) in
      let M : Place m = middle_place c in
      let off = point_off (pos 0) e E steps on (sum c) k i at_c in
      near y Y off (point_number e E steps on face faces (sum c) k i at_c)
      (joined_back e y m Y M
      (joined_to e y y m Y Y M (same_sym m y (middle_there c)) (joined_self e y Y off)))

  pub halved_at : (y : Vector) (n : ℕ) → Place y → IsOff e y → HasNumber e E steps on face y n
      → IsAt r e E steps on face (halved y) n
  halved_at y n Y off h =
      let m = doubled (halved y) in
      let M : Place m = halved_place y Y in
      near y Y off h
      (joined_back e y m Y M
      (joined_to e y y m Y Y M (same_sym m y (there_and_back y)) (joined_self e y Y off)))

  -- ---- each side has a place with its number
  pub side_place : (h : Half) → edge_of h < length e.curves
      → (z : Vector) × Place z × IsOff r z × IsAt r e E steps on face z (face h)
  side_place (over i) l =
      let (p, q, x, miss) = some_inner_crossing (pos 0) e E steps on i l in (
        halved p,
        halved_place p x.p_place,
        halved_off r e half p x.p_off,
        halved_at p (face (over i)) x.p_place x.p_off
            (above_number e E steps on face faces i p q l x),
      )
  side_place (under i) l =
      let (p, q, x, miss) = some_inner_crossing (pos 0) e E steps on i l in (
        halved q,
        halved_place q x.q_place,
        halved_off r e half q x.q_off,
        halved_at q (face (under i)) x.q_place x.q_off
            (below_number e E steps on face faces i p q l x),
      )

  module _ (l : ℤ) (right : IsRightOf l r) where
    pub at_joined : (z w : Vector) (m n : ℕ) → Place z → Place w → IsAt r e E steps on face z m
        → IsAt r e E steps on face w n → Joined r z w ↔ (m ≡ n)
    at_joined z w m n Z W (far q o) k =
        let f = at_outer w n W k in (
          (λ j. q ∙ sym (f.0 (outer_along r w z W Z (joined_back r z w Z W j) o))),
          (λ s. outer_joined l r right z w Z W o (f.1 (sym s ∙ q))),
        )
    at_joined z w m n Z W (near y Y off h j) (far q o) =
        let f = at_outer z m Z (near y Y off h j) in (
          (λ i. f.0 (outer_along r z w Z W i o) ∙ sym q),
          (λ s. outer_joined l r right z w Z W (f.1 (s ∙ q)) o),
        )
    at_joined z w m n Z W (near y Y off h j) (near v V free k i) =
        let f = doubled_joined r e half z w Z W in
        let g = numbers_joined e E steps on face faces y v m n Y V off free h k in (
          (λ x. g.0 (joined_through e y (doubled z) v Y Z (joined_back e (doubled z) y Z Y j)
              (joined_through e (doubled z) (doubled w) v Z W (f.0 x) i))),
          (λ s. f.1 (joined_through e (doubled z) y (doubled w) Z Y j
              (joined_through e y v (doubled w) Y V (g.1 s) (joined_back e (doubled w) v W V i)))),
        )

    -- ---- the numbers below a count
    module _ (count : ℕ) (some : 0 < count) (below : (h : Half) → edge_of h < length e.curves
        → face h < count)
        (used : (n : ℕ) → 0 < n → n < count
        → (h : Half) × (edge_of h < length e.curves) × (face h ≡ n)) where
      pub each_at : (z : Vector) → Place z → IsOff r z
          → (n : ℕ) × (n < count) × IsAt r e E steps on face z n
      each_at z Z off =
          elim (place_side (pos 0) e E steps on (doubled z) Z ((doubled_off r e half z Z).0 off)) [
            | inl o ↦ (0, some, far refl ((doubled_outer r e half z Z).1 o))
            | inr b ↦ elim b.joined [
              | inl j ↦ (
                face (over b.i),
                below (over b.i) b.there,
                near b.p b.crossing.p_place b.crossing.p_off
                    (above_number e E steps on face faces b.i b.p b.q b.there b.crossing) j,
              )
              | inr j ↦ (
                face (under b.i),
                below (under b.i) b.there,
                near b.q b.crossing.q_place b.crossing.q_off
                    (below_number e E steps on face faces b.i b.p b.q b.there b.crossing) j,
              )
            ]
          ]

      -- a place in the face of each number
      chosen : (n : ℕ)
          → (z : Vector) × (n < count → Place z × IsOff r z × IsAt r e E steps on face z n)
      chosen zero = (
        left_place l r right,
        λ k. (left_there l r right, left_place_off l r right, far refl (left_outer l r right)),
      )
      chosen (suc n) = elim (cases_lt (suc n) count) [
        | inl k ↦ (let (h, there, q) = used (suc n) (omega arith) k in
            let (z, Z, off, at_z) = side_place h there in
            (z, λ c. (Z, off, subst (λ (m : ℕ). IsAt r e E steps on face z m) q at_z)))
        | inr k ↦ (left_place l r right, λ c. absurd (omega (arith, k, c)))
      ]

      pub face_place : ℕ → Vector
      face_place n = (chosen n).0

      pub place_there : (n : ℕ) → n < count → Place (face_place n)
      unfolding face_place
      place_there n k = ((chosen n).1 k).0

      pub place_off : (n : ℕ) → n < count → IsOff r (face_place n)
      unfolding face_place
      place_off n k = ((chosen n).1 k).1

      pub place_at : (n : ℕ) → n < count → IsAt r e E steps on face (face_place n) n
      unfolding face_place
      place_at n k = ((chosen n).1 k).2

      pub place_once : (m n : ℕ) → m < count → n < count → Joined r (face_place m) (face_place n)
          → m ≡ n
      place_once m n k i j =
          (at_joined (face_place m) (face_place n) m n (place_there m k) (place_there n i)
          (place_at m k) (place_at n i)).0 j

      pub place_outer : (n : ℕ) → n < count → IsOuter r (face_place n) ↔ (n ≡ 0)
      place_outer n k = at_outer (face_place n) n (place_there n k) (place_at n k)

      -- a place lies in the face of its number
      pub in_face : (z : Vector) (n : ℕ) → Place z → IsAt r e E steps on face z n → n < count
          → Joined r z (face_place n)
      in_face z n Z at_z k =
          (at_joined z (face_place n) n n Z (place_there n k) at_z (place_at n k)).1 refl

      pub place_all : (z : Vector) → Place z → IsOff r z
          → (n : ℕ) × (n < count) × Joined r z (face_place n)
      place_all z Z off = let (n, k, at_z) = each_at z Z off in (n, k, in_face z n Z at_z k)

    -- ---- closed faces
    module _ (d : Plan) (out : ℕ → Bool) (straights : (k : ℕ) → k < length r.curves
        → (curve r k).kind ≡ kind.Straight) (outs : AreStraightsOut d r out)
        (wide : (i : ℕ) → i < length d.curves → out i ≡ true → (curve d i).from ≡ (curve d i).to
        → ⊥) where
      pub closed_number : (z : Vector) (n : ℕ) → Place z → IsAt r e E steps on face z n
          → ((i : ℕ) → i < length d.curves → out i ≡ true
          → (m : ℕ) × IsAt r e E steps on face (middle (curve d i)) m × (m ≡ n → ⊥))
          → IsClosed d r out z
      closed_number z n Z at_z none =
          (closed_by_middles d r out straights outs wide z Z).1
          (λ i k left j. let (m, at_m, differ) = none i k left in
          differ (sym ((at_joined z (middle (curve d i)) n m Z
          (middle_place (curve d i)) at_z at_m).0 j)))

      pub open_number : (z : Vector) (n i : ℕ) → Place z → IsAt r e E steps on face z n
          → i < length d.curves → out i ≡ true → IsAt r e E steps on face (middle (curve d i)) n
          → IsOpen d r out z
      open_number z n i Z at_z k left at_m =
          middle_opens d r out straights outs wide z i Z k left
          ((at_joined z (middle (curve d i)) n n Z (middle_place (curve d i)) at_z at_m).1 refl)
