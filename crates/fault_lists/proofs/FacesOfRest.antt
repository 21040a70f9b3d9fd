-- What the numbers of faces say of places, points and sides.
use Rattle.std.proofs.Common.{◌≡◌, ◌⊎◌, inl, inr, ℕ, ◌<◌, Bool, true, false, Some, List, length}
use Rattle.std.proofs.Common.{pos, ◌<ℤ◌, ◌≤ℤ◌, refl, sym, subst, ap, ◌∙◌, arith}
use Rattle.std.proofs.lemmas.Bool.{cases_Bool}
use Rattle.plane.specs.CurveRuns.TubedRuns.{third_is_left}
use Rattle.plane.specs.declared.kinds.Curve.{Curve}
use Rattle.plane.specs.declared.kinds.CurveKind.{CurveKind}
use Rattle.plane.specs.declared.kinds.CurveKind.TheVariants as kind
use Rattle.plane.specs.declared.kinds.Placed.{Placed}
use Rattle.plane.specs.Rule.Cuts.{CrossesKind, CrossesOne}
use Rattle.plane.specs.Rule.Curves.{arc, Hits, IsOn}
use Rattle.plane.specs.Rule.HalfArcs.{bow, HitsHalfArc, power}
use Rattle.plane.specs.Rule.LeftOut.{IsClosed, IsOpen, IsRestOf}
use Rattle.plane.specs.Rule.Partition.{IsOff, Joined, IsOuter}
use Rattle.plane.specs.Rule.Places.{Vector, Place, point}
use Rattle.plane.specs.Rule.Plans.{Plan, curve, object}
use Rattle.plane.specs.Rule.Straights.{turn}
use Rattle.plane.proofs.FewerCurves.ClosedFaces.{closed_along, closed_is_not_open}
use Rattle.plane.proofs.FewerCurves.Paths.{joined_back, joined_through}
use Rattle.plane.proofs.FewerCurves.Rests.{fewer_off}
use Rattle.fault_lists.specs.declared.faces.CurveFaces.{CurveFaces}
use Rattle.fault_lists.specs.declared.faces.DrawingFaces.{DrawingFaces}
use Rattle.fault_lists.specs.declared.faces.PointPlace.{PointPlace}
use Rattle.fault_lists.specs.declared.faces.PointPlace.TheVariants.{InFace, OnCurve}
use Rattle.fault_lists.specs.declared.kinds.SideAt.{SideAt}
use Rattle.fault_lists.specs.DrawingFaces.{AreCurveFaces, AreDrawingFaces, HasCurveFaces, IsInFace}
use Rattle.fault_lists.specs.DrawingFaces.{IsLeastOn, IsPointInFace, IsPointPlace, face_count}
use Rattle.fault_lists.specs.DrawingFaces.{faces_of, is_open, place_of}
use Rattle.fault_lists.specs.FaceLists.{face_beside, IsIn, IsLeastSide, IsSide}
use Rattle.fault_lists.specs.FaultLists.{IsBeside}
use Rattle.fault_lists.specs.Sides.{end_on, is_first_kind, is_inward, side_end}
use Rattle.fault_lists.proofs.Least.{least_side, same_least}

-- ---- the two ends of a segment that crosses a curve
pub ends_off : (k : CurveKind) (d : Plan) (i : ℕ) (p q : Vector) → CrossesKind k d i p q
    → Place p × Place q × IsOff d p × IsOff d q
ends_off kind.Straight d i p q x = (x.p_place, x.q_place, x.p_off, x.q_off)
ends_off kind.HalfArc d i p q x = (x.p_place, x.q_place, x.p_off, x.q_off)

-- they are those on the left and on the right, in this order or in the other
pub by_sides : (c : Curve) (p q : Vector) (R : Vector → Vector → Type 0) → R p q → R q p
    → R (side_end c true p q) (side_end c false p q)
by_sides c p q R a b = by_kind c.kind
  where
    by_third : (t : Bool) → R (end_on (is_inward t true) p q) (end_on (is_inward t false) p q)
    by_third true = a
    by_third false = b

    by_kind : (k : CurveKind)
        → R (end_on (is_first_kind k c true) p q) (end_on (is_first_kind k c false) p q)
    by_kind kind.Straight = a
    by_kind kind.HalfArc = by_third (third_is_left c)

pub by_ends : (c : Curve) (p q : Vector) (P : Vector → Type 0) → P (side_end c true p q)
    → P (side_end c false p q) → P p × P q
by_ends c p q P a b = by_kind c.kind a b
  where
    by_third : (t : Bool) → P (end_on (is_inward t true) p q) → P (end_on (is_inward t false) p q)
        → P p × P q
    by_third true x y = (x, y)
    by_third false x y = (y, x)

    by_kind : (k : CurveKind) → P (end_on (is_first_kind k c true) p q)
        → P (end_on (is_first_kind k c false) p q) → P p × P q
    by_kind kind.Straight x y = (x, y)
    by_kind kind.HalfArc x y = by_third (third_is_left c) x y

on_side : (b : Bool) (p q : Vector) → Place p → Place q → Place (end_on b p q)
on_side true p q P Q = P
on_side false p q P Q = Q

-- ---- outer places
pub outer_along : (r : Plan) (p q : Vector) → Place p → Place q → Joined r p q → IsOuter r q
    → IsOuter r p
outer_along r p q P Q j h b = let (s, S, k, l) = h b in (s, S, joined_through r p q s P Q j k, l)

module _ (d r : Plan) (out : ℕ → Bool) (rest : IsRestOf d r out) where
  same_curve : (i k : ℕ) → k < length r.curves → rest.number k ≡ i → curve d i ≡ curve r k
  same_curve i k l e = ap (λ (n : ℕ). curve d n) (sym e) ∙ rest.is k l

  pub same_object : (j : ℕ) → object r j ≡ object d j
  same_object j = ap (λ (ps : List Placed). object (record d { points = ps }) j) rest.points

  pub same_count : length r.points ≡ length d.points
  same_count = ap (λ (ps : List Placed). length ps) rest.points

  -- what crosses a curve of the drawing crosses it in the rest
  pub fewer_crosses : (k : ℕ) (p q : Vector) → k < length r.curves
      → CrossesOne d (rest.number k) p q → CrossesOne r k p q
  fewer_crosses k p q l x =
      subst (λ t. CrossesKind t r k p q) (ap (λ (c : Curve). c.kind) e) (by_kind (curve d i).kind x)
    where
      i : ℕ
      i = rest.number k

      e : curve d i ≡ curve r k
      e = rest.is k l

      other : (j : ℕ) → j < length r.curves → (j ≡ k → ⊥)
          → ((n : ℕ) → n < length d.curves → (n ≡ i → ⊥) → Hits (curve d n) p q → ⊥)
          → Hits (curve r j) p q → ⊥
      other j m ne clear hit =
          clear (rest.number j) (rest.there j m) (λ s. ne (rest.once j k m l s))
          (subst (λ (c : Curve). Hits c p q) (sym (rest.is j m)) hit)

      by_kind : (t : CurveKind) → CrossesKind t d i p q → CrossesKind t r k p q
      by_kind kind.Straight y = record {
        p_place = y.p_place;
        q_place = y.q_place;
        p_off = fewer_off d r out rest p y.p_off;
        q_off = fewer_off d r out rest q y.q_off;
        above = subst (λ (c : Curve). pos 0 <ℤ turn (point c.from) (point c.to) p) e y.above;
        below = subst (λ (c : Curve). turn (point c.from) (point c.to) q <ℤ pos 0) e y.below;
        hits = subst (λ (c : Curve). Hits c p q) e y.hits;
        clear = λ j m ne. other j m ne y.clear;
      }
      by_kind kind.HalfArc y = record {
        p_place = y.p_place;
        q_place = y.q_place;
        p_off = fewer_off d r out rest p y.p_off;
        q_off = fewer_off d r out rest q y.q_off;
        p_away = subst (λ (c : Curve). pos 0 ≤ℤ bow (arc c) p) e y.p_away;
        q_away = subst (λ (c : Curve). pos 0 ≤ℤ bow (arc c) q) e y.q_away;
        inside = subst (λ (c : Curve). power (arc c) p <ℤ pos 0) e y.inside;
        outside = subst (λ (c : Curve). pos 0 <ℤ power (arc c) q) e y.outside;
        hits = subst (λ (c : Curve). HitsHalfArc (arc c) p q) e y.hits;
        clear = λ j m ne. other j m ne y.clear;
      }

  module _ (f : DrawingFaces) (D : AreDrawingFaces d r out rest f) where
    -- The place is in the face of that number.
    abbrev pub In : Vector → ℕ → Type 0
    In z n = IsInFace r (face_count f) D.at z n

    place : (n : ℕ) → n < face_count f → Place (D.at n)
    place n l = D.places.place n l

    -- ---- places of one face
    pub face_of : (z : Vector) → Place z → IsOff r z → (n : ℕ) × In z n
    face_of z Z off = let (n, l, j) = D.places.all z Z off in (n, record { there = l; joined = j })

    pub in_one : (p q : Vector) (n : ℕ) → Place p → Place q → In p n → In q n → Joined r p q
    in_one p q n P Q h k =
        joined_through r p (D.at n) q P (place n h.there) h.joined
        (joined_back r q (D.at n) Q (place n h.there) k.joined)

    pub one_number : (p q : Vector) (m n : ℕ) → Place p → Place q → In p m → In q n → Joined r p q
        → m ≡ n
    one_number p q m n P Q h k j =
        D.places.once m n h.there k.there
        (joined_through r (D.at m) p (D.at n) (place m h.there) P
        (joined_back r p (D.at m) P (place m h.there) h.joined)
        (joined_through r p q (D.at n) P Q j k.joined))

    back_at : (z : Vector) (n : ℕ) → Place z → In z n → Joined r (D.at n) z
    back_at z n Z h = joined_back r z (D.at n) Z (place n h.there) h.joined

    -- ---- the outer face, open and closed faces
    pub outer_number : (z : Vector) (n : ℕ) → Place z → In z n → IsOuter r z → n ≡ 0
    outer_number z n Z h o =
        (D.places.outer n h.there).0
        (outer_along r (D.at n) z (place n h.there) Z (back_at z n Z h) o)

    pub number_outer : (z : Vector) (n : ℕ) → Place z → In z n → n ≡ 0 → IsOuter r z
    number_outer z n Z h e =
        outer_along r z (D.at n) Z (place n h.there) h.joined ((D.places.outer n h.there).1 e)

    pub number_closed : (z : Vector) (n : ℕ) → Place z → In z n → is_open f n ≡ false
        → IsClosed d r out z
    number_closed z n Z h e =
        closed_along d r out (D.at n) z (place n h.there) Z (D.closed n h.there e) (back_at z n Z h)

    pub number_open : (z : Vector) (n : ℕ) → Place z → In z n → is_open f n ≡ true
        → IsOpen d r out z
    number_open z n Z h e =
        let o = D.broken n h.there e in
        record {
          i = o.i;
          there = o.there;
          left_out = o.left_out;
          q = o.q;
          s = o.s;
          q_place = o.q_place;
          s_place = o.s_place;
          joined = joined_through r z (D.at n) o.q Z (place n h.there) h.joined o.joined;
          off = o.off;
          clear = o.clear;
          hits = o.hits;
        }

    pub closed_number : (z : Vector) (n : ℕ) → Place z → In z n → IsClosed d r out z
        → is_open f n ≡ false
    closed_number z n Z h c =
        elim (cases_Bool (is_open f n)) [
          | inl t ↦ absurd
              ((closed_is_not_open d r out z).0 c (number_open z n Z h t))
          | inr e ↦ e
        ]

    -- ---- points
    not_on : (j i : ℕ) → IsLeastOn d out j i → IsOff r (point (object d j)) → ⊥
    not_on j i h off = elim (rest.whole i h.on.curve_there) [
      | inl left ↦ h.kept left
      | inr kept ↦ off kept.0 kept.1
          (subst (λ (c : Curve). IsOn c (point (object d j)))
          (same_curve i kept.0 kept.1 kept.2) h.on.on)
    ]

    -- a point that is off the rest is in a face
    pub point_face : (j : ℕ) → j < length d.points → IsOff r (point (object d j))
        → (n : ℕ) × IsIn f j n × In (point (object d j)) n
    point_face j l off = by (place_of f j) refl (D.points j l)
      where
        by : (o : PointPlace) → place_of f j ≡ o → IsPointPlace d r out (face_count f) D.at j o
            → (n : ℕ) × IsIn f j n × In (point (object d j)) n
        by (OnCurve i) e h = absurd (not_on j i h off)
        by (InFace n) e h = (
          n,
          record {
            there = let c = D.point_count in omega (arith, l, c);
            in_face = e;
          },
          h.in_face,
        )

    pub face_point : (j n : ℕ) → IsIn f j n → (j < length d.points) × In (point (object d j)) n
    face_point j n h =
        let l : j < length d.points = let c = D.point_count in
        let t = h.there in omega (arith, c, t) in
        let p : IsPointInFace d r (face_count f) D.at j n = subst
        (λ o. IsPointPlace d r out (face_count f) D.at j o) h.in_face (D.points j l) in
        (l, p.in_face)

    -- ---- sides
    -- A curve's number in the rest, and the faces on its sides.
    pub record HasNumber (i : ℕ) (c : CurveFaces) : Type 0 where
      pub k : ℕ
      pub there : k < length r.curves
      pub is : rest.number k ≡ i
      pub faces : HasCurveFaces d r out rest (face_count f) D.at k c

    pub curve_number : (i : ℕ) (c : CurveFaces) → i < length f.curves.items → faces_of f i ≡ Some c
        → HasNumber i c
    curve_number i c l e =
        let m : i < length d.curves = let n = D.curve_count in omega (arith, l, n) in
        let (kept, (k, t, is, h)) = subst
        (λ o. AreCurveFaces d r out rest (face_count f) D.at i o) e (D.curves i m) in
        record { k = k; there = t; is = is; faces = h }

    -- The end of a crossing segment on that side is in the face.
    pub record HasEnd (n : ℕ) (s : SideAt) : Type 0 where
      pub k : ℕ
      pub there : k < length r.curves
      pub is : rest.number k ≡ s.curve
      pub p : Vector
      pub q : Vector
      pub crossing : CrossesOne r k p q
      pub place : Place (side_end (curve r k) s.left p q)
      pub in_face : In (side_end (curve r k) s.left p q) n

    side_in : (b : Bool) (c : CurveFaces) (k n : ℕ) (p q : Vector)
        → In (side_end (curve r k) true p q) c.left → In (side_end (curve r k) false p q) c.right
        → face_beside b c ≡ n → In (side_end (curve r k) b p q) n
    side_in true c k n p q h g e = subst (λ m. In (side_end (curve r k) true p q) m) e h
    side_in false c k n p q h g e = subst (λ m. In (side_end (curve r k) false p q) m) e g

    pub side_has_end : (n : ℕ) (s : SideAt) → IsSide f n s → HasEnd n s
    side_has_end n s h =
        let c = curve_number s.curve h.faces h.there h.is in
        let x = c.faces.crossing in
        let (P, Q, p_off, q_off) = ends_off (curve r c.k).kind r c.k c.faces.p c.faces.q x in
        record {
          k = c.k;
          there = c.there;
          is = c.is;
          p = c.faces.p;
          q = c.faces.q;
          crossing = x;
          place = on_side (is_first_kind (curve r c.k).kind (curve r c.k) s.left) c.faces.p
              c.faces.q P Q;
          in_face = side_in s.left h.faces c.k n c.faces.p c.faces.q
              (c.faces.left c.faces.p c.faces.q x) (c.faces.right c.faces.p c.faces.q x) h.on;
        }

    pub is_beside : (n : ℕ) (s : SideAt) (z : Vector) → Place z → In z n → IsSide f n s
        → IsBeside d r out rest s z
    is_beside n s z Z h side =
        let e = side_has_end n s side in
        record {
          k = e.k;
          there = e.there;
          is = e.is;
          p = e.p;
          q = e.q;
          crossing = e.crossing;
          joined = in_one z (side_end (curve r e.k) s.left e.p e.q) n Z e.place h e.in_face;
        }

    -- the places beside a side of a face are in it
    pub beside_in : (n : ℕ) (s : SideAt) (z : Vector) → Place z → IsSide f n s
        → IsBeside d r out rest s z → In z n
    beside_in n s z Z side b =
        let c = curve_number s.curve side.faces side.there side.is in
        let e : c.k ≡ b.k = rest.once c.k b.k c.there b.there (c.is ∙ sym b.is) in
        let h : HasCurveFaces d r out rest (face_count f) D.at b.k side.faces = subst
        (λ k. HasCurveFaces d r out rest (face_count f) D.at k side.faces) e c.faces in
        let (P, Q, p_off, q_off) = ends_off (curve r b.k).kind r b.k b.p b.q b.crossing in
        let end = side_end (curve r b.k) s.left b.p b.q in
        let E : Place end = on_side (is_first_kind (curve r b.k).kind (curve r b.k) s.left) b.p b.q
        P Q in
        let i : In end n = side_in s.left side.faces b.k n b.p b.q (h.left b.p b.q b.crossing)
        (h.right b.p b.q b.crossing) side.on in
        record { there = i.there; joined = joined_through r z end (D.at n) Z E b.joined i.joined }

    -- two least sides of faces that hold one place are equal
    pub one_least : (m n : ℕ) (s o : SideAt) (z : Vector) → Place z → IsLeastSide f m s
        → IsLeastSide f n o → IsBeside d r out rest s z → IsBeside d r out rest o z → s ≡ o
    one_least m n s o z Z h k b c =
        let i = beside_in m s z Z h.side b in
        let j = beside_in n o z Z k.side c in
        let e : m ≡ n = one_number z z m n Z Z i j (in_one z z m Z Z i i) in
        same_least f n s o (subst (λ l. IsLeastSide f l s) e h) k

    -- each bounded face has a least side
    pub face_side : (n : ℕ) → n < face_count f → (n ≡ 0 → ⊥) → (s : SideAt) × IsLeastSide f n s
    face_side n l ne = by (D.sides n l ne).on
      where
        i : ℕ
        i = (D.sides n l ne).i

        c : CurveFaces
        c = (D.sides n l ne).faces

        by : (c.left ≡ n) ⊎ (c.right ≡ n) → (s : SideAt) × IsLeastSide f n s
        by (inl e) =
            least_side f n (record { curve = i; left = true })
            (record { there = (D.sides n l ne).there; faces = c; is = (D.sides n l ne).is; on = e })
        by (inr e) =
            least_side f n (record { curve = i; left = false })
            (record { there = (D.sides n l ne).there; faces = c; is = (D.sides n l ne).is; on = e })
