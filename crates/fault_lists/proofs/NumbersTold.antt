-- What the numbers of the faces of a drawing tell is what is at fault in its faces.
use Rattle.std.proofs.Common.{◌≡◌, ◌⊎◌, inl, inr, ℕ, ◌<◌, Bool, true, false, Option, Some, None}
use Rattle.std.proofs.Common.{length, refl, sym, subst, ◌∙◌, arith, List, [], ◌∷◌, map, ap}
use Rattle.std.specs.List.{Contains}
use Rattle.std.specs.List.Sorted.{IsStrictlyIncreasing}
use Rattle.std.proofs.lemmas.Bool.{cases_Bool, cases_lt}
use Rattle.plane.specs.Rule.CrossedCurves.{IsLost}
use Rattle.plane.specs.Rule.Cuts.{CrossesOne, IsCut}
use Rattle.plane.specs.Rule.LeftOut.{IsClosed, IsOpen, IsRestOf}
use Rattle.plane.specs.Rule.Partition.{IsOff, Joined, IsOuter}
use Rattle.plane.specs.Rule.Places.{Vector, Place, point}
use Rattle.plane.specs.Rule.Plans.{Plan, curve, object}
use Rattle.plane.proofs.FewerCurves.ClosedFaces.{closed_is_not_open, stays_joined, stays_lost}
use Rattle.plane.proofs.FewerCurves.ClosedFaces.{stays_outer}
use Rattle.plane.proofs.FewerCurves.Paths.{joined_back, joined_off}
use Rattle.plane.proofs.FewerCurves.Rests.{fewer_joined, fewer_off, fewer_outer}
use Rattle.plane.proofs.Linear.EdgePlaces.{place_point}
use Rattle.fault_lists.specs.declared.faces.CurveFaces.{CurveFaces}
use Rattle.fault_lists.specs.declared.faces.DrawingFaces.{DrawingFaces}
use Rattle.fault_lists.specs.declared.kinds.FaceFaults.{FaceFaults}
use Rattle.fault_lists.specs.declared.kinds.PointPair.{PointPair}
use Rattle.fault_lists.specs.declared.kinds.SideAt.{SideAt}
use Rattle.fault_lists.specs.DrawingFaces.{AreCurveFaces, AreDrawingFaces, face_count, faces_of}
use Rattle.fault_lists.specs.DrawingFaces.{is_open}
use Rattle.fault_lists.specs.FaceLists.{AreFaceFaults, ArePair, IsEmptyFace, IsIn, IsJudged}
use Rattle.fault_lists.specs.Faults.{AreTwo, LiesOutside}
use Rattle.fault_lists.specs.FaultLists.{AreFaultsOver, AreInOrder, AreOfClosed, AreToldTwo}
use Rattle.fault_lists.specs.FaultLists.{HasFacesOnce, IsBeside, IsSharedBy, IsToldOpen}
use Rattle.fault_lists.specs.Sides.{side_end}
use Rattle.fault_lists.specs.Telling.{IsFirst}
use Rattle.fault_lists.proofs.FacesOfRest as faces
use Rattle.fault_lists.proofs.FacesOfRest.{by_ends, by_sides, ends_off, fewer_crosses, same_count}
use Rattle.fault_lists.proofs.FacesOfRest.{same_object}
use Rattle.fault_lists.proofs.Least.{equal_or_not, first_point}
use Rattle.fault_lists.proofs.Told.{first_off, outer_off}

module _ (d r : Plan) (out : ℕ → Bool) (rest : IsRestOf d r out) (f : DrawingFaces) (t : FaceFaults)
    (D : AreDrawingFaces d r out rest f) (T : AreFaceFaults f t) where
  abbrev In : Vector → ℕ → Type 0
  In z n = faces.In d r out rest f D z n

  -- the place of an object's point
  abbrev at : ℕ → Vector
  at j = point (object d j)

  at_place : (j : ℕ) → Place (at j)
  at_place j = place_point (object d j)

  -- ---- outer, open and closed faces
  outer_or_not : (z : Vector) → Place z → IsOff r z → IsOuter r z ⊎ (IsOuter r z → ⊥)
  outer_or_not z Z off =
      let (n, h) = faces.face_of d r out rest f D z Z off in
      elim (equal_or_not n 0) [
        | inl e ↦ inl (faces.number_outer d r out rest f D z n Z h e)
        | inr ne ↦ inr (λ o. ne (faces.outer_number d r out rest f D z n Z h o))
      ]

  told_open : (z : Vector) (n : ℕ) → Place z → In z n → is_open f n ≡ true
      → IsToldOpen d r out rest t z
  told_open z n Z h e = elim (equal_or_not n 0) [
    | inl s ↦ inl (
      faces.number_outer d r out rest f D z n Z h s,
      T.outer_open
          ∙ subst (λ m. is_open f m ≡ true) s e,
    )
    | inr ne ↦
        let (s, l) = faces.face_side d r out rest f D n h.there ne in
        inr (
          s,
          (T.broken.is s).1 (record {
            n = n;
            is = record { bounded = ne; broken = e };
            side = l;
          }),
          faces.is_beside d r out rest f D n s z Z h l.side,
        )
  ]

  closed_or_told : (z : Vector) → Place z → IsOff r z
      → IsClosed d r out z ⊎ IsToldOpen d r out rest t z
  closed_or_told z Z off =
      let (n, h) = faces.face_of d r out rest f D z Z off in
      elim (cases_Bool (is_open f n)) [
        | inl e ↦ inr (told_open z n Z h e)
        | inr e ↦ inl (faces.number_closed d r out rest f D z n Z h e)
      ]

  open_is_open : (s : SideAt) → Contains t.open.items s
      → (z : Vector) × Place z × IsBeside d r out rest s z × IsOpen d r out z
  open_is_open s c =
      let b = (T.broken.is s).0 c in
      let e = faces.side_has_end d r out rest f D b.n s b.side.side in
      let z = side_end (curve r e.k) s.left e.p e.q in (
        z,
        e.place,
        faces.is_beside d r out rest f D b.n s z e.place e.in_face b.side.side,
        faces.number_open d r out rest f D z b.n e.place e.in_face b.is.broken,
      )

  outer_is_open : t.outer_open ≡ true → (z : Vector) × Place z × IsOuter r z × IsOpen d r out z
  outer_is_open e =
      let l = D.places.some in
      (D.at 0, D.places.place 0 l, (D.places.outer 0 l).1 refl, D.broken 0 l (sym T.outer_open ∙ e))

  outer_all : t.outer_open ≡ true → (z : Vector) → Place z → IsOuter r z → IsOpen d r out z
  outer_all e z Z o =
      let (n, h) = faces.face_of d r out rest f D z Z (outer_off r z Z o) in
      let zero = faces.outer_number d r out rest f D z n Z h o in
      faces.number_open d r out rest f D z n Z h
      (subst (λ m. is_open f m ≡ true) (sym zero) (sym T.outer_open ∙ e))

  open_inner : (s : SideAt) (z : Vector) → Contains t.open.items s → Place z
      → IsBeside d r out rest s z → IsOuter r z → ⊥
  open_inner s z c Z b o =
      let e = (T.broken.is s).0 c in
      let h = faces.beside_in d r out rest f D e.n s z Z e.side.side b in
      e.is.bounded (faces.outer_number d r out rest f D z e.n Z h o)

  open_once : HasFacesOnce d r out rest t.open.items
  open_once s o z c e Z =
      let h = (T.broken.is s).0 c in
      let k = (T.broken.is o).0 e in
      faces.one_least d r out rest f D h.n k.n s o z Z h.side k.side

  -- ---- points outside
  outside_is : (j : ℕ) → Contains t.outside.items j → LiesOutside d j
  outside_is j c =
      let o = (T.outside.is j).0 c in
      let (l, h) = faces.face_point d r out rest f D j 0 o.in_outer in
      record {
        there = l;
        outer = (stays_outer d r out rest (at j) (at_place j)
            (faces.number_closed d r out rest f D (at j) 0 (at_place j) h o.closed)).1
            (faces.number_outer d r out rest f D (at j) 0 (at_place j) h refl);
      }

  outside : (j : ℕ) → LiesOutside d j → t.outer_open ≡ false → Contains t.outside.items j
  outside j h closed =
      let off = fewer_off d r out rest (at j) (outer_off d (at j) (at_place j) h.outer) in
      let (n, i, k) = faces.point_face d r out rest f D j h.there off in
      let e = faces.outer_number d r out rest f D (at j) n (at_place j) k
      (fewer_outer d r out rest (at j) (at_place j) h.outer) in
      (T.outside.is j).1 (record {
        in_outer = subst (λ m. IsIn f j m) e i;
        closed = sym T.outer_open ∙ closed;
      })

  -- ---- points in one face
  shared_are : (p : PointPair) → Contains t.shared.items p → AreTwo d p.first p.second
  shared_are p c =
      let a = (T.shared.is p).0 c in
      let (l, h) = faces.face_point d r out rest f D p.first a.n a.first in
      let (m, k) = faces.face_point d r out rest f D p.second a.n a.second in
      let closed = faces.number_closed d r out rest f D (at p.first) a.n
      (at_place p.first) h a.judged.closed in
      let one = faces.in_one d r out rest f D (at p.first) (at p.second) a.n (at_place p.first)
      (at_place p.second) h k in
      record {
        order = a.order;
        there = m;
        joined = (stays_joined d r out rest (at p.first) (at p.second)
            (at_place p.first) closed).1 one;
      }

  shared_least : (p : PointPair) (k : ℕ) → Contains t.shared.items p → AreTwo d k p.first → ⊥
  shared_least p k c two =
      let a = (T.shared.is p).0 c in
      let l : k < length d.points = let m = two.order in let b = two.there in omega (arith, m, b) in
      let joined = fewer_joined d r out rest (at k) (at p.first) (at_place k) two.joined in
      let off = fewer_off d r out rest (at k)
      (first_off d (at k) (at p.first) (at_place k) two.joined) in
      let (n, i, h) = faces.point_face d r out rest f D k l off in
      let (m, g) = faces.face_point d r out rest f D p.first a.n a.first in
      let e : n ≡ a.n = faces.one_number d r out rest f D (at k) (at p.first) n a.n (at_place k)
      (at_place p.first) h g joined in
      a.least k two.order (subst (λ s. IsIn f k s) e i)

  shared_by : (n k j : ℕ) → IsJudged f n → IsFirst f n k → IsIn f j n → k < j → IsSharedBy t k j
  shared_by n k j judged first i l =
      let is : ArePair f (record { first = k; second = j }) = record {
        n = n;
        judged = judged;
        first = first.in_face;
        second = i;
        order = l;
        least = first.least;
      } in
      record {
        pair = record { first = k; second = j };
        told = (T.shared.is (record { first = k; second = j })).1 is;
        is_first = refl;
        is_second = refl;
      }

  told_two : (n i j : ℕ) → IsJudged f n → IsIn f i n → IsIn f j n → i < j → AreToldTwo t i j
  told_two n i j judged a b l =
      let (k, first) = first_point f n i a in
      elim (cases_lt k i) [
        | inl m ↦ inr (
          k,
          shared_by n k i judged first a m,
          shared_by n k j judged first b (omega (arith, l, m)),
        )
        | inr m ↦ elim (cases_lt i k) [
          | inl less ↦ absurd (first.least i less a)
          | inr more ↦ (let e : k ≡ i = omega (arith, m, more) in
              inl (shared_by n i j judged (subst (λ h. IsFirst f n h) e first) b l))
        ]
      ]

  shared : (i j : ℕ) → AreTwo d i j → IsClosed d r out (at i) → (IsOuter r (at i) → ⊥)
      → AreToldTwo t i j
  shared i j two closed inner =
      let l : i < length d.points = let a = two.order in let b = two.there in omega (arith, a, b) in
      let joined = fewer_joined d r out rest (at i) (at j) (at_place i) two.joined in
      let i_off = fewer_off d r out rest (at i)
      (first_off d (at i) (at j) (at_place i) two.joined) in
      let j_off = joined_off r (at i) (at j) (at_place i) (at_place j) joined in
      let (n, a, h) = faces.point_face d r out rest f D i l i_off in
      let (m, b, k) = faces.point_face d r out rest f D j two.there j_off in
      let e : n ≡ m = faces.one_number d r out rest f D (at i) (at j) n m (at_place i)
      (at_place j) h k joined in
      let judged : IsJudged f n = record {
        bounded = λ s. inner
            (faces.number_outer d r out rest f D (at i) n (at_place i) h s);
        closed = faces.closed_number d r out rest f D (at i) n (at_place i) h closed;
      } in
      told_two n i j judged a (subst (λ s. IsIn f j s) (sym e) b) two.order

  -- ---- closed faces without a point
  lost_in : (n : ℕ) (z : Vector) → Place z → In z n → IsEmptyFace f n → IsLost r z
  lost_in n z Z h is =
      record {
        inner = λ o. is.judged.bounded (faces.outer_number d r out rest f D z n Z h o);
        alone = alone;
      }
    where
      alone : (j : ℕ) → j < length r.points → Joined r z (point (object r j)) → ⊥
      alone j l k =
          let m : j < length d.points = subst (λ c. j < c) (same_count d r out rest) l in
          let joined : Joined r z (at j) = subst (λ p. Joined r z (point p))
          (same_object d r out rest j) k in
          let off = joined_off r z (at j) Z (at_place j) joined in
          let (c, i, g) = faces.point_face d r out rest f D j m off in
          let same = faces.one_number d r out rest f D z (at j) n c Z (at_place j) h g joined in
          is.none j (subst (λ s. IsIn f j s) (sym same) i)

  empty_is : (s : SideAt) → Contains t.empty.items s
      → (z : Vector) × Place z × IsBeside d r out rest s z × IsLost d z
  empty_is s c =
      let b = (T.empty.is s).0 c in
      let e = faces.side_has_end d r out rest f D b.n s b.side.side in
      let z = side_end (curve r e.k) s.left e.p e.q in
      let closed = faces.number_closed d r out rest f D z b.n e.place e.in_face
      b.is.judged.closed in (
        z,
        e.place,
        faces.is_beside d r out rest f D b.n s z e.place e.in_face b.side.side,
        (stays_lost d r out rest z e.place closed).1 (lost_in b.n z e.place e.in_face b.is),
      )

  empty_once : HasFacesOnce d r out rest t.empty.items
  empty_once s o z c e Z =
      let h = (T.empty.is s).0 c in
      let k = (T.empty.is o).0 e in
      faces.one_least d r out rest f D h.n k.n s o z Z h.side k.side

  empty : (z : Vector) → Place z → IsOff d z → IsLost d z → IsClosed d r out z
      → (s : SideAt) × Contains t.empty.items s × IsBeside d r out rest s z
  empty z Z off lost closed =
      let (n, h) = faces.face_of d r out rest f D z Z (fewer_off d r out rest z off) in
      let bounded : n ≡ 0
      → ⊥ = λ e. lost.inner
      ((stays_outer d r out rest z Z closed).1
      (faces.number_outer d r out rest f D z n Z h e)) in
      let none : (j : ℕ) → IsIn f j n
      → ⊥ = λ j i. let (l, k) = faces.face_point d r out rest f D j n i in
      lost.alone j l
      ((stays_joined d r out rest z (at j) Z closed).1
      (faces.in_one d r out rest f D z (at j) n Z (at_place j) h k)) in
      let (s, l) = faces.face_side d r out rest f D n h.there bounded in (
        s,
        (T.empty.is s).1 (record {
          n = n;
          is = record {
            judged = record {
              bounded = bounded;
              closed = faces.closed_number d r out rest f D z n Z h closed;
            };
            none = none;
          };
          side = l;
        }),
        faces.is_beside d r out rest f D n s z Z h l.side,
      )

  -- ---- curves with one face on both sides
  cut_is : (i : ℕ) → Contains t.cuts.items i → IsCut d i
  cut_is i c =
      let o = (T.cuts.is i).0 c in
      let m = faces.curve_number d r out rest f D i o.faces o.there o.is in
      let p = m.faces.p in
      let q = m.faces.q in
      let n = o.faces.left in
      let (P, Q, p_off, q_off) = ends_off (curve r m.k).kind r m.k p q m.faces.crossing in
      let left : In (side_end (curve r m.k) true p q) n = m.faces.left p q m.faces.crossing in
      let right : In (side_end (curve r m.k) false p q) n = subst
      (λ k. In (side_end (curve r m.k) false p q) k) (sym o.one)
      (m.faces.right p q m.faces.crossing) in
      let (h, k) = by_ends (curve r m.k) p q (λ v. In v n) left right in
      let p_closed = faces.number_closed d r out rest f D p n P h o.closed in
      let q_closed = faces.number_closed d r out rest f D q n Q k o.closed in
      let crossing : CrossesOne d i p q = subst (λ s. CrossesOne d s p q) m.is
      (m.faces.stays p_closed q_closed) in
      let joined = (stays_joined d r out rest p q P p_closed).1
      (faces.in_one d r out rest f D p q n P Q h k) in
      record { p = p; q = q; crossing = crossing; one = inl joined }

  -- Two places of closed faces are joined or are both outer.
  record AreOne (u v : Vector) : Type 0 where
    first : Place u
    second : Place v
    closed : IsClosed d r out u
    one : Joined r u v ⊎ (IsOuter r u × IsOuter r v)

  one_is : (u v : Vector) (m n : ℕ) → AreOne u v → In u m → In v n → m ≡ n
  one_is u v m n a h k = elim a.one [
    | inl j ↦ faces.one_number d r out rest f D u v m n a.first a.second h k j
    | inr o ↦ faces.outer_number d r out rest f D u m a.first h o.0
        ∙ sym (faces.outer_number d r out rest f D v n a.second k o.1)
  ]

  cuts : (i : ℕ) (c : IsCut d i) → i < length d.curves → (out i ≡ true → ⊥) → IsClosed d r out c.p
      → IsClosed d r out c.q → Contains t.cuts.items i
  cuts i c l kept p_closed q_closed = by (faces_of f i) refl
    where
      there : i < length f.curves.items
      there = let n = D.curve_count in omega (arith, l, n)

      P : Place c.p × Place c.q × IsOff d c.p × IsOff d c.q
      P = ends_off (curve d i).kind d i c.p c.q c.crossing

      one : Joined r c.p c.q ⊎ (IsOuter r c.p × IsOuter r c.q)
      one = elim c.one [
        | inl j ↦ inl (fewer_joined d r out rest c.p c.q P.0 j)
        | inr o ↦ inr (
          fewer_outer d r out rest c.p P.0 o.0,
          fewer_outer d r out rest c.q P.1 o.1,
        )
      ]

      back : Joined r c.q c.p ⊎ (IsOuter r c.q × IsOuter r c.p)
      back = elim one [ inl j ↦ inl (joined_back r c.p c.q P.0 P.1 j) | inr o ↦ inr (o.1, o.0) ]

      by : (o : Option CurveFaces) → faces_of f i ≡ o → Contains t.cuts.items i
      by None e = absurd
          (kept (subst (λ o. AreCurveFaces d r out rest (face_count f) D.at i o) e (D.curves i l)))
      by (Some b) e =
          let m = faces.curve_number d r out rest f D i b there e in
          let crossing : CrossesOne r m.k c.p c.q = fewer_crosses d r out rest m.k c.p c.q m.there
          (subst (λ s. CrossesOne d s c.p c.q) (sym m.is) c.crossing) in
          let u = side_end (curve r m.k) true c.p c.q in
          let v = side_end (curve r m.k) false c.p c.q in
          let a : AreOne u v = by_sides (curve r m.k) c.p c.q AreOne (record {
            first = P.0;
            second = P.1;
            closed = p_closed;
            one = one;
          }) (record {
            first = P.1;
            second = P.0;
            closed = q_closed;
            one = back;
          }) in
          let h = m.faces.left c.p c.q crossing in
          (T.cuts.is i).1 (record {
            there = there;
            faces = b;
            is = e;
            one = one_is u v b.left b.right a h (m.faces.right c.p c.q crossing);
            closed = faces.closed_number d r out rest f D u b.left a.first h a.closed;
          })

  -- ---- what is listed is of closed faces
  of_outside : (j : ℕ) → Contains t.outside.items j → IsClosed d r out (at j)
  of_outside j c =
      let o = (T.outside.is j).0 c in
      let (l, h) = faces.face_point d r out rest f D j 0 o.in_outer in
      faces.number_closed d r out rest f D (at j) 0 (at_place j) h o.closed

  of_shared : (p : PointPair) → Contains t.shared.items p
      → IsClosed d r out (at p.first) × (IsOuter r (at p.first) → ⊥)
  of_shared p c =
      let a = (T.shared.is p).0 c in
      let (l, h) = faces.face_point d r out rest f D p.first a.n a.first in (
        faces.number_closed d r out rest f D (at p.first) a.n (at_place p.first) h a.judged.closed,
        λ o. a.judged.bounded
            (faces.outer_number d r out rest f D (at p.first) a.n (at_place p.first) h o),
      )

  of_empty : (s : SideAt) (z : Vector) → Contains t.empty.items s → Place z
      → IsBeside d r out rest s z → IsClosed d r out z
  of_empty s z c Z b =
      let e = (T.empty.is s).0 c in
      let h = faces.beside_in d r out rest f D e.n s z Z e.side.side b in
      faces.number_closed d r out rest f D z e.n Z h e.is.judged.closed

  of_cut : (i k : ℕ) (p q : Vector) → Contains t.cuts.items i → k < length r.curves
      → rest.number k ≡ i → CrossesOne r k p q → IsClosed d r out p × IsClosed d r out q
  of_cut i k p q c l e crossing =
      let o = (T.cuts.is i).0 c in
      let m = faces.curve_number d r out rest f D i o.faces o.there o.is in
      let same : m.k ≡ k = rest.once m.k k m.there l (m.is ∙ sym e) in
      let x : CrossesOne r m.k p q = subst (λ s. CrossesOne r s p q) (sym same) crossing in
      let n = o.faces.left in
      let (P, Q, p_off, q_off) = ends_off (curve r m.k).kind r m.k p q x in
      let left : In (side_end (curve r m.k) true p q) n = m.faces.left p q x in
      let right : In (side_end (curve r m.k) false p q) n = subst
      (λ s. In (side_end (curve r m.k) false p q) s) (sym o.one) (m.faces.right p q x) in
      let (h, g) = by_ends (curve r m.k) p q (λ v. In v n) left right in (
        faces.number_closed d r out rest f D p n P h o.closed,
        faces.number_closed d r out rest f D q n Q g o.closed,
      )

  kept : (i : ℕ) → Contains t.cuts.items i
      → (k : ℕ) × (k < length r.curves) × (rest.number k ≡ i)
  kept i c =
      let o = (T.cuts.is i).0 c in
      let m = faces.curve_number d r out rest f D i o.faces o.there o.is in
      (m.k, m.there, m.is)

  of_closed : AreOfClosed d r out rest t
  of_closed = record {
    outside = of_outside;
    shared = of_shared;
    empty = of_empty;
    cuts = of_cut;
    kept = kept;
  }

  -- ---- points in open faces
  unjudged_is : (j : ℕ) → Contains t.unjudged.items j
      → (j < length d.points) × IsOpen d r out (at j)
  unjudged_is j c =
      let o = (T.unjudged.is j).0 c in
      let (l, h) = faces.face_point d r out rest f D j o.n o.in_face in
      (l, faces.number_open d r out rest f D (at j) o.n (at_place j) h o.broken)

  unjudged : (j : ℕ) → j < length d.points → IsOff r (at j) → IsOpen d r out (at j)
      → Contains t.unjudged.items j
  unjudged j l off o =
      let (n, i, h) = faces.point_face d r out rest f D j l off in
      let broken : is_open f n ≡ true = elim (cases_Bool (is_open f n)) [
        | inl e ↦ e
        | inr e ↦ absurd
            ((closed_is_not_open d r out (at j)).0
            (faces.number_closed d r out rest f D (at j) n (at_place j) h e) o)
      ] in
      (T.unjudged.is j).1 (record { n = n; in_face = i; broken = broken })

  map_self : (xs : List ℕ) → map (λ (n : ℕ). n) xs ≡ xs
  map_self [] = refl
  map_self (x ∷ xs) = ap (λ ys. x ∷ ys) (map_self xs)

  rises : (xs : List ℕ) → IsStrictlyIncreasing (map (λ (n : ℕ). n) xs) → IsStrictlyIncreasing xs
  rises xs h = subst (λ ys. IsStrictlyIncreasing ys) (map_self xs) h

  order : AreInOrder t
  order = record {
    outside = rises t.outside.items T.outside.rise;
    shared = T.shared.rise;
    empty = T.empty.rise;
    cuts = rises t.cuts.items T.cuts.rise;
    broken = T.broken.rise;
    unjudged = rises t.unjudged.items T.unjudged.rise;
  }

  pub numbers_tell : AreFaultsOver d r out rest t
  numbers_tell = record {
    order = order;
    none_out = D.none_out;
    of_closed = of_closed;
    outer_all = outer_all;
    open_inner = open_inner;
    open_once = open_once;
    shared_least = shared_least;
    empty_once = empty_once;
    unjudged = unjudged;
    outer_or_not = outer_or_not;
    closed_or_told = closed_or_told;
    open_is_open = open_is_open;
    outer_is_open = outer_is_open;
    outside_is = outside_is;
    outside = outside;
    shared_are = shared_are;
    shared = shared;
    empty_is = empty_is;
    empty = empty;
    cut_is = cut_is;
    cuts = cuts;
    unjudged_is = unjudged_is;
  }
