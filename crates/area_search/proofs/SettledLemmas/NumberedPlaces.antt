-- Numbers of faces beside curves: each has a place of its own, and each place off the curves is in
-- a
-- face that has one.
use Rattle.std.proofs.Common.{◌≡◌, ◌↔◌, ◌⊎◌, inl, inr, ℕ, ◌<◌, ◌≤◌, zero, suc, Bool, true, false}
use Rattle.std.proofs.Common.{List, [], ◌∷◌, length, slice_index, refl, sym, ap, subst, ◌∙◌, arith}
use Rattle.std.proofs.lemmas.Bool.{cases_eq}
use Rattle.fault_lists.specs.DrawingFaces.{AreFacePlaces, HasCurveFaces, IsInFace}
use Rattle.fault_lists.specs.Sides as sides
use Rattle.plane.specs.CurveRuns.TubedRuns.{third_is_left}
use Rattle.plane.specs.Lists.{Has}
use Rattle.plane.specs.Rule.Cuts.{CrossesOne, IsCut}
use Rattle.plane.specs.Rule.LeftOut.{IsRestOf}
use Rattle.plane.specs.Rule.Partition.{IsOff, IsOuter, Joined}
use Rattle.plane.specs.Rule.Places.{Place, Vector}
use Rattle.plane.specs.Rule.Plans.{Plan, curve}
use Rattle.plane.specs.declared.kinds.Curve.{Curve}
use Rattle.plane.specs.declared.kinds.CurveKind.{CurveKind}
use Rattle.plane.specs.declared.kinds.CurveKind.TheVariants as kind
use Rattle.area_search.specs.declared.settled.case_sides.Beside.{Beside}
use Rattle.area_search.specs.Faults as faults
use Rattle.area_search.specs.Settled.CaseSides as cases
use Rattle.area_search.specs.Settled.CaseSides.{IsBesideIn, beside_at, face_on, is_first}
use Rattle.area_search.specs.Settled.FaceNumbers.{AreFaceNumbers, curve_faces, faces_met}
use Rattle.area_search.proofs.Small.{by_lt}

-- ---- faces that are met
met_at : (bs : List Beside) (k : ℕ) → Has k (faces_met bs)
    → (i : ℕ) × (i < length bs) × (b : Bool) × (face_on b (beside_at bs i) ≡ k)
met_at [] k h = absurd h
met_at (b ∷ bs) k (inl e) = (0, omega arith, true, sym e)
met_at (b ∷ bs) k (inr (inl e)) = (0, omega arith, false, sym e)
met_at (b ∷ bs) k (inr (inr h)) =
    let (i, l, c, e) = met_at bs k h in
    (suc i, omega (arith, l), c, e)

is_met : (bs : List Beside) (i : ℕ) (c : Bool) → i < length bs
    → Has (face_on c (beside_at bs i)) (faces_met bs)
is_met [] i c l = absurd (omega (arith, l))
is_met (b ∷ bs) zero true l = inl refl
is_met (b ∷ bs) zero false l = inr (inl refl)
is_met (b ∷ bs) (suc i) c l = inr (inr (is_met bs i c (omega (arith, l))))

-- ---- the sides of a curve are those of the faults
same_inward : (t left : Bool) → sides.is_inward t left ≡ faults.is_inward t left
same_inward true true = refl
same_inward true false = refl
same_inward false true = refl
same_inward false false = refl

same_kind : (k : CurveKind) (c : Curve) (left : Bool)
    → sides.is_first_kind k c left ≡ cases.is_first_kind k c left
same_kind kind.Straight c left = refl
same_kind kind.HalfArc c left = same_inward (third_is_left c) left

-- nothing is left out
abbrev pub none : ℕ → Bool
none i = false

pub never_out : false ≡ true → ⊥
never_out e = cc

-- the whole drawing is the rest of itself
abbrev pub rest : (d : Plan) → IsRestOf d d none
rest d = record {
  number = λ i. i;
  there = λ k l. l;
  is = λ k l. refl;
  once = λ k j l m e. e;
  whole = λ i l. inr (i, l, refl);
  points = refl;
}

-- The ends of a segment that crosses the curve are off the curves, in the faces beside it.
pub record AreEnds (d : Plan) (Face : Vector → ℕ → Type 0) (b : Beside)
    (p q : Vector) : Type 0 where
  pub p_place : Place p
  pub q_place : Place q
  pub p_off : IsOff d p
  pub q_off : IsOff d q
  pub first : Face p b.first
  pub second : Face q b.second

-- Some segment crosses the curve, and each that does has such ends.
pub record IsCrossed (d : Plan) (Face : Vector → ℕ → Type 0) (b : Beside) (i : ℕ) : Type 0 where
  pub p : Vector
  pub q : Vector
  pub crossing : CrossesOne d i p q
  pub ends : (u v : Vector) → CrossesOne d i u v → AreEnds d Face b u v

-- The first face of a curve is on its left, or on its right.
first_side : (k : CurveKind) (c : Curve) (b : Bool)
    → (cases.is_first_kind k c true ≡ b) ⊎ (cases.is_first_kind k c false ≡ b)
first_side kind.Straight c true = inl refl
first_side kind.Straight c false = inr refl
first_side kind.HalfArc c b = inward_side (third_is_left c) b
  where
    inward_side : (t b : Bool) → (faults.is_inward t true ≡ b) ⊎ (faults.is_inward t false ≡ b)
    inward_side true true = inl refl
    inward_side true false = inr refl
    inward_side false true = inr refl
    inward_side false false = inl refl

-- The face is beside a curve.
pub record IsMet (d : Plan) (besides : List Beside) (k : ℕ) : Type 0 where
  pub index : ℕ
  pub fits : index < length d.curves
  pub first : Bool
  pub is : face_on first (beside_at besides index) ≡ k

module _ (d : Plan) (n : ℕ) (some : 0 < n) (besides : List Beside)
    (sized : length besides ≡ length d.curves)
    (besides_known : (i : ℕ) → i < length d.curves → IsBesideIn n (beside_at besides i))
    (HasNumber : Vector → ℕ → Type 0)
    (numbered : (z : Vector) → Place z → IsOff d z → (k : ℕ) × HasNumber z k)
    (joined_is : (p q : Vector) (l k : ℕ) → Place p → Place q → IsOff d p → HasNumber p l
    → HasNumber q k → Joined d p q ↔ (l ≡ k))
    (outer_is : (p : Vector) (l : ℕ) → Place p → IsOff d p → HasNumber p l
    → IsOuter d p ↔ (l ≡ 0))
    (face_met : (z : Vector) → Place z → (k : ℕ) → HasNumber z k
    → (k ≡ 0) ⊎ IsMet d besides k)
    (out_there : Vector) (out_place : Place out_there) (out_off : IsOff d out_there)
    (out_number : HasNumber out_there 0)
    (crossing_of : (i : ℕ) → i < length d.curves → IsCrossed d HasNumber (beside_at besides i) i)
    (names : List ℕ) (count : ℕ) (size : length names ≡ n)
    (named : AreFaceNumbers (faces_met besides) names count) where
  abbrev pub side : ℕ → Beside
  side i = beside_at besides i

  abbrev pub name : ℕ → ℕ
  name k = slice_index names k

  -- ---- a place for each number
  -- the place has a face that has the number
  pub record HasName (k : ℕ) (z : Vector) : Type 0 where
    pub place : Place z
    pub off : IsOff d z
    pub own : ℕ
    pub known : own < n
    pub has : HasNumber z own
    pub is_name : name own ≡ k
    pub zero_alone : name own ≡ 0 → own ≡ 0

  known_met : (i : ℕ) → i < length d.curves → (b : Bool) → face_on b (side i) < n
  known_met i l true = (besides_known i l).first
  known_met i l false = (besides_known i l).second

  met_alone : (i : ℕ) → i < length d.curves → (b : Bool) → name (face_on b (side i)) ≡ 0
      → face_on b (side i) ≡ 0
  met_alone i l b e =
      named.named (face_on b (side i))
      (is_met besides i b (let s = sized in omega (arith, l, s))) e

  side_named : (i : ℕ) → i < length d.curves → (b : Bool) → (z : Vector)
      × HasName (name (face_on b (side i))) z
  side_named i l true =
      let c = crossing_of i l in
      let e = c.ends c.p c.q c.crossing in (
        c.p,
        record {
          place = e.p_place;
          off = e.p_off;
          own = face_on true (side i);
          known = known_met i l true;
          has = e.first;
          is_name = refl;
          zero_alone = met_alone i l true;
        },
      )
  side_named i l false =
      let c = crossing_of i l in
      let e = c.ends c.p c.q c.crossing in (
        c.q,
        record {
          place = e.q_place;
          off = e.q_off;
          own = face_on false (side i);
          known = known_met i l false;
          has = e.second;
          is_name = refl;
          zero_alone = met_alone i l false;
        },
      )

  pub chosen : (k : ℕ) → k < count → (z : Vector) × HasName k z
  chosen k l = elim (named.used k l) [
    | inl e ↦ (
      out_there,
      record {
        place = out_place;
        off = out_off;
        own = 0;
        known = some;
        has = out_number;
        is_name = named.zero ∙ sym e;
        zero_alone = λ q. refl;
      },
    )
    | inr (g, h, q) ↦
        let (i, b, c, e) = met_at besides g h in
        let s = side_named i (let a = sized in omega (arith, a, b)) c in
        (s.0, subst (λ (v : ℕ). HasName v s.0) (ap name e ∙ q) s.1)
  ]

  abbrev pub place_if : (k : ℕ) → (k < count) ⊎ (count ≤ k) → Vector
  place_if k (inl l) = (chosen k l).0
  place_if k (inr l) = out_there

  pub less_or_not : (k : ℕ) → (k < count) ⊎ (count ≤ k)
  less_or_not k = by_lt k count (λ l. inl l) (λ l. inr l)

  abbrev pub at : ℕ → Vector
  at k = place_if k (less_or_not k)

  at_is : (k : ℕ) → k < count → HasName k (at k)
  at_is k l = by (less_or_not k)
    where
      by : (s : (k < count) ⊎ (count ≤ k)) → HasName k (place_if k s)
      by (inl m) = (chosen k m).1
      by (inr m) = absurd (omega (arith, l, m))

  -- ---- what numbers tell
  same_face : (a b : ℕ) → a < n → b < n → name a ≡ name b → (name a ≡ 0 → a ≡ 0)
      → (name b ≡ 0 → b ≡ 0) → a ≡ b
  same_face a b k l e p q = elim (cases_eq (name a) 0) [
    | inl z ↦ p z ∙ sym (q (sym e ∙ z))
    | inr z ↦ named.once a b (omega (arith, k, size)) (omega (arith, l, size)) e z
  ]

  abbrev pub IsIn : Vector → ℕ → Type 0
  IsIn z k = IsInFace d count at z k

  in_face : (z : Vector) → Place z → IsOff d z → (g : ℕ) → g < n → HasNumber z g
      → (name g ≡ 0 → g ≡ 0) → IsIn z (name g)
  in_face z Z off g l h alone =
      let k : name g < count = named.below g (omega (arith, l, size)) in
      let a = at_is (name g) k in
      record {
        there = k;
        joined = (joined_is z (at (name g)) g a.own Z a.place off h a.has).1
            (same_face g a.own l a.known (sym a.is_name) alone a.zero_alone);
      }

  -- a face of a place is known, and has 0 only where it is 0
  pub face_named : (z : Vector) → Place z → (g : ℕ) → HasNumber z g
      → (g < n) × (name g ≡ 0 → g ≡ 0)
  face_named z Z g h = elim (face_met z Z g h) [
    | inl e ↦ ((let q = some in omega (arith, e, q)), (λ q. e))
    | inr m ↦ (
      subst (λ (v : ℕ). v < n) m.is (known_met m.index m.fits m.first),
      subst (λ (v : ℕ). name v ≡ 0 → v ≡ 0) m.is (met_alone m.index m.fits m.first),
    )
  ]

  pub place_in : (z : Vector) → Place z → IsOff d z → (g : ℕ) → HasNumber z g → IsIn z (name g)
  place_in z Z off g h =
      let t = face_named z Z g h in
      in_face z Z off g t.0 h t.1

  pub places : AreFacePlaces d count at
  places = record {
    some = named.some;
    place = λ k l. (at_is k l).place;
    off = λ k l. (at_is k l).off;
    once = λ j k l m p.
        let a = at_is j l in
        let b = at_is k m in
        sym a.is_name
        ∙ ap name ((joined_is (at j) (at k) a.own b.own a.place b.place a.off a.has b.has).0 p)
        ∙ b.is_name;
    outer = λ k l.
        let a = at_is k l in
        let o = outer_is (at k) a.own a.place a.off a.has in (
          (λ p. sym a.is_name ∙ ap name (o.0 p) ∙ named.zero),
          (λ e. o.1 (a.zero_alone (a.is_name ∙ e))),
        );
    all = λ z Z off.
        let h = numbered z Z off in
        let i = place_in z Z off h.0 h.1 in
        (name h.0, i.there, i.joined);
  }

  -- ---- curves
  module _ (i : ℕ) (l : i < length d.curves) (p q : Vector) (x : CrossesOne d i p q) where
    crossed_end : (b : Bool) → IsIn (faults.end_on b p q) (name (face_on b (side i)))
    crossed_end true =
        let e = (crossing_of i l).ends p q x in
        in_face p e.p_place e.p_off (face_on true (side i)) (known_met i l true) e.first
        (met_alone i l true)
    crossed_end false =
        let e = (crossing_of i l).ends p q x in
        in_face q e.q_place e.q_off (face_on false (side i)) (known_met i l false) e.second
        (met_alone i l false)

    same_end : (b : Bool) → sides.end_on b p q ≡ faults.end_on b p q
    same_end true = refl
    same_end false = refl

    side_in : (left : Bool) → IsIn (sides.side_end (curve d i) left p q)
        (name (face_on (is_first (curve d i) left) (side i)))
    side_in left =
        let b = is_first (curve d i) left in
        let e : sides.side_end (curve d i) left p q ≡ faults.end_on b p q =
        ap (λ (y : Bool). sides.end_on y p q) (same_kind (curve d i).kind (curve d i) left)
        ∙ same_end b in
        subst (λ (z : Vector). IsIn z (name (face_on b (side i)))) (sym e) (crossed_end b)

  pub curve_is : (i : ℕ) → i < length d.curves
      → HasCurveFaces d d none (rest d) count at i (curve_faces (curve d i) (side i) names)
  curve_is i l =
      let c = crossing_of i l in
      record {
        left = λ p q x. side_in i l p q x true;
        right = λ p q x. side_in i l p q x false;
        p = c.p;
        q = c.q;
        crossing = c.crossing;
        stays = λ a b. c.crossing;
      }

  -- each number but 0 is that of a side of a curve
  pub record IsOnSide (k : ℕ) : Type 0 where
    pub index : ℕ
    pub fits : index < length d.curves
    pub on : ((curve_faces (curve d index) (side index) names).left ≡ k)
        ⊎ ((curve_faces (curve d index) (side index) names).right ≡ k)

  pub number_on_side : (k : ℕ) → k < count → (k ≡ 0 → ⊥) → IsOnSide k
  number_on_side k l inner = elim (named.used k l) [
    | inl e ↦ absurd (inner e)
    | inr (g, h, q) ↦
        let (i, b, c, e) = met_at besides g h in
        record {
          index = i;
          fits = (let a = sized in omega (arith, a, b));
          on = elim (first_side (curve d i).kind (curve d i) c) [
            | inl y ↦ inl (ap (λ (x : Bool). name (face_on x (side i))) y ∙ ap name e ∙ q)
            | inr y ↦ inr (ap (λ (x : Bool). name (face_on x (side i))) y ∙ ap name e ∙ q)
          ];
        }
  ]
