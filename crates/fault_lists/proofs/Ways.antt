-- Ways along sides of a face.
use Rattle.std.specs.Prelude.{slice_get}
use Rattle.std.proofs.Common.{◌≡◌, ◌↔◌, ◌⊎◌, inl, inr, ℕ, ◌*◌, ◌<◌, Bool, true, false}
use Rattle.std.proofs.Common.{Some, None, List, [], ◌∷◌, ◌++◌, length, refl, sym, subst, ◌∙◌, arith}
use Rattle.std.proofs.Common.{set}
use Rattle.std.proofs.lemmas.Bool.{false≢true}
use Rattle.std.proofs.lemmas.List.{get_or-set_same, get_or-set_other, length-set, length-append}
use Rattle.plane.specs.Lists.{Has, Once}
use Rattle.plane.specs.Rule.Plans.{Plan}
use Rattle.plane.proofs.ListLemmas.Lists.{has_append, has_back, has_front}
use Rattle.fault_lists.specs.declared.faces.DrawingFaces.{DrawingFaces}
use Rattle.fault_lists.specs.declared.kinds.SideAt.{SideAt}
use Rattle.fault_lists.specs.FaceLists.{IsSide, side_number}
use Rattle.fault_lists.specs.Rings.{end_of, GoRound, IsSaidNext, Leads, start_of}
use Rattle.fault_lists.specs.Tracing.{AreFollowed, ArePassed, FollowsMarked, is_passed, IsWay}
use Rattle.fault_lists.proofs.Least.{equal_or_not}
use Rattle.fault_lists.proofs.LeastSides.{one_side}
use Rattle.fault_lists.proofs.SideNumbers.{few_sides}

-- ---- lists
pub once_append : {X : Type 0} (xs ys : List X) → Once xs → Once ys
    → ((x : X) → Has x xs → Has x ys → ⊥) → Once (xs ++ ys)
once_append [] ys h k apart = k
once_append (x ∷ xs) ys h k apart = (
  (λ has. elim (has_append x xs ys has) [ inl a ↦ h.0 a | inr b ↦ apart x (inl refl) b ]),
  once_append xs ys h.1 k (λ y a b. apart y (inr a) b),
)

pub once_push : {X : Type 0} (xs : List X) (x : X) → Once xs → (Has x xs → ⊥)
    → Once (xs ++ x ∷ [])
once_push xs x h new =
    once_append xs (x ∷ []) h ((λ none. none), tt)
    (λ y a b. elim b [ inl e ↦ new (subst (λ z. Has z xs) e a) | inr none ↦ none ])

pub has_push : {X : Type 0} (y : X) (xs : List X) (x : X) → Has y (xs ++ x ∷ [])
    → Has y xs ⊎ (y ≡ x)
has_push y xs x h =
    elim (has_append y xs (x ∷ []) h) [
      | inl a ↦ inl a
      | inr b ↦ elim b [ inl e ↦ inr e | inr none ↦ absurd none ]
    ]

-- ---- ways
pub leads_push : (d : Plan) (s : SideAt) (xs : List SideAt) (t u : SideAt) → Leads d s xs t
    → end_of d t ≡ start_of d u → Leads d s (xs ++ t ∷ []) u
leads_push d s [] t u h e = (h, (u, e, refl))
leads_push d s (x ∷ xs) t u h e =
    let (same, (n, meets, rest)) = h in (same, (n, meets, leads_push d n xs t u rest e))

-- ---- marks
pub within : (f : DrawingFaces) (s : SideAt) → s.curve < length f.curves.items
    → side_number s < 2 * length f.curves.items
within f s l = by s.left refl
  where
    by : (b : Bool) → s.left ≡ b → side_number s < 2 * length f.curves.items
    by true e = rw e (omega (arith, l))
    by false e = rw e (omega (arith, l))

pub passed_none : (f : DrawingFaces) (marks : List Bool) → ArePassed f marks marks []
passed_none f marks = record {
  size = refl;
  is = λ s l. ((λ e. inl e), (λ h. elim h [ inl e ↦ e | inr none ↦ absurd none ]));
}

pub passed_push : (f : DrawingFaces) (old new : List Bool) (passed : List SideAt) (t : SideAt)
    → ArePassed f old new passed → side_number t < length new
    → ArePassed f old (set new (side_number t) true) (passed ++ t ∷ [])
passed_push f old new passed t h l =
    record { size = length-set new (side_number t) true ∙ h.size; is = each }
  where
    now : List Bool
    now = set new (side_number t) true

    each : (s : SideAt) → s.curve < length f.curves.items
        → (is_passed now s ≡ true) ↔ ((is_passed old s ≡ true) ⊎ Has s (passed ++ t ∷ []))
    each s m = elim (equal_or_not (side_number s) (side_number t)) [
      | inl e ↦
          let same : s ≡ t = one_side s t e in
          let on : is_passed now t ≡ true = get_or-set_same new (side_number t) true false l in (
            (λ x. inr (subst (λ v. Has v (passed ++ t ∷ [])) (sym same)
                (has_back t passed (t ∷ []) (inl refl)))),
            (λ x. subst (λ v. is_passed now v ≡ true) (sym same) on),
          )
      | inr ne ↦
          let as_before : is_passed now s ≡ is_passed new s = get_or-set_other new (side_number t)
          (side_number s) true false ne in (
            (λ x. elim ((h.is s m).0 (sym as_before ∙ x)) [
              | inl a ↦ inl a
              | inr b ↦ inr (has_front s passed (t ∷ []) b)
            ]),
            (λ x. as_before
                ∙ (h.is s m).1
                (elim x [
                  | inl a ↦ inl a
                  | inr b ↦ elim (has_push s passed t b) [
                    | inl c ↦ inr c
                    | inr same ↦ absurd
                        (ne (subst (λ v. side_number v ≡ side_number t) (sym same) refl))
                  ]
                ])),
          )
    ]

-- ---- where the sides go round
-- the side that is said to follow another one is as it should be
pub goes_on : (d : Plan) (f : DrawingFaces) (n : ℕ) (s t : SideAt) → GoRound d f → IsSide f n s
    → IsSaidNext f s t → IsSide f n t × (end_of d s ≡ start_of d t)
goes_on d f n s t go side said =
    let (u, also, is, meets) = go.next n s side in
    let same : Some (side_number u) ≡ Some (side_number t) = sym also ∙ said in
    let number : side_number u ≡ side_number t = cc in
    subst (λ v. IsSide f n v × (end_of d s ≡ start_of d v)) (one_side u t number) (is, meets)

-- some side is said to follow
pub none_missing : (d : Plan) (f : DrawingFaces) (n : ℕ) (s : SideAt) → IsSide f n s
    → slice_get f.next.items (side_number s) ≡ None → GoRound d f → ⊥
none_missing d f n s side missing go =
    let (u, also, is, meets) = go.next n s side in
    let e : None ≡ Some (side_number u) = sym missing ∙ also in
    cc

-- A side of the list is followed by that one.
abbrev pub IsAfter : DrawingFaces → List SideAt → SideAt → Type 0
IsAfter f passed t = (s : SideAt) × Has s passed × IsSaidNext f s t

-- A way to a side that no mark stands for; all its sides but the first follow one another.
pub record IsOpenWay (d : Plan) (f : DrawingFaces) (n : ℕ) (from : SideAt) (old new : List Bool)
    (passed : List SideAt) (to : SideAt) : Type 0 where
  pub way : IsWay d f n from old new passed to
  pub here : IsSide f n to
  pub free : is_passed new to ≡ true → ⊥
  pub followed : (t : SideAt) → Has t (passed ++ to ∷ []) → (t ≡ from) ⊎ IsAfter f passed t

pub way_begins : (d : Plan) (f : DrawingFaces) (n : ℕ) (from : SideAt) (marks : List Bool)
    → IsSide f n from → is_passed marks from ≡ false → IsOpenWay d f n from marks marks [] from
way_begins d f n from marks side free = record {
  way = record {
    leads = refl;
    sides = λ s none. absurd none;
    fresh = λ s none. absurd none;
    once = tt;
    marks = passed_none f marks;
  };
  here = side;
  free = λ e. false≢true (sym free ∙ e);
  followed = λ t a. elim a [ inl e ↦ inl e | inr none ↦ absurd none ];
}

module _ (d : Plan) (f : DrawingFaces) (n : ℕ) (from : SideAt) (old new : List Bool)
    (passed : List SideAt) (to : SideAt) (h : IsOpenWay d f n from old new passed to)
    (size : length old ≡ 2 * length f.curves.items) where
  -- the way leads to a side that is not passed
  pub never_passed : (is_passed old to ≡ true) ⊎ Has to passed → ⊥
  never_passed x = h.free ((h.way.marks.is to h.here.there).1 x)

  pub to_within : side_number to < length new
  to_within =
      let w = within f to h.here.there in let e = h.way.marks.size in omega (arith, w, e, size)

  pub way_more : (next : SideAt) → end_of d to ≡ start_of d next
      → IsWay d f n from old (set new (side_number to) true) (passed ++ to ∷ []) next
  way_more next meets = record {
    leads = leads_push d from passed to next h.way.leads meets;
    sides = λ s a. elim (has_push s passed to a) [
      | inl b ↦ h.way.sides s b
      | inr e ↦ subst (λ v. IsSide f n v) (sym e) h.here
    ];
    fresh = λ s a x. elim (has_push s passed to a) [
      | inl b ↦ h.way.fresh s b x
      | inr e ↦ h.free
          ((h.way.marks.is to h.here.there).1 (inl (subst (λ v. is_passed old v ≡ true) e x)))
    ];
    once = once_push passed to h.way.once
        (λ a. h.free ((h.way.marks.is to h.here.there).1 (inr a)));
    marks = passed_push f old new passed to h.way.marks to_within;
  }

  -- fewer sides are passed than there are marks
  pub still_room : length passed < length new
  still_room =
      let l = few_sides (length new) (passed ++ to ∷ []) once_more all_below in
      let n = length-append passed (to ∷ []) in
      omega (arith, l, n)
    where
      once_more : Once (passed ++ to ∷ [])
      once_more = once_push passed to h.way.once (λ a. never_passed (inr a))

      all_below : (s : SideAt) → Has s (passed ++ to ∷ []) → side_number s < length new
      all_below s a = elim (has_push s passed to a) [
        | inl b ↦
            let w = within f s (h.way.sides s b).there in
            let e = h.way.marks.size in
            omega (arith, w, e, size)
        | inr e ↦ subst (λ v. side_number v < length new) (sym e) to_within
      ]

-- a way that is not empty has its first side
pub has_first : (d : Plan) (s : SideAt) (xs : List SideAt) (x t : SideAt)
    → Leads d s (xs ++ x ∷ []) t
    → Has s (xs ++ x ∷ [])
has_first d s [] x t h = inl h.0
has_first d s (y ∷ ys) x t h = inl h.0

-- ---- one step of the walk
module _ (d : Plan) (f : DrawingFaces) (n : ℕ) (from : SideAt) (old new : List Bool)
    (passed : List SideAt) (to : SideAt) (h : IsOpenWay d f n from old new passed to)
    (size : length old ≡ 2 * length f.curves.items) (next : SideAt) (said : IsSaidNext f to next)
    (meets : end_of d to ≡ start_of d next) (now : List Bool)
    (marked : now ≡ set new (side_number to) true) (ring : List SideAt)
    (pushed : ring ≡ passed ++ to ∷ []) where
  longer : IsWay d f n from old now ring next
  longer = rw (marked, pushed) (way_more d f n from old new passed to h size next meets)

  has_to : Has to ring
  has_to = rw pushed (has_back to passed (to ∷ []) (inl refl))

  after_more : (t : SideAt) → Has t ring → (t ≡ from) ⊎ IsAfter f ring t
  after_more t a = elim (h.followed t (subst (λ xs. Has t xs) pushed a)) [
    | inl e ↦ inl e
    | inr x ↦ inr (x.0, rw pushed (has_front x.0 passed (to ∷ []) x.1), x.2)
  ]

  -- each marked side follows a marked one when the way leads back
  all_followed : next ≡ from → AreFollowed f old → AreFollowed f now
  all_followed e before m t side is = elim ((longer.marks.is t side.there).0 is) [
    | inl known ↦
        let w = before m t side known in
        let is_marked = (longer.marks.is w.s w.side.there).1 (inl w.marked) in
        record { n = w.n; s = w.s; side = w.side; marked = is_marked; next = w.next }
    | inr a ↦ elim (after_more t a) [
      | inl first ↦ by to has_to (subst (λ v. IsSaidNext f to v) (e ∙ sym first) said)
      | inr x ↦ by x.0 x.1 x.2
    ]
  ]
    where
      by : (s : SideAt) → Has s ring → IsSaidNext f s t → FollowsMarked f now t
      by s a x =
          let is_side = longer.sides s a in
          let is_marked = (longer.marks.is s is_side.there).1 (inr a) in
          record { n = n; s = s; side = is_side; marked = is_marked; next = x }

  pub ring_closes : next ≡ from → AreFollowed f old
      → IsWay d f n from old now ring from × Has from ring × AreFollowed f now
  ring_closes e before = (back, begins, all_followed e before)
    where
      back : IsWay d f n from old now ring from
      back = subst (λ v. IsWay d f n from old now ring v) e longer

      begins : Has from ring
      begins =
          let leads = subst (λ xs. Leads d from xs next) pushed longer.leads in
          rw pushed (has_first d from passed to next leads)

  pub ring_goes_on : IsSide f n next → is_passed now next ≡ false
      → IsOpenWay d f n from old now ring next
  ring_goes_on side free = record {
    way = longer;
    here = side;
    free = λ e. false≢true (sym free ∙ e);
    followed = λ t a. elim (has_push t ring next a) [
      | inl b ↦ after_more t b
      | inr e ↦ inr (to, has_to, subst (λ v. IsSaidNext f to v) (sym e) said)
    ];
  }

  -- the side follows one that is passed, which is another one than the last
  one_too_many : (m : ℕ) (s : SideAt) → GoRound d f → IsSide f m s → IsSaidNext f s next
      → (is_passed old s ≡ true) ⊎ Has s passed → ⊥
  one_too_many m s go side also x =
      let e : s ≡ to = go.once m n s to next side h.here also said in
      let y = subst (λ v. (is_passed old v ≡ true) ⊎ Has v passed) e x in
      never_passed d f n from old new passed to h size y

  pub never_onto : IsSide f n next → (next ≡ from → ⊥) → is_passed now next ≡ true
      → AreFollowed f old → GoRound d f → ⊥
  never_onto side apart is before go = elim ((longer.marks.is next side.there).0 is) [
    | inl known ↦
        let w = before n next side known in
        one_too_many w.n w.s go w.side w.next (inl w.marked)
    | inr a ↦ elim (h.followed next (subst (λ xs. Has next xs) pushed a)) [
      | inl first ↦ apart first
      | inr x ↦ one_too_many n x.0 go (h.way.sides x.0 x.1) x.2 (inr x.1)
    ]
  ]
