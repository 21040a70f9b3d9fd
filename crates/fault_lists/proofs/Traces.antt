-- How far the search for rings has come.
use Rattle.std.proofs.Common.{◌≡◌, ◌≢◌, ◌↔◌, ◌⊎◌, inl, inr, ℕ, zero, suc, ◌+◌, ◌*◌, ◌<◌, ◌≤◌, Bool}
use Rattle.std.proofs.Common.{true, false, List, [], ◌∷◌, ◌++◌, length, refl, sym, subst, ap}
use Rattle.std.proofs.Common.{◌∙◌, arith, set, get_or, replicate, append-nil, append_assoc}
use Rattle.std.specs.List.{Contains}
use Rattle.std.proofs.lemmas.Bool.{cases_lt, false≢true}
use Rattle.std.proofs.lemmas.List.{get_or-set_same, get_or-set_other, length-set, map-set}
use Rattle.std.proofs.lemmas.List.{map-append}
use Rattle.std.proofs.lemmas.List.{length-map, length-replicate, get_or-map, get_or-replicate}
use Rattle.std.proofs.Math.ListN.{get_or-eq_default}
use Rattle.std.proofs.Math.Seq.{map-set_same}
use Rattle.plane.specs.Lists.{Has, Once}
use Rattle.plane.specs.Rule.Plans.{Plan}
use Rattle.plane.proofs.ListLemmas.Lists.{has_append, has_back, has_front}
use Rattle.fault_lists.specs.declared.faces.DrawingFaces.{DrawingFaces}
use Rattle.fault_lists.specs.declared.kinds.Region.{Region}
use Rattle.fault_lists.specs.declared.kinds.SideAt.{SideAt}
use Rattle.fault_lists.specs.DrawingFaces.{face_count}
use Rattle.fault_lists.specs.FaceLists.{IsSide, side_number}
use Rattle.fault_lists.specs.Rings.{all_sides, AreOfFaces, AreRegions, AreRings, AreRingsOf}
use Rattle.fault_lists.specs.Rings.{first_side, GoRound, IsRing, Leads, side_at}
use Rattle.fault_lists.specs.Telling.{is_marked}
use Rattle.fault_lists.specs.Tracing.{AreBlank, AreFollowed, AreRingsTo, AreSlots, AreTracedAll}
use Rattle.fault_lists.specs.Tracing.{AreTracedTo, is_passed, IsWay, rings_at, rings_of}
use Rattle.fault_lists.specs.Tracing.{sides_of, slot_of}
use Rattle.fault_lists.proofs.Least.{equal_or_not}
use Rattle.fault_lists.proofs.LeastSides.{one_face_beside, one_side}
use Rattle.fault_lists.proofs.Walks.{rising_push}
use Rattle.fault_lists.proofs.Ways.{has_push, once_append, within}

abbrev number_of : List SideAt → ℕ
number_of ring = side_number (first_side ring)

-- ---- lists
has_of : {X : Type 0} (xs : List X) (x : X) → Contains xs x → Has x xs
has_of [] x (k, l, e) = absurd (omega (arith, l))
has_of (y ∷ ys) x (zero, l, e) = inl (sym e)
has_of (y ∷ ys) x (suc k, l, e) = inr (has_of ys x (k, omega (arith, l), e))

all_push : (rings : List (List SideAt)) (ring : List SideAt)
    → all_sides (rings ++ ring ∷ []) ≡ all_sides rings ++ ring
all_push [] ring = append-nil ring
all_push (r ∷ rs) ring = ap (λ (xs : List SideAt). r ++ xs) (all_push rs ring)
    ∙ sym (append_assoc r (all_sides rs) ring)

first_is : (d : Plan) (from to : SideAt) (ring : List SideAt) → Leads d from ring to → Has from ring
    → first_side ring ≡ from
first_is d from to [] h none = absurd none
first_is d from to (x ∷ xs) h has = sym h.0

-- no mark stands in a list of marks that are not set
unmarked : (m k : ℕ) → is_marked (replicate m false) k ≡ false
unmarked m k = elim (cases_lt k m) as (λ t. is_marked (replicate m false) k ≡ false) [
  | inl l ↦ get_or-replicate m k false false l
  | inr l ↦ get_or-eq_default (replicate m false) false (omega (arith, l, length-replicate m false))
]

blank_at : (rs : List Region) → ((r : Region) → Has r rs → r.rings.items ≡ []) → (j : ℕ)
    → rings_at (rings_of rs) j ≡ []
blank_at [] h j = refl
blank_at (r ∷ rs) h zero = h r (inl refl)
blank_at (r ∷ rs) h (suc j) = blank_at rs (λ s a. h s (inr a)) j

-- ---- nothing is passed
pub none_traced : (d : Plan) (f : DrawingFaces) (slots : List ℕ) (rs : List Region) (m : ℕ)
    → AreBlank (sides_of rs) rs → m ≡ 2 * length f.curves.items
    → AreTracedTo d f slots 0 (replicate m false) (rings_of rs)
none_traced d f slots rs m blank size = record {
  size = length-replicate m false ∙ size;
  followed = λ n t side is. absurd (false≢true (sym (unmarked m (side_number t)) ∙ is));
  rings = λ n l less. subst (λ rings. AreRingsTo d f n 0 (replicate m false) rings)
      (sym (blank_at rs blank.blank (slot_of slots n))) (record {
        each = λ ring none. absurd none;
        below = λ ring none. absurd none;
        has = λ s. (
          (λ none. absurd none),
          (λ h. absurd (false≢true (sym (unmarked m (side_number s)) ∙ h.1))),
        );
        once = tt;
        rise = λ k l. absurd (omega (arith, l));
      });
  passed = λ n s l less is below. absurd (omega (arith, below));
}

module _ (d : Plan) (f : DrawingFaces) (sides : List SideAt) (slots : List ℕ) (side : SideAt)
    (marks : List Bool) (rs : List (List (List SideAt))) (S : AreSlots f sides (length sides) slots)
    (T : AreTracedTo d f slots (side_number side) marks rs) where
  at_or_below : (s : SideAt) → side_number s < side_number side + 1
      → (side_number s < side_number side) ⊎ (s ≡ side)
  at_or_below s l =
      elim (cases_lt (side_number s) (side_number side)) [
        | inl less ↦ inl less
        | inr more ↦ inr (one_side s side (omega (arith, l, more)))
      ]

  -- ---- the side is passed over
  pub passed_over : ((n : ℕ) → n < face_count f → slot_of slots n < length rs → IsSide f n side
      → is_passed marks side ≡ true) → AreTracedTo d f slots (side_number side + 1) marks rs
  passed_over known = record {
    size = T.size;
    followed = T.followed;
    rings = λ n l less. let h = T.rings n l less in
        record {
          each = h.each;
          below = λ ring a. let b = h.below ring a in omega (arith, b);
          has = h.has;
          once = h.once;
          rise = h.rise;
        };
    passed = λ n s l less is below. elim (at_or_below s below) [
      | inl b ↦ T.passed n s l less is b
      | inr e ↦ subst (λ v. is_passed marks v ≡ true) (sym e)
          (known n l less (subst (λ v. IsSide f n v) e is))
    ];
  }

  pub not_told : (face : ℕ) → IsSide f face side → length rs ≤ slot_of slots face
      → AreTracedTo d f slots (side_number side + 1) marks rs
  not_told face is more =
      passed_over (λ n l less h. let e = one_face_beside f n face side h is in
      absurd (let k : slot_of slots face < length rs = subst
      (λ m. slot_of slots m < length rs) e less in omega (arith, k, more)))

  -- ---- the ring through the side is added
  module _ (face : ℕ) (there : face < face_count f) (told : slot_of slots face < length rs)
      (count : length rs ≡ length sides) (is : IsSide f face side) (now : List Bool)
      (ring : List SideAt) (round : IsWay d f face side marks now ring side)
      (begins : Has side ring) (after : AreFollowed f now) where
    abbrev pub slot : ℕ
    slot = slot_of slots face

    abbrev pub old : List (List SideAt)
    old = rings_at rs slot

    abbrev pub more : List (List (List SideAt))
    more = set rs slot (old ++ ring ∷ [])

    R : AreRingsTo d f face (side_number side) marks old
    R = T.rings face there told

    first : first_side ring ≡ side
    first = first_is d side side ring round.leads begins

    is_ring : IsRing d ring
    is_ring = record {
      some = subst (λ v. Has v ring) (sym first) begins;
      round = subst (λ v. Leads d v ring v) (sym first) round.leads;
      least = λ s a. elim (cases_lt (side_number s) (side_number side)) [
        | inl l ↦ absurd (round.fresh s a (T.passed face s there told (round.sides s a) l))
        | inr l ↦ subst (λ v. side_number v ≤ side_number s) (sym first) (omega (arith, l))
      ];
    }

    mine : (P : List SideAt → Type 0) → ((r : List SideAt) → Has r old → P r) → P ring
        → (r : List SideAt) → Has r (old ++ ring ∷ []) → P r
    mine P h k r a = elim (has_push r old ring a) [ inl b ↦ h r b | inr e ↦ subst P (sym e) k ]

    has_all : (s : SideAt)
        → Has s (all_sides (old ++ ring ∷ [])) ↔ (IsSide f face s × (is_passed now s ≡ true))
    has_all s = (
      (λ a. elim (has_append s (all_sides old) ring (subst (λ xs. Has s xs) (all_push old ring) a)) [
        | inl b ↦ (let (side_is, passed) = (R.has s).0 b in
            (side_is, (round.marks.is s side_is.there).1 (inl passed)))
        | inr b ↦ (let side_is = round.sides s b in
            (side_is, (round.marks.is s side_is.there).1 (inr b)))
      ]),
      (λ h. subst (λ xs. Has s xs) (sym (all_push old ring))
          (elim ((round.marks.is s h.0.there).0 h.1) [
            | inl passed ↦ has_front s (all_sides old) ring ((R.has s).1 (h.0, passed))
            | inr b ↦ has_back s (all_sides old) ring b
          ])),
    )

    rings_more : AreRingsTo d f face (side_number side + 1) now (old ++ ring ∷ [])
    rings_more = record {
      each = mine (λ r. IsRing d r) R.each is_ring;
      below = mine (λ r. number_of r < side_number side + 1) (λ r a. let b = R.below r a in
          omega (arith, b))
          (subst (λ v. side_number v < side_number side + 1) (sym first) (omega arith));
      has = has_all;
      once = subst (λ xs. Once xs) (sym (all_push old ring))
          (once_append (all_sides old) ring R.once round.once
          (λ s a b. round.fresh s b ((R.has s).0 a).1));
      rise = rising_push (λ r. IsRing d r) number_of old ring R.rise
          (λ r a. subst (λ v. number_of r < side_number v) (sym first)
          (R.below r (has_of old r a)));
    }

    same_slot : (n : ℕ) → n < face_count f → slot_of slots n < length rs → slot_of slots n ≡ slot
        → n ≡ face
    same_slot n l less e =
        let a = (S.only n l (subst (λ c. slot_of slots n < c) count less)).1 in
        let b = (S.only face there (subst (λ c. slot_of slots face < c) count told)).1 in
        one_face_beside f n face (side_at sides slot)
        (subst (λ i. IsSide f n (side_at sides i)) e a) b

    others : (n : ℕ) → n < face_count f → slot_of slots n < length rs → (n ≡ face → ⊥)
        → AreRingsTo d f n (side_number side + 1) now (rings_at more (slot_of slots n))
    others n l less ne =
        let h = T.rings n l less in
        let apart : slot_of slots n ≢ slot = λ e. ne (same_slot n l less e) in
        let same : rings_at more (slot_of slots n)
        ≡ rings_at rs (slot_of slots n) =
        get_or-set_other rs slot (slot_of slots n) (old ++ ring ∷ []) [] apart in
        subst (λ rings. AreRingsTo d f n (side_number side + 1) now rings) (sym same) (record {
          each = h.each;
          below = λ r a. let b = h.below r a in omega (arith, b);
          has = λ s. (
            (λ a. let (side_is, passed) = (h.has s).0 a in
                (side_is, (round.marks.is s side_is.there).1 (inl passed))),
            (λ a. (h.has s).1 (
              a.0,
              elim ((round.marks.is s a.0.there).0 a.1) [
                | inl passed ↦ passed
                | inr b ↦ absurd (ne (one_face_beside f n face s a.0 (round.sides s b)))
              ],
            )),
          );
          once = h.once;
          rise = h.rise;
        })

    pub ring_added : AreTracedTo d f slots (side_number side + 1) now more
    ring_added = record {
      size = round.marks.size ∙ T.size;
      followed = after;
      rings = λ n l less.
          let less_old : slot_of slots n < length rs = let c = length-set rs slot
          (old ++ ring ∷ []) in
          omega (arith, less, c) in
          elim (equal_or_not n face) [
            | inl e ↦ subst
                (λ m. AreRingsTo d f m (side_number side + 1) now (rings_at more (slot_of slots m)))
                (sym e) (subst (λ rings. AreRingsTo d f face (side_number side + 1) now rings)
                (sym (get_or-set_same rs slot (old ++ ring ∷ []) [] told)) rings_more)
            | inr ne ↦ others n l less_old ne
          ];
      passed = λ n s l less s_is below.
          let less_old : slot_of slots n < length rs = let c = length-set rs slot
          (old ++ ring ∷ []) in
          omega (arith, less, c) in
          (round.marks.is s s_is.there).1
          (elim (at_or_below s below) [
            | inl b ↦ inl (T.passed n s l less_old s_is b)
            | inr e ↦ inr (subst (λ v. Has v ring) (sym e) begins)
          ]);
    }

-- ---- one region of a list
pub sides_set : (rs : List Region) (j : ℕ) (r new : Region) → get_or rs j r ≡ r → new.side ≡ r.side
    → sides_of (set rs j new) ≡ sides_of rs
sides_set rs j r new e same =
    map-set_same (λ (v : Region). v.side) rs j new r (same ∙ ap (λ (v : Region). v.side) (sym e))

pub rings_set : (rs : List Region) (j : ℕ) (r new : Region) (ring : List SideAt) → j < length rs
    → get_or rs j r ≡ r → new.rings.items ≡ r.rings.items ++ ring ∷ []
    → rings_of (set rs j new) ≡ set (rings_of rs) j (rings_at (rings_of rs) j ++ ring ∷ [])
rings_set rs j r new ring l e more =
    let at : rings_at (rings_of rs) j ≡ r.rings.items = get_or-map
    (λ (v : Region). v.rings.items) rs j r [] l ∙ ap (λ (v : Region). v.rings.items) e in
    map-set (λ (v : Region). v.rings.items) rs j new
    ∙ ap (λ (rings : List (List SideAt)). set (rings_of rs) j rings) (more
    ∙ ap (λ (rings : List (List SideAt)). rings ++ ring ∷ []) (sym at))

-- ---- all sides are passed
pub all_traced : (d : Plan) (f : DrawingFaces) (slots : List ℕ) (k : ℕ) (marks : List Bool)
    (rs : List (List (List SideAt))) → 2 * length f.curves.items ≤ k
    → AreTracedTo d f slots k marks rs → AreTracedAll d f slots rs
all_traced d f slots k marks rs l T n m less =
    let h = T.rings n m less in
    record {
      each = h.each;
      has = λ s. (
        (λ a. ((h.has s).0 a).0),
        (λ is. (h.has s).1 (
          is,
          T.passed n s m less is (let w = within f s is.there in
              omega (arith, w, l)),
        )),
      );
      once = h.once;
      rise = h.rise;
    }

-- ---- regions
region_at : (rs : List Region) (r : Region) → Has r rs
    → (j : ℕ) × (j < length rs) × (rings_at (rings_of rs) j ≡ r.rings.items)
    × (side_at (sides_of rs) j ≡ r.side)
region_at [] r none = absurd none
region_at (x ∷ xs) r (inl e) = (
  0,
  omega arith,
  ap (λ (v : Region). v.rings.items) (sym e),
  ap (λ (v : Region). v.side) (sym e),
)
region_at (x ∷ xs) r (inr h) =
    let (j, l, a, b) = region_at xs r h in (suc j, omega (arith, l), a, b)

pub regions_traced : (d : Plan) (f : DrawingFaces) (sides : List SideAt) (slots : List ℕ)
    (rs : List Region) → AreSlots f sides (length sides) slots → sides_of rs ≡ sides
    → AreTracedAll d f slots (rings_of rs) → AreRegions d f sides rs
regions_traced d f sides slots rs S e T = record {
  sides_are = e;
  rings = λ r a. inr (of_one r a);
  told = λ go of_faces r a. of_one r a;
}
  where
    count : length rs ≡ length sides
    count = sym (length-map rs (λ (v : Region). v.side)) ∙ ap (λ (ss : List SideAt). length ss) e

    of_one : (r : Region) → Has r rs → AreRingsOf d f r.side r.rings.items
    of_one r a =
        let (j, l, rings_is, side_is) = region_at rs r a in
        let h = S.each j (omega (arith, l, count)) in
        let s = ap (λ (ss : List SideAt). side_at ss j) (sym e) ∙ side_is in
        let z = h.slot in
        let c = length-map rs (λ (v : Region). v.rings.items) in
        let less : slot_of slots h.n < length (rings_of rs) = omega (arith, l, z, c) in
        let same = ap (λ (i : ℕ). rings_at (rings_of rs) i) h.slot ∙ rings_is in
        let traced = T h.n h.there less in (
          h.n,
          subst (λ v. IsSide f h.n v) s h.side,
          subst (λ rings. AreRings d (IsSide f h.n) rings) same traced,
        )

pub regions_blank : (d : Plan) (f : DrawingFaces) (sides : List SideAt) (rs : List Region)
    → (GoRound d f → AreOfFaces f sides → ⊥) → AreBlank sides rs → AreRegions d f sides rs
regions_blank d f sides rs never b = record {
  sides_are = b.sides_are;
  rings = λ r a. inl (b.blank r a);
  told = λ go of_faces r a. absurd (never go of_faces);
}

-- ---- regions without rings
pub no_region : AreBlank [] []
no_region = record { sides_are = refl; blank = λ r none. absurd none }

pub blank_push : (sides : List SideAt) (rs : List Region) (s : SideAt) (r : Region)
    → AreBlank sides rs → r.side ≡ s → r.rings.items ≡ []
    → AreBlank (sides ++ s ∷ []) (rs ++ r ∷ [])
blank_push sides rs s r h e none = record {
  sides_are = map-append (λ (v : Region). v.side) rs (r ∷ [])
      ∙ ap (λ (ss : List SideAt). ss ++ r.side ∷ []) h.sides_are
      ∙ ap (λ (v : SideAt). sides ++ v ∷ []) e;
  blank = λ v a. elim (has_push v rs r a) [
    | inl b ↦ h.blank v b
    | inr same ↦ subst (λ (w : Region). w.rings.items ≡ []) (sym same) none
  ];
}
