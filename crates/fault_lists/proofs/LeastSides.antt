-- What the walk over the sides keeps.
use Rattle.std.proofs.Common.{◌≡◌, ◌≢◌, ◌↔◌, inl, inr, ℕ, ◌+◌, ◌*◌, ◌<◌, ◌≤◌, Bool, true, false}
use Rattle.std.proofs.Common.{Option, Some, None, List, [], ◌∷◌, ◌++◌, length, refl, sym, subst, ap}
use Rattle.std.proofs.Common.{◌∙◌, arith, set}
use Rattle.std.specs.Prelude.{if◌then◌else◌}
use Rattle.std.proofs.lemmas.Bool.{cases_lt}
use Rattle.std.proofs.lemmas.List.{get_or-set_same, get_or-set_other, length-set}
use Rattle.std.proofs.lemmas.List.{get_or_append_left, length-append}
use Rattle.std.proofs.Math.Seq.{get_or-append_seam}
use Rattle.fault_lists.specs.declared.faces.CurveFaces.{CurveFaces}
use Rattle.fault_lists.specs.declared.faces.DrawingFaces.{DrawingFaces}
use Rattle.fault_lists.specs.declared.kinds.SideAt.{SideAt}
use Rattle.fault_lists.specs.DrawingFaces.{AreFacesBelow, IsNumbered, face_count, faces_of}
use Rattle.fault_lists.specs.FaceLists.{face_beside, HasExactly, IsLeastSideOf, IsSide, side_number}
use Rattle.fault_lists.specs.Telling.{AreMarks, is_marked, with_side}
use Rattle.fault_lists.proofs.Walks.{HasBelow, none_below, one_below, same_below, all_below}
use Rattle.fault_lists.proofs.Walks.{exactly_where}

-- ---- marks
pub no_marks : (Is : ℕ → Type 0) → AreMarks 0 Is []
no_marks Is = record { size = refl; is = λ n l. absurd (omega (arith, l)) }

pub one_mark : (n : ℕ) (Is : ℕ → Type 0) (marks : List Bool) (b : Bool) → AreMarks n Is marks
    → ((b ≡ true) ↔ Is n) → AreMarks (n + 1) Is (marks ++ b ∷ [])
one_mark n Is marks b h is = record {
  size = let e = h.size in omega (arith, length-append marks (b ∷ []), e);
  is = λ k l. elim (cases_lt k n) [
    | inl m ↦ let here : k < length marks =
        let e = h.size in
        omega (arith, m, e) in rw (get_or_append_left marks (b ∷ []) false k here) (h.is k m)
    | inr m ↦
        let e : k ≡ length marks = let s = h.size in omega (arith, l, m, s) in
        let s : k ≡ n = e ∙ h.size in
        let v : is_marked (marks ++ b ∷ []) k
        ≡ b = rw (e, get_or-append_seam marks b [] false) refl in
        subst (λ c. (c ≡ true) ↔ Is k) (sym v) (subst (λ j. (b ≡ true) ↔ Is j) (sym s) is)
  ];
}

-- ---- numbers of sides
side_part : (b : Bool) → (if b then 0 else 1) < 2
side_part true = omega arith
side_part false = omega arith

same_sides : (c e : ℕ) (a b : Bool) → 2 * c + (if a then 0 else 1) ≡ 2 * e + (if b then 0 else 1)
    → (c ≡ e) × (a ≡ b)
same_sides c e true true h = (omega (arith, h), refl)
same_sides c e false false h = (omega (arith, h), refl)
same_sides c e true false h = absurd (omega (arith, h))
same_sides c e false true h = absurd (omega (arith, h))

abbrev side : ℕ → Bool → SideAt
side c b = record { curve = c; left = b }

-- sides of one number are the same
pub one_side : (s o : SideAt) → side_number s ≡ side_number o → s ≡ o
one_side s o h =
    let e = same_sides s.curve o.curve s.left o.left h in
    ap (λ (c : ℕ). side c s.left) e.0 ∙ ap (λ (b : Bool). side o.curve b) e.1

-- a side is a side of one face
pub one_face_beside : (f : DrawingFaces) (m n : ℕ) (s : SideAt) → IsSide f m s → IsSide f n s
    → m ≡ n
one_face_beside f m n s h k =
    let e : Some h.faces ≡ Some k.faces = sym h.is ∙ k.is in
    let same : h.faces ≡ k.faces = cc in
    sym h.on ∙ ap (λ (c : CurveFaces). face_beside s.left c) same ∙ k.on

-- ---- the walk
abbrev Sought : DrawingFaces → List Bool → SideAt → Type 0
Sought f marks = IsLeastSideOf f (λ n. is_marked marks n ≡ true)

abbrev HasNoSideBelow : DrawingFaces → ℕ → ℕ → Type 0
HasNoSideBelow f bound n = (o : SideAt) → side_number o < bound → IsSide f n o → ⊥

-- Told are the sides of lesser numbers, and the marks stand of faces without such a side.
pub record AreToldTo (f : DrawingFaces) (marks : List Bool) (bound : ℕ) (sides : List SideAt)
    (left : List Bool) : Type 0 where
  pub told : HasBelow (IsLeastSideOf f (λ n. is_marked marks n ≡ true)) side_number bound sides
  pub size : length left ≡ face_count f
  pub stand : (n : ℕ) → n < face_count f
      → (is_marked left n ≡ true) ↔ ((is_marked marks n ≡ true) × HasNoSideBelow f bound n)

pub no_side_told : (f : DrawingFaces) (marks : List Bool) → length marks ≡ face_count f
    → AreToldTo f marks 0 [] marks
no_side_told f marks e = record {
  told = none_below (Sought f marks) side_number;
  size = e;
  stand = λ n l. ((λ m. (m, λ o b. absurd (omega (arith, b)))), (λ h. h.0));
}

module _ (f : DrawingFaces) (marks : List Bool) (bound : ℕ) (sides : List SideAt) (left : List Bool)
    (h : AreToldTo f marks bound sides left) where
  module _ (s : SideAt) (face : ℕ) (number : side_number s ≡ bound) (known : face < face_count f)
      (side : IsSide f face s) where
    only : (y : SideAt) → side_number y ≡ bound → y ≡ s
    only y e = one_side y s (e ∙ sym number)

    told_one : (b : Bool) → is_marked left face ≡ b
        → HasBelow (Sought f marks) side_number (bound + 1) (with_side b s sides)
    told_one true e =
        let m = (h.stand face known).0 e in
        one_below (Sought f marks) side_number bound sides s h.told
        (record {
          n = face;
          is = m.0;
          side = record { side = side; least = λ o l. m.1 o (omega (arith, l, number)) };
        }) number
        (λ y i. only y)
    told_one false e =
        same_below (Sought f marks) side_number bound (bound + 1) sides h.told (omega arith) none
      where
        none : (y : SideAt) → Sought f marks y → bound ≤ side_number y → side_number y < bound + 1
            → ⊥
        none y i low high =
            let at : side_number y ≡ bound = omega (arith, low, high) in
            let same : y ≡ s = only y at in
            let n_is : i.n ≡ face = one_face_beside f i.n face s
            (subst (λ t. IsSide f i.n t) same i.side.side) side in
            let marked : is_marked marks face
            ≡ true = subst (λ n. is_marked marks n ≡ true) n_is i.is in
            let free : HasNoSideBelow f bound face = λ o l k. i.side.least o (omega (arith, l, at))
            (subst (λ n. IsSide f n o) (sym n_is) k) in
            let clash : is_marked left face ≡ true = (h.stand face known).1 (marked, free) in
            cc

    other_stands : (n : ℕ) → n < face_count f → n ≢ face
        → (is_marked (set left face false) n ≡ true)
        ↔ ((is_marked marks n ≡ true) × HasNoSideBelow f (bound + 1) n)
    other_stands n l ne =
        subst (λ b. (b ≡ true) ↔ ((is_marked marks n ≡ true) × HasNoSideBelow f (bound + 1) n))
        (sym (get_or-set_other left face n false false ne)) (
          (λ e. let m = (h.stand n l).0 e in (
            m.0,
            λ o b k. elim (cases_lt (side_number o) bound) [
              | inl c ↦ m.1 o c k
              | inr c ↦ ne
                  (one_face_beside f n face s (subst (λ t. IsSide f n t) (only o (omega (arith, b, c))) k)
                  side)
            ],
          )),
          (λ m. (h.stand n l).1 (m.0, λ o b k. m.1 o (omega (arith, b)) k)),
        )

    face_falls : (n : ℕ) → n ≡ face
        → (is_marked (set left face false) n ≡ true)
        ↔ ((is_marked marks n ≡ true) × HasNoSideBelow f (bound + 1) n)
    face_falls n e =
        let there : face < length left = let z = h.size in omega (arith, known, z) in
        let off : is_marked (set left face false) n
        ≡ false = rw e (get_or-set_same left face false false there) in (
          (λ m. absurd (clash (sym off ∙ m))),
          (λ m. absurd (m.1 s (omega (arith, number)) (subst (λ k. IsSide f k s) (sym e) side))),
        )
      where
        clash : false ≡ true → ⊥
        clash x = cc

    stand_one : (n : ℕ) → n < face_count f
        → (is_marked (set left face false) n ≡ true)
        ↔ ((is_marked marks n ≡ true) × HasNoSideBelow f (bound + 1) n)
    stand_one n l =
        elim (cases_lt n face) [
          | inl a ↦ other_stands n l (λ e. omega (arith, a, e))
          | inr a ↦ elim (cases_lt face n) [
            | inl c ↦ other_stands n l (λ e. omega (arith, c, e))
            | inr c ↦ face_falls n (omega (arith, a, c))
          ]
        ]

    -- one side more
    pub side_told : AreToldTo f marks (bound + 1) (with_side (is_marked left face) s sides)
        (set left face false)
    side_told = record {
      told = told_one (is_marked left face) refl;
      size = length-set left face false ∙ h.size;
      stand = stand_one;
    }

  -- sides of no face
  pub sides_passed : (more : ℕ) → bound ≤ more
      → ((n : ℕ) (o : SideAt) → bound ≤ side_number o → side_number o < more → IsSide f n o → ⊥)
      → AreToldTo f marks more sides left
  sides_passed more le none = record {
    told = same_below (Sought f marks) side_number bound more sides h.told le
        (λ y i low high. none i.n y low high i.side.side);
    size = h.size;
    stand = λ n l. (
      (λ e. let m = (h.stand n l).0 e in (
        m.0,
        λ o b k. elim (cases_lt (side_number o) bound) [
          | inl c ↦ m.1 o c k
          | inr c ↦ none n o c b k
        ],
      )),
      (λ m. (h.stand n l).1 (m.0, λ o b k. m.1 o (omega (arith, b, le)) k)),
    );
  }

-- a curve that is left out
pub curve_passed : (f : DrawingFaces) (marks : List Bool) (i : ℕ) (sides : List SideAt)
    (left : List Bool)
    → AreToldTo f marks (2 * i) sides left → faces_of f i ≡ None
    → AreToldTo f marks (2 * (i + 1)) sides left
curve_passed f marks i sides left h out =
    sides_passed f marks (2 * i) sides left h (2 * (i + 1)) (omega arith) none
  where
    none : (n : ℕ) (o : SideAt) → 2 * i ≤ side_number o → side_number o < 2 * (i + 1) → IsSide f n o
        → ⊥
    none n o low high k =
        let part = side_part o.left in
        let e : o.curve ≡ i = omega (arith, low, high, part) in
        let is : faces_of f i ≡ Some k.faces = subst (λ c. faces_of f c ≡ Some k.faces) e k.is in
        cc

told_as : (f : DrawingFaces) (marks : List Bool) (bound : ℕ) (xs ys : List SideAt)
    (ms ns : List Bool)
    → AreToldTo f marks bound xs ms → ys ≡ xs → ns ≡ ms → AreToldTo f marks bound ys ns
told_as f marks bound xs ys ms ns h a b =
    subst (λ zs. AreToldTo f marks bound zs ns) (sym a)
    (subst (λ ks. AreToldTo f marks bound xs ks) (sym b) h)

-- the two sides of a curve that is not left out
pub curve_told : (f : DrawingFaces) (marks : List Bool) (i : ℕ) (b : CurveFaces)
    (sides first second : List SideAt) (left middle last : List Bool)
    → IsNumbered f → i < length f.curves.items → faces_of f i ≡ Some b
    → AreToldTo f marks (2 * i) sides left → middle ≡ set left b.left false
    → first ≡ with_side (is_marked left b.left) (side i true) sides
    → last ≡ set middle b.right false
    → second ≡ with_side (is_marked middle b.right) (side i false) first
    → AreToldTo f marks (2 * (i + 1)) second last
curve_told f marks i b sides first second left middle last known l is h m a n e =
    let below : AreFacesBelow (face_count f) (Some b) = subst
    (λ (o : Option CurveFaces). AreFacesBelow (face_count f) o) is (known.curves i l) in
    let s : IsSide f b.left (side i true) = record { there = l; faces = b; is = is; on = refl } in
    let t : IsSide f b.right (side i false) = record { there = l; faces = b; is = is; on = refl } in
    let one = told_as f marks (2 * i + 1) _ first _ middle
    (side_told f marks (2 * i) sides left h (side i true) b.left (omega arith) below.0 s) a m in
    let two = told_as f marks (2 * i + 1 + 1) _ second _ last
    (side_told f marks (2 * i + 1) first middle one (side i false) b.right
    (omega arith) below.1 t) e n in
    let at : 2 * i + 1 + 1 ≡ 2 * (i + 1) = omega arith in
    subst (λ k. AreToldTo f marks k second last) at two

pub all_sides_told : (f : DrawingFaces) (marks : List Bool) (i : ℕ) (sides : List SideAt)
    (left : List Bool)
    → length f.curves.items ≤ i → AreToldTo f marks (2 * i) sides left
    → HasExactly (IsLeastSideOf f (λ n. is_marked marks n ≡ true)) side_number sides
all_sides_told f marks i sides left e h =
    all_below (Sought f marks) side_number (2 * i) sides h.told
    (λ y k. let part = side_part y.left in let l = k.side.side.there in omega (arith, part, l, e))

-- the marks stand for what is so
pub sides_of_marked : (f : DrawingFaces) (Is : ℕ → Type 0) (marks : List Bool) (sides : List SideAt)
    → AreMarks (face_count f) Is marks → IsNumbered f
    → HasExactly (IsLeastSideOf f (λ n. is_marked marks n ≡ true)) side_number sides
    → HasExactly (IsLeastSideOf f Is) side_number sides
sides_of_marked f Is marks sides m numbered h = exactly_where (Sought f marks) side_number sides
    (λ s. (
      (λ k. record { n = k.n; is = (m.is k.n (known k.n s k.side.side)).0 k.is; side = k.side }),
      (λ k. record { n = k.n; is = (m.is k.n (known k.n s k.side.side)).1 k.is; side = k.side }),
    )) h
  where
    known : (n : ℕ) (s : SideAt) → IsSide f n s → n < face_count f
    known n s k =
        let below : AreFacesBelow (face_count f) (Some k.faces) = subst
        (λ (o : Option CurveFaces). AreFacesBelow (face_count f) o) k.is
        (numbered.curves s.curve k.there) in
        subst (λ m. m < face_count f) k.on (one s.left k.faces below)
      where
        one : (b : Bool) (c : CurveFaces) → AreFacesBelow (face_count f) (Some c)
            → face_beside b c < face_count f
        one true c h = h.0
        one false c h = h.1
