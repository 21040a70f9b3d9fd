-- The least point and the least side of a face.
use Rattle.std.proofs.Common.{◌≡◌, ◌⊎◌, inl, inr, ℕ, zero, suc, ◌+◌, ◌*◌, ◌<◌, Bool, true, false}
use Rattle.std.proofs.Common.{Option, Some, None, length, refl, sym, subst, ◌∙◌, arith}
use Rattle.std.specs.Prelude.{if◌then◌else◌}
use Rattle.std.proofs.lemmas.Bool.{cases_lt}
use Rattle.fault_lists.specs.declared.faces.CurveFaces.{CurveFaces}
use Rattle.fault_lists.specs.declared.faces.DrawingFaces.{DrawingFaces}
use Rattle.fault_lists.specs.declared.faces.PointPlace.{PointPlace}
use Rattle.fault_lists.specs.declared.faces.PointPlace.TheVariants.{InFace, OnCurve}
use Rattle.fault_lists.specs.declared.kinds.SideAt.{SideAt}
use Rattle.fault_lists.specs.DrawingFaces.{faces_of, place_of}
use Rattle.fault_lists.specs.FaceLists.{face_beside, IsIn, IsLeastSide, IsSide, side_number}
use Rattle.fault_lists.specs.Telling.{IsFirst}
use Rattle.fault_lists.proofs.LeastSides.{one_side}

-- ---- numbers
pub equal_or_not : (m n : ℕ) → (m ≡ n) ⊎ (m ≡ n → ⊥)
equal_or_not m n =
    elim (cases_lt m n) [
      | inl l ↦ inr (λ e. omega (arith, l, e))
      | inr l ↦ elim (cases_lt n m) [
        | inl k ↦ inr (λ e. omega (arith, k, e))
        | inr k ↦ inl (omega (arith, l, k))
      ]
    ]

-- The number is the least one of which it is so.
record IsLeast (P : ℕ → Type 0) (k : ℕ) : Type 0 where
  is : P k
  least : (i : ℕ) → i < k → P i → ⊥

module _ (P : ℕ → Type 0) (decide : (k : ℕ) → P k ⊎ (P k → ⊥)) where
  least_below : (m : ℕ) → ((k : ℕ) × IsLeast P k) ⊎ ((i : ℕ) → i < m → P i → ⊥)
  least_below zero = inr (λ i l p. omega (arith, l))
  least_below (suc m) = elim (least_below m) [
    | inl h ↦ inl h
    | inr none ↦ elim (decide m) [
      | inl p ↦ inl (m, record { is = p; least = none })
      | inr never ↦ inr
          (λ i l p. elim (cases_lt i m) [
            | inl s ↦ none i s p
            | inr s ↦ (let e : i ≡ m = omega (arith, l, s) in never (subst (λ k. P k) e p))
          ])
    ]
  ]

  least_of : (m : ℕ) → P m → (k : ℕ) × IsLeast P k
  least_of m p =
      elim (least_below (suc m)) [ inl h ↦ h | inr none ↦ absurd (none m (omega arith) p) ]

-- ---- points
in_or_not : (f : DrawingFaces) (n k : ℕ) → IsIn f k n ⊎ (IsIn f k n → ⊥)
in_or_not f n k =
    elim (cases_lt k (length f.points.items)) [
      | inl l ↦ by l (place_of f k) refl
      | inr l ↦ inr (λ h. let t = h.there in omega (arith, l, t))
    ]
  where
    by : k < length f.points.items → (o : PointPlace) → place_of f k ≡ o
        → IsIn f k n ⊎ (IsIn f k n → ⊥)
    by l (OnCurve i) e = inr (λ h. let c : OnCurve i ≡ InFace n = sym e ∙ h.in_face in cc)
    by l (InFace m) e = elim (equal_or_not m n) [
      | inl s ↦ inl (record { there = l; in_face = subst (λ k'. place_of f k ≡ InFace k') s e })
      | inr ne ↦ inr (λ h. ne (let c : InFace m ≡ InFace n = sym e ∙ h.in_face in cc))
    ]

pub first_point : (f : DrawingFaces) (n j : ℕ) → IsIn f j n → (k : ℕ) × IsFirst f n k
first_point f n j h =
    let (k, l) = least_of (λ i. IsIn f i n) (in_or_not f n) j h in
    (k, record { in_face = l.is; least = l.least })

-- ---- sides
side_of_number : (m : ℕ) → (s : SideAt) × (side_number s ≡ m)
side_of_number zero = (record { curve = 0; left = true }, refl)
side_of_number (suc m) = let (s, e) = side_of_number m in next s.curve s.left e
  where
    next : (c : ℕ) (b : Bool) → 2 * c + (if b then 0 else 1) ≡ m
        → (s : SideAt) × (side_number s ≡ suc m)
    next c true e = (record { curve = c; left = false }, omega (arith, e))
    next c false e = (record { curve = c + 1; left = true }, omega (arith, e))

side_or_not : (f : DrawingFaces) (n : ℕ) (s : SideAt) → IsSide f n s ⊎ (IsSide f n s → ⊥)
side_or_not f n s =
    elim (cases_lt s.curve (length f.curves.items)) [
      | inl l ↦ by l (faces_of f s.curve) refl
      | inr l ↦ inr (λ h. let t = h.there in omega (arith, l, t))
    ]
  where
    by : s.curve < length f.curves.items → (o : Option CurveFaces) → faces_of f s.curve ≡ o
        → IsSide f n s ⊎ (IsSide f n s → ⊥)
    by l None e = inr (λ h. let c : None ≡ Some h.faces = sym e ∙ h.is in cc)
    by l (Some c) e = elim (equal_or_not (face_beside s.left c) n) [
      | inl on ↦ inl (record { there = l; faces = c; is = e; on = on })
      | inr ne ↦ inr (λ h. let same : Some c ≡ Some h.faces = sym e ∙ h.is in
          let is : c ≡ h.faces = cc in ne (subst (λ x. face_beside s.left x ≡ n) (sym is) h.on))
    ]

abbrev IsSideOf : DrawingFaces → ℕ → ℕ → Type 0
IsSideOf f n m = (s : SideAt) × (side_number s ≡ m) × IsSide f n s

numbered_or_not : (f : DrawingFaces) (n m : ℕ) → IsSideOf f n m ⊎ (IsSideOf f n m → ⊥)
numbered_or_not f n m =
    let (s, e) = side_of_number m in
    elim (side_or_not f n s) [
      | inl h ↦ inl (s, e, h)
      | inr never ↦ inr (λ h. never (subst (λ t. IsSide f n t) (one_side h.0 s (h.1 ∙ sym e)) h.2))
    ]

pub least_side : (f : DrawingFaces) (n : ℕ) (s : SideAt) → IsSide f n s
    → (t : SideAt) × IsLeastSide f n t
least_side f n s h =
    let (m, l) = least_of (IsSideOf f n) (numbered_or_not f n) (side_number s) (s, refl, h) in
    let (t, e, is) = l.is in (
      t,
      record {
        side = is;
        least = λ o b k. l.least (side_number o) (omega (arith, b, e)) (o, refl, k);
      },
    )

pub same_least : (f : DrawingFaces) (n : ℕ) (s o : SideAt) → IsLeastSide f n s → IsLeastSide f n o
    → s ≡ o
same_least f n s o h k = elim (cases_lt (side_number s) (side_number o)) [
  | inl l ↦ absurd (k.least s l h.side)
  | inr l ↦ elim (cases_lt (side_number o) (side_number s)) [
    | inl m ↦ absurd (h.least o m k.side)
    | inr m ↦ one_side s o (omega (arith, l, m))
  ]
]
