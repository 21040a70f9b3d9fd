-- Places of faces in a list of sides.
use Rattle.std.proofs.Common.{◌≡◌, ◌≢◌, inl, inr, ℕ, ◌+◌, ◌<◌, List, length, sym, subst, ◌∙◌}
use Rattle.std.proofs.Common.{arith, replicate}
use Rattle.std.proofs.lemmas.Bool.{cases_lt}
use Rattle.std.proofs.lemmas.List.{get_or-set_same, get_or-set_other, length-set, get_or-replicate}
use Rattle.std.proofs.lemmas.List.{length-replicate}
use Rattle.fault_lists.specs.declared.faces.DrawingFaces.{DrawingFaces}
use Rattle.fault_lists.specs.declared.kinds.SideAt.{SideAt}
use Rattle.fault_lists.specs.DrawingFaces.{face_count}
use Rattle.fault_lists.specs.FaceLists.{IsSide}
use Rattle.fault_lists.specs.Rings.{AreOfFaces, side_at}
use Rattle.fault_lists.specs.Tracing.{AreSlots, HasNoFreeSlot, HasSlot, IsSlotTaken, slot_of}
use Rattle.plane.proofs.ListLemmas.SortedLists.{has_at}
use Rattle.fault_lists.proofs.Least.{equal_or_not}
use Rattle.fault_lists.proofs.LeastSides.{one_face_beside}

pub no_slots : (f : DrawingFaces) (sides : List SideAt)
    → AreSlots f sides 0 (replicate (face_count f) (length sides))
no_slots f sides = record {
  size = length-replicate (face_count f) (length sides);
  most = λ n l. let e = get_or-replicate (face_count f) n (length sides) 0 l in omega (arith, e);
  each = λ j l. absurd (omega (arith, l));
  only = λ n l less. absurd (let e = get_or-replicate (face_count f) n (length sides) 0 l in
      omega (arith, less, e));
}

module _ (f : DrawingFaces) (sides : List SideAt) (k : ℕ) (old new : List ℕ)
    (h : AreSlots f sides k old) (l : k < length sides)
    (t : IsSlotTaken f (side_at sides k) k (length sides) old new) where
  here : slot_of new t.n ≡ k
  here = rw t.taken (get_or-set_same old t.n k 0 (let e = h.size in let m = t.there in
      omega (arith, e, m)))

  other : (n : ℕ) → n ≢ t.n → slot_of new n ≡ slot_of old n
  other n ne = rw t.taken (get_or-set_other old t.n n k 0 ne)

  each_slot : (j : ℕ) → j < k + 1 → HasSlot f (side_at sides j) new j
  each_slot j m = elim (cases_lt j k) [
    | inl less ↦
        let s = h.each j less in
        let ne : s.n ≢ t.n = λ e. let a : slot_of old t.n
        ≡ j = subst (λ n. slot_of old n ≡ j) e s.slot in
        let b = t.free in omega (arith, a, b, less, l) in
        record { n = s.n; there = s.there; side = s.side; slot = other s.n ne ∙ s.slot }
    | inr more ↦
        let e : j ≡ k = omega (arith, m, more) in
        record {
          n = t.n;
          there = t.there;
          side = subst (λ i. IsSide f t.n (side_at sides i)) (sym e) t.side;
          slot = here ∙ sym e;
        }
  ]

  only_slots : (n : ℕ) → n < face_count f → slot_of new n < length sides
      → (slot_of new n < k + 1) × IsSide f n (side_at sides (slot_of new n))
  only_slots n m less = elim (equal_or_not n t.n) [
    | inl e ↦
        let at : slot_of new n ≡ k = subst (λ i. slot_of new i ≡ k) (sym e) here in (
          omega (arith, at),
          subst (λ i. IsSide f n (side_at sides i)) (sym at)
              (subst (λ i. IsSide f i (side_at sides k)) (sym e) t.side),
        )
    | inr ne ↦
        let at = other n ne in
        let (a, b) = h.only n m (subst (λ i. i < length sides) at less) in (
          subst (λ i. i < k + 1) (sym at) (omega (arith, a)),
          subst (λ i. IsSide f n (side_at sides i)) (sym at) b,
        )
  ]

  pub slot_more : AreSlots f sides (k + 1) new
  slot_more = record {
    size = rw t.taken (length-set old t.n k ∙ h.size);
    most = λ n m. elim (equal_or_not n t.n) [
      | inl e ↦
          let at : slot_of new n ≡ k = subst (λ i. slot_of new i ≡ k) (sym e) here in
          omega (arith, at, l)
      | inr ne ↦ (let at = other n ne in let b = h.most n m in omega (arith, at, b))
    ];
    each = each_slot;
    only = only_slots;
  }

-- ---- a side that gets no slot
-- a face that is found and has a slot
pub slot_is_taken : (f : DrawingFaces) (s : SideAt) (none : ℕ) (slots : List ℕ) (face : ℕ)
    → (face < face_count f) × IsSide f face s → (slot_of slots face ≡ none → ⊥)
    → HasNoFreeSlot f s none slots
slot_is_taken f s none slots face is taken n side =
    let e : face ≡ n = one_face_beside f face n s is.1 side in
    (subst (λ i. i < face_count f) e is.0, subst (λ i. slot_of slots i ≡ none → ⊥) e taken)

-- it is of no face, or shares its face with a side before it
pub not_of_faces : (f : DrawingFaces) (sides : List SideAt) (k : ℕ) (slots : List ℕ)
    → AreSlots f sides k slots → k < length sides
    → HasNoFreeSlot f (side_at sides k) (length sides) slots → AreOfFaces f sides → ⊥
not_of_faces f sides k slots h l refused of_faces =
    let (n, side) = of_faces.each (side_at sides k) (has_at sides k _ l) in
    let (there, taken) = refused n side in
    let most = h.most n there in
    elim (cases_lt (slot_of slots n) (length sides)) [
      | inl less ↦
          let (before, first) = h.only n there less in
          let e : slot_of slots n ≡ k = of_faces.once (slot_of slots n) k n less l first side in
          omega (arith, before, e)
      | inr more ↦ taken (omega (arith, most, more))
    ]
