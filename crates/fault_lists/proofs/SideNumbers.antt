-- Sides are told apart by their numbers.
use Rattle.std.proofs.Common.{◌≡◌, ℕ, ◌<◌, ◌≤◌, inl, inr, Bool, true, false, List, [], ◌∷◌, length}
use Rattle.std.proofs.Common.{map, refl, sym, subst, arith}
use Rattle.std.proofs.Math.Bool.{◌&&◌, beq}
use Rattle.std.proofs.Math.Dec.{eqb}
use Rattle.std.proofs.lemmas.Bool.{eq-eqb}
use Rattle.std.proofs.lemmas.List.{length-map}
use Rattle.plane.specs.Lists.{Has, Once}
use Rattle.plane.proofs.ListLemmas.SortedLists.{room}
use Rattle.fault_lists.specs.declared.kinds.SideAt.{SideAt}
use Rattle.fault_lists.specs.FaceLists.{side_number}
use Rattle.fault_lists.proofs.LeastSides.{one_side}

has_number : (s : SideAt) (xs : List SideAt) → Has (side_number s) (map side_number xs) → Has s xs
has_number s [] none = none
has_number s (x ∷ xs) (inl e) = inl (one_side s x e)
has_number s (x ∷ xs) (inr h) = inr (has_number s xs h)

numbers_once : (xs : List SideAt) → Once xs → Once (map side_number xs)
numbers_once [] h = tt
numbers_once (x ∷ xs) h = ((λ a. h.0 (has_number x xs a)), numbers_once xs h.1)

numbers_below : (m : ℕ) (xs : List SideAt) → ((s : SideAt) → Has s xs → side_number s < m)
    → (k : ℕ) → Has k (map side_number xs) → k < m
numbers_below m [] h k none = absurd none
numbers_below m (x ∷ xs) h k (inl e) = subst (λ (i : ℕ). i < m) (sym e) (h x (inl refl))
numbers_below m (x ∷ xs) h k (inr a) = numbers_below m xs (λ s b. h s (inr b)) k a

-- different sides with numbers below m are at most m
pub few_sides : (m : ℕ) (xs : List SideAt) → Once xs
    → ((s : SideAt) → Has s xs → side_number s < m) → length xs ≤ m
few_sides m xs once less =
    let r = room m (map side_number xs) (numbers_once xs once) (numbers_below m xs less) in
    let l = length-map xs side_number in
    omega (arith, r, l)

-- a side is not told apart from itself
pub apart_told : (s t : SideAt) → s ≡ t → (eqb s.curve t.curve && beq s.left t.left) ≡ false → ⊥
apart_told s t e told = by s.curve s.left (subst (λ v. Told v) (sym e) told)
  where
    Told : SideAt → Type 0
    Told v = (eqb s.curve v.curve && beq s.left v.left) ≡ false

    by : (c : ℕ) (b : Bool) → (eqb c c && beq b b) ≡ false → ⊥
    by c true h = let y = eq-eqb c c refl in cc
    by c false h = let y = eq-eqb c c refl in cc
