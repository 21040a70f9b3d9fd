-- The curve that is chosen for a point.
use Rattle.std.proofs.Common.{◌≡◌, ℕ, ◌<◌, Option, Some, None, List, length, get_or, sym, ◌∙◌, ap}
use Rattle.std.proofs.Common.{arith}
use Rattle.std.proofs.lemmas.List.{get_or_default}
use Rattle.fault_lists.specs.declared.faces.PointPlace.{PointPlace}
use Rattle.fault_lists.specs.declared.faces.PointPlace.TheVariants.{InFace}
use Rattle.fault_lists.specs.declared.kinds.OnAt.{OnAt}
use Rattle.area_faults.specs.PointLists.{IsChosen, chosen}

pub same_some : (i j : ℕ) → Some i ≡ Some j → i ≡ j
same_some i j e = ap (λ (o : Option ℕ). elim o as (λ _. ℕ) [ Some k ↦ k | None ↦ i ]) e

pub none_some : (i : ℕ) → None ≡ Some i → ⊥
none_some i e = cc

module _ (places : List PointPlace) (least : List (Option ℕ)) (n : ℕ) (p : PointPlace)
    (o r : Option ℕ) (l : n < length places) (size : length least ≡ length places)
    (e : r ≡ chosen (get_or places n p) (get_or least n o)) where
  here : r ≡ chosen (get_or places n (InFace 0)) (get_or least n None)
  here = e ∙ (ap (λ (q : PointPlace). chosen q (get_or least n o))
      (get_or_default places n p (InFace 0) l)
      ∙ ap (λ (q : Option ℕ). chosen (get_or places n (InFace 0)) q)
      (get_or_default least n o None (omega (arith, l, size))))

  pub is_chosen : (c : ℕ) → r ≡ Some c → IsChosen places least (record { point = n; curve = c })
  is_chosen c f = record { there = l; is = sym here ∙ f }

  at_point : (y : OnAt) → IsChosen places least y → y.point ≡ n → r ≡ Some y.curve
  at_point y is at =
      here ∙ (ap (λ (m : ℕ). chosen (get_or places m (InFace 0)) (get_or least m None)) (sym at)
      ∙ is.is)

  pub chosen_only : (c : ℕ) → r ≡ Some c → (y : OnAt) → IsChosen places least y → y.point ≡ n
      → y ≡ record { point = n; curve = c }
  chosen_only c f y is at =
      ap (λ (m : ℕ). record { point = m; curve = y.curve }) at
      ∙ ap (λ (m : ℕ). record { point = n; curve = m })
      (same_some y.curve c (sym (at_point y is at) ∙ f))

  pub none_chosen : r ≡ None → (y : OnAt) → IsChosen places least y → y.point ≡ n → ⊥
  none_chosen f y is at = none_some y.curve (sym f ∙ at_point y is at)
