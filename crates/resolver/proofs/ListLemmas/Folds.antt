-- Lists that are gone over from their front: the fault that counts so far, and what is gathered.
use Rattle.std.proofs.Common.{◌≡◌, ℕ, suc, ◌+◌, ◌<◌, ◌≤◌, List, [], ◌∷◌, ◌++◌, map, length, drop}
use Rattle.std.proofs.Common.{get_or, Option, refl, ap, sym, ◌∙◌, add-one, drop-cons, append_assoc}
use Rattle.std.proofs.Common.{append-nil}
use Rattle.std.proofs.lemmas.List.{map-append, at_drop_all}
use Rattle.resolver.specs.Faults.{Fault, earlier, first_from}

pub first_append : (best : Option Fault) (fs gs : List Fault)
    → first_from best (fs ++ gs) ≡ first_from (first_from best fs) gs
first_append best [] gs = refl
first_append best (f ∷ fs) gs = first_append (earlier best f) fs gs

pub list_behind : {X : Type 0} (i : ℕ) (xs : List X) (x : X) → i < length xs → x ≡ get_or xs i x
    → drop i xs ≡ x ∷ drop (i + 1) xs
list_behind {X} i xs x lt at = drop-cons xs i x lt ∙ ap (λ (y : X). y ∷ drop (suc i) xs) (sym at)
    ∙ ap (λ (q : ℕ). x ∷ drop q xs) (sym (add-one i))

-- the same, where the list was read as one that is equal
pub list_from : {X : Type 0} (i : ℕ) (xs read : List X) (x : X) → read ≡ xs → i < length read
    → x ≡ get_or read i x → drop i xs ≡ x ∷ drop (i + 1) xs
list_from {X} i xs read x r lt at =
    ap (λ (l : List X). drop i l) (sym r) ∙ list_behind i read x lt at
    ∙ ap (λ (l : List X). x ∷ drop (i + 1) l) r

-- what is at fault in one more part of a list was reported
pub told_over : {X : Type 0} (part : List X → List Fault) (i : ℕ) (xs read : List X) (x : X)
    (here : List Fault) (before after : Option Fault)
    → ((rest : List X) → part (x ∷ rest) ≡ here ++ part rest) → read ≡ xs → i < length read
    → x ≡ get_or read i x → after ≡ first_from before here
    → first_from after (part (drop (i + 1) xs)) ≡ first_from before (part (drop i xs))
told_over {X} part i xs read x here before after step r lt at e =
    let rest : List X = drop (i + 1) xs in
    let behind : drop i xs ≡ x ∷ rest = list_from i xs read x r lt at in
    ap (λ (b : Option Fault). first_from b (part rest)) e
    ∙ sym (first_append before here (part rest))
    ∙ ap (first_from before) (sym (step rest))
    ∙ ap (λ (l : List X). first_from before (part l)) (sym behind)

-- one more is gathered of a list
pub next_pushed : {X Z : Type 0} (part : List X → List Z) (i : ℕ) (xs read : List X) (x : X)
    (done more : List Z) (z : Z)
    → ((rest : List X) → part (x ∷ rest) ≡ z ∷ part rest) → read ≡ xs → i < length read
    → x ≡ get_or read i x → more ≡ done ++ (z ∷ [])
    → more ++ part (drop (i + 1) xs) ≡ done ++ part (drop i xs)
next_pushed {X} {Z} part i xs read x done more z step r lt at e =
    let rest : List X = drop (i + 1) xs in
    ap (λ (l : List Z). l ++ part rest) e
    ∙ append_assoc done (z ∷ []) (part rest)
    ∙ ap (λ (l : List Z). done ++ l) (sym (step rest))
    ∙ ap (λ (l : List X). done ++ part l) (sym (list_from i xs read x r lt at))

-- the same, where what is gathered is seen by `view`
pub next_viewed : {X W Z : Type 0} (part : List X → List Z) (view : W → Z) (i : ℕ)
    (xs read : List X) (x : X) (done more : List W) (w : W) (z : Z)
    → ((rest : List X) → part (x ∷ rest) ≡ z ∷ part rest) → read ≡ xs → i < length read
    → x ≡ get_or read i x → more ≡ done ++ (w ∷ []) → view w ≡ z
    → map view more ++ part (drop (i + 1) xs) ≡ map view done ++ part (drop i xs)
next_viewed {X} {W} {Z} part view i xs read x done more w z step r lt at e same =
    next_pushed part i xs read x (map view done) (map view more) z step r lt at
    (ap (map view) e ∙ map-append view done (w ∷ [])
    ∙ ap (λ (k : Z). map view done ++ (k ∷ [])) same)

-- all of a list is
pub all_pushed : {X Z : Type 0} (part : List X → List Z) (i : ℕ) (xs : List X) (done : List Z)
    → part [] ≡ [] → length xs ≤ i
    → done ++ part (drop i xs) ≡ part xs → done ≡ part xs
all_pushed {X} {Z} part i xs done none le e =
    sym (ap (λ (l : List Z). done ++ l) (at_drop_all part xs i le ∙ none) ∙ append-nil done) ∙ e
