-- Parts of lists that are numbered one after another.
use Rattle.std.proofs.Common.{◌≡◌, ℕ, zero, suc, ◌+◌, ◌<◌, ◌≤◌, List, [], ◌∷◌, ◌++◌, length, map}
use Rattle.std.proofs.Common.{take, get_or, Option, Some, None, refl, sym, subst, ap, ◌∙◌, arith}
use Rattle.std.proofs.Common.{append-nil}
use Rattle.std.specs.List.{All}
use Rattle.std.proofs.lemmas.List.{map_more}
use Rattle.ident_refs.specs.declared.ident_lists.KeptList.{KeptList as CodeList}
use Rattle.ident_refs.specs.RowKeys.{list_parts}
use Rattle.ident_refs.specs.SharedLists.{AreNumbered, IsNumbered, picked, picked_one}
use Rattle.ident_refs.proofs.SharedSteps.{one_more, picked_grown}

-- parts that stay at their numbers
abbrev pub Stay : List (Option ℕ) → List (Option ℕ) → Type 0
Stay old new = (numbers : List ℕ) → All (λ n. n < length old) numbers
    → picked new numbers ≡ picked old numbers

pub stay_more : (old new : List (Option ℕ)) (part : Option ℕ) → new ≡ old ++ part ∷ []
    → Stay old new
stay_more old new part e numbers h =
    ap (λ (l : List (Option ℕ)). picked l numbers) e
    ∙ picked_grown old part (length old) numbers refl h

pub still_below : (n m : ℕ) (numbers : List ℕ) → n ≤ m → All (λ j. j < n) numbers
    → All (λ j. j < m) numbers
still_below n m numbers le h i d lt =
    let a : get_or numbers i d < n = h i d lt in omega (arith, a, le)

pub stay_on : (a b c : List (Option ℕ)) → length a ≤ length b → Stay a b → Stay b c → Stay a c
stay_on a b c le g h numbers within =
    h numbers (still_below (length a) (length b) numbers le within) ∙ g numbers within

pub all_added : {X : Type 0} (P : X → Type 0) (xs : List X) (x : X) → All P xs → P x
    → All P (xs ++ x ∷ [])
all_added P [] x h p zero d lt = p
all_added P [] x h p (suc i) d lt = absurd (omega (arith, lt))
all_added P (y ∷ xs) x h p zero d lt = h 0 d (omega arith)
all_added P (y ∷ xs) x h p (suc i) d lt =
    all_added P xs x (λ j e l. h (suc j) e (omega (arith, l))) p i d (omega (arith, lt))

-- ---- the numbers of one list
pub places_step : (places : List ℕ) (i d : ℕ) (old new : List (Option ℕ)) (numbers more : List ℕ)
    (n : ℕ)
    → i < length places
    → more ≡ numbers ++ n ∷ [] → Stay old new → picked_one new n ≡ Some (get_or places i d) ∷ []
    → All (λ j. j < length old) numbers
    → picked old numbers ≡ map Some (take i places)
    → picked new more ≡ map Some (take (i + 1) places)
places_step places i d old new numbers more n lt e stay own within inv =
    let front = map Some (take i places) in
    ap (picked new) e ∙ one_more new numbers n
    ∙ ap (λ (z : List (Option ℕ)). z ++ picked_one new n) (stay numbers within ∙ inv)
    ∙ ap (λ (z : List (Option ℕ)). front ++ z) own
    ∙ sym (map_more Some places i d lt)

pub no_place : (places : List ℕ) (parts : List (Option ℕ)) (n : ℕ) → places ≡ []
    → picked_one parts n ≡ None ∷ [] → picked parts (n ∷ []) ≡ list_parts places
no_place places parts n e own = append-nil (picked_one parts n) ∙ own ∙ ap list_parts (sym e)

pub some_place : (places : List ℕ) → (length places ≡ 0 → ⊥) → map Some places ≡ list_parts places
some_place [] h = absurd (h refl)
some_place (p ∷ ps) h = refl

-- ---- the numbers of all lists
one_stays : (old new : List (Option ℕ)) (l : CodeList) → length old ≤ length new → Stay old new
    → IsNumbered old l → IsNumbered new l
one_stays old new l le stay h = record {
  within = still_below (length old) (length new) l.numbers.items le h.within;
  own = stay l.numbers.items h.within ∙ h.own;
}

pub numbered_more : (old new : List (Option ℕ)) (kept more : List CodeList) (l : CodeList)
    → more ≡ kept ++ l ∷ [] → length old ≤ length new → Stay old new
    → AreNumbered old kept → IsNumbered new l → AreNumbered new more
numbered_more old new kept more l e le stay h own =
    subst (λ (ls : List CodeList). AreNumbered new ls) (sym e)
    (all_added (IsNumbered new) kept l
    (λ i d lt. one_stays old new (get_or kept i d) le stay (h i d lt)) own)
