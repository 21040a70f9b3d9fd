-- The key of a row by a list is the one joined of its keys by the parts of the list.
use Rattle.std.proofs.Common.{◌≡◌, ℕ, suc, ◌<◌, Bool, true, false, List, [], ◌∷◌, ◌++◌, length, map}
use Rattle.std.proofs.Common.{get_or, Option, Some, None, if◌then◌else◌, refl, sym, ap, ◌∙◌, arith}
use Rattle.std.specs.Prelude.{slice_index_or}
use Rattle.std.specs.List.{All, flat_map}
use Rattle.std.specs.Option.{option_map}
use Rattle.std.proofs.lemmas.List.{map-append}
use Rattle.ili_grammar.specs.Syntax.{Codes}
use Rattle.table_layout.specs.Layouts.{Table}
use Rattle.itf_reader.specs.Forms.{Row}
use Rattle.itf_reader.specs.RowFindings.{is_counted}
use Rattle.ident_refs.specs.declared.ident_lists.KeptList.{KeptList as CodeList}
use Rattle.ident_refs.specs.KeptRows.{KeptList, list_key, with_key}
use Rattle.ident_refs.specs.KeyBytes.{list_code, value_code, part_code}
use Rattle.ident_refs.specs.ListValues.{Value, and_value, values_at, row_values}
use Rattle.ident_refs.specs.RowKeys.{list_parts, part_key, numbered_key, and_ended, all_ended}
use Rattle.ident_refs.specs.RowKeys.{several_key, joined_key, key_by, HasParts}
use Rattle.ident_refs.specs.SharedLists.{IsNumbered, AreNumbered, list_view, lists_view, picked}
use Rattle.ident_refs.proofs.SharedSteps.{one_there}

-- ---- the keys by the places of a list, joined
abbrev place_code : Bool → List (Option Value) → ℕ → Option (List ℕ)
place_code b values p = option_map list_code (if b then values_at values (p ∷ []) else None)

ended_step : (o : Option Value) (vs : Option (List Value)) (key : Option (List ℕ))
    → key ≡ option_map (flat_map part_code) vs
    → and_ended (option_map list_code (and_value o (Some []))) key
    ≡ option_map (flat_map part_code) (and_value o vs)
ended_step None vs key e = refl
ended_step (Some v) None key e = ap (and_ended (Some (value_code v))) e
ended_step (Some v) (Some vs) key e = ap (and_ended (Some (value_code v))) e

ended_places : (values : List (Option Value)) (ps : List ℕ)
    → all_ended (map (place_code true values) ps)
    ≡ option_map (flat_map part_code) (values_at values ps)
ended_places values [] = refl
ended_places values (p ∷ ps) =
    ended_step (slice_index_or values p None) (values_at values ps) _ (ended_places values ps)

two_coded : (v w : Option Value) (vs : Option (List Value))
    → option_map (λ (bytes : List ℕ). 3 ∷ bytes)
    (option_map (flat_map part_code) (and_value v (and_value w vs)))
    ≡ option_map list_code (and_value v (and_value w vs))
two_coded None w vs = refl
two_coded (Some v) None vs = refl
two_coded (Some v) (Some w) None = refl
two_coded (Some v) (Some w) (Some vs) = refl

several_coded : (b : Bool) (values : List (Option Value)) (p q : ℕ) (ps : List ℕ)
    → several_key (map (place_code b values) (p ∷ q ∷ ps))
    ≡ option_map list_code (if b then values_at values (p ∷ q ∷ ps) else None)
several_coded false values p q ps = refl
several_coded true values p q ps =
    ap (option_map (λ (bytes : List ℕ). 3 ∷ bytes)) (ended_places values (p ∷ q ∷ ps))
    ∙ two_coded (slice_index_or values p None) (slice_index_or values q None) (values_at values ps)

places_coded : (codes : Codes) (t : Table) (r : Row) (ps : List ℕ)
    → map (part_key codes t r) (map Some ps)
    ≡ map (place_code (is_counted t r) (row_values codes t r)) ps
places_coded codes t r [] = refl
places_coded codes t r (p ∷ ps) =
    ap (λ (keys : List (Option (List ℕ))). part_key codes t r (Some p) ∷ keys)
    (places_coded codes t r ps)

pub parts_joined : (codes : Codes) (t : Table) (r : Row) (places : List ℕ)
    → joined_key (map (part_key codes t r) (list_parts places)) ≡ list_key codes t places r
parts_joined codes t r [] = refl
parts_joined codes t r (p ∷ []) = refl
parts_joined codes t r (p ∷ q ∷ ps) =
    ap several_key (places_coded codes t r (p ∷ q ∷ ps))
    ∙ several_coded (is_counted t r) (row_values codes t r) p q ps

-- ---- the keys of a row at the numbers of a list
keys_numbered : (codes : Codes) (t : Table) (r : Row) (parts : List (Option ℕ))
    (keys : List (Option (List ℕ))) (numbers : List ℕ)
    → HasParts codes t r parts keys → All (λ n. n < length parts) numbers
    → map (numbered_key keys) numbers ≡ map (part_key codes t r) (picked parts numbers)
keys_numbered codes t r parts keys [] has within = refl
keys_numbered codes t r parts keys (n ∷ ns) has within =
    let first : n < length parts = within 0 n (omega arith) in
    ap (λ (k : Option (List ℕ)). k ∷ map (numbered_key keys) ns) (has n first)
    ∙ ap (λ (ks : List (Option (List ℕ))). part_key codes t r (get_or parts n None) ∷ ks)
    (keys_numbered codes t r parts keys ns has (λ i d lt. within (suc i) d (omega (arith, lt))))
    ∙ ap (λ (l : List (Option ℕ)). map (part_key codes t r) (l ++ picked parts ns))
    (sym (one_there parts n None first))

list_keyed : (codes : Codes) (t : Table) (r : Row) (parts : List (Option ℕ))
    (keys : List (Option (List ℕ))) (l : CodeList)
    → HasParts codes t r parts keys → IsNumbered parts l
    → key_by l.numbers.items keys ≡ list_key codes t l.places.now r
list_keyed codes t r parts keys l has numbered =
    ap joined_key (keys_numbered codes t r parts keys l.numbers.items has numbered.within
    ∙ ap (map (part_key codes t r)) numbered.own)
    ∙ parts_joined codes t r l.places.now

-- ---- a row is added to all lists
list_more : (codes : Codes) (t : Table) (r : Row) (parts : List (Option ℕ))
    (rows : List (List (Option (List ℕ)))) (keys : List (Option (List ℕ))) (l : CodeList)
    → HasParts codes t r parts keys → IsNumbered parts l
    → list_view (rows ++ keys ∷ []) l ≡ with_key codes t r (list_view rows l)
list_more codes t r parts rows keys l has numbered =
    ap (λ (ks : List (Option (List ℕ))). with_keys l ks)
    (map-append (key_by l.numbers.items) rows (keys ∷ [])
    ∙ ap (λ (k : Option (List ℕ)). map (key_by l.numbers.items) rows ++ k ∷ [])
    (list_keyed codes t r parts keys l has numbered))
  where
    with_keys : CodeList → List (Option (List ℕ)) → KeptList
    with_keys l keys = record { column = l.column; places = l.places.now; keys = keys }

lists_more : (codes : Codes) (t : Table) (r : Row) (parts : List (Option ℕ))
    (rows : List (List (Option (List ℕ)))) (keys : List (Option (List ℕ))) (ls : List CodeList)
    → HasParts codes t r parts keys → AreNumbered parts ls
    → lists_view (rows ++ keys ∷ []) ls ≡ map (with_key codes t r) (lists_view rows ls)
lists_more codes t r parts rows keys [] has numbered = refl
lists_more codes t r parts rows keys (l ∷ ls) has numbered =
    ap (λ (k : KeptList). k ∷ lists_view (rows ++ keys ∷ []) ls)
    (list_more codes t r parts rows keys l has (numbered 0 l (omega arith)))
    ∙ ap (λ (ks : List KeptList). with_key codes t r (list_view rows l) ∷ ks)
    (lists_more codes t r parts rows keys ls has
    (λ i d lt. numbered (suc i) d (omega (arith, lt))))

pub row_added : (codes : Codes) (t : Table) (r : Row) (parts : List (Option ℕ))
    (old new : List (List (Option (List ℕ)))) (keys : List (Option (List ℕ))) (ls : List CodeList)
    → HasParts codes t r parts keys → AreNumbered parts ls → new ≡ old ++ keys ∷ []
    → lists_view new ls ≡ map (with_key codes t r) (lists_view old ls)
row_added codes t r parts old new keys ls has numbered e =
    ap (λ (rows : List (List (Option (List ℕ)))). lists_view rows ls) e
    ∙ lists_more codes t r parts old keys ls has numbered

pub no_list : (codes : Codes) (t : Table) (r : Row) (rows : List (List (Option (List ℕ))))
    (ls : List CodeList)
    → length ls ≡ 0 → lists_view rows ls ≡ map (with_key codes t r) (lists_view rows ls)
no_list codes t r rows [] e = refl
no_list codes t r rows (l ∷ ls) e = absurd (omega (arith, e))
