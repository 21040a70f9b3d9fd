-- IDENT lists of the same places, which are kept once.
use Rattle.std.specs.Prelude.{◌≡◌, ◌<◌, ℕ, List, [], length, map, take, drop, Option}
use Rattle.std.specs.List.{All, flat_map}
use Rattle.itf_reader.specs.Findings.{Finding, findings_of}
use Rattle.ident_refs.specs.declared.shared_lists.Found.{Found}
use Rattle.ident_refs.specs.declared.ident_lists.KeptList.{KeptList as CodeList}
use Rattle.ident_refs.specs.KeptRows.{KeptList}
use Rattle.ident_refs.specs.KeyFindings.{column_of}
use Rattle.ident_refs.specs.RowKeys.{key_by, list_parts}

-- a list, by the keys of each row by the parts of all lists
abbrev pub list_view : List (List (Option (List ℕ))) → CodeList → KeptList
list_view rows l =
    record { column = l.column; places = l.places.now; keys = map (key_by l.numbers.items) rows }

abbrev pub lists_view : List (List (Option (List ℕ))) → List CodeList → List KeptList
lists_view rows ls = map (list_view rows) ls

-- the element at a place, if there is one
abbrev pub picked_one : {X : Type 0} → List X → ℕ → List X
picked_one xs place = take 1 (drop place xs)

abbrev pub picked : {X : Type 0} → List X → List ℕ → List X
picked xs places = flat_map (picked_one xs) places

-- a list without rows
abbrev pub bare_list : List ℕ → KeptList
bare_list places = record { column = column_of places; places = places; keys = [] }

abbrev pub code_places : CodeList → List ℕ
code_places l = l.places.now

-- no list has a row yet
abbrev pub AreBare : List CodeList → Type 0
AreBare ls = lists_view [] ls ≡ map bare_list (map code_places ls)

-- the parts of a list have its numbers among some parts
pub record IsNumbered (parts : List (Option ℕ)) (l : CodeList) : Type 0 where
  pub within : All (λ n. n < length parts) l.numbers.items
  pub own : picked parts l.numbers.items ≡ list_parts l.places.now

abbrev pub AreNumbered : List (Option ℕ) → List CodeList → Type 0
AreNumbered parts ls = All (IsNumbered parts) ls

-- the findings of a list
abbrev pub found_view : Found → List Finding
found_view f = findings_of f.findings.items
