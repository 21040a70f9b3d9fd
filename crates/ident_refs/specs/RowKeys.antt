-- The keys of a row by parts of IDENT lists, and the key by a list from those of its parts.
use Rattle.std.specs.Prelude.{◌≡◌, ℕ, ◌<◌, ◌≤◌, ◌-◌, List, [], ◌∷◌, ◌++◌, length, map, take, drop}
use Rattle.std.specs.Prelude.{get_or, Option, Some, None}
use Rattle.std.specs.List.{All}
use Rattle.std.specs.Option.{option_map, option_to_list}
use Rattle.ili_grammar.specs.Syntax.{Codes}
use Rattle.table_layout.specs.Layouts.{Table}
use Rattle.itf_reader.specs.Forms.{Row}
use Rattle.ident_refs.specs.declared.row_keys.RowSpan.{RowSpan}
use Rattle.ident_refs.specs.KeyBytes.{with_end}
use Rattle.ident_refs.specs.KeptRows.{list_key}

-- the parts of a list: each of its places, or none where it has no place
abbrev pub list_parts : List ℕ → List (Option ℕ)
list_parts [] = None ∷ []
list_parts (p ∷ ps) = map Some (p ∷ ps)

-- the key of a row by a part
abbrev pub part_key : Codes → Table → Row → Option ℕ → Option (List ℕ)
part_key codes t r part = list_key codes t (option_to_list part) r

-- ---- from the keys of a row by parts
-- the key by the part of that number
abbrev pub numbered_key : List (Option (List ℕ)) → ℕ → Option (List ℕ)
numbered_key keys number = get_or keys number None

-- some keys with their end marks, if each is there
abbrev pub and_ended : Option (List ℕ) → Option (List ℕ) → Option (List ℕ)
and_ended (Some key) (Some bytes) = Some (with_end key ++ bytes)
and_ended (Some key) None = None
and_ended None bytes = None

abbrev pub all_ended : List (Option (List ℕ)) → Option (List ℕ)
all_ended [] = Some []
all_ended (key ∷ keys) = and_ended key (all_ended keys)

-- the key by several parts
abbrev pub several_key : List (Option (List ℕ)) → Option (List ℕ)
several_key keys = option_map (λ bytes. 3 ∷ bytes) (all_ended keys)

-- the key by a list, from those by its parts
abbrev pub joined_key : List (Option (List ℕ)) → Option (List ℕ)
joined_key (key ∷ []) = key
joined_key keys = several_key keys

-- the key by the list whose parts have these numbers
abbrev pub key_by : List ℕ → List (Option (List ℕ)) → Option (List ℕ)
key_by numbers keys = joined_key (map (numbered_key keys) numbers)

-- the keys of a row by some parts, of which the last may be left out if there is none by them
abbrev pub HasParts : Codes → Table → Row → List (Option ℕ) → List (Option (List ℕ)) → Type 0
HasParts codes t r parts keys =
    (number : ℕ) → number < length parts
    → numbered_key keys number ≡ part_key codes t r (get_or parts number None)

-- ---- the keys of all rows of a table
-- a row's place among keys
pub record IsSpan (count : ℕ) (s : RowSpan) : Type 0 where
  pub ordered : s.start ≤ s.end
  pub within : s.end ≤ count

abbrev pub AreSpans : ℕ → List RowSpan → Type 0
AreSpans count spans = All (IsSpan count) spans

abbrev pub span_keys : List (Option (List ℕ)) → RowSpan → List (Option (List ℕ))
span_keys keys s = take (s.end - s.start) (drop s.start keys)

-- the keys of each row, from its place among them
abbrev pub rows_in : List (Option (List ℕ)) → List RowSpan → List (List (Option (List ℕ)))
rows_in keys spans = map (span_keys keys) spans
