-- Identifications of rows.
use Rattle.std.specs.Prelude.{ℕ, List, [], ◌∷◌, Option, Some, None}
use Rattle.itf_reader.specs.declared.transfer.Row.{Row}

-- the first of some fields
abbrev pub first_field : List (List ℕ) → Option (List ℕ)
first_field [] = None
first_field (word ∷ fields) = Some word

-- the identification of a row is its first field
abbrev pub row_key : Row → Option (List ℕ)
row_key r = first_field r.fields.items
