-- Identifications of rows, and the rows before another.
use Rattle.std.specs.Prelude.{ℕ, Bool, if◌then◌else◌, List, [], ◌∷◌, Option, Some, None}
use Rattle.ports.specs.SortedKeys.{is_key}
use Rattle.itf_reader.specs.Forms.{Row}
use Rattle.itf_reader.specs.RowKeys.{first_field}

-- the first field of a row is its identification
abbrev pub identification : Row → Option (List ℕ)
identification r = first_field r.fields

-- the row has that identification
abbrev pub has_identification : List ℕ → Row → Bool
has_identification word r = is_key word (identification r)

-- the first of some rows that passes a test
abbrev pub first_such : (Row → Bool) → List Row → Option Row
first_such test [] = None
first_such test (r ∷ rows) = if test r then Some r else first_such test rows
