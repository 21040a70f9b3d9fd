-- Tables by one key of their topic and their name.
use Rattle.std.specs.Prelude.{◌<◌, ◌^◌, ℕ, List, ◌++◌, length, map, get_or, slice_get, Option, Some}
use Rattle.std.specs.Prelude.{None}
use Rattle.std.specs.Option.{option_map}
use Rattle.std.specs.Int.{w64, to_be_bytes}
use Rattle.table_layout.specs.Layouts.{Table as LayoutTable}
use Rattle.itf_reader.specs.Forms.{Table}

-- a table that was found: its number, and how many lines it has
abbrev pub lines_found : Option (ℕ × Table) → Option (ℕ × ℕ)
lines_found None = None
lines_found (Some found) = Some (found.0, (found.1).lines)

-- the same of the place of a table
abbrev pub entry_at : List LayoutTable → Option ℕ → Option (ℕ × ℕ)
entry_at ts None = None
entry_at ts (Some place) = option_map (λ t. (place, length t.lines)) (slice_get ts place)

-- the number of a topic in eight bytes, and a name after it
abbrev pub table_key : ℕ → List ℕ → List ℕ
table_key topic name = to_be_bytes w64 topic ++ name

abbrev pub key_of : LayoutTable → List ℕ
key_of t = table_key t.topic t.name

abbrev pub table_keys : List LayoutTable → List (List ℕ)
table_keys ts = map key_of ts

-- eight bytes hold the number of each topic
abbrev pub topic_of : LayoutTable → ℕ
topic_of t = t.topic

abbrev pub AreSmall : List LayoutTable → Type 0
AreSmall ts = (i : ℕ) → get_or (map topic_of ts) i 0 < 2 ^ 64

-- a column of names, each of which is its own key
abbrev pub name_key : List ℕ → Option (List ℕ)
name_key name = Some name

abbrev pub name_keys : List (List ℕ) → List (Option (List ℕ))
name_keys names = map name_key names
