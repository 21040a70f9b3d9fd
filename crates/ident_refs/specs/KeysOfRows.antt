-- The keys in order of rows that came one after another.
use Rattle.std.specs.Prelude.{◌≡◌, ℕ, List}
use Rattle.table_layout.specs.Layouts.{Layout}
use Rattle.itf_reader.specs.Forms.{Row}
use Rattle.ident_refs.specs.declared.sorted.Keys.{Keys}
use Rattle.ident_refs.specs.KeptRows.{kept_rows}
use Rattle.ident_refs.specs.KeptViews.{all_kept_view}

-- these are the keys of those rows of a layout's tables, each with the number of its table
abbrev pub HasKeys : Layout → Keys → List (ℕ × Row) → Type 0
HasKeys l keys rows = all_kept_view keys.tables.now ≡ kept_rows l rows
