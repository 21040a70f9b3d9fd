-- The rows of a transfer that come one after another, as their canonical text is held.
use Rattle.std.specs.Prelude.{◌≡◌, ℕ, zero, suc, ◌+◌, List, [], ◌∷◌, ◌++◌, length, map}
use Rattle.std.specs.List.{flat_map}
use Rattle.table_layout.specs.Layouts.{Layout}
use Rattle.itf_reader.specs.ClosedRows.{by_table}
use Rattle.itf_reader.specs.Forms.{Row}
use Rattle.itf_reader.specs.Layouts.{form_of}
use Rattle.itf_writer.specs.Canonical.{row_lines}
use Rattle.itf_writer.specs.Runs.{lines_text}
use Rattle.itf_writer.specs.declared.feed.TableText.{TableText}
use Rattle.itf_writer.specs.declared.feed.CanonFeed.{CanonFeed}

-- the rows of a table: how many they are, and the bytes of their lines
pub record HeldRows : Type 0 where
  pub count : ℕ
  pub text : List ℕ

abbrev pub rows_held : ℕ → List Row → HeldRows
rows_held code rows =
    record { count = length rows; text = lines_text code (flat_map row_lines rows) }

-- and one row more
abbrev pub with_row : ℕ → Row → HeldRows → HeldRows
with_row code row held =
    record { count = held.count + 1; text = held.text ++ lines_text code (row_lines row) }

-- of the rows by their tables, one more of the table at a place, if there is one
abbrev pub with_row_at : ℕ → Row → List (List Row) → List (List Row)
with_row_at place r [] = []
with_row_at zero r (rows ∷ transfer) = (rows ++ r ∷ []) ∷ transfer
with_row_at (suc place) r (rows ∷ transfer) = rows ∷ with_row_at place r transfer

-- the same of the code, without where it lies in memory
abbrev pub held_of : TableText → HeldRows
held_of t = record { count = t.rows; text = t.text }

abbrev pub held_in : List TableText → List HeldRows
held_in ts = map held_of ts

-- these rows of a layout's tables came, each with the number of its table
abbrev pub HoldsRows : Layout → List (ℕ × Row) → CanonFeed → Type 0
HoldsRows l rows feed =
    held_in feed.tables.items ≡ map (rows_held l.codes.continued) (by_table (form_of l) rows)
