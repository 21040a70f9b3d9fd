-- Rows with the numbers of their tables, put into the tables in the order of the form.
use Rattle.std.specs.Prelude.{ℕ, ◌+◌, List, [], ◌∷◌, ◌++◌}
use Rattle.itf_reader.specs.Forms.{Row}
use Rattle.itf_reader.specs.ClosedRows.{of_table}

-- the rows of each table, the first of which has that number, before those that stood there
abbrev pub with_rows : ℕ → List (ℕ × Row) → List (List Row) → List (List Row)
with_rows number rows [] = []
with_rows number rows (own ∷ tables) =
    (of_table number rows ++ own) ∷ with_rows (number + 1) rows tables
