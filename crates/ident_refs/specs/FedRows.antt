-- Rows of all tables that are fed one after another.
use Rattle.std.specs.Prelude.{ℕ, zero, suc, ◌+◌, ◌<◌, List, [], ◌∷◌, ◌++◌, map}
use Rattle.std.specs.List.{All}
use Rattle.table_layout.specs.Layouts.{Table, Layout}
use Rattle.itf_reader.specs.ClosedRows.{by_table}
use Rattle.itf_reader.specs.Findings.{Finding}
use Rattle.itf_reader.specs.Forms.{Row}
use Rattle.itf_reader.specs.Layouts.{form_of}
use Rattle.ident_refs.specs.KeptRows.{Kept, with_row}
use Rattle.ident_refs.specs.KeyFindings.{tables_keys}

-- each place in its IDENT lists is below 4,194,306
abbrev pub HasPlaces : Table → Type 0
HasPlaces t = All (All (λ p. p < 4194306)) t.idents

-- one more row of the table at a place, if there is one
abbrev pub row_at : ℕ → Row → List Kept → List Kept
row_at place r [] = []
row_at zero r (k ∷ ks) = with_row r k ∷ ks
row_at (suc place) r (k ∷ ks) = k ∷ row_at place r ks

abbrev pub fed_rows : ℕ → List Row → List Kept → List Kept
fed_rows place [] ks = ks
fed_rows place (r ∷ rows) ks = fed_rows place rows (row_at place r ks)

-- the rows of some tables, the first of which has that place
abbrev pub fed_tables : ℕ → List (List Row) → List Kept → List Kept
fed_tables place [] ks = ks
fed_tables place (rows ∷ tables) ks = fed_tables (place + 1) tables (fed_rows place rows ks)

-- the same rows, each with the number of its table
abbrev pub with_number : ℕ → List Row → List (ℕ × Row)
with_number n rows = map (λ r. (n, r)) rows

abbrev pub all_rows : ℕ → List (List Row) → List (ℕ × Row)
all_rows n [] = []
all_rows n (rows ∷ tables) = with_number n rows ++ all_rows (n + 1) tables

-- what is wrong with the keys and references of rows that are fed one after another, each with the
-- number of its table
abbrev pub fed_keys : Layout → List (ℕ × Row) → List Finding
fed_keys l rows =
    tables_keys l.codes (by_table (form_of l) rows) l.tables (by_table (form_of l) rows)
