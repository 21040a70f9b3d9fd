-- The rows that references name, by their places in their tables.
use Rattle.std.specs.Prelude.{ℕ, zero, suc, ◌+◌, nat_eq, if◌then◌else◌, List, [], ◌∷◌, ◌++◌, take}
use Rattle.std.specs.Prelude.{drop, slice_index_or, Option, Some, None}
use Rattle.std.specs.List.{flat_map, position_from}
use Rattle.ili_grammar.specs.Syntax.{Codes}
use Rattle.table_layout.specs.Layouts.{Column, Table, Layout}
use Rattle.itf_reader.specs.Forms.{Row}
use Rattle.field_values.specs.Fields.{is_undefined, width}
use Rattle.itf_reader.specs.RowFindings.{is_counted}
use Rattle.ident_refs.specs.KeyFindings.{referred_table}
use Rattle.ident_refs.specs.Rows.{has_identification}

-- The line of a row with a reference, and the place of the row that it names, if there is one.
pub record Named : Type 0 where
  pub line : ℕ
  pub row : Option ℕ

-- a defined word names the first of some rows that has that identification
abbrev pub word_names : Codes → ℕ → List Row → List (List ℕ) → List Named
word_names codes line rows [] = []
word_names codes line rows (word ∷ words) =
    if is_undefined codes word
    then []
    else record { line = line; row = position_from (has_identification word) 0 rows } ∷ []

-- what the words of a column that may be a reference name, by the rows of all tables
abbrev pub form_names : Codes → List (List Row) → ℕ → Option ℕ → List (List ℕ) → List Named
form_names codes transfer line None words = []
form_names codes transfer line (Some k) words =
    word_names codes line (slice_index_or transfer k []) words

-- what the words of the asked column name; the first of the columns has that number
abbrev pub columns_names : Codes → List (List Row) → ℕ → ℕ → ℕ → List Column → List (List ℕ)
    → List Named
columns_names codes transfer line asked number [] words = []
columns_names codes transfer line asked number (c ∷ cs) words =
    (if nat_eq number asked
    then form_names codes transfer line (referred_table c.form) (take (width c.form) words)
    else [])
    ++ columns_names codes transfer line asked (number + 1) cs (drop (width c.form) words)

-- what the asked column of a row names; a row with too few or too many words names nothing
abbrev pub row_names : Codes → List (List Row) → ℕ → Table → Row → List Named
row_names codes transfer asked t r =
    if is_counted t r
    then columns_names codes transfer r.line asked 1 t.columns (drop 1 r.fields)
    else []

-- what the asked column of the rows of the table at a place names, by all tables and their rows
abbrev pub names_at : Codes → List (List Row) → ℕ → ℕ → List Table → List (List Row) → List Named
names_at codes transfer asked place [] tables = []
names_at codes transfer asked place (t ∷ ts) [] = []
names_at codes transfer asked zero (t ∷ ts) (rows ∷ tables) =
    flat_map (row_names codes transfer asked t) rows
names_at codes transfer asked (suc place) (t ∷ ts) (rows ∷ tables) =
    names_at codes transfer asked place ts tables

-- the rows that a column of a table names
abbrev pub rows_named : Layout → List (List Row) → ℕ → ℕ → List Named
rows_named l transfer table column = names_at l.codes transfer column table l.tables transfer
