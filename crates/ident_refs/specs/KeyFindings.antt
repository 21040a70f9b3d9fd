-- Identifications and IDENT values that an earlier row of the table has, and references that name
-- no row.
use Rattle.std.specs.Prelude.{ℕ, ◌+◌, Bool, not, ◌&&◌, if◌then◌else◌, List, [], ◌∷◌, ◌++◌, take}
use Rattle.std.specs.Prelude.{drop, slice_index_or, Option, Some, None}
use Rattle.std.specs.List.{flat_map, list_any}
use Rattle.ili_grammar.specs.Syntax.{Codes}
use Rattle.resolver.specs.Resolved as model
use Rattle.resolver.specs.Resolved.{Form}
use Rattle.table_layout.specs.Layouts.{Column, Table, Layout}
use Rattle.itf_reader.specs.declared.findings.Code.{Code}
use Rattle.itf_reader.specs.declared.findings.Code.TheVariants.{Tid, Ident, Reference}
use Rattle.itf_reader.specs.Findings.{Line, Word, Finding, in_order}
use Rattle.itf_reader.specs.Forms.{Row}
use Rattle.field_values.specs.Fields.{is_undefined, width}
use Rattle.itf_reader.specs.RowFindings.{is_counted}
use Rattle.ident_refs.specs.Rows.{identification, has_identification, first_such}
use Rattle.ident_refs.specs.ListValues.{ident_values, are_same_values}

-- a finding of a row, where an earlier row has the same key
abbrev pub duplicate : Code → ℕ → Row → Option Row → List Finding
duplicate code column r None = []
duplicate code column r (Some first) =
    record { line = r.line; column = column; code = code; other = Line first.line } ∷ []

-- ---- identifications
-- the first row with that identification
abbrev pub first_named : Option (List ℕ) → List Row → Option Row
first_named None rows = None
first_named (Some word) rows = first_such (has_identification word) rows

-- rows after some others of their table: each whose identification an earlier row has, with the
-- first of these
abbrev pub tid_findings : List Row → List Row → List Finding
tid_findings before [] = []
tid_findings before (r ∷ rows) =
    duplicate Tid 0 r (first_named (identification r) before)
    ++ tid_findings (before ++ r ∷ []) rows

-- ---- IDENT lists
-- the column of a place in a list, counted from 1: those of lines come after those of columns
abbrev pub column_of : List ℕ → ℕ
column_of [] = 0
column_of (place ∷ places) = place + 1

-- rows after some others of their table: each whose values by the list an earlier row has
abbrev pub ident_findings : Codes → Table → List ℕ → List Row → List Row → List Finding
ident_findings codes t list before [] = []
ident_findings codes t list before (r ∷ rows) =
    duplicate Ident (column_of list) r
    (first_such (λ other.
    are_same_values (ident_values codes t list r) (ident_values codes t list other)) before)
    ++ ident_findings codes t list (before ++ r ∷ []) rows

-- ---- references
-- some row has that identification
abbrev pub names_a_row : List ℕ → List Row → Bool
names_a_row word rows = list_any (has_identification word) rows

-- the table that a column refers to
abbrev pub referred_table : Form → Option ℕ
referred_table (model.Reference k) = Some k
referred_table f = None

-- a finding for each defined word of a reference that names no row of its table
abbrev pub word_findings : Codes → ℕ → ℕ → List Row → List (List ℕ) → List Finding
word_findings codes line number rows [] = []
word_findings codes line number rows (word ∷ words) =
    if not (is_undefined codes word) && not (names_a_row word rows)
    then record { line = line; column = number; code = Reference; other = Word word } ∷ []
    else []

-- the findings of a column that may be a reference, and its words, by the rows of all tables
abbrev pub reference_finding : Codes → List (List Row) → ℕ → ℕ → Option ℕ → List (List ℕ)
    → List Finding
reference_finding codes transfer line number None words = []
reference_finding codes transfer line number (Some k) words =
    word_findings codes line number (slice_index_or transfer k []) words

-- the findings of references in columns, the first of which has that number, and their words
abbrev pub columns_references : Codes → List (List Row) → ℕ → ℕ → List Column → List (List ℕ)
    → List Finding
columns_references codes transfer line number [] words = []
columns_references codes transfer line number (c ∷ cs) words =
    reference_finding codes transfer line number (referred_table c.form) (take (width c.form) words)
    ++ columns_references codes transfer line (number + 1) cs (drop (width c.form) words)

-- the findings of the references of a row; one with too few or too many words refers to nothing
abbrev pub row_references : Codes → List (List Row) → Table → Row → List Finding
row_references codes transfer t r =
    if is_counted t r
    then columns_references codes transfer r.line 1 t.columns (drop 1 r.fields)
    else []

-- ---- tables
-- the findings of a table's identifications, IDENT lists and references
abbrev pub table_keys : Codes → List (List Row) → Table → List Row → List Finding
table_keys codes transfer t rows =
    tid_findings [] rows
    ++ (flat_map (λ list. ident_findings codes t list [] rows) t.idents
    ++ flat_map (row_references codes transfer t) rows)

-- the tables, and the rows of each of them
abbrev pub tables_keys : Codes → List (List Row) → List Table → List (List Row) → List Finding
tables_keys codes transfer [] tables = []
tables_keys codes transfer (t ∷ ts) [] = []
tables_keys codes transfer (t ∷ ts) (rows ∷ tables) =
    table_keys codes transfer t rows ++ tables_keys codes transfer ts tables

-- all findings of keys and references of a transfer, in order
abbrev pub key_findings : Layout → List (List Row) → List Finding
key_findings l transfer = in_order (tables_keys l.codes transfer l.tables transfer)
