-- What is kept of the rows of a table: their lines, their keys, and the words that name other rows.
use Rattle.std.specs.Prelude.{ℕ, ◌+◌, List, [], ◌∷◌, ◌++◌, map, take, drop, slice_index_or}
use Rattle.std.specs.Prelude.{Option, nat_eq}
use Rattle.std.specs.Prelude.{Some, None, if◌then◌else◌}
use Rattle.std.specs.List.{flat_map, list_any, position_from}
use Rattle.std.specs.Option.{option_map}
use Rattle.ports.specs.SortedKeys.{is_key}
use Rattle.ili_grammar.specs.Syntax.{Codes}
use Rattle.table_layout.specs.Layouts.{Column, Table, Layout}
use Rattle.field_values.specs.Fields.{is_undefined, width}
use Rattle.itf_reader.specs.declared.findings.Code.{Code}
use Rattle.itf_reader.specs.declared.findings.Code.TheVariants.{Tid, Ident, Reference}
use Rattle.itf_reader.specs.Findings.{Line, Word, Finding}
use Rattle.itf_reader.specs.Forms.{Row}
use Rattle.itf_reader.specs.ClosedRows.{of_table}
use Rattle.itf_reader.specs.RowFindings.{is_counted}
use Rattle.ident_refs.specs.KeyBytes.{list_code, word_code}
use Rattle.ident_refs.specs.KeyFindings.{column_of, referred_table}
use Rattle.ident_refs.specs.ListValues.{ident_values}
use Rattle.ident_refs.specs.NamedRows.{Named}
use Rattle.ident_refs.specs.Rows.{identification}

-- ---- the keys of a row
abbrev pub id_key : Row → Option (List ℕ)
id_key r = option_map word_code (identification r)

abbrev pub list_key : Codes → Table → List ℕ → Row → Option (List ℕ)
list_key codes t list r = option_map list_code (ident_values codes t list r)

-- ---- the references of a row
-- the line of its row, its column, its table, and the key of the identification that it names
pub record Ref : Type 0 where
  pub line : ℕ
  pub column : ℕ
  pub table : ℕ
  pub word : Option (List ℕ)

abbrev pub word_refs : Codes → ℕ → ℕ → ℕ → List (List ℕ) → List Ref
word_refs codes line number k [] = []
word_refs codes line number k (word ∷ words) =
    if is_undefined codes word
    then []
    else record { line = line; column = number; table = k; word = Some (word_code word) } ∷ []

abbrev pub column_refs : Codes → ℕ → ℕ → Option ℕ → List (List ℕ) → List Ref
column_refs codes line number None words = []
column_refs codes line number (Some k) words = word_refs codes line number k words

-- columns, the first of which has that number, and their words
abbrev pub columns_refs : Codes → ℕ → ℕ → List Column → List (List ℕ) → List Ref
columns_refs codes line number [] words = []
columns_refs codes line number (c ∷ cs) words =
    column_refs codes line number (referred_table c.form) (take (width c.form) words)
    ++ columns_refs codes line (number + 1) cs (drop (width c.form) words)

abbrev pub row_refs : Codes → Table → Row → List Ref
row_refs codes t r =
    if is_counted t r then columns_refs codes r.line 1 t.columns (drop 1 r.fields) else []

-- ---- the rows of a table
-- an IDENT list: the column of its findings, its places, and the key of each row
pub record KeptList : Type 0 where
  pub column : ℕ
  pub places : List ℕ
  pub keys : List (Option (List ℕ))

pub record Kept : Type 0 where
  pub codes : Codes
  pub table : Table
  pub lines : List ℕ
  pub ids : List (Option (List ℕ))
  pub lists : List KeptList
  pub refs : List Ref

abbrev pub row_line : Row → ℕ
row_line r = r.line

abbrev pub kept_list : Codes → Table → List Row → List ℕ → KeptList
kept_list codes t rows list =
    record { column = column_of list; places = list; keys = map (list_key codes t list) rows }

abbrev pub kept_lists : Codes → Table → List Row → List (List ℕ) → List KeptList
kept_lists codes t rows lists = map (kept_list codes t rows) lists

abbrev pub kept_table : Codes → Table → List Row → Kept
kept_table codes t rows = record {
  codes = codes;
  table = t;
  lines = map row_line rows;
  ids = map id_key rows;
  lists = kept_lists codes t rows t.idents;
  refs = flat_map (row_refs codes t) rows;
}

abbrev pub no_rows : Codes → Table → Kept
no_rows codes t = kept_table codes t []

-- one more row
abbrev pub with_key : Codes → Table → Row → KeptList → KeptList
with_key codes t r l =
    record {
      column = l.column;
      places = l.places;
      keys = l.keys ++ list_key codes t l.places r ∷ [];
    }

abbrev pub with_row : Row → Kept → Kept
with_row r k = record {
  codes = k.codes;
  table = k.table;
  lines = k.lines ++ r.line ∷ [];
  ids = k.ids ++ id_key r ∷ [];
  lists = map (with_key k.codes k.table r) k.lists;
  refs = k.refs ++ row_refs k.codes k.table r;
}

-- ---- the rows of all tables, fed one after another, each with the number of its table
abbrev pub kept_from : Codes → ℕ → List Table → List (ℕ × Row) → List Kept
kept_from codes n [] rows = []
kept_from codes n (t ∷ ts) rows =
    kept_table codes t (of_table n rows) ∷ kept_from codes (n + 1) ts rows

abbrev pub kept_rows : Layout → List (ℕ × Row) → List Kept
kept_rows l rows = kept_from l.codes 0 l.tables rows

-- ---- what is found in them
-- a key is kept as itself
abbrev pub cell_key : Option (List ℕ) → Option (List ℕ)
cell_key key = key

-- lines and keys of some rows, no key where there are fewer keys
abbrev pub zip_keys : List ℕ → List (Option (List ℕ)) → List (ℕ × Option (List ℕ))
zip_keys [] keys = []
zip_keys (line ∷ lines) [] = (line, None) ∷ zip_keys lines []
zip_keys (line ∷ lines) (key ∷ keys) = (line, key) ∷ zip_keys lines keys

-- the line of the first of some rows that has a key
abbrev pub first_line : Option (List ℕ) → List (ℕ × Option (List ℕ)) → Option ℕ
first_line None rows = None
first_line (Some key) [] = None
first_line (Some key) (r ∷ rows) = if is_key key r.1 then Some r.0 else first_line (Some key) rows

abbrev pub repeat : Code → ℕ → ℕ → Option ℕ → List Finding
repeat code column line None = []
repeat code column line (Some first) =
    record { line = line; column = column; code = code; other = Line first } ∷ []

-- rows after some others: each whose key repeats that of an earlier row, with the line of the first
-- of these
abbrev pub repeats : Code → ℕ → List (ℕ × Option (List ℕ)) → List (ℕ × Option (List ℕ))
    → List Finding
repeats code column before [] = []
repeats code column before (r ∷ rows) =
    repeat code column r.0 (first_line r.1 before) ++ repeats code column (before ++ r ∷ []) rows

-- a reference whose key is no identification of its table
abbrev pub dangling_finding : List (List (Option (List ℕ))) → Ref → Option (List ℕ) → List Finding
dangling_finding ids r None = []
dangling_finding ids r (Some key) =
    if list_any (is_key key) (slice_index_or ids r.table [])
    then []
    else record {
      line = r.line;
      column = r.column;
      code = Reference;
      other = Word (drop 1 key);
    }
    ∷ []

abbrev pub ref_findings : List (List (Option (List ℕ))) → Ref → List Finding
ref_findings ids r = dangling_finding ids r r.word

abbrev pub list_findings : List ℕ → KeptList → List Finding
list_findings lines l = repeats Ident l.column [] (zip_keys lines l.keys)

-- by the identifications of all tables
abbrev pub kept_findings : List (List (Option (List ℕ))) → Kept → List Finding
kept_findings ids k =
    repeats Tid 0 [] (zip_keys k.lines k.ids)
    ++ (flat_map (list_findings k.lines) k.lists ++ flat_map (ref_findings ids) k.refs)

abbrev pub ids_of : Kept → List (Option (List ℕ))
ids_of k = k.ids

abbrev pub all_ids : List Kept → List (List (Option (List ℕ)))
all_ids ks = map ids_of ks

abbrev pub lines_of : Kept → List ℕ
lines_of k = k.lines

abbrev pub all_lines : List Kept → List (List ℕ)
all_lines ks = map lines_of ks

abbrev pub all_kept_findings : List Kept → List Finding
all_kept_findings ks = flat_map (kept_findings (all_ids ks)) ks

-- ---- the rows that are named
-- the key in that column names the first row of its table with that identification
abbrev pub key_names : List (List (Option (List ℕ))) → Ref → Option (List ℕ) → List Named
key_names ids r None = []
key_names ids r (Some key) =
    record {
      line = r.line;
      row = position_from (is_key key) 0 (slice_index_or ids r.table []);
    }
    ∷ []

abbrev pub ref_names : List (List (Option (List ℕ))) → ℕ → Ref → List Named
ref_names ids column r = if nat_eq r.column column then key_names ids r r.word else []

-- the references of each table
abbrev pub refs_of : Kept → List Ref
refs_of k = k.refs

abbrev pub all_refs : List Kept → List (List Ref)
all_refs ks = map refs_of ks

-- those of the table at a place, none where there is no such table
abbrev pub refs_at : ℕ → List Kept → List Ref
refs_at place ks = slice_index_or (all_refs ks) place []
