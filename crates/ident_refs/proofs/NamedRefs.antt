-- The rows that kept references name are those that the words of their rows name.
use Rattle.std.proofs.Common.{◌≡◌, ℕ, zero, suc, ◌+◌, Bool, true, false, cond, nat_eq, List, []}
use Rattle.std.proofs.Common.{◌∷◌, ◌++◌, map, take, drop, slice_index_or, Option, Some, None, refl}
use Rattle.std.proofs.Common.{ap, ◌∙◌, append-nil}
use Rattle.std.specs.List.{flat_map, position_from}
use Rattle.ports.specs.SortedKeys.{is_key}
use Rattle.ili_grammar.specs.Syntax.{Codes}
use Rattle.table_layout.specs.Layouts.{Column, Table, Layout}
use Rattle.field_values.specs.Fields.{is_undefined, width}
use Rattle.itf_reader.specs.Forms.{Row}
use Rattle.itf_reader.specs.ClosedRows.{of_table, by_table, by_table_from}
use Rattle.itf_reader.specs.Layouts.{form_of, wanted_of}
use Rattle.itf_reader.specs.RowFindings.{is_counted}
use Rattle.ident_refs.specs.KeyBytes.{word_code}
use Rattle.ident_refs.specs.KeptRows.{Ref, id_key, word_refs, column_refs, columns_refs, row_refs}
use Rattle.ident_refs.specs.KeptRows.{ref_names, refs_at, Kept, kept_from, kept_rows, all_ids}
use Rattle.ident_refs.specs.KeyFindings.{referred_table}
use Rattle.ident_refs.specs.NamedRows.{Named, word_names, form_names, columns_names, row_names}
use Rattle.ident_refs.specs.NamedRows.{names_at, rows_named}
use Rattle.ident_refs.specs.Rows.{identification, has_identification}
use Rattle.ident_refs.proofs.KeptRefs.{flat_map_more, ids_by, ids_at, same_word}
use Rattle.ident_refs.proofs.KeptTables.{ids_kept}

place_same : (word : List ℕ) (i : ℕ) (rows : List Row)
    → position_from (is_key (word_code word)) i (map id_key rows)
    ≡ position_from (has_identification word) i rows
place_same word i [] = refl
place_same word i (r ∷ rows) =
    ap (λ (b : Bool). cond b (Some i)
    (position_from (is_key (word_code word)) (i + 1) (map id_key rows)))
    (same_word word (identification r))
    ∙ ap (λ (o : Option ℕ). cond (has_identification word r) (Some i) o)
    (place_same word (i + 1) rows)

place_in : (word : List ℕ) (transfer : List (List Row)) (k : ℕ)
    → position_from (is_key (word_code word)) 0 (slice_index_or (ids_by transfer) k [])
    ≡ position_from (has_identification word) 0 (slice_index_or transfer k [])
place_in word transfer k =
    ap (λ (ids : List (Option (List ℕ))). position_from (is_key (word_code word)) 0 ids)
    (ids_at transfer k)
    ∙ place_same word 0 (slice_index_or transfer k [])

abbrev name_of : ℕ → Option ℕ → Named
name_of line row = record { line = line; row = row }

abbrev no_names : List Named
no_names = []

no_choice : (b : Bool) → no_names ≡ cond b no_names no_names
no_choice true = refl
no_choice false = refl

words_named : (codes : Codes) (transfer : List (List Row)) (line asked number k : ℕ)
    (words : List (List ℕ))
    → flat_map (ref_names (ids_by transfer) asked) (word_refs codes line number k words)
    ≡ cond (nat_eq number asked) (word_names codes line (slice_index_or transfer k []) words) []
words_named codes transfer line asked number k [] = no_choice (nat_eq number asked)
words_named codes transfer line asked number k (word ∷ words) =
    elim (is_undefined codes word) as
    (λ u. flat_map (ref_names (ids_by transfer) asked)
    (cond u [] (record {
      line = line;
      column = number;
      table = k;
      word = Some (word_code word);
    } ∷ []))
    ≡ cond (nat_eq number asked)
    (cond u [] (name_of line
    (position_from (has_identification word) 0 (slice_index_or transfer k [])) ∷ [])) []) [
      | true ↦ no_choice (nat_eq number asked)
      | false ↦
          append-nil (cond (nat_eq number asked)
          (name_of line
          (position_from (is_key (word_code word)) 0 (slice_index_or (ids_by transfer) k []))
          ∷ []) [])
          ∙ ap (λ (o : Option ℕ). cond (nat_eq number asked) (name_of line o ∷ []) [])
          (place_in word transfer k)
    ]

column_named : (codes : Codes) (transfer : List (List Row)) (line asked number : ℕ) (k : Option ℕ)
    (words : List (List ℕ))
    → flat_map (ref_names (ids_by transfer) asked) (column_refs codes line number k words)
    ≡ cond (nat_eq number asked) (form_names codes transfer line k words) []
column_named codes transfer line asked number None words = no_choice (nat_eq number asked)
column_named codes transfer line asked number (Some k) words =
    words_named codes transfer line asked number k words

columns_named : (codes : Codes) (transfer : List (List Row)) (line asked number : ℕ)
    (cs : List Column) (words : List (List ℕ))
    → flat_map (ref_names (ids_by transfer) asked) (columns_refs codes line number cs words)
    ≡ columns_names codes transfer line asked number cs words
columns_named codes transfer line asked number [] words = refl
columns_named codes transfer line asked number (c ∷ cs) words =
    let f = ref_names (ids_by transfer) asked in
    let own = column_refs codes line number (referred_table c.form) (take (width c.form) words) in
    let rest = columns_refs codes line (number + 1) cs (drop (width c.form) words) in
    flat_map_more f own rest
    ∙ ap (λ (ns : List Named). ns ++ flat_map f rest)
    (column_named codes transfer line asked number (referred_table c.form)
    (take (width c.form) words))
    ∙ ap (λ (ns : List Named). cond (nat_eq number asked)
    (form_names codes transfer line (referred_table c.form) (take (width c.form) words)) []
    ++ ns)
    (columns_named codes transfer line asked (number + 1) cs (drop (width c.form) words))

row_named : (codes : Codes) (transfer : List (List Row)) (asked : ℕ) (t : Table) (r : Row)
    → flat_map (ref_names (ids_by transfer) asked) (row_refs codes t r)
    ≡ row_names codes transfer asked t r
row_named codes transfer asked t r =
    elim (is_counted t r) as
    (λ b. flat_map (ref_names (ids_by transfer) asked)
    (cond b (columns_refs codes r.line 1 t.columns (drop 1 r.fields)) [])
    ≡ cond b (columns_names codes transfer r.line asked 1 t.columns (drop 1 r.fields)) []) [
      | true ↦ columns_named codes transfer r.line asked 1 t.columns (drop 1 r.fields)
      | false ↦ refl
    ]

refs_named : (codes : Codes) (transfer : List (List Row)) (asked : ℕ) (t : Table) (rows : List Row)
    → flat_map (ref_names (ids_by transfer) asked) (flat_map (row_refs codes t) rows)
    ≡ flat_map (row_names codes transfer asked t) rows
refs_named codes transfer asked t [] = refl
refs_named codes transfer asked t (r ∷ rows) =
    let f = ref_names (ids_by transfer) asked in
    flat_map_more f (row_refs codes t r) (flat_map (row_refs codes t) rows)
    ∙ ap (λ (ns : List Named). ns ++ flat_map f (flat_map (row_refs codes t) rows))
    (row_named codes transfer asked t r)
    ∙ ap (λ (ns : List Named). row_names codes transfer asked t r ++ ns)
    (refs_named codes transfer asked t rows)

table_named : (codes : Codes) (transfer : List (List Row)) (asked n place : ℕ) (ts : List Table)
    (rows : List (ℕ × Row))
    → flat_map (ref_names (ids_by transfer) asked) (refs_at place (kept_from codes n ts rows))
    ≡ names_at codes transfer asked place ts (by_table_from n (map wanted_of ts) rows)
table_named codes transfer asked n place [] rows = refl
table_named codes transfer asked n zero (t ∷ ts) rows =
    refs_named codes transfer asked t (of_table n rows)
table_named codes transfer asked n (suc place) (t ∷ ts) rows =
    table_named codes transfer asked (n + 1) place ts rows

pub named_in : (l : Layout) (rows : List (ℕ × Row)) (ks : List Kept) (place column : ℕ)
    (names : List Named)
    → ks ≡ kept_rows l rows
    → names ≡ flat_map (ref_names (all_ids ks) column) (refs_at place ks)
    → names ≡ rows_named l (by_table (form_of l) rows) place column
named_in l rows ks place column names h e =
    e ∙ ap (λ (k : List Kept). flat_map (ref_names (all_ids k) column) (refs_at place k)) h
    ∙ ap (λ (ids : List (List (Option (List ℕ)))). flat_map (ref_names ids column)
    (refs_at place (kept_rows l rows))) (ids_kept l.codes 0 l.tables rows)
    ∙ table_named l.codes (by_table_from 0 (map wanted_of l.tables) rows) column 0 place l.tables
    rows

-- the references of one table in order, added to none
pub named_all : (ids : List (List (Option (List ℕ)))) (column : ℕ) (refs : List Ref) (place : ℕ)
    (ks : List Kept) (old new : List Named)
    → ids ≡ all_ids ks
    → refs ≡ refs_at place ks → old ≡ [] → new ≡ old ++ flat_map (ref_names ids column) refs
    → new ≡ flat_map (ref_names (all_ids ks) column) (refs_at place ks)
named_all ids column refs place ks old new i r o n =
    n ∙ ap (λ (ns : List Named). ns ++ flat_map (ref_names ids column) refs) o
    ∙ ap (λ (k : List (List (Option (List ℕ)))). flat_map (ref_names k column) refs) i
    ∙ ap (λ (rs : List Ref). flat_map (ref_names (all_ids ks) column) rs) r
