-- The findings of references that were kept are those of their rows.
use Rattle.std.proofs.Common.{◌≡◌, ℕ, zero, suc, ◌+◌, Bool, true, false, cond, not, ◌&&◌, ◌||◌}
use Rattle.std.proofs.Common.{List, [], ◌∷◌, ◌++◌, map, take, drop, slice_index_or, Option, Some}
use Rattle.std.proofs.Common.{None, refl, sym, ap, ◌∙◌, append_assoc}
use Rattle.std.specs.List.{flat_map, list_any}
use Rattle.std.specs.Option.{option_map}
use Rattle.ports.specs.SortedKeys.{is_key}
use Rattle.ili_grammar.specs.Syntax.{Codes}
use Rattle.table_layout.specs.Layouts.{Column, Table}
use Rattle.field_values.specs.Fields.{is_undefined, width}
use Rattle.itf_reader.specs.declared.findings.Code.TheVariants.{Reference}
use Rattle.itf_reader.specs.Findings.{Finding, Word}
use Rattle.itf_reader.specs.Forms.{Row}
use Rattle.itf_reader.specs.RowFindings.{is_counted}
use Rattle.ident_refs.specs.KeyBytes.{word_code}
use Rattle.ident_refs.specs.KeptRows.{id_key, word_refs, column_refs, columns_refs, row_refs}
use Rattle.ident_refs.specs.KeptRows.{ref_findings}
use Rattle.ident_refs.specs.KeyFindings.{names_a_row, referred_table, word_findings}
use Rattle.ident_refs.specs.KeyFindings.{reference_finding, columns_references, row_references}
use Rattle.ident_refs.specs.Rows.{identification, has_identification}

pub flat_map_more : {X Y : Type 0} (f : X → List Y) (xs ys : List X)
    → flat_map f (xs ++ ys) ≡ flat_map f xs ++ flat_map f ys
flat_map_more f [] ys = refl
flat_map_more {X} {Y} f (x ∷ xs) ys =
    ap (λ (l : List Y). f x ++ l) (flat_map_more f xs ys)
    ∙ sym (append_assoc (f x) (flat_map f xs) (flat_map f ys))

-- the keys of the identifications of all tables
abbrev pub ids_by : List (List Row) → List (List (Option (List ℕ)))
ids_by transfer = map (map id_key) transfer

pub ids_at : (transfer : List (List Row)) (k : ℕ)
    → slice_index_or (ids_by transfer) k [] ≡ map id_key (slice_index_or transfer k [])
ids_at [] k = refl
ids_at (rows ∷ transfer) zero = refl
ids_at (rows ∷ transfer) (suc k) = ids_at transfer k

pub same_word : (word : List ℕ) (o : Option (List ℕ))
    → is_key (word_code word) (option_map word_code o) ≡ is_key word o
same_word word None = refl
same_word word (Some other) = refl

named : (word : List ℕ) (rows : List Row)
    → list_any (is_key (word_code word)) (map id_key rows) ≡ names_a_row word rows
named word [] = refl
named word (r ∷ rows) =
    ap (λ (b : Bool). b || list_any (is_key (word_code word)) (map id_key rows))
    (same_word word (identification r))
    ∙ ap (λ (b : Bool). has_identification word r || b) (named word rows)

named_in : (word : List ℕ) (transfer : List (List Row)) (k : ℕ)
    → list_any (is_key (word_code word)) (slice_index_or (ids_by transfer) k [])
    ≡ names_a_row word (slice_index_or transfer k [])
named_in word transfer k =
    ap (λ (ids : List (Option (List ℕ))). list_any (is_key (word_code word)) ids)
    (ids_at transfer k) ∙ named word (slice_index_or transfer k [])

-- a defined word
abbrev dangling_word : ℕ → ℕ → List ℕ → List Finding
dangling_word line number word = record {
  line = line;
  column = number;
  code = Reference;
  other = Word word;
} ∷ []

defined : (line number : ℕ) (word : List ℕ) (b : Bool)
    → cond b [] (dangling_word line number word) ++ []
    ≡ cond (true && not b) (dangling_word line number word) []
defined line number word true = refl
defined line number word false = refl

words_found : (codes : Codes) (transfer : List (List Row)) (line number k : ℕ)
    (words : List (List ℕ))
    → flat_map (ref_findings (ids_by transfer)) (word_refs codes line number k words)
    ≡ word_findings codes line number (slice_index_or transfer k []) words
words_found codes transfer line number k [] = refl
words_found codes transfer line number k (word ∷ words) =
    elim (is_undefined codes word) as
    (λ b. flat_map (ref_findings (ids_by transfer))
    (cond b [] (record {
      line = line;
      column = number;
      table = k;
      word = Some (word_code word);
    } ∷ []))
    ≡ cond (not b && not (names_a_row word (slice_index_or transfer k [])))
    (dangling_word line number word) []) [
      | true ↦ refl
      | false ↦ ap (λ (b : Bool). cond b [] (dangling_word line number word) ++ [])
          (named_in word transfer k)
          ∙ defined line number word (names_a_row word (slice_index_or transfer k []))
    ]

column_found : (codes : Codes) (transfer : List (List Row)) (line number : ℕ) (k : Option ℕ)
    (words : List (List ℕ))
    → flat_map (ref_findings (ids_by transfer)) (column_refs codes line number k words)
    ≡ reference_finding codes transfer line number k words
column_found codes transfer line number None words = refl
column_found codes transfer line number (Some k) words =
    words_found codes transfer line number k words

columns_found : (codes : Codes) (transfer : List (List Row)) (line number : ℕ) (cs : List Column)
    (words : List (List ℕ))
    → flat_map (ref_findings (ids_by transfer)) (columns_refs codes line number cs words)
    ≡ columns_references codes transfer line number cs words
columns_found codes transfer line number [] words = refl
columns_found codes transfer line number (c ∷ cs) words =
    let f = ref_findings (ids_by transfer) in
    let own = column_refs codes line number (referred_table c.form) (take (width c.form) words) in
    let rest = columns_refs codes line (number + 1) cs (drop (width c.form) words) in
    flat_map_more f own rest
    ∙ ap (λ (fs : List Finding). fs ++ flat_map f rest)
    (column_found codes transfer line number (referred_table c.form)
    (take (width c.form) words))
    ∙ ap (λ (fs : List Finding). reference_finding codes transfer line number
    (referred_table c.form) (take (width c.form) words) ++ fs)
    (columns_found codes transfer line (number + 1) cs (drop (width c.form) words))

row_found : (codes : Codes) (transfer : List (List Row)) (t : Table) (r : Row)
    → flat_map (ref_findings (ids_by transfer)) (row_refs codes t r)
    ≡ row_references codes transfer t r
row_found codes transfer t r =
    elim (is_counted t r) as
    (λ b. flat_map (ref_findings (ids_by transfer))
    (cond b (columns_refs codes r.line 1 t.columns (drop 1 r.fields)) [])
    ≡ cond b (columns_references codes transfer r.line 1 t.columns (drop 1 r.fields)) [])
    [ true ↦ columns_found codes transfer r.line 1 t.columns (drop 1 r.fields) | false ↦ refl ]

pub refs_found : (codes : Codes) (transfer : List (List Row)) (t : Table) (rows : List Row)
    → flat_map (ref_findings (ids_by transfer)) (flat_map (row_refs codes t) rows)
    ≡ flat_map (row_references codes transfer t) rows
refs_found codes transfer t [] = refl
refs_found codes transfer t (r ∷ rows) =
    let f = ref_findings (ids_by transfer) in
    flat_map_more f (row_refs codes t r) (flat_map (row_refs codes t) rows)
    ∙ ap (λ (fs : List Finding). fs ++ flat_map f (flat_map (row_refs codes t) rows))
    (row_found codes transfer t r)
    ∙ ap (λ (fs : List Finding). row_references codes transfer t r ++ fs)
    (refs_found codes transfer t rows)
