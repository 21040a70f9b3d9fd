-- The rows that a column of references names, by what links ask.
use Rattle.std.proofs.Common.{◌≡◌, ℕ, zero, suc, ◌+◌, ◌<◌, ◌≤◌, Bool, true, false, ◌||◌, nat_eq}
use Rattle.std.proofs.Common.{List, [], ◌∷◌, ◌++◌, length, map, take, drop, Option, Some, None}
use Rattle.std.proofs.Common.{refl, sym}
use Rattle.std.proofs.Common.{ap, ◌∙◌, subst, arith, if◌then◌else◌}
use Rattle.std.specs.Prelude.{option_and_then, slice_get, slice_index_or}
use Rattle.std.specs.List.{flat_map, position_from}
use Rattle.std.specs.Option.{option_map, option_to_list}
use Rattle.std.proofs.lemmas.Bool.{eqb-true}
use Rattle.std.proofs.lemmas.Bool.Decides.{nat_tests}
use Rattle.std.proofs.lemmas.List.{length-drop}
use Rattle.ports.specs.SortedKeys.{is_key}
use Rattle.ili_grammar.specs.Syntax.{Codes}
use Rattle.resolver.specs.Resolved.{Form, Reference}
use Rattle.table_layout.specs.Layouts.{Column, Layout, Table}
use Rattle.field_values.specs.declared.value.ValueFault.TheVariants.{Undefined}
use Rattle.field_values.specs.Fields.{is_undefined, width}
use Rattle.field_values.specs.Readings.{Bytes, column_reading, reading}
use Rattle.itf_reader.specs.Forms.{Row}
use Rattle.itf_reader.specs.Layouts.{wanted_of}
use Rattle.itf_reader.specs.RowForms.{EachRow, IsCounted}
use Rattle.itf_reader.specs.RowFindings.{is_counted, widths}
use Rattle.ident_refs.specs.KeyFindings.{referred_table}
use Rattle.ident_refs.specs.NamedRows.{Named, columns_names, form_names, row_names, rows_named}
use Rattle.ident_refs.specs.Rows.{has_identification}
use Rattle.area_links.specs.Pairs.{Words, identification, object_of, row_word, word_of}
use Rattle.area_links.specs.Pairs.{words_at}
use Rattle.delivery.specs.LinkJoins.{object_at}
use Rattle.delivery.proofs.JoinedPairs.{all_namings, naming}
use Rattle.delivery.proofs.LinkPoints.{words_next}
use Rattle.delivery.proofs.NamedObjects.{names_there}

-- ---- a column of references
abbrev placed_among : List Row → List ℕ → Option ℕ
placed_among mains word = position_from (has_identification word) 0 mains

abbrev naming_of : ℕ → List Row → Option (List ℕ) → List Named
naming_of line mains o =
    option_to_list (option_map (λ (n : Option ℕ). record { line = line; row = n })
    (option_map (placed_among mains) o))

module _ (codes : Codes) (transfer : List (List Row)) (line asked : ℕ) where
  -- no later column is the one that is asked
  none_later : (n : ℕ) (cs : List Column) (words : List (List ℕ)) → asked < n
      → columns_names codes transfer line asked n cs words ≡ []
  none_later n [] words lt = refl
  none_later n (c ∷ cs) words lt =
      ap (λ (b : Bool). (if b
      then form_names codes transfer line (referred_table c.form) (take (width c.form) words)
      else []) ++ columns_names codes transfer line asked (n + 1) cs (drop (width c.form) words))
      (differ n lt)
      ∙ none_later (n + 1) cs (drop (width c.form) words) (omega (arith, lt))
    where
      differ : (n : ℕ) → asked < n → nat_eq n asked ≡ false
      differ n lt = grind (arith, nat_tests)

module _ (codes : Codes) (transfer : List (List Row)) (line main : ℕ) where
  abbrev mains : List Row
  mains = slice_index_or transfer main []

  abbrev read_word : Words → Option (List ℕ)
  read_word w = word_of (column_reading w.column.form codes w.words)

  named_by_word : (word : List ℕ)
      → form_names codes transfer line (Some main) (word ∷ [])
      ≡ naming_of line mains (word_of (column_reading (Reference main) codes (word ∷ [])))
  named_by_word word = by (is_undefined codes word)
    where
      by : (b : Bool)
          → (if b then [] else record { line = line; row = placed_among mains word } ∷ [])
          ≡ naming_of line mains (word_of (reading (if b || false then Some Undefined else None)
          (Bytes word)))
      by true = refl
      by false = refl

  named_by_words : (words : List (List ℕ)) → 1 ≤ length words
      → form_names codes transfer line (Some main) (take 1 words)
      ≡ naming_of line mains (word_of (column_reading (Reference main) codes (take 1 words)))
  named_by_words [] h = absurd (omega (arith, h))
  named_by_words (w ∷ ws) h = named_by_word w

  same : (b c : Column) → Some b ≡ Some c → b ≡ c
  same b c e = cc

  equal : (n : ℕ) → nat_eq n (n + 0) ≡ true
  equal n = grind (arith, nat_tests)

  differ : (n k : ℕ) → nat_eq n (n + suc k) ≡ false
  differ n k = grind (arith, nat_tests)

  name_at_column : (n : ℕ) (cs : List Column) (k : ℕ) (c : Column) (words : List (List ℕ))
      → slice_get cs k ≡ Some c → c.form ≡ Reference main → length words ≡ widths cs
      → columns_names codes transfer line (n + k) n cs words
      ≡ naming_of line mains (option_and_then read_word (words_at cs k words))
  name_at_column n [] k c words g f e = absurd (cc)
  name_at_column n (b ∷ cs) zero c words g f e =
      let form : b.form ≡ Reference main = ap (λ (x : Column). x.form) (same b c g) ∙ f in
      ap (λ (x : Bool). (if x
      then form_names codes transfer line (referred_table b.form) (take (width b.form) words)
      else []) ++ columns_names codes transfer line (n + 0) (n + 1) cs
      (drop (width b.form) words)) (equal n)
      ∙ ap (λ (ns : List Named). form_names codes transfer line (referred_table b.form)
      (take (width b.form) words) ++ ns)
      (none_later codes transfer line (n + 0) (n + 1) cs (drop (width b.form) words) (omega arith))
      ∙ subst (λ (x : Form). form_names codes transfer line (referred_table x)
      (take (width x) words) ++ []
      ≡ naming_of line mains (word_of (column_reading x codes (take (width x) words))))
      (sym form)
      (append_none _ ∙ named_by_words words (long (width b.form) (widths cs) (ap width form) e))
    where
      append_none : (ns : List Named) → ns ++ [] ≡ ns
      append_none [] = refl
      append_none (m ∷ ns) = ap (λ (l : List Named). m ∷ l) (append_none ns)

      long : (w v : ℕ) → w ≡ 1 → length words ≡ w + v → 1 ≤ length words
      long w v a e = omega (arith, a, e)
  name_at_column n (b ∷ cs) (suc k) c words g f e =
      ap (λ (x : Bool). (if x
      then form_names codes transfer line (referred_table b.form) (take (width b.form) words)
      else []) ++ columns_names codes transfer line (n + suc k) (n + 1) cs
      (drop (width b.form) words)) (differ n k)
      ∙ ap (λ (m : ℕ). columns_names codes transfer line m (n + 1) cs (drop (width b.form) words))
      (let z : n + suc k ≡ (n + 1) + k = omega arith in z)
      ∙ name_at_column (n + 1) cs k c (drop (width b.form) words) g f
      (let d = length-drop (width b.form) words in omega (arith, d, e))
      ∙ sym (ap (λ (o : Option Words). naming_of line mains (option_and_then read_word o))
      (words_next b cs k words))

-- ---- a row
module _ (codes : Codes) (transfer : List (List Row)) (t : Table) (k : ℕ) (c : Column) (main : ℕ)
    (g : slice_get t.columns k ≡ Some c) (f : c.form ≡ Reference main) where
  -- the place of the row that a row refers to, where its reference is defined
  abbrev pub place_named : Row → Option (Option ℕ)
  place_named r =
      option_map (λ (word : List ℕ). position_from (has_identification word) 0
      (slice_index_or transfer main [])) (row_word codes t k r)

  row_names_are : (r : Row)
      → row_names codes transfer (k + 1) t r
      ≡ option_to_list (option_map (naming r) (place_named r))
  row_names_are r = by (is_counted t r) refl
    where
      by : (b : Bool) → is_counted t r ≡ b
          → (if b then columns_names codes transfer r.line (k + 1) 1 t.columns (drop 1 r.fields)
          else [])
          ≡ naming_of r.line (slice_index_or transfer main [])
          (option_and_then (read_word codes transfer r.line main)
          (if b then words_at t.columns k (drop 1 r.fields) else None))
      by true e =
          ap (λ (m : ℕ). columns_names codes transfer r.line m 1 t.columns (drop 1 r.fields))
          (let z : k + 1 ≡ 1 + k = omega arith in z)
          ∙ name_at_column codes transfer r.line main 1 t.columns k c (drop 1 r.fields) g f
          (let d = length-drop 1 r.fields in
          let n = eqb-true (length r.fields) (1 + widths t.columns) e in omega (arith, d, n))
      by false e = refl

  names_of_rows : (rows : List Row)
      → flat_map (row_names codes transfer (k + 1) t) rows ≡ all_namings place_named rows
  names_of_rows [] = refl
  names_of_rows (r ∷ rows) =
      ap (λ (ns : List Named). ns ++ flat_map (row_names codes transfer (k + 1) t) rows)
      (row_names_are r)
      ∙ ap (λ (ns : List Named). option_to_list (option_map (naming r) (place_named r)) ++ ns)
      (names_of_rows rows)

pub names_are : (l : Layout) (transfer : List (List Row)) (n : ℕ) (t : Table) (k : ℕ) (c : Column)
    (main : ℕ) → EachRow IsCounted (map wanted_of l.tables) transfer
    → slice_get l.tables n ≡ Some t → (g : slice_get t.columns k ≡ Some c)
    → (f : c.form ≡ Reference main)
    → rows_named l transfer n (k + 1)
    ≡ all_namings (place_named l.codes transfer t k c main g f) (slice_index_or transfer n [])
names_are l transfer n t k c main h e g f =
    names_there l.codes transfer (k + 1) l.tables transfer n t h e
    ∙ names_of_rows l.codes transfer t k c main g f (slice_index_or transfer n [])

-- ---- the object that a word names
position_mapped : (word : List ℕ) (n : ℕ) (rows : List Row)
    → position_from (is_key word) n (map identification rows)
    ≡ position_from (has_identification word) n rows
position_mapped word n [] = refl
position_mapped word n (r ∷ rows) =
    ap (λ (o : Option ℕ). if has_identification word r then Some n else o)
    (position_mapped word (n + 1) rows)

pub object_is : (numbers : List (Option ℕ)) (objects : List Row) (o : Option (List ℕ))
    → option_map (object_at numbers)
    (option_map (λ (word : List ℕ). position_from (has_identification word) 0 objects) o)
    ≡ option_map (object_of (map identification objects) numbers) o
object_is numbers objects None = refl
object_is numbers objects (Some word) =
    ap (λ (p : Option ℕ). Some (object_at numbers p)) (sym (position_mapped word 0 objects))
