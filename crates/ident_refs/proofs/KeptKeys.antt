-- The findings of keys that were kept are those of their rows.
use Rattle.std.proofs.Common.{◌≡◌, ℕ, Bool, true, false, cond, List, [], ◌∷◌, ◌++◌, map, Option}
use Rattle.std.proofs.Common.{Some, None, if◌then◌else◌, refl, sym, ap, ◌∙◌}
use Rattle.std.specs.Option.{option_map}
use Rattle.std.proofs.lemmas.List.{map-append}
use Rattle.ports.specs.SortedKeys.{is_key}
use Rattle.ili_grammar.specs.Syntax.{Codes}
use Rattle.table_layout.specs.Layouts.{Table}
use Rattle.itf_reader.specs.declared.findings.Code.{Code}
use Rattle.itf_reader.specs.declared.findings.Code.TheVariants.{Tid, Ident}
use Rattle.itf_reader.specs.Findings.{Finding}
use Rattle.itf_reader.specs.Forms.{Row}
use Rattle.ident_refs.specs.KeyBytes.{list_code, word_code}
use Rattle.ident_refs.specs.KeptRows.{id_key, list_key, row_line, zip_keys, first_line, repeat}
use Rattle.ident_refs.specs.KeptRows.{repeats}
use Rattle.ident_refs.specs.KeyFindings.{duplicate, column_of, first_named, tid_findings}
use Rattle.ident_refs.specs.KeyFindings.{ident_findings}
use Rattle.ident_refs.specs.ListValues.{Value, ident_values, are_same_values}
use Rattle.ident_refs.specs.Rows.{identification, has_identification, first_such}
use Rattle.ident_refs.proofs.Injective.{AllFit, keys_tell}
use Rattle.ident_refs.proofs.Fits.{FitsList, demand_fit}

abbrev pub with_line : (Row → Option (List ℕ)) → Row → ℕ × Option (List ℕ)
with_line k r = (r.line, k r)

pub zipped_rows : (k : Row → Option (List ℕ)) (rows : List Row)
    → zip_keys (map row_line rows) (map k rows) ≡ map (with_line k) rows
zipped_rows k [] = refl
zipped_rows k (r ∷ rows) =
    ap (λ (xs : List (ℕ × Option (List ℕ))). (r.line, k r) ∷ xs) (zipped_rows k rows)

first_of : (k : Row → Option (List ℕ)) (key : List ℕ) (test : Row → Bool)
    → ((r : Row) → is_key key (k r) ≡ test r) → (rows : List Row)
    → first_line (Some key) (map (with_line k) rows) ≡ option_map row_line (first_such test rows)
first_of k key test h [] = refl
first_of k key test h (r ∷ rows) =
    ap (λ (b : Bool). if b then Some r.line else first_line (Some key) (map (with_line k) rows))
    (h r)
    ∙ elim (test r) as (λ b. cond b (Some r.line) (first_line (Some key) (map (with_line k) rows))
    ≡ option_map row_line (cond b (Some r) (first_such test rows))) [
      | true ↦ refl
      | false ↦ first_of k key test h rows
    ]

repeat_clash : (code : Code) (column : ℕ) (r : Row) (o : Option Row)
    → repeat code column r.line (option_map row_line o) ≡ duplicate code column r o
repeat_clash code column r None = refl
repeat_clash code column r (Some first) = refl

-- ---- identifications
same_word : (word : List ℕ) (o : Option (List ℕ))
    → is_key (word_code word) (option_map word_code o) ≡ is_key word o
same_word word None = refl
same_word word (Some other) = refl

named_first : (o : Option (List ℕ)) (rows : List Row)
    → first_line (option_map word_code o) (map (with_line id_key) rows)
    ≡ option_map row_line (first_named o rows)
named_first None rows = refl
named_first (Some word) rows =
    first_of id_key (word_code word) (has_identification word)
    (λ r. same_word word (identification r)) rows

tids_from : (before rows : List Row)
    → repeats Tid 0 (map (with_line id_key) before) (map (with_line id_key) rows)
    ≡ tid_findings before rows
tids_from before [] = refl
tids_from before (r ∷ rows) =
    let rest = λ (xs : List (ℕ × Option (List ℕ))). repeats Tid 0 xs
    (map (with_line id_key) rows) in
    ap (λ (o : Option ℕ). repeat Tid 0 r.line o
    ++ rest (map (with_line id_key) before ++ with_line id_key r ∷ []))
    (named_first (identification r) before)
    ∙ ap (λ (fs : List Finding). fs ++ rest
    (map (with_line id_key) before ++ with_line id_key r ∷ []))
    (repeat_clash Tid 0 r (first_named (identification r) before))
    ∙ ap (λ (fs : List Finding). duplicate Tid 0 r (first_named (identification r) before) ++ fs)
    (ap rest (sym (map-append (with_line id_key) before (r ∷ [])))
    ∙ tids_from (before ++ r ∷ []) rows)

pub tids_found : (rows : List Row)
    → repeats Tid 0 [] (zip_keys (map row_line rows) (map id_key rows)) ≡ tid_findings [] rows
tids_found rows =
    ap (λ (xs : List (ℕ × Option (List ℕ))). repeats Tid 0 [] xs) (zipped_rows id_key rows)
    ∙ tids_from [] rows

-- ---- IDENT lists
same_list : (vs : List Value) (o : Option (List Value)) → AllFit vs → FitsList o
    → is_key (list_code vs) (option_map list_code o) ≡ are_same_values (Some vs) o
same_list vs None f g = refl
same_list vs (Some ws) f g = sym (keys_tell vs ws f g)

none_such : (test : Row → Bool) → ((r : Row) → test r ≡ false) → (rows : List Row)
    → first_such test rows ≡ None
none_such test h [] = refl
none_such test h (r ∷ rows) = ap (λ (b : Bool). cond b (Some r) (first_such test rows)) (h r)
    ∙ none_such test h rows

demanded_first : (codes : Codes) (t : Table) (list : List ℕ) (o : Option (List Value))
    (rows : List Row)
    → FitsList o
    → first_line (option_map list_code o) (map (with_line (list_key codes t list)) rows)
    ≡ option_map row_line
    (first_such (λ (other : Row). are_same_values o (ident_values codes t list other)) rows)
demanded_first codes t list None rows f =
    ap (option_map row_line) (sym (none_such _ (λ other. refl) rows))
demanded_first codes t list (Some vs) rows f =
    first_of (list_key codes t list) (list_code vs)
    (λ (other : Row). are_same_values (Some vs) (ident_values codes t list other))
    (λ r. same_list vs (ident_values codes t list r) f (demand_fit codes t list r)) rows

idents_from : (codes : Codes) (t : Table) (list : List ℕ) (before rows : List Row)
    → repeats Ident (column_of list) (map (with_line (list_key codes t list)) before)
    (map (with_line (list_key codes t list)) rows) ≡ ident_findings codes t list before rows
idents_from codes t list before [] = refl
idents_from codes t list before (r ∷ rows) =
    let k = list_key codes t list in
    let column = column_of list in
    let rest = λ (xs : List (ℕ × Option (List ℕ))). repeats Ident column xs
    (map (with_line k) rows) in
    let first = first_such
    (λ (other : Row). are_same_values (ident_values codes t list r)
    (ident_values codes t list other)) before in
    ap (λ (o : Option ℕ). repeat Ident column r.line o
    ++ rest (map (with_line k) before ++ with_line k r ∷ []))
    (demanded_first codes t list (ident_values codes t list r) before
    (demand_fit codes t list r))
    ∙ ap (λ (fs : List Finding). fs ++ rest (map (with_line k) before ++ with_line k r ∷ []))
    (repeat_clash Ident column r first)
    ∙ ap (λ (fs : List Finding). duplicate Ident column r first ++ fs)
    (ap rest (sym (map-append (with_line k) before (r ∷ [])))
    ∙ idents_from codes t list (before ++ r ∷ []) rows)

pub idents_found : (codes : Codes) (t : Table) (list : List ℕ) (rows : List Row)
    → repeats Ident (column_of list) []
    (zip_keys (map row_line rows) (map (list_key codes t list) rows))
    ≡ ident_findings codes t list [] rows
idents_found codes t list rows =
    ap (λ (xs : List (ℕ × Option (List ℕ))). repeats Ident (column_of list) [] xs)
    (zipped_rows (list_key codes t list) rows) ∙ idents_from codes t list [] rows
