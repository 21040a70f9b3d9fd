-- Rows without findings: the references of a helper table name the objects that are meant.
use Rattle.std.proofs.Common.{◌≡◌, ℕ, zero, suc, ◌+◌, ◌<◌, Bool, true, false, ◌&&◌, ◌||◌, cond}
use Rattle.std.proofs.Common.{nat_eq, List, [], ◌∷◌, ◌++◌, length, map, take, drop, Option, Some}
use Rattle.std.proofs.Common.{None}
use Rattle.std.proofs.Common.{refl, sym, ap, ◌∙◌, subst, arith, if◌then◌else◌}
use Rattle.std.specs.Prelude.{slice_get, slice_index_or}
use Rattle.std.specs.List.{flat_map, list_all, list_any, position_from}
use Rattle.std.specs.Option.{option_map}
use Rattle.std.proofs.lemmas.Bool.Decides.{nat_tests}
use Rattle.std.proofs.lemmas.List.Folds.{list_any-append}
use Rattle.ili_grammar.specs.Syntax.{Codes}
use Rattle.ili_grammar.proofs.ModelsBack.{same_bytes}
use Rattle.resolver.specs.Resolved.{Form, Reference}
use Rattle.table_layout.specs.Layouts.{Column, Table}
use Rattle.field_values.specs.Fields.{is_undefined, field_fault, value_fault, width}
use Rattle.field_values.specs.declared.value.ValueFault.{ValueFault}
use Rattle.field_values.specs.declared.value.ValueFault.TheVariants.{Undefined as UndefinedFault}
use Rattle.itf_reader.specs.declared.findings.Code.{Code}
use Rattle.itf_reader.specs.declared.findings.Code.TheVariants.{Tid}
use Rattle.itf_reader.specs.Forms.{Row}
use Rattle.itf_reader.specs.Layouts.{wanted_of}
use Rattle.itf_reader.specs.RowForms.{EachRow, IsCounted}
use Rattle.itf_reader.specs.RowFindings.{widths, column_code, columns_findings}
use Rattle.itf_reader.specs.StrokeFindings.{finding_at, code_of}
use Rattle.domain_rules.proofs.Places.{empty_both}
use Rattle.ident_refs.specs.KeyFindings.{duplicate, first_named, tid_findings, referred_table}
use Rattle.ident_refs.specs.KeyFindings.{table_keys, tables_keys}
use Rattle.ident_refs.specs.NamedRows.{Named, form_names, columns_names, row_names}
use Rattle.ident_refs.specs.NamedRows.{names_at}
use Rattle.ident_refs.specs.Rows.{identification, has_identification, first_such}
use Rattle.ports.specs.SortedKeys.{is_key}
use Rattle.delivery.specs.Surfaces.{reference_of, is_of}
use Rattle.delivery.proofs.ObjectLines.{names_it}

-- ---- rows whose identifications differ
none_such : (w : List ℕ) (rows : List Row) → first_such (has_identification w) rows ≡ None
    → list_any (has_identification w) rows ≡ false
none_such w [] e = refl
none_such w (r ∷ rows) e = by (has_identification w r) (none_such w rows) e
  where
    by : (b : Bool) → (first_such (has_identification w) rows ≡ None
        → list_any (has_identification w) rows ≡ false)
        → (if b then Some r else first_such (has_identification w) rows) ≡ None
        → (b || list_any (has_identification w) rows) ≡ false
    by true h e = absurd (cc)
    by false h e = h e

no_duplicate : (code : Code) (column : ℕ) (r : Row) (o : Option Row)
    → duplicate code column r o ≡ [] → o ≡ None
no_duplicate code column r None e = refl
no_duplicate code column r (Some f) e = absurd (cc)

-- a row with that identification is none of those before it
first_of : (w : List ℕ) (before : List Row) (r : Row) → has_identification w r ≡ true
    → first_named (identification r) before ≡ None → list_any (has_identification w) before ≡ false
first_of w before r h e = by (identification r) h e
  where
    by : (o : Option (List ℕ)) → is_key w o ≡ true → first_named o before ≡ None
        → list_any (has_identification w) before ≡ false
    by None h e = absurd (cc)
    by (Some v) h e =
        none_such w before (subst (λ (u : List ℕ). first_such (has_identification u) before ≡ None)
        (sym (same_bytes w v h)) e)

neither : (b c : Bool) → (b || c) ≡ false → (b ≡ false) × (c ≡ false)
neither true c h = absurd (cc)
neither false c h = (refl, h)

none_before : (w : List ℕ) (before rows : List Row) (i : ℕ) (o : Row)
    → tid_findings before rows ≡ [] → slice_get rows i ≡ Some o → has_identification w o ≡ true
    → list_any (has_identification w) before ≡ false
none_before w before [] i o e g h = absurd (cc)
none_before w before (r ∷ rows) zero o e g h =
    let b = empty_both (duplicate Tid 0 r (first_named (identification r) before))
    (tid_findings (before ++ r ∷ []) rows) e in
    first_of w before r (ap (has_identification w) (same r o g) ∙ h)
    (no_duplicate Tid 0 r (first_named (identification r) before) b.0)
  where
    same : (r o : Row) → Some r ≡ Some o → r ≡ o
    same r o e = cc
none_before w before (r ∷ rows) (suc i) o e g h =
    let b = empty_both (duplicate Tid 0 r (first_named (identification r) before))
    (tid_findings (before ++ r ∷ []) rows) e in
    (neither (list_any (has_identification w) before) (list_any (has_identification w) (r ∷ []))
    (sym (list_any-append (has_identification w) before (r ∷ []))
    ∙ none_before w (before ++ r ∷ []) rows i o b.1 g h)).0

-- the row before a list of others
none_at_head : (w : List ℕ) (before : List Row) (r : Row) (rows : List Row) (i : ℕ) (o : Row)
    → tid_findings (before ++ r ∷ []) rows ≡ [] → slice_get rows i ≡ Some o
    → has_identification w o ≡ true → has_identification w r ≡ false
none_at_head w before r rows i o e g h =
    let b = neither (list_any (has_identification w) before)
    (list_any (has_identification w) (r ∷ []))
    (sym (list_any-append (has_identification w) before (r ∷ []))
    ∙ none_before w (before ++ r ∷ []) rows i o e g h) in
    (neither (has_identification w r) false b.1).0

position_later : (p : Row → Bool) (n m : ℕ) (rows : List Row) → m < n
    → names_it m (position_from p n rows) ≡ false
position_later p n m [] lt = refl
position_later p n m (r ∷ rows) lt =
    elim (p r) as (λ b. names_it m (cond b (Some n) (position_from p (n + 1) rows)) ≡ false) [
      | true ↦ differ n m lt
      | false ↦ position_later p (n + 1) m rows (omega (arith, lt))
    ]
  where
    differ : (n m : ℕ) → m < n → nat_eq n m ≡ false
    differ n m lt = grind (arith, nat_tests)

-- the word names the object at its place exactly where it is the object's identification
position_is : (w : List ℕ) (n : ℕ) (before rows : List Row) (i : ℕ) (o : Row)
    → tid_findings before rows ≡ [] → slice_get rows i ≡ Some o
    → names_it (n + i) (position_from (has_identification w) n rows) ≡ has_identification w o
position_is w n before [] i o e g = absurd (cc)
position_is w n before (r ∷ rows) zero o e g =
    elim (has_identification w r) as (λ b. has_identification w o ≡ b → names_it (n + 0)
    (cond b (Some n) (position_from (has_identification w) (n + 1) rows))
    ≡ has_identification w o) [
      | true ↦ λ k. here n ∙ sym k
      | false ↦ λ k. position_later (has_identification w) (n + 1) (n + 0) rows (omega arith)
          ∙ sym k
    ] (ap (has_identification w) (sym (same r o g)))
  where
    same : (r o : Row) → Some r ≡ Some o → r ≡ o
    same r o e = cc

    here : (n : ℕ) → nat_eq n (n + 0) ≡ true
    here n = grind (arith, nat_tests)
position_is w n before (r ∷ rows) (suc i) o e g =
    elim (has_identification w r) as (λ b. has_identification w r ≡ b → names_it (n + suc i)
    (cond b (Some n) (position_from (has_identification w) (n + 1) rows))
    ≡ has_identification w o) [
      | true ↦ λ k. differ n i ∙ sym (not_it (has_identification w o) k refl)
      | false ↦ λ k. ap (λ (m : ℕ). names_it m
          (position_from (has_identification w) (n + 1) rows))
          (let z : n + suc i ≡ (n + 1) + i = omega arith in z)
          ∙ position_is w (n + 1) (before ++ r ∷ []) rows i o later g
    ] refl
  where
    later : tid_findings (before ++ r ∷ []) rows ≡ []
    later =
        (empty_both (duplicate Tid 0 r (first_named (identification r) before))
        (tid_findings (before ++ r ∷ []) rows) e).1

    differ : (n i : ℕ) → nat_eq n (n + suc i) ≡ false
    differ n i = grind (arith, nat_tests)

    not_it : (b : Bool) → has_identification w r ≡ true → has_identification w o ≡ b
        → has_identification w o ≡ false
    not_it false k h = h
    not_it true k h = absurd (clash (none_at_head w before r rows i o later g h) k)
      where
        clash : has_identification w r ≡ false → has_identification w r ≡ true → ⊥
        clash f t = let x = sym f ∙ t in cc

pub names_object : (objects : List Row) (i : ℕ) (o : Row) → tid_findings [] objects ≡ []
    → slice_get objects i ≡ Some o → (r : Row)
    → names_it i (position_from (has_identification (reference_of r)) 0 objects) ≡ is_of o r
names_object objects i o e g r =
    ap (λ (n : ℕ). names_it n (position_from (has_identification (reference_of r)) 0 objects))
    (let z : i ≡ 0 + i = omega arith in z)
    ∙ position_is (reference_of r) 0 [] objects i o e g

-- ---- the identifications of a table
pub ids_at : (codes : Codes) (transfer : List (List Row)) (ts : List Table)
    (tables : List (List Row)) (n : ℕ) (t : Table) → tables_keys codes transfer ts tables ≡ []
    → slice_get ts n ≡ Some t → tid_findings [] (slice_index_or tables n []) ≡ []
ids_at codes transfer [] tables n t e g = absurd (cc)
ids_at codes transfer (u ∷ ts) [] n t e g = refl
ids_at codes transfer (u ∷ ts) (rows ∷ tables) zero t e g =
    let b = empty_both (table_keys codes transfer u rows)
    (tables_keys codes transfer ts tables) e in
    (empty_both (tid_findings [] rows) _ b.0).0
ids_at codes transfer (u ∷ ts) (rows ∷ tables) (suc n) t e g =
    ids_at codes transfer ts tables n t (empty_both (table_keys codes transfer u rows)
    (tables_keys codes transfer ts tables) e).1 g

-- ---- the reference of a row
no_names : (codes : Codes) (transfer : List (List Row)) (line n : ℕ) (cs : List Column)
    (words : List (List ℕ)) → 1 < n → columns_names codes transfer line 1 n cs words ≡ []
no_names codes transfer line n [] words lt = refl
no_names codes transfer line n (c ∷ cs) words lt =
    ap (λ (b : Bool). (if b
    then form_names codes transfer line (referred_table c.form) (take (width c.form) words)
    else []) ++ columns_names codes transfer line 1 (n + 1) cs (drop (width c.form) words))
    (differ n lt)
    ∙ no_names codes transfer line (n + 1) cs (drop (width c.form) words) (omega (arith, lt))
  where
    differ : (n : ℕ) → 1 < n → nat_eq n 1 ≡ false
    differ n lt = grind (arith, nat_tests)

module _ (codes : Codes) (transfer : List (List Row)) (main : ℕ) where
  -- the row that a reference names, with the line of the row that has it
  abbrev pub name_of : Row → Named
  name_of r =
      record {
        line = r.line;
        row = position_from (has_identification (reference_of r)) 0
            (slice_index_or transfer main []);
      }

  none_undefined : (o : Option ValueFault) (b : Bool)
      → option_map code_of (if b then Some UndefinedFault else o) ≡ None → b ≡ false
  none_undefined o true e = absurd (cc)
  none_undefined o false e = refl

  no_code : (line column : ℕ) (o : Option Code) → finding_at line column o ≡ [] → o ≡ None
  no_code line column None e = refl
  no_code line column (Some c) e = absurd (cc)

  either_false : (b : Bool) → (b || false) ≡ false → b ≡ false
  either_false true e = absurd (cc)
  either_false false e = refl

  -- a reference that is needed and without findings is defined
  defined : (line : ℕ) (c : Column) (word : List ℕ) → c.form ≡ Reference main
      → c.optional ≡ false → finding_at line 1 (column_code codes c (word ∷ [])) ≡ []
      → is_undefined codes word ≡ false
  defined line c word f o e =
      let code = no_code line 1 (column_code codes c (word ∷ [])) e in
      let own : option_map code_of (field_fault c.form codes (word ∷ [])) ≡ None
      = sym (ap (λ (b : Bool). if b && list_all (is_undefined codes) (word ∷ [])
      then None else option_map code_of (field_fault c.form codes (word ∷ []))) o) ∙ code in
      either_false (is_undefined codes word)
      (none_undefined (value_fault c.form (word ∷ [])) (list_any (is_undefined codes) (word ∷ []))
      own)

  name_by : (r : Row) (c : Column) (cs : List Column) (word : List ℕ) (words : List (List ℕ))
      → c.form ≡ Reference main → is_undefined codes word ≡ false
      → columns_names codes transfer r.line 1 1 (c ∷ cs) (word ∷ words)
      ≡ record {
        line = r.line;
        row = position_from (has_identification word) 0 (slice_index_or transfer main []);
      } ∷ []
  name_by r c cs word words f d =
      ap (λ (x : Form). form_names codes transfer r.line (referred_table x)
      (take (width x) (word ∷ words)) ++ columns_names codes transfer r.line 1 2 cs
      (drop (width x) (word ∷ words))) f
      ∙ ap (λ (b : Bool). (if b then [] else record {
        line = r.line;
        row = position_from (has_identification word) 0 (slice_index_or transfer main []);
      } ∷ []) ++ columns_names codes transfer r.line 1 2 cs words) d
      ∙ ap (λ (ns : List Named). record {
        line = r.line;
        row = position_from (has_identification word) 0 (slice_index_or transfer main []);
      } ∷ ns) (no_names codes transfer r.line 2 cs words (omega arith))

  -- a row of the right number of words, whose first value is such a reference
  pub named_by : (r : Row) (cs : List Column) (c : Column) (fields : List (List ℕ))
      → r.fields ≡ fields → slice_get cs 0 ≡ Some c → c.form ≡ Reference main
      → c.optional ≡ false → length fields ≡ 1 + widths cs
      → columns_findings codes r.line 1 cs (drop 1 fields) ≡ []
      → columns_names codes transfer r.line 1 1 cs (drop 1 fields) ≡ name_of r ∷ []
  named_by r [] c fields q g f o n e = absurd (cc)
  named_by r (d ∷ cs) c [] q g f o n e = absurd (omega (arith, n))
  named_by r (d ∷ cs) c (i ∷ []) q g f o n e =
      absurd (few (width d.form) (widths cs) (ap width (own_form d c g f)) n)
    where
      few : (w v : ℕ) → w ≡ 1 → 1 ≡ 1 + (w + v) → ⊥
      few w v e n = omega (arith, e, n)

      own_form : (d c : Column) → Some d ≡ Some c → c.form ≡ Reference main
          → d.form ≡ Reference main
      own_form d c g f = cc
  named_by r (d ∷ cs) c (i ∷ word ∷ words) q g f o n e =
      let form = own_form d c g f in
      let first = (empty_both (finding_at r.line 1 (column_code codes d
      (take (width d.form) (word ∷ words))))
      (columns_findings codes r.line 2 cs (drop (width d.form) (word ∷ words))) e).0 in
      let one = subst (λ (x : Form). finding_at r.line 1 (column_code codes d
      (take (width x) (word ∷ words))) ≡ []) form first in
      name_by r d cs word words form (defined r.line d word form (own_optional d c g o) one)
      ∙ ap (λ (w : List ℕ). record {
        line = r.line;
        row = position_from (has_identification w) 0 (slice_index_or transfer main []);
      } ∷ []) (sym (ap (λ (ws : List (List ℕ)). slice_index_or ws 1 []) q))
    where
      own_form : (d c : Column) → Some d ≡ Some c → c.form ≡ Reference main
          → d.form ≡ Reference main
      own_form d c g f = cc

      own_optional : (d c : Column) → Some d ≡ Some c → c.optional ≡ false → d.optional ≡ false
      own_optional d c g o = cc

-- ---- the rows of a table among all
pub names_there : (codes : Codes) (transfer : List (List Row)) (asked : ℕ) (ts : List Table)
    (tables : List (List Row)) (n : ℕ) (t : Table) → EachRow IsCounted (map wanted_of ts) tables
    → slice_get ts n ≡ Some t
    → names_at codes transfer asked n ts tables
    ≡ flat_map (row_names codes transfer asked t) (slice_index_or tables n [])
names_there codes transfer asked [] tables n t h g = absurd (cc)
names_there codes transfer asked (u ∷ ts) [] n t h g = absurd h
names_there codes transfer asked (u ∷ ts) (rows ∷ tables) zero t h g =
    ap (λ (v : Table). flat_map (row_names codes transfer asked v) rows) (same u t g)
  where
    same : (u t : Table) → Some u ≡ Some t → u ≡ t
    same u t e = cc
names_there codes transfer asked (u ∷ ts) (rows ∷ tables) (suc n) t h g =
    names_there codes transfer asked ts tables n t h.1 g
