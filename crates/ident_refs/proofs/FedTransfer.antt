-- The rows of a transfer, fed table by table.
use Rattle.std.proofs.Common.{◌≡◌, ℕ, zero, suc, ◌+◌, ◌<◌, Bool, true, false, cond, nat_eq, List}
use Rattle.std.proofs.Common.{[], ◌∷◌, ◌++◌, length, map, take, drop, slice_index_or, if◌then◌else◌}
use Rattle.std.proofs.Common.{refl, sym, ap, ◌∙◌, arith, append-nil, add-one, ◌⊎◌, inl, inr}
use Rattle.std.specs.List.{flat_map, All}
use Rattle.std.proofs.lemmas.Bool.{eqb-true}
use Rattle.std.proofs.lemmas.List.Elements.{All-weaker}
use Rattle.std.proofs.lemmas.Option.{slice_get_within}
use Rattle.ili_grammar.specs.Syntax.{Codes}
use Rattle.resolver.specs.Resolved as model
use Rattle.resolver.specs.Resolved.{Form}
use Rattle.resolver.specs.Sound.{RefersWithin}
use Rattle.table_layout.specs.Layouts.{Column, Table, Layout}
use Rattle.table_layout.specs.Valid.{NamesMain, IsValid, IsTable}
use Rattle.field_values.specs.Fields.{width}
use Rattle.itf_reader.specs.Findings.{Finding}
use Rattle.itf_reader.specs.Forms.{Row}
use Rattle.itf_reader.specs.RowFindings.{is_counted}
use Rattle.itf_reader.specs.ClosedRows.{of_table, by_table_from}
use Rattle.itf_reader.specs.Layouts.{wanted_of}
use Rattle.ident_refs.specs.FedRows.{with_number, all_rows, fed_keys}
use Rattle.ident_refs.specs.KeyFindings.{referred_table, word_findings, reference_finding}
use Rattle.ident_refs.specs.KeyFindings.{columns_references, row_references, tid_findings}
use Rattle.ident_refs.specs.KeyFindings.{ident_findings, table_keys, tables_keys}

-- ---- the rows of one table
of_more : (n : ℕ) (rows more : List (ℕ × Row))
    → of_table n (rows ++ more) ≡ of_table n rows ++ of_table n more
of_more n [] more = refl
of_more n (p ∷ rows) more =
    elim (nat_eq p.0 n) as
    (λ b. cond b (p.1 ∷ of_table n (rows ++ more)) (of_table n (rows ++ more))
    ≡ cond b (p.1 ∷ of_table n rows) (of_table n rows) ++ of_table n more)
    [ true ↦ ap (λ (l : List Row). p.1 ∷ l) (of_more n rows more) | false ↦ of_more n rows more ]

same : (n : ℕ) → nat_eq n n ≡ true
same n = grind arith

apart : (q n : ℕ) → (q ≡ n → ⊥) → (b : Bool) → nat_eq q n ≡ b → b ≡ false
apart q n h true e = absurd (h (eqb-true q n e))
apart q n h false e = refl

own_numbered : (n : ℕ) (rows : List Row) → of_table n (with_number n rows) ≡ rows
own_numbered n [] = refl
own_numbered n (r ∷ rows) =
    ap (λ (b : Bool). cond b (r ∷ of_table n (with_number n rows))
    (of_table n (with_number n rows))) (same n) ∙ ap (λ (l : List Row). r ∷ l) (own_numbered n rows)

other_numbered : (n q : ℕ) (rows : List Row) → (q ≡ n → ⊥) → of_table n (with_number q rows) ≡ []
other_numbered n q [] h = refl
other_numbered n q (r ∷ rows) h =
    ap (λ (b : Bool). cond b (r ∷ of_table n (with_number q rows))
    (of_table n (with_number q rows))) (apart q n h (nat_eq q n) refl) ∙ other_numbered n q rows h

before : (n q : ℕ) (transfer : List (List Row)) → n < q → of_table n (all_rows q transfer) ≡ []
before n q [] lt = refl
before n q (rows ∷ transfer) lt =
    of_more n (with_number q rows) (all_rows (q + 1) transfer)
    ∙ ap (λ (l : List Row). l ++ of_table n (all_rows (q + 1) transfer))
    (other_numbered n q rows (λ e. absurd (omega (arith, e, lt))))
    ∙ before n (q + 1) transfer (omega (arith, lt))

at_place : (k n q : ℕ) (transfer : List (List Row)) → n ≡ q + k
    → of_table n (all_rows q transfer) ≡ slice_index_or transfer k []
at_place k n q [] e = refl
at_place zero n q (rows ∷ transfer) e =
    of_more n (with_number q rows) (all_rows (q + 1) transfer)
    ∙ ap (λ (l : List Row). l ++ of_table n (all_rows (q + 1) transfer))
    (ap (λ (m : ℕ). of_table n (with_number m rows)) (let f : q ≡ n = omega (arith, e) in f)
    ∙ own_numbered n rows)
    ∙ ap (λ (l : List Row). rows ++ l) (before n (q + 1) transfer (omega (arith, e)))
    ∙ append-nil rows
at_place (suc k) n q (rows ∷ transfer) e =
    of_more n (with_number q rows) (all_rows (q + 1) transfer)
    ∙ ap (λ (l : List Row). l ++ of_table n (all_rows (q + 1) transfer))
    (other_numbered n q rows (λ h. absurd (omega (arith, e, h))))
    ∙ at_place k n (q + 1) transfer (omega (arith, e))

-- ---- references look at tables of the layout alone
abbrev SameAt : ℕ → List (List Row) → List (List Row) → Type 0
SameAt count a b = (k : ℕ) → k < count → slice_index_or a k [] ≡ slice_index_or b k []

reference_same : (codes : Codes) (count : ℕ) (a b : List (List Row)) (line number : ℕ) (form : Form)
    (words : List (List ℕ))
    → SameAt count a b → RefersWithin count form
    → reference_finding codes a line number (referred_table form) words
    ≡ reference_finding codes b line number (referred_table form) words
reference_same codes count a b line number (model.Reference k) words s w =
    ap (λ (rows : List Row). word_findings codes line number rows words) (s k w)
reference_same codes count a b line number (model.Text n) words s w = refl
reference_same codes count a b line number model.Date words s w = refl
reference_same codes count a b line number (model.Enumeration n) words s w = refl
reference_same codes count a b line number model.HAlignment words s w = refl
reference_same codes count a b line number model.VAlignment words s w = refl
reference_same codes count a b line number (model.Range l) words s w = refl
reference_same codes count a b line number (model.Dim1 l) words s w = refl
reference_same codes count a b line number (model.Dim2 l) words s w = refl
reference_same codes count a b line number (model.Radians l) words s w = refl
reference_same codes count a b line number (model.Grads l) words s w = refl
reference_same codes count a b line number (model.Degrees l) words s w = refl
reference_same codes count a b line number (model.Coord2 x) words s w = refl
reference_same codes count a b line number (model.AreaPoint x) words s w = refl
reference_same codes count a b line number (model.Coord3 x) words s w = refl

abbrev Within : ℕ → Column → Type 0
Within count c = RefersWithin count c.form

head_of : {X : Type 0} (P : X → Type 0) (x : X) (xs : List X) → All P (x ∷ xs) → P x
head_of P x xs h = h 0 x (omega arith)

tail_of : {X : Type 0} (P : X → Type 0) (x : X) (xs : List X) → All P (x ∷ xs) → All P xs
tail_of P x xs h = λ i d lt. h (suc i) d (omega (arith, lt))

columns_same : (codes : Codes) (count : ℕ) (a b : List (List Row)) (line number : ℕ)
    (cs : List Column) (words : List (List ℕ))
    → SameAt count a b → All (Within count) cs
    → columns_references codes a line number cs words
    ≡ columns_references codes b line number cs words
columns_same codes count a b line number [] words s w = refl
columns_same codes count a b line number (c ∷ cs) words s w =
    ap (λ (fs : List Finding). fs ++ columns_references codes a line (number + 1) cs
    (drop (width c.form) words))
    (reference_same codes count a b line number c.form (take (width c.form) words) s
    (head_of (Within count) c cs w))
    ∙ ap (λ (fs : List Finding). reference_finding codes b line number (referred_table c.form)
    (take (width c.form) words) ++ fs)
    (columns_same codes count a b line (number + 1) cs (drop (width c.form) words) s
    (tail_of (Within count) c cs w))

row_same : (codes : Codes) (count : ℕ) (a b : List (List Row)) (t : Table) (r : Row)
    → SameAt count a b → All (Within count) t.columns
    → row_references codes a t r ≡ row_references codes b t r
row_same codes count a b t r s w =
    ap (λ (fs : List Finding). if is_counted t r then fs else [])
    (columns_same codes count a b r.line 1 t.columns (drop 1 r.fields) s w)

rows_same : (codes : Codes) (count : ℕ) (a b : List (List Row)) (t : Table) (rows : List Row)
    → SameAt count a b → All (Within count) t.columns
    → flat_map (row_references codes a t) rows ≡ flat_map (row_references codes b t) rows
rows_same codes count a b t [] s w = refl
rows_same codes count a b t (r ∷ rows) s w =
    ap (λ (fs : List Finding). fs ++ flat_map (row_references codes a t) rows)
    (row_same codes count a b t r s w)
    ∙ ap (λ (fs : List Finding). row_references codes b t r ++ fs)
    (rows_same codes count a b t rows s w)

abbrev pub AreWithin : ℕ → Table → Type 0
AreWithin count t = All (Within count) t.columns

table_same : (codes : Codes) (count : ℕ) (a b : List (List Row)) (t : Table) (rows : List Row)
    → SameAt count a b → AreWithin count t → table_keys codes a t rows ≡ table_keys codes b t rows
table_same codes count a b t rows s w =
    ap (λ (fs : List Finding). tid_findings [] rows
    ++ (flat_map (λ list. ident_findings codes t list [] rows) t.idents ++ fs))
    (rows_same codes count a b t rows s w)

-- ---- tables without rows
no_lists : (codes : Codes) (t : Table) (lists : List (List ℕ))
    → flat_map (λ list. ident_findings codes t list [] []) lists ≡ []
no_lists codes t [] = refl
no_lists codes t (list ∷ lists) = no_lists codes t lists

no_rows : (codes : Codes) (a : List (List Row)) (t : Table) → table_keys codes a t [] ≡ []
no_rows codes a t = ap (λ (fs : List Finding). fs ++ []) (no_lists codes t t.idents)

nothing : (n : ℕ) → ◌≡◌ {A = List (List Row)} (drop n []) []
nothing zero = refl
nothing (suc n) = refl

after : (n : ℕ) (transfer : List (List Row)) → drop n transfer ≡ [] → drop (suc n) transfer ≡ []
after n [] e = nothing (suc n)
after zero (rows ∷ transfer) e = absurd cc
after (suc n) (rows ∷ transfer) e = after n transfer e

none_left : (codes : Codes) (a : List (List Row)) (ts : List Table) → tables_keys codes a ts [] ≡ []
none_left codes a [] = refl
none_left codes a (t ∷ ts) = refl

dropped : (n : ℕ) (transfer : List (List Row))
    → (drop n transfer ≡ []) × (slice_index_or transfer n [] ≡ [])
    ⊎ (drop n transfer ≡ slice_index_or transfer n [] ∷ drop (suc n) transfer)
dropped n [] = inl (nothing n, refl)
dropped zero (rows ∷ transfer) = inr refl
dropped (suc n) (rows ∷ transfer) = dropped n transfer

-- the tables of a layout take the rows of a transfer, one after another
tables_from : (codes : Codes) (count : ℕ) (a transfer : List (List Row)) (n : ℕ) (ts : List Table)
    → SameAt count a transfer → All (AreWithin count) ts
    → tables_keys codes a ts (by_table_from n (map wanted_of ts) (all_rows 0 transfer))
    ≡ tables_keys codes transfer ts (drop n transfer)
tables_from codes count a transfer n [] s w = refl
tables_from codes count a transfer n (t ∷ ts) s w =
    let own : of_table n (all_rows 0 transfer)
    ≡ slice_index_or transfer n [] = at_place n n 0 transfer (omega arith) in
    let rest = tables_from codes count a transfer (n + 1) ts s (tail_of (AreWithin count) t ts w) in
    let this = table_same codes count a transfer t (slice_index_or transfer n []) s
    (head_of (AreWithin count) t ts w) in
    ap (λ (rows : List Row). table_keys codes a t rows
    ++ tables_keys codes a ts (by_table_from (n + 1) (map wanted_of ts) (all_rows 0 transfer)))
    own
    ∙ ap (λ (fs : List Finding). fs ++ tables_keys codes a ts
    (by_table_from (n + 1) (map wanted_of ts) (all_rows 0 transfer))) this
    ∙ ap (λ (fs : List Finding). table_keys codes transfer t (slice_index_or transfer n []) ++ fs)
    rest
    ∙ ap (λ (m : ℕ). table_keys codes transfer t (slice_index_or transfer n [])
    ++ tables_keys codes transfer ts (drop m transfer)) (add-one n)
    ∙ joined (dropped n transfer)
  where
    joined : (drop n transfer ≡ []) × (slice_index_or transfer n [] ≡ [])
        ⊎ (drop n transfer ≡ slice_index_or transfer n [] ∷ drop (suc n) transfer)
        → table_keys codes transfer t (slice_index_or transfer n [])
        ++ tables_keys codes transfer ts (drop (suc n) transfer)
        ≡ tables_keys codes transfer (t ∷ ts) (drop n transfer)
    joined (inl h) =
        ap (λ (rows : List Row). table_keys codes transfer t rows
        ++ tables_keys codes transfer ts (drop (suc n) transfer)) h.1
        ∙ ap (λ (fs : List Finding). fs ++ tables_keys codes transfer ts (drop (suc n) transfer))
        (no_rows codes transfer t)
        ∙ ap (λ (rows : List (List Row)). tables_keys codes transfer ts rows) (after n transfer h.0)
        ∙ none_left codes transfer ts
        ∙ ap (λ (rows : List (List Row)). tables_keys codes transfer (t ∷ ts) rows) (sym h.0)
    joined (inr h) =
        ap (λ (rows : List (List Row)). tables_keys codes transfer (t ∷ ts) rows) (sym h)

by_place : (k n count : ℕ) (ts : List Table) (transfer : List (List Row)) → k < length ts
    → slice_index_or (by_table_from n (map wanted_of ts) (all_rows 0 transfer)) k []
    ≡ of_table (n + k) (all_rows 0 transfer)
by_place k n count [] transfer lt = absurd (omega (arith, lt))
by_place zero n count (t ∷ ts) transfer lt =
    ap (λ (m : ℕ). of_table m (all_rows 0 transfer)) (plus_zero n)
  where
    plus_zero : (n : ℕ) → n ≡ n + 0
    plus_zero n = omega arith
by_place (suc k) n count (t ∷ ts) transfer lt =
    by_place k (n + 1) count ts transfer (omega (arith, lt))
    ∙ ap (λ (m : ℕ). of_table m (all_rows 0 transfer)) (plus_one n k)
  where
    plus_one : (n k : ℕ) → (n + 1) + k ≡ n + suc k
    plus_one n k = omega arith

names_within : (all : List Table) (topic : ℕ) (f : Form) → NamesMain all topic f
    → RefersWithin (length all) f
names_within all topic (model.Reference k) h = slice_get_within all k h.table h.at
names_within all topic f h = tt

all_within : (topics : ℕ) (all : List Table) (ts : List Table) → All (IsTable topics all) ts
    → All (AreWithin (length all)) ts
all_within topics all ts h =
    λ i d lt. All-weaker (λ (c : Column). NamesMain all (slice_index_or ts i d).topic c.form)
    (λ (c : Column). RefersWithin (length all) c.form)
    (λ c n. names_within all (slice_index_or ts i d).topic c.form n) (slice_index_or ts i d).columns
    (h i d lt).references

pub transfer_keys : (l : Layout) (transfer : List (List Row)) → IsValid l
    → fed_keys l (all_rows 0 transfer) ≡ tables_keys l.codes transfer l.tables transfer
transfer_keys l transfer v =
    let a = by_table_from 0 (map wanted_of l.tables) (all_rows 0 transfer) in
    tables_from l.codes (length l.tables) a transfer 0 l.tables
    (λ k lt. by_place k 0 0 l.tables transfer lt ∙ at_place k (0 + k) 0 transfer refl)
    (all_within (length l.topics) l.tables l.tables v.tables)
