-- What is kept of all tables, row by row, and what is found in it.
use Rattle.std.proofs.Common.{◌≡◌, ℕ, zero, suc, ◌+◌, ◌<◌, Bool, true, false, cond, nat_eq, List}
use Rattle.std.proofs.Common.{[], ◌∷◌, ◌++◌, length, map, get_or, Option, refl, sym, ap, ◌∙◌, arith}
use Rattle.std.proofs.Common.{append_assoc, append-nil}
use Rattle.std.specs.List.{flat_map}
use Rattle.std.specs.Prelude.{slice_index_or}
use Rattle.std.proofs.lemmas.List.{length-map, map-append}
use Rattle.std.proofs.lemmas.Bool.{eqb-true}
use Rattle.ili_grammar.specs.Syntax.{Codes}
use Rattle.table_layout.specs.Layouts.{Table, Layout}
use Rattle.itf_reader.specs.Findings.{Finding}
use Rattle.itf_reader.specs.Forms.{Row}
use Rattle.itf_reader.specs.ClosedRows.{of_table, by_table, by_table_from}
use Rattle.itf_reader.specs.Layouts.{form_of, wanted_of}
use Rattle.ident_refs.specs.FedRows.{row_at, fed_rows, fed_tables, with_number, all_rows, fed_keys}
use Rattle.ident_refs.specs.KeptRows.{id_key, list_key, row_line, row_refs, Ref, KeptList, Kept}
use Rattle.ident_refs.specs.KeptRows.{kept_table, kept_list, kept_lists, kept_from, kept_rows}
use Rattle.ident_refs.specs.KeptRows.{no_rows, with_key, with_row, list_findings, ref_findings}
use Rattle.ident_refs.specs.KeptRows.{kept_findings, all_ids, all_lines, all_kept_findings, refs_at}
use Rattle.ident_refs.specs.declared.table_keys.TableKeys.{TableKeys}
use Rattle.ident_refs.specs.KeptViews.{all_kept_view, refs_view}
use Rattle.ident_refs.specs.KeyFindings.{tid_findings, ident_findings, table_keys, tables_keys}
use Rattle.ident_refs.proofs.KeptKeys.{tids_found, idents_found}
use Rattle.ident_refs.proofs.KeptRefs.{flat_map_more, ids_by, refs_found}

-- ---- one more row of a table
lists_more : (codes : Codes) (t : Table) (rows : List Row) (r : Row) (lists : List (List ℕ))
    → map (with_key codes t r) (kept_lists codes t rows lists)
    ≡ kept_lists codes t (rows ++ r ∷ []) lists
lists_more codes t rows r [] = refl
lists_more codes t rows r (list ∷ lists) =
    ap (λ (keys : List (Option (List ℕ))). with_keys (kept_list codes t rows list) keys
    ∷ map (with_key codes t r) (kept_lists codes t rows lists))
    (sym (map-append (list_key codes t list) rows (r ∷ [])))
    ∙ ap (λ (ls : List KeptList). kept_list codes t (rows ++ r ∷ []) list ∷ ls)
    (lists_more codes t rows r lists)
  where
    with_keys : KeptList → List (Option (List ℕ)) → KeptList
    with_keys l keys = record { column = l.column; places = l.places; keys = keys }

abbrev made : Codes → Table → List ℕ → List (Option (List ℕ)) → List KeptList → List Ref → Kept
made codes t lines ids lists refs =
    record { codes = codes; table = t; lines = lines; ids = ids; lists = lists; refs = refs }

refs_more : (codes : Codes) (t : Table) (rows : List Row) (r : Row)
    → flat_map (row_refs codes t) rows ++ row_refs codes t r
    ≡ flat_map (row_refs codes t) (rows ++ r ∷ [])
refs_more codes t rows r =
    sym (flat_map_more (row_refs codes t) rows (r ∷ [])
    ∙ ap (λ (l : List Ref). flat_map (row_refs codes t) rows ++ l)
    (append-nil (row_refs codes t r)))

pub kept_more : (codes : Codes) (t : Table) (rows : List Row) (r : Row)
    → with_row r (kept_table codes t rows) ≡ kept_table codes t (rows ++ r ∷ [])
kept_more codes t rows r =
    let k = kept_table codes t rows in
    ap (λ (l : List ℕ). made codes t l (k.ids ++ id_key r ∷ []) (map (with_key codes t r) k.lists)
    (k.refs ++ row_refs codes t r)) (sym (map-append row_line rows (r ∷ [])))
    ∙ ap (λ (l : List (Option (List ℕ))). made codes t (map row_line (rows ++ r ∷ [])) l
    (map (with_key codes t r) k.lists) (k.refs ++ row_refs codes t r))
    (sym (map-append id_key rows (r ∷ [])))
    ∙ ap (λ (l : List KeptList). made codes t (map row_line (rows ++ r ∷ []))
    (map id_key (rows ++ r ∷ [])) l (k.refs ++ row_refs codes t r))
    (lists_more codes t rows r t.idents)
    ∙ ap (λ (l : List Ref). made codes t (map row_line (rows ++ r ∷ []))
    (map id_key (rows ++ r ∷ [])) (kept_lists codes t (rows ++ r ∷ []) t.idents) l)
    (refs_more codes t rows r)

-- ---- one more row of all tables
of_own : (n : ℕ) (rows : List (ℕ × Row)) (q : ℕ) (r : Row) → q ≡ n
    → of_table n (rows ++ (q, r) ∷ []) ≡ of_table n rows ++ r ∷ []
of_own n [] q r e = ap (λ (b : Bool). cond b (r ∷ []) []) (same q n e)
  where
    same : (q n : ℕ) → q ≡ n → nat_eq q n ≡ true
    same q n e = ap (λ (m : ℕ). nat_eq q m) (sym e) ∙ grind arith
of_own n (p ∷ rows) q r e =
    elim (nat_eq p.0 n) as
    (λ b. cond b (p.1 ∷ of_table n (rows ++ (q, r) ∷ [])) (of_table n (rows ++ (q, r) ∷ []))
    ≡ cond b (p.1 ∷ of_table n rows) (of_table n rows) ++ r ∷ [])
    [ true ↦ ap (λ (l : List Row). p.1 ∷ l) (of_own n rows q r e) | false ↦ of_own n rows q r e ]

of_other : (n : ℕ) (rows : List (ℕ × Row)) (q : ℕ) (r : Row) → (q ≡ n → ⊥)
    → of_table n (rows ++ (q, r) ∷ []) ≡ of_table n rows
of_other n [] q r h = ap (λ (b : Bool). cond b (r ∷ []) []) (apart (nat_eq q n) refl)
  where
    apart : (b : Bool) → nat_eq q n ≡ b → b ≡ false
    apart true e = absurd (h (eqb-true q n e))
    apart false e = refl
of_other n (p ∷ rows) q r h =
    elim (nat_eq p.0 n) as
    (λ b. cond b (p.1 ∷ of_table n (rows ++ (q, r) ∷ [])) (of_table n (rows ++ (q, r) ∷ []))
    ≡ cond b (p.1 ∷ of_table n rows) (of_table n rows)) [
      | true ↦ ap (λ (l : List Row). p.1 ∷ l) (of_other n rows q r h)
      | false ↦ of_other n rows q r h
    ]

behind : (codes : Codes) (n : ℕ) (ts : List Table) (rows : List (ℕ × Row)) (q : ℕ) (r : Row) → q < n
    → kept_from codes n ts (rows ++ (q, r) ∷ []) ≡ kept_from codes n ts rows
behind codes n [] rows q r lt = refl
behind codes n (t ∷ ts) rows q r lt =
    ap (λ (l : List Row). kept_table codes t l ∷ kept_from codes (n + 1) ts (rows ++ (q, r) ∷ []))
    (of_other n rows q r (λ e. absurd (omega (arith, e, lt))))
    ∙ ap (λ (ks : List Kept). kept_table codes t (of_table n rows) ∷ ks)
    (behind codes (n + 1) ts rows q r (omega (arith, lt)))

row_from : (codes : Codes) (place n : ℕ) (ts : List Table) (rows : List (ℕ × Row)) (q : ℕ) (r : Row)
    → q ≡ n + place
    → row_at place r (kept_from codes n ts rows) ≡ kept_from codes n ts (rows ++ (q, r) ∷ [])
row_from codes place n [] rows q r e = refl
row_from codes zero n (t ∷ ts) rows q r e =
    ap (λ (k : Kept). k ∷ kept_from codes (n + 1) ts rows) (kept_more codes t (of_table n rows) r
    ∙ ap (kept_table codes t) (sym (of_own n rows q r (omega (arith, e)))))
    ∙ ap (λ (ks : List Kept). kept_table codes t (of_table n (rows ++ (q, r) ∷ [])) ∷ ks)
    (sym (behind codes (n + 1) ts rows q r (omega (arith, e))))
row_from codes (suc place) n (t ∷ ts) rows q r e =
    ap (λ (ks : List Kept). kept_table codes t (of_table n rows) ∷ ks)
    (row_from codes place (n + 1) ts rows q r (omega (arith, e)))
    ∙ ap (λ (l : List Row). kept_table codes t l ∷ kept_from codes (n + 1) ts (rows ++ (q, r) ∷ []))
    (sym (of_other n rows q r (λ h. absurd (omega (arith, e, h)))))

pub row_fed : (l : Layout) (place : ℕ) (rows : List (ℕ × Row)) (r : Row)
    → row_at place r (kept_rows l rows) ≡ kept_rows l (rows ++ (place, r) ∷ [])
row_fed l place rows r = row_from l.codes place 0 l.tables rows place r (omega arith)

rows_fed : (l : Layout) (place : ℕ) (more : List Row) (rows : List (ℕ × Row))
    → fed_rows place more (kept_rows l rows) ≡ kept_rows l (rows ++ with_number place more)
rows_fed l place [] rows = ap (kept_rows l) (sym (append-nil rows))
rows_fed l place (r ∷ more) rows =
    ap (fed_rows place more) (row_fed l place rows r)
    ∙ rows_fed l place more (rows ++ (place, r) ∷ [])
    ∙ ap (kept_rows l) (append_assoc rows ((place, r) ∷ []) (with_number place more))

tables_fed : (l : Layout) (place : ℕ) (transfer : List (List Row)) (rows : List (ℕ × Row))
    → fed_tables place transfer (kept_rows l rows) ≡ kept_rows l (rows ++ all_rows place transfer)
tables_fed l place [] rows = ap (kept_rows l) (sym (append-nil rows))
tables_fed l place (own ∷ transfer) rows =
    ap (fed_tables (place + 1) transfer) (rows_fed l place own rows)
    ∙ tables_fed l (place + 1) transfer (rows ++ with_number place own)
    ∙ ap (kept_rows l) (append_assoc rows (with_number place own) (all_rows (place + 1) transfer))

pub transfer_fed : (l : Layout) (transfer : List (List Row)) (old new : List Kept)
    → old ≡ kept_rows l [] → new ≡ fed_tables 0 transfer old
    → new ≡ kept_rows l (all_rows 0 transfer)
transfer_fed l transfer old new o n = n ∙ ap (fed_tables 0 transfer) o ∙ tables_fed l 0 transfer []

-- no row yet
pub none_from : (codes : Codes) (n : ℕ) (ts : List Table)
    → map (no_rows codes) ts ≡ kept_from codes n ts []
none_from codes n [] = refl
none_from codes n (t ∷ ts) =
    ap (λ (ks : List Kept). kept_table codes t [] ∷ ks) (none_from codes (n + 1) ts)

-- ---- what is found
lists_found : (codes : Codes) (t : Table) (rows : List Row) (lists : List (List ℕ))
    → flat_map (list_findings (map row_line rows)) (kept_lists codes t rows lists)
    ≡ flat_map (λ list. ident_findings codes t list [] rows) lists
lists_found codes t rows [] = refl
lists_found codes t rows (list ∷ lists) =
    ap (λ (fs : List Finding). fs ++ flat_map (list_findings (map row_line rows))
    (kept_lists codes t rows lists)) (idents_found codes t list rows)
    ∙ ap (λ (fs : List Finding). ident_findings codes t list [] rows ++ fs)
    (lists_found codes t rows lists)

kept_found : (codes : Codes) (transfer : List (List Row)) (t : Table) (rows : List Row)
    → kept_findings (ids_by transfer) (kept_table codes t rows) ≡ table_keys codes transfer t rows
kept_found codes transfer t rows =
    let k = kept_table codes t rows in
    ap (λ (fs : List Finding). fs
    ++ (flat_map (list_findings k.lines) k.lists
    ++ flat_map (ref_findings (ids_by transfer)) k.refs)) (tids_found rows)
    ∙ ap (λ (fs : List Finding). tid_findings [] rows
    ++ (fs ++ flat_map (ref_findings (ids_by transfer)) k.refs))
    (lists_found codes t rows t.idents)
    ∙ ap (λ (fs : List Finding). tid_findings [] rows
    ++ (flat_map (λ list. ident_findings codes t list [] rows) t.idents ++ fs))
    (refs_found codes transfer t rows)

pub ids_kept : (codes : Codes) (n : ℕ) (ts : List Table) (rows : List (ℕ × Row))
    → all_ids (kept_from codes n ts rows) ≡ ids_by (by_table_from n (map wanted_of ts) rows)
ids_kept codes n [] rows = refl
ids_kept codes n (t ∷ ts) rows =
    ap (λ (l : List (List (Option (List ℕ)))). map id_key (of_table n rows) ∷ l)
    (ids_kept codes (n + 1) ts rows)

told_from : (codes : Codes) (transfer : List (List Row)) (n : ℕ) (ts : List Table)
    (rows : List (ℕ × Row))
    → flat_map (kept_findings (ids_by transfer)) (kept_from codes n ts rows)
    ≡ tables_keys codes transfer ts (by_table_from n (map wanted_of ts) rows)
told_from codes transfer n [] rows = refl
told_from codes transfer n (t ∷ ts) rows =
    ap (λ (fs : List Finding). fs ++ flat_map (kept_findings (ids_by transfer))
    (kept_from codes (n + 1) ts rows)) (kept_found codes transfer t (of_table n rows))
    ∙ ap (λ (fs : List Finding). table_keys codes transfer t (of_table n rows) ++ fs)
    (told_from codes transfer (n + 1) ts rows)

all_found : (l : Layout) (rows : List (ℕ × Row))
    → all_kept_findings (kept_rows l rows) ≡ fed_keys l rows
all_found l rows =
    ap (λ (ids : List (List (Option (List ℕ)))). flat_map (kept_findings ids) (kept_rows l rows))
    (ids_kept l.codes 0 l.tables rows)
    ∙ told_from l.codes (by_table_from 0 (map wanted_of l.tables) rows) 0 l.tables rows

pub found_in : (l : Layout) (rows : List (ℕ × Row)) (ks : List Kept) (old new : List Finding)
    → ks ≡ kept_rows l rows → new ≡ old ++ all_kept_findings ks → new ≡ old ++ fed_keys l rows
found_in l rows ks old new h n = n ∙ ap (λ (k : List Kept). old ++ all_kept_findings k) h
    ∙ ap (λ (fs : List Finding). old ++ fs) (all_found l rows)

-- ---- how many rows a table has
counted_from : (codes : Codes) (n place : ℕ) (ts : List Table) (rows : List (ℕ × Row))
    → length (slice_index_or (all_lines (kept_from codes n ts rows)) place [])
    ≡ length (slice_index_or (by_table_from n (map wanted_of ts) rows) place [])
counted_from codes n place [] rows = refl
counted_from codes n zero (t ∷ ts) rows = length-map (of_table n rows) row_line
counted_from codes n (suc place) (t ∷ ts) rows = counted_from codes (n + 1) place ts rows

pub rows_counted : (l : Layout) (rows : List (ℕ × Row)) (place : ℕ) (ks : List Kept)
    (lines : List ℕ)
    → ks ≡ kept_rows l rows → lines ≡ slice_index_or (all_lines ks) place []
    → length lines ≡ length (slice_index_or (by_table (form_of l) rows) place [])
rows_counted l rows place ks lines h e =
    ap (λ (ns : List ℕ). length ns) (e
    ∙ ap (λ (k : List Kept). slice_index_or (all_lines k) place []) h)
    ∙ counted_from l.codes 0 place l.tables rows

-- ---- the lines of the rows of a table
lined_from : (codes : Codes) (n place : ℕ) (ts : List Table) (rows : List (ℕ × Row))
    → slice_index_or (all_lines (kept_from codes n ts rows)) place []
    ≡ map row_line (slice_index_or (by_table_from n (map wanted_of ts) rows) place [])
lined_from codes n place [] rows = refl
lined_from codes n zero (t ∷ ts) rows = refl
lined_from codes n (suc place) (t ∷ ts) rows = lined_from codes (n + 1) place ts rows

pub rows_lined : (l : Layout) (rows : List (ℕ × Row)) (place : ℕ) (ks : List Kept) (lines : List ℕ)
    → ks ≡ kept_rows l rows → lines ≡ slice_index_or (all_lines ks) place []
    → lines ≡ map row_line (slice_index_or (by_table (form_of l) rows) place [])
rows_lined l rows place ks lines h e =
    e
    ∙ ap (λ (k : List Kept). slice_index_or (all_lines k) place []) h
    ∙ lined_from l.codes 0 place l.tables rows

pub lines_there : (tables : List TableKeys) (place : ℕ) (t : TableKeys) → place < length tables
    → t ≡ get_or tables place t
    → t.lines.items ≡ slice_index_or (all_lines (all_kept_view tables)) place []
lines_there [] place t lt e = absurd (omega (arith, lt))
lines_there (y ∷ tables) zero t lt e = ap (λ (k : TableKeys). k.lines.items) e
lines_there (y ∷ tables) (suc place) t lt e = lines_there tables place t (omega (arith, lt)) e

-- ---- the references of a table
pub refs_there : (tables : List TableKeys) (place : ℕ) (t : TableKeys) → place < length tables
    → t ≡ get_or tables place t → refs_view t.refs.items ≡ refs_at place (all_kept_view tables)
refs_there [] place t lt e = absurd (omega (arith, lt))
refs_there (y ∷ tables) zero t lt e = ap (λ (k : TableKeys). refs_view k.refs.items) e
refs_there (y ∷ tables) (suc place) t lt e = refs_there tables place t (omega (arith, lt)) e
