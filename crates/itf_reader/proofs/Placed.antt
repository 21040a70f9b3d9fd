-- Rows of tables that came, put into tables without rows one table after another.
use Rattle.std.proofs.Common.{◌≡◌, ◌<◌, ◌≤◌, ◌+◌, ℕ, suc, zero, true, false, List, [], ◌∷◌, ◌++◌}
use Rattle.std.proofs.Common.{length, map, set, get_or, refl, ap, sym, ◌∙◌, arith, if◌then◌else◌}
use Rattle.std.proofs.Common.{nat_eq}
use Rattle.std.specs.Prelude.{replicate}
use Rattle.std.proofs.lemmas.List.{append_assoc, append-nil, map-append, map-set, length-map}
use Rattle.table_layout.specs.declared.layouts.Layout.{Layout}
use Rattle.table_layout.specs.Values.{layout_view, table_view, tables_view}
use Rattle.itf_reader.specs.declared.transfer_feed.read_tables.ReadTable.{ReadTable}
use Rattle.itf_reader.specs.declared.transfer.TableRows.{TableRows as CodeTableRows}
use Rattle.itf_reader.specs.Views.{table_rows_of, tables_rows_of}
use Rattle.itf_reader.specs.Forms.{Table, Row, TableRows}
use Rattle.itf_reader.specs.ClosedRows.{of_table, by_table_from, by_table, pairs, all_pairs}
use Rattle.itf_reader.specs.ReadRows.{read_table_view, read_tables_view}
use Rattle.itf_reader.specs.Layouts.{form_of, wanted_of}
use Rattle.itf_reader.specs.Placing.{with_rows}
use Rattle.itf_reader.proofs.ByTable.{own_pairs, other_pairs}

pub all_pairs-append : (a b : List TableRows) → all_pairs (a ++ b) ≡ all_pairs a ++ all_pairs b
all_pairs-append [] b = refl
all_pairs-append (c ∷ a) b = ap (λ (l : List (ℕ × Row)). pairs c ++ l) (all_pairs-append a b)
    ∙ sym (append_assoc (pairs c) (all_pairs a) (all_pairs b))

of_table-append : (n : ℕ) (a b : List (ℕ × Row))
    → of_table n (a ++ b) ≡ of_table n a ++ of_table n b
of_table-append n [] b = refl
of_table-append n (p ∷ a) b =
    elim (nat_eq p.0 n) as (λ c. (if c then p.1 ∷ of_table n (a ++ b) else of_table n (a ++ b))
    ≡ (if c then p.1 ∷ of_table n a else of_table n a) ++ of_table n b) [
      | true ↦ ap (λ (l : List Row). p.1 ∷ l) (of_table-append n a b)
      | false ↦ of_table-append n a b
    ]

pub with_none : (n : ℕ) (out : List (List Row)) → with_rows n [] out ≡ out
with_none n [] = refl
with_none n (own ∷ out) = ap (λ (x : List (List Row)). own ∷ x) (with_none (n + 1) out)

pub with_append : (n : ℕ) (a b : List (ℕ × Row)) (out : List (List Row))
    → with_rows n (a ++ b) out ≡ with_rows n a (with_rows n b out)
with_append n a b [] = refl
with_append n a b (own ∷ out) =
    ap (λ (x : List Row). x ∷ with_rows (n + 1) (a ++ b) out)
    (ap (λ (x : List Row). x ++ own) (of_table-append n a b)
    ∙ append_assoc (of_table n a) (of_table n b) own)
    ∙ ap (λ (x : List (List Row)). (of_table n a ++ (of_table n b ++ own)) ∷ x)
    (with_append (n + 1) a b out)

-- ---- one table
none_of : (n : ℕ) (c : TableRows) → (c.table ≡ n → ⊥) → of_table n (pairs c) ≡ []
none_of n c h = ap (of_table n) (sym (append-nil (pairs c))) ∙ other_pairs n c.table c.rows [] h

all_of : (n : ℕ) (c : TableRows) → c.table ≡ n → of_table n (pairs c) ≡ c.rows
all_of n c h = ap (of_table n) (sym (append-nil (pairs c)))
    ∙ (own_pairs n c.table c.rows [] h ∙ append-nil c.rows)

pub with_past : (n : ℕ) (c : TableRows) (out : List (List Row)) → c.table < n
    → with_rows n (pairs c) out ≡ out
with_past n c [] h = refl
with_past n c (own ∷ out) h =
    ap (λ (x : List Row). (x ++ own) ∷ with_rows (n + 1) (pairs c) out)
    (none_of n c (λ e. absurd (omega (arith, e, h))))
    ∙ ap (λ (x : List (List Row)). own ∷ x) (with_past (n + 1) c out (omega (arith, h)))

with_at : (n k : ℕ) (c : TableRows) (out : List (List Row)) → c.table ≡ n + k
    → with_rows n (pairs c) out ≡ set out k (c.rows ++ get_or out k [])
with_at n k c [] h = refl
with_at n zero c (own ∷ out) h =
    ap (λ (x : List Row). (x ++ own) ∷ with_rows (n + 1) (pairs c) out)
    (all_of n c (omega (arith, h)))
    ∙ ap (λ (x : List (List Row)). (c.rows ++ own) ∷ x) (with_past (n + 1) c out (omega (arith, h)))
with_at n (suc k) c (own ∷ out) h =
    ap (λ (x : List Row). (x ++ own) ∷ with_rows (n + 1) (pairs c) out)
    (none_of n c (λ e. absurd (omega (arith, e, h))))
    ∙ ap (λ (x : List (List Row)). own ∷ x) (with_at (n + 1) k c out (omega (arith, h)))

pub with_one : (c : TableRows) (out : List (List Row))
    → with_rows 0 (pairs c) out ≡ set out c.table (c.rows ++ get_or out c.table [])
with_one c out = with_at 0 c.table c out (omega arith)

pub with_last : (earlier : List TableRows) (c : TableRows) (out : List (List Row))
    → with_rows 0 (all_pairs (earlier ++ (c ∷ []))) out
    ≡ with_rows 0 (all_pairs earlier) (with_rows 0 (pairs c) out)
with_last earlier c out =
    ap (λ (l : List (ℕ × Row)). with_rows 0 l out) (all_pairs-append earlier (c ∷ [])
    ∙ ap (λ (l : List (ℕ × Row)). all_pairs earlier ++ l) (append-nil (pairs c)))
    ∙ with_append 0 (all_pairs earlier) (pairs c) out

-- over tables without rows nothing else stands
pub over_none : (n : ℕ) (tables : List Table) (rows : List (ℕ × Row))
    → with_rows n rows (replicate (length tables) []) ≡ by_table_from n tables rows
over_none n [] rows = refl
over_none n (t ∷ tables) rows =
    ap (λ (x : List Row). x ∷ with_rows (n + 1) rows (replicate (length tables) []))
    (append-nil (of_table n rows))
    ∙ ap (λ (x : List (List Row)). of_table n rows ∷ x) (over_none (n + 1) tables rows)

-- ---- loops
pub tables_ended : (left : List ReadTable) (out now : List (List Row)) → length left ≡ 0
    → with_rows 0 (all_pairs (read_tables_view left)) out ≡ now → out ≡ now
tables_ended [] out now h e = sym (with_none 0 out) ∙ e
tables_ended (t ∷ left) out now h e = absurd (omega (arith, h))

pub table_taken : (all left : List ReadTable) (t : ReadTable) (out next now : List (List Row))
    → all ≡ left ++ (t ∷ []) → next ≡ with_rows 0 (pairs (read_table_view t)) out
    → with_rows 0 (all_pairs (read_tables_view all)) out ≡ now
    → with_rows 0 (all_pairs (read_tables_view left)) next ≡ now
table_taken all left t out next now e h k =
    ap (with_rows 0 (all_pairs (read_tables_view left))) h
    ∙ (sym (with_last (read_tables_view left) (read_table_view t) out)
    ∙ (ap (λ (x : List TableRows). with_rows 0 (all_pairs x) out)
    (sym (ap read_tables_view e ∙ map-append read_table_view left (t ∷ []))) ∙ k))

-- all of them, over as many tables without rows as the layout has
pub all_placed : (l : Layout) (front back : List (ℕ × Row)) (none out : List (List Row)) (n : ℕ)
    → n ≡ length l.tables.items → none ≡ replicate n []
    → out ≡ with_rows 0 front (with_rows 0 back none)
    → out ≡ by_table (form_of (layout_view l)) (front ++ back)
all_placed l front back none out n e h k =
    let tables = map wanted_of (tables_view l.tables.items) in
    let m : length tables ≡ length l.tables.items = length-map
    (tables_view l.tables.items) wanted_of ∙ length-map l.tables.items table_view in
    k ∙ (sym (with_append 0 front back none)
    ∙ (ap (with_rows 0 (front ++ back)) (h ∙ ap (λ (i : ℕ). replicate i []) (e ∙ sym m))
    ∙ over_none 0 tables (front ++ back)))

-- a table that ends goes to the others, and one without rows begins
pub begun : (earlier all : List TableRows) (last next : TableRows) → all ≡ earlier ++ (last ∷ [])
    → next.rows ≡ [] → all_pairs all ++ pairs next ≡ all_pairs earlier ++ pairs last
begun earlier all last next e h =
    ap (λ (l : List TableRows). all_pairs l ++ pairs next) e
    ∙ (ap (λ (rows : List Row). all_pairs (earlier ++ (last ∷ []))
    ++ map (λ row. (next.table, row)) rows) h
    ∙ (append-nil (all_pairs (earlier ++ (last ∷ [])))
    ∙ (all_pairs-append earlier (last ∷ [])
    ∙ ap (λ (l : List (ℕ × Row)). all_pairs earlier ++ l) (append-nil (pairs last)))))

-- ---- tables of the code
got : (ts : List CodeTableRows) (k : ℕ) (t : CodeTableRows) → k < length ts
    → get_or (tables_rows_of ts) k [] ≡ table_rows_of (get_or ts k t)
got [] k t h = absurd (omega (arith, h))
got (u ∷ ts) zero t h = refl
got (u ∷ ts) (suc k) t h = got ts k t (omega (arith, h))

pub put_at : (ts : List CodeTableRows) (c : TableRows) (t new : CodeTableRows) → c.table < length ts
    → table_rows_of new ≡ c.rows ++ table_rows_of (get_or ts c.table t)
    → tables_rows_of (set ts c.table new) ≡ with_rows 0 (pairs c) (tables_rows_of ts)
put_at ts c t new h k =
    map-set table_rows_of ts c.table new
    ∙ (ap (set (tables_rows_of ts) c.table) (k
    ∙ ap (λ (rows : List Row). c.rows ++ rows) (sym (got ts c.table t h)))
    ∙ sym (with_one c (tables_rows_of ts)))

beyond : (n : ℕ) (c : TableRows) (out : List (List Row)) → n + length out ≤ c.table
    → with_rows n (pairs c) out ≡ out
beyond n c [] h = refl
beyond n c (own ∷ out) h =
    ap (λ (x : List Row). (x ++ own) ∷ with_rows (n + 1) (pairs c) out)
    (none_of n c (λ e. absurd (omega (arith, e, h))))
    ∙ ap (λ (x : List (List Row)). own ∷ x) (beyond (n + 1) c out (omega (arith, h)))

pub put_beyond : (ts : List CodeTableRows) (c : TableRows) → length ts ≤ c.table
    → with_rows 0 (pairs c) (tables_rows_of ts) ≡ tables_rows_of ts
put_beyond ts c h =
    let l = length-map ts table_rows_of in beyond 0 c (tables_rows_of ts) (omega (arith, l, h))
