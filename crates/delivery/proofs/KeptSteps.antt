-- What is kept of rows, one row more.
use Rattle.std.proofs.Common.{◌≡◌, ℕ, zero, suc, ◌+◌, ◌<◌, ◌≤◌, Bool, true, false}
use Rattle.std.proofs.Common.{List, [], ◌∷◌, ◌++◌, length, map, take, drop, get_or, set, Some}
use Rattle.std.proofs.Common.{Result, Ok}
use Rattle.std.proofs.Common.{Err, OnOk, refl, sym, ap, ◌∙◌, arith, append_assoc, append-nil}
use Rattle.std.specs.Prelude.{slice_get, IfSome, if◌then◌else◌}
use Rattle.std.specs.List.{flat_map}
use Rattle.ili_grammar.specs.Syntax.{Codes}
use Rattle.std.proofs.lemmas.List.{length-map, map_push, map_more}
use Rattle.table_layout.specs.Layouts.{Table, Layout}
use Rattle.table_layout.specs.Values.{table_view, tables_view}
use Rattle.table_layout.specs.declared.layouts.Table.{Table as CodeTable}
use Rattle.itf_reader.specs.RowReadings.{Cell, Reads, cells_of, cells_view, lines_vertices}
use Rattle.itf_reader.specs.RowReadings.{vertices_view}
use Rattle.itf_reader.specs.declared.rows.values.RowValues.{RowValues}
use Rattle.itf_reader.specs.ClosedRows.{by_table_from}
use Rattle.itf_writer.specs.Feeds.{with_row_at}
use Rattle.itf_writer.proofs.RowsCame as came
use Rattle.itf_reader.specs.Findings.{Finding}
use Rattle.itf_reader.specs.Forms.{Row}
use Rattle.itf_reader.specs.Layouts.{form_of, wanted_of}
use Rattle.itf_reader.specs.RowFindings.{is_counted, row_findings}
use Rattle.itf_reader.specs.StrokeFindings.{Seen}
use Rattle.itf_reader.specs.Views.{row_of, rows_of}
use Rattle.itf_reader.specs.declared.transfer.Row.{Row as CodeRow}
use Rattle.area_drawings.specs.KeptRows.{Kept, kept, with_row}
use Rattle.area_drawings.specs.KeptLines.{row_vertices}
use Rattle.area_drawings.specs.KeptPoints.{row_cells}
use Rattle.area_drawings.proofs.RowSteps as steps
use Rattle.delivery.specs.KeptRows.{Found, rows_found, with_found, of_tables, tables_found}
use Rattle.delivery.specs.KeptRows.{all_kept}
use Rattle.delivery.specs.KeptRows.{changed_at, transfer_so_far}
use Rattle.delivery.specs.KeptViews.{AreReadAs}

-- ---- the rows of all tables
pub row_came : (l : Layout) (n : ℕ) (rows : List (ℕ × Row)) (r : Row)
    → transfer_so_far l (rows ++ (n, r) ∷ []) ≡ with_row_at n r (transfer_so_far l rows)
row_came l n rows r = came.row_came (form_of l) n rows r

-- ---- what was read of a row
pub read_as : (codes : Codes) (t : Table) (r : Row) (values : RowValues) → Reads codes t r values
    → AreReadAs codes t r values
read_as codes t r values h = by (is_counted t r) refl
  where
    some_if : {X : Type 0} → Bool → List X → List X
    some_if b xs = if b then xs else []

    by : (b : Bool) → is_counted t r ≡ b → AreReadAs codes t r values
    by true e =
        let a = h.0 e in
        record {
          cells =
              a.cells
              ∙ sym (ap (λ (b : Bool). some_if b (cells_of codes t.columns (drop 1 r.fields))) e);
          vertices =
              a.vertices ∙ sym (ap (λ (b : Bool). some_if b (lines_vertices t.lines r.strokes)) e);
        }
    by false e =
        let a = h.1 e in
        record {
          cells =
              a.cells
              ∙ sym (ap (λ (b : Bool). some_if b (cells_of codes t.columns (drop 1 r.fields))) e);
          vertices =
              a.vertices ∙ sym (ap (λ (b : Bool). some_if b (lines_vertices t.lines r.strokes)) e);
        }

-- ---- what is kept of the rows of a slice, one row more
-- the rows of a slice, one row more
rows_front : (rows : List CodeRow) (i : ℕ) (r : CodeRow) → i < length rows → r ≡ get_or rows i r
    → rows_of (take (suc i) rows) ≡ rows_of (take i rows) ++ row_of r ∷ []
rows_front [] i r lt e = absurd (omega (arith, lt))
rows_front (q ∷ rows) zero r lt e = ap (λ (x : CodeRow). row_of x ∷ []) (sym e)
rows_front (q ∷ rows) (suc i) r lt e =
    ap (λ (rs : List Row). row_of q ∷ rs) (rows_front rows i r (omega (arith, lt)) e)

rows_next : (rows : List CodeRow) (i : ℕ) (r : CodeRow) → i < length rows → r ≡ get_or rows i r
    → rows_of (take (i + 1) rows) ≡ rows_of (take i rows) ++ row_of r ∷ []
rows_next rows i r lt e =
    ap (λ (m : ℕ). rows_of (take m rows)) (let s : i + 1 ≡ suc i = omega arith in s)
    ∙ rows_front rows i r lt e

pub kept_next : (codes : Codes) (t : Table) (rows : List CodeRow) (i : ℕ) (r : CodeRow)
    (values : RowValues) (old new : Kept) → i < length rows → r ≡ get_or rows i r
    → old ≡ kept codes t (rows_of (take i rows)) → AreReadAs codes t (row_of r) values
    → new ≡ with_row r.line (cells_view values.cells.items)
    (vertices_view values.vertices.items) old
    → new ≡ kept codes t (rows_of (take (i + 1) rows))
kept_next codes t rows i r values old new lt e o v n =
    n
    ∙ ap (λ (cs : List Cell). with_row r.line cs (vertices_view values.vertices.items) old) v.cells
    ∙ ap (λ (vs : List Seen). with_row r.line (row_cells codes t (row_of r)) vs old) v.vertices
    ∙ ap (with_row r.line (row_cells codes t (row_of r)) (row_vertices t (row_of r))) o
    ∙ sym (steps.kept_more codes t (rows_of (take i rows)) (row_of r))
    ∙ ap (kept codes t) (sym (rows_next rows i r lt e))

-- ---- what is kept of all tables
-- nothing, where no row came
pub none_kept : {K : Type 0} (f : Table → List Row → K) (n : ℕ) (ts : List Table)
    → map (λ t. f t []) ts ≡ of_tables f ts (by_table_from n (map wanted_of ts) [])
none_kept f n [] = refl
none_kept f n (t ∷ ts) = ap (λ ks. f t [] ∷ ks) (none_kept f (n + 1) ts)

-- the findings of one row more
flat_more : {X Y : Type 0} (f : X → List Y) (xs : List X) (x : X)
    → flat_map f (xs ++ x ∷ []) ≡ flat_map f xs ++ f x
flat_more f [] x = append-nil (f x)
flat_more f (y ∷ xs) x =
    ap (λ l. f y ++ l) (flat_more f xs x) ∙ sym (append_assoc (f y) (flat_map f xs) (f x))

abbrev found_made : Table → List Finding → Found
found_made t fs = record { table = t; found = fs }

pub found_more : (codes : Codes) (ts : List Table) (transfer : List (List Row)) (n : ℕ) (r : Row)
    → changed_at n (with_found codes r) (tables_found codes ts transfer)
    ≡ tables_found codes ts (with_row_at n r transfer)
found_more codes [] transfer n r = refl
found_more codes (u ∷ ts) [] n r = refl
found_more codes (u ∷ ts) (rows ∷ transfer) zero r =
    ap (λ (fs : List Finding). found_made u fs ∷ tables_found codes ts transfer)
    (sym (flat_more (row_findings codes u) rows r))
found_more codes (u ∷ ts) (rows ∷ transfer) (suc n) r =
    ap (λ (fs : List Found). rows_found codes u rows ∷ fs) (found_more codes ts transfer n r)

-- what areas are drawn from, by what was read of one row more
pub kept_more : (codes : Codes) (ts : List Table) (transfer : List (List Row)) (n : ℕ) (r : Row)
    (values : RowValues)
    → IfSome (slice_get (tables_found codes ts transfer) n) (λ f. AreReadAs codes f.table r values)
    → changed_at n (with_row r.line (cells_view values.cells.items)
    (vertices_view values.vertices.items)) (all_kept codes ts transfer)
    ≡ all_kept codes ts (with_row_at n r transfer)
kept_more codes [] transfer n r values h = refl
kept_more codes (u ∷ ts) [] n r values h = refl
kept_more codes (u ∷ ts) (rows ∷ transfer) zero r values h =
    ap (λ (k : Kept). k ∷ all_kept codes ts transfer)
    (ap (λ (cs : List Cell).
    with_row r.line cs (vertices_view values.vertices.items) (kept codes u rows)) h.cells
    ∙ ap (λ (vs : List Seen). with_row r.line (row_cells codes u r) vs (kept codes u rows))
    h.vertices
    ∙ sym (steps.kept_more codes u rows r))
kept_more codes (u ∷ ts) (rows ∷ transfer) (suc n) r values h =
    ap (λ (ks : List Kept). kept codes u rows ∷ ks) (kept_more codes ts transfer n r values h)

-- ---- one value of a list
pub changed_set : {X K : Type 0} (view : X → K) (g : K → K) (xs : List X) (place : ℕ) (d new : X)
    → place < length xs → view new ≡ g (view (get_or xs place d))
    → map view (set xs place new) ≡ changed_at place g (map view xs)
changed_set view g [] place d new lt n = absurd (omega (arith, lt))
changed_set view g (y ∷ xs) zero d new lt n = ap (λ k. k ∷ map view xs) n
changed_set view g (y ∷ xs) (suc place) d new lt n =
    ap (λ ks. view y ∷ ks) (changed_set view g xs place d new (omega (arith, lt)) n)

pub changed_beyond : {X K : Type 0} (view : X → K) (g : K → K) (xs : List X) (place : ℕ)
    → length xs ≤ place → map view xs ≡ changed_at place g (map view xs)
changed_beyond view g [] place le = refl
changed_beyond view g (y ∷ xs) zero le = absurd (omega (arith, le))
changed_beyond view g (y ∷ xs) (suc place) le =
    ap (λ ks. view y ∷ ks) (changed_beyond view g xs place (omega (arith, le)))

pub some_beyond : {X K : Type 0} (view : X → K) (P : K → Type 0) (xs : List X) (place : ℕ)
    → length xs ≤ place → IfSome (slice_get (map view xs) place) P
some_beyond view P [] place le = tt
some_beyond view P (y ∷ xs) zero le = absurd (omega (arith, le))
some_beyond view P (y ∷ xs) (suc place) le = some_beyond view P xs place (omega (arith, le))

pub some_at : {X K : Type 0} (view : X → K) (P : K → Type 0) (xs : List X) (place : ℕ) (d : X)
    → place < length xs → P (view (get_or xs place d)) → IfSome (slice_get (map view xs) place) P
some_at view P [] place d lt h = absurd (omega (arith, lt))
some_at view P (y ∷ xs) zero d lt h = h
some_at view P (y ∷ xs) (suc place) d lt h = some_at view P xs place d (omega (arith, lt)) h

-- ---- a table of the layout
pub table_there : (ts : List CodeTable) (n : ℕ) (t : CodeTable) → n < length ts → t ≡ get_or ts n t
    → slice_get (tables_view ts) n ≡ Some (table_view t)
table_there [] n t lt e = absurd (omega (arith, lt))
table_there (u ∷ ts) zero t lt e = ap (λ (x : CodeTable). Some (table_view x)) (sym e)
table_there (u ∷ ts) (suc n) t lt e = table_there ts n t (omega (arith, lt)) e

pub table_within : (ts : List CodeTable) (n : ℕ) (t : Table) → slice_get (tables_view ts) n ≡ Some t
    → n < length ts
table_within [] n t e = absurd (cc)
table_within (u ∷ ts) zero t e = omega arith
table_within (u ∷ ts) (suc n) t e = let h = table_within ts n t e in omega (arith, h)

-- what is kept of rows of that table
pub kept_of_table : (codes : Codes) (ts : List CodeTable) (n : ℕ) (u : CodeTable) (t : Table)
    → n < length ts → u ≡ get_or ts n u → slice_get (tables_view ts) n ≡ Some t
    → (k : Kept) (rs rows : List Row) → k ≡ kept codes (table_view u) rs → rs ≡ rows
    → k ≡ kept codes t rows
kept_of_table codes ts n u t lt e q k rs rows h r =
    h ∙ ap (kept codes (table_view u)) r
    ∙ ap (λ (x : Table). kept codes x rows)
    (same (table_view u) t (sym (table_there ts n u lt e) ∙ q))
  where
    same : (a b : Table) → Some a ≡ Some b → a ≡ b
    same a b e = cc

pub tables_few : (ts : List CodeTable) (n : ℕ) → length ts ≤ n → length (tables_view ts) ≤ n
tables_few ts n le = let e = length-map ts table_view in omega (arith, le, e)

-- ---- what is said where a call succeeds
pub on_ok : {A E P Q : Type 0} (r : Result A E) → (P → Q) → OnOk r P → OnOk r Q
on_ok (Ok a) f p = f p
on_ok (Err e) f p = tt

-- ---- what is kept of no row, table by table
pub one_table_more : {X Y Z W : Type 0} (g : X → Z) (v : Y → W) (f : W → Z) (old : List X) (x : X)
    (ts : List Y) (i : ℕ) (t : Y)
    → i < length ts → t ≡ get_or ts i t → g x ≡ f (v t) → map g old ≡ map f (map v (take i ts))
    → map g (old ++ x ∷ []) ≡ map f (map v (take (i + 1) ts))
one_table_more g v f old x ts i t lt at here front =
    map_push g old x
    ∙ ((λ k. front k ++ here k ∷ [])
    ∙ (sym (map_push f (map v (take i ts)) (v t))
    ∙ ap (map f) (ap (λ y. map v (take i ts) ++ v y ∷ []) at ∙ sym (map_more v ts i t lt))))
