-- The columns of points that links may name, and what is kept of them, one row more.
use Rattle.std.proofs.Common.{◌≡◌, ℕ, zero, suc, ◌+◌, ◌<◌, Bool, true, false, List, [], ◌∷◌}
use Rattle.std.proofs.Common.{◌++◌, length, map, take, get_or, refl, sym, ap, ◌∙◌, arith}
use Rattle.std.proofs.Common.{append-nil, if◌then◌else◌, Result, OnOk, Ok, Err}
use Rattle.std.specs.Prelude.{slice_get, IfSome}
use Rattle.std.specs.List.{list_any}
use Rattle.ili_grammar.specs.Syntax.{Codes}
use Rattle.resolver.specs.Values.{form_of}
use Rattle.table_layout.specs.Layouts.{Column, Table}
use Rattle.table_layout.specs.Values.{columns_view}
use Rattle.table_layout.specs.declared.layouts.Column.{Column as CodeColumn}
use Rattle.itf_reader.specs.Forms.{Row}
use Rattle.itf_reader.specs.RowReadings.{Cell, cells_view}
use Rattle.itf_reader.specs.declared.rows.values.RowValues.{RowValues}
use Rattle.itf_writer.specs.Feeds.{with_row_at}
use Rattle.area_drawings.specs.KeptPoints.{PointColumn, point_column, points_kept, with_points}
use Rattle.area_drawings.proofs.RowSteps as steps
use Rattle.delivery.specs.KeptRows.{changed_at, tables_found}
use Rattle.delivery.specs.KeptViews.{AreReadAs}
use Rattle.delivery.specs.LinkRows.{all_link_points, is_point, is_reference, link_columns}
use Rattle.delivery.specs.LinkRows.{link_points, point_columns}

-- ---- one column more
abbrev one_if : Bool → ℕ → List ℕ
one_if b n = if b then n ∷ [] else []

abbrev column_of : ℕ → PointColumn
column_of n = record { number = n; points = [] }

asked_suc : (n i : ℕ) (cs : List CodeColumn) (c : CodeColumn) → i < length cs → c ≡ get_or cs i c
    → point_columns n (columns_view (take (suc i) cs))
    ≡ point_columns n (columns_view (take i cs)) ++ one_if (is_point (form_of c.form)) (n + i)
asked_suc n i [] c lt e = absurd (omega (arith, lt))
asked_suc n zero (d ∷ cs) c lt e =
    let z : n ≡ n + 0 = omega arith in
    ap (λ (x : CodeColumn). one_if (is_point (form_of x.form)) n) (sym e)
    ∙ ap (one_if (is_point (form_of c.form))) z
asked_suc n (suc i) (d ∷ cs) c lt e =
    let s : n + 1 + i ≡ n + suc i = omega arith in
    ap (both (is_point (form_of d.form))) (asked_suc (n + 1) i cs c (omega (arith, lt)) e
    ∙ ap (λ (m : ℕ). point_columns (n + 1) (columns_view (take i cs))
    ++ one_if (is_point (form_of c.form)) m) s)
    ∙ apart (is_point (form_of d.form)) (point_columns (n + 1) (columns_view (take i cs)))
    (one_if (is_point (form_of c.form)) (n + suc i))
  where
    both : Bool → List ℕ → List ℕ
    both b ns = if b then n ∷ ns else ns

    apart : (b : Bool) (xs ys : List ℕ)
        → (if b then n ∷ (xs ++ ys) else xs ++ ys) ≡ (if b then n ∷ xs else xs) ++ ys
    apart true xs ys = refl
    apart false xs ys = refl

asked_first : (i : ℕ) (cs : List CodeColumn) (c : CodeColumn) → i < length cs → c ≡ get_or cs i c
    → point_columns 0 (columns_view (take (suc i) cs))
    ≡ point_columns 0 (columns_view (take i cs)) ++ one_if (is_point (form_of c.form)) i
asked_first i cs c lt e =
    let z : 0 + i ≡ i = omega arith in
    asked_suc 0 i cs c lt e
    ∙ ap (λ (m : ℕ). point_columns 0 (columns_view (take i cs))
    ++ one_if (is_point (form_of c.form)) m) z

map_more : {X Y : Type 0} (f : X → Y) (xs : List X) (x : X)
    → map f (xs ++ x ∷ []) ≡ map f xs ++ f x ∷ []
map_more f [] x = refl
map_more f (y ∷ xs) x = ap (λ l. f y ∷ l) (map_more f xs x)

pub asked_step : (codes : Codes) (t : Table) (i : ℕ) (cs : List CodeColumn) (c : CodeColumn)
    (old new : List PointColumn) → i < length cs → c ≡ get_or cs i c
    → old ≡ points_kept codes t (point_columns 0 (columns_view (take i cs))) []
    → is_point (form_of c.form) ≡ true → new ≡ old ++ column_of i ∷ []
    → new ≡ points_kept codes t (point_columns 0 (columns_view (take (i + 1) cs))) []
asked_step codes t i cs c old new lt e o b n =
    let s : suc i ≡ i + 1 = omega arith in
    n
    ∙ ap (λ (ps : List PointColumn). ps ++ column_of i ∷ []) o
    ∙ sym (ap (λ (ns : List ℕ). points_kept codes t ns []) (asked_first i cs c lt e
    ∙ ap (λ (x : Bool). point_columns 0 (columns_view (take i cs)) ++ one_if x i) b)
    ∙ map_more (point_column codes t []) (point_columns 0 (columns_view (take i cs))) i)
    ∙ ap (λ (m : ℕ). points_kept codes t (point_columns 0 (columns_view (take m cs))) []) s

pub passed_step : (codes : Codes) (t : Table) (i : ℕ) (cs : List CodeColumn) (c : CodeColumn)
    (old : List PointColumn) → i < length cs → c ≡ get_or cs i c
    → old ≡ points_kept codes t (point_columns 0 (columns_view (take i cs))) []
    → is_point (form_of c.form) ≡ false
    → old ≡ points_kept codes t (point_columns 0 (columns_view (take (i + 1) cs))) []
passed_step codes t i cs c old lt e o b =
    let s : suc i ≡ i + 1 = omega arith in
    o
    ∙ sym (ap (λ (ns : List ℕ). points_kept codes t ns []) (asked_first i cs c lt e
    ∙ ap (λ (x : Bool). point_columns 0 (columns_view (take i cs)) ++ one_if x i) b
    ∙ append-nil (point_columns 0 (columns_view (take i cs)))))
    ∙ ap (λ (m : ℕ). points_kept codes t (point_columns 0 (columns_view (take m cs))) []) s

-- ---- the columns of a table
abbrev some_reference : List Column → Bool
some_reference cs = list_any (λ (c : Column). is_reference c.form) cs

pub with_reference : (codes : Codes) (t : Table) (ps : List PointColumn)
    → some_reference t.columns ≡ true → ps ≡ points_kept codes t (point_columns 0 t.columns) []
    → ps ≡ link_points codes t []
with_reference codes t ps e p =
    p ∙ sym (ap (λ (b : Bool). points_kept codes t
    (if b then point_columns 0 t.columns else []) []) e)

pub without_reference : (codes : Codes) (t : Table) (ps : List PointColumn)
    → some_reference t.columns ≡ false → ps ≡ [] → ps ≡ link_points codes t []
without_reference codes t ps e p =
    p ∙ sym (ap (λ (b : Bool). points_kept codes t
    (if b then point_columns 0 t.columns else []) []) e)

-- ---- one row more
pub links_more : (codes : Codes) (ts : List Table) (transfer : List (List Row)) (n : ℕ) (r : Row)
    (values : RowValues)
    → IfSome (slice_get (tables_found codes ts transfer) n) (λ f. AreReadAs codes f.table r values)
    → changed_at n (with_points r.line (cells_view values.cells.items))
    (all_link_points codes ts transfer) ≡ all_link_points codes ts (with_row_at n r transfer)
links_more codes [] transfer n r values h = refl
links_more codes (u ∷ ts) [] n r values h = refl
links_more codes (u ∷ ts) (rows ∷ transfer) zero r values h =
    ap (λ (k : List PointColumn). k ∷ all_link_points codes ts transfer)
    (ap (λ (cs : List Cell). with_points r.line cs (link_points codes u rows)) h.cells
    ∙ sym (steps.points_more codes u (link_columns u) rows r))
links_more codes (u ∷ ts) (rows ∷ transfer) (suc n) r values h =
    ap (λ (ks : List (List PointColumn)). link_points codes u rows ∷ ks)
    (links_more codes ts transfer n r values h)

-- ---- what is said where a call succeeds
pub both_ok : {A E : Type 0} (P Q : Type 0) (r : Result A E) → OnOk r P → OnOk r Q → OnOk r (P × Q)
both_ok P Q (Ok a) p q = (p, q)
both_ok P Q (Err e) p q = tt
