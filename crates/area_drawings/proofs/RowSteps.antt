-- What is kept of rows, one row more.
use Rattle.std.proofs.Common.{◌≡◌, ℕ, zero, suc, ◌+◌, ◌<◌, Bool, true, false, nat_eq, List, [], ◌∷◌}
use Rattle.std.proofs.Common.{◌++◌, length, map, take, drop, get_or, set, Some, None, Option, refl}
use Rattle.std.proofs.Common.{sym, ap, subst, ◌∙◌, arith, append_assoc, append-nil}
use Rattle.std.proofs.Common.{if◌then◌else◌}
use Rattle.std.specs.Prelude.{slice_get}
use Rattle.std.specs.List.{flat_map}
use Rattle.std.specs.Option.{option_map}
use Rattle.std.proofs.lemmas.Bool.{eqb-true, eqb-false}
use Rattle.ili_grammar.specs.Syntax.{Codes}
use Rattle.resolver.specs.Values.{form_of}
use Rattle.table_layout.specs.Layouts.{Column, Table}
use Rattle.table_layout.specs.Values.{columns_view}
use Rattle.table_layout.specs.declared.layouts.Column.{Column as CodeColumn}
use Rattle.itf_reader.specs.Forms.{Row}
use Rattle.itf_reader.specs.RowReadings.{Cell, cells_view}
use Rattle.itf_reader.specs.StrokeFindings.{Seen}
use Rattle.itf_reader.specs.declared.rows.values.Cell.{Cell as CodeCell}
use Rattle.plane.specs.declared.kinds.Placed.{Placed}
use Rattle.area_drawings.specs.declared.kept_points.PointColumn.{PointColumn as CodePoints}
use Rattle.area_drawings.specs.KeptLines.{row_vertices, vertex_count, Lines, lines_kept, with_line}
use Rattle.area_drawings.specs.KeptPoints.{row_cells, cell_points, row_points, PointColumn}
use Rattle.area_drawings.specs.KeptPoints.{point_column, points_kept, with_point, with_points}
use Rattle.area_drawings.specs.KeptPoints.{points_in_column}
use Rattle.area_drawings.specs.KeptRows.{is_area_point, are_lines, area_columns, Kept, kept}
use Rattle.area_drawings.specs.KeptRows.{with_row}
use Rattle.area_drawings.specs.KeptViews as views

-- ---- one row more
flat_more : {X Y : Type 0} (f : X → List Y) (xs : List X) (x : X)
    → flat_map f (xs ++ x ∷ []) ≡ flat_map f xs ++ f x
flat_more f [] x = append-nil (f x)
flat_more f (y ∷ xs) x =
    ap (λ l. f y ++ l) (flat_more f xs x) ∙ sym (append_assoc (f y) (flat_map f xs) (f x))

map_more : {X Y : Type 0} (f : X → Y) (xs : List X) (x : X)
    → map f (xs ++ x ∷ []) ≡ map f xs ++ f x ∷ []
map_more f [] x = refl
map_more f (y ∷ xs) x = ap (λ l. f y ∷ l) (map_more f xs x)

abbrev lines_made : List Seen → List ℕ → Lines
lines_made vs ns = record { vertices = vs; counts = ns }

pub lines_more : (t : Table) (rows : List Row) (r : Row)
    → lines_kept t (rows ++ r ∷ []) ≡ with_line (row_vertices t r) (lines_kept t rows)
lines_more t rows r =
    ap (λ (vs : List Seen). lines_made vs (map (vertex_count t) (rows ++ r ∷ [])))
    (flat_more (row_vertices t) rows r)
    ∙ ap (lines_made (flat_map (row_vertices t) rows ++ row_vertices t r))
    (map_more (vertex_count t) rows r)

abbrev column_of : ℕ → List Placed → PointColumn
column_of n ps = record { number = n; points = ps }

pub points_more : (codes : Codes) (t : Table) (numbers : List ℕ) (rows : List Row) (r : Row)
    → points_kept codes t numbers (rows ++ r ∷ [])
    ≡ with_points r.line (row_cells codes t r) (points_kept codes t numbers rows)
points_more codes t [] rows r = refl
points_more codes t (n ∷ ns) rows r =
    ap (λ (ps : List Placed). column_of n ps ∷ points_kept codes t ns (rows ++ r ∷ []))
    (flat_more (row_points codes t n) rows r)
    ∙ ap (λ (cs : List PointColumn).
    with_point r.line (row_cells codes t r) (point_column codes t rows n) ∷ cs)
    (points_more codes t ns rows r)

lines_if : (b : Bool) (old new : Lines) (w : Lines → Lines) → new ≡ w old
    → (if b then Some new else None) ≡ option_map w (if b then Some old else None)
lines_if true old new w e = ap (λ (l : Lines). Some l) e
lines_if false old new w e = refl

abbrev kept_made : Option Lines → List PointColumn → Kept
kept_made ls ps = record { lines = ls; points = ps }

pub kept_more : (codes : Codes) (t : Table) (rows : List Row) (r : Row)
    → kept codes t (rows ++ r ∷ [])
    ≡ with_row r.line (row_cells codes t r) (row_vertices t r) (kept codes t rows)
kept_more codes t rows r =
    let ns = area_columns 0 t.columns in
    ap (λ (ls : Option Lines). kept_made ls (points_kept codes t ns (rows ++ r ∷ [])))
    (lines_if (are_lines t.role) (lines_kept t rows) (lines_kept t (rows ++ r ∷ []))
    (with_line (row_vertices t r)) (lines_more t rows r))
    ∙ ap (kept_made (option_map (with_line (row_vertices t r)) (kept codes t rows).lines))
    (points_more codes t ns rows r)

-- ---- the columns of a row
-- one without a point there
pub no_point : (line : ℕ) (cells : List Cell) (c : PointColumn)
    → [] ≡ cell_points line (slice_get cells c.number) → c ≡ with_point line cells c
no_point line cells c e =
    ap (column_of c.number)
    (sym (append-nil c.points) ∙ ap (λ (ps : List Placed). c.points ++ ps) e)

-- those of a row of which nothing was read
no_cells : (line : ℕ) (cs : List PointColumn) → cs ≡ with_points line [] cs
no_cells line [] = refl
no_cells line (c ∷ cs) =
    ap (λ (d : PointColumn). d ∷ cs) (ap (column_of c.number) (sym (append-nil c.points)))
    ∙ ap (λ (ds : List PointColumn). with_point line [] c ∷ ds) (no_cells line cs)

pub none_read : (line : ℕ) (cells : List CodeCell) (cs : List PointColumn) → length cells ≡ 0
    → cs ≡ with_points line (cells_view cells) cs
none_read line [] cs e = no_cells line cs
none_read line (c ∷ cells) cs e = absurd (omega (arith, e))

-- one column more
abbrev Partly : (PointColumn → PointColumn) → ℕ → List CodePoints → List PointColumn
Partly g i old = map g (take i (views.columns_view old)) ++ drop i (views.columns_view old)

no_cons : (a : PointColumn) (ks : List PointColumn) → a ∷ ks ≡ [] → ⊥
no_cons a ks e = cc

first_same : (a b : PointColumn) (ks ls : List PointColumn) → a ∷ ks ≡ b ∷ ls → a ≡ b
first_same a b ks ls e = cc

rest_same : (a b : PointColumn) (ks ls : List PointColumn) → a ∷ ks ≡ b ∷ ls → ks ≡ ls
rest_same a b ks ls e = cc

points_suc : (g : PointColumn → PointColumn) (i : ℕ) (now old : List CodePoints)
    (d new : CodePoints) → i < length now
    → views.column_view new ≡ g (views.column_view (get_or now i d))
    → views.columns_view now ≡ Partly g i old
    → views.columns_view (set now i new) ≡ Partly g (suc i) old
points_suc g i [] old d new lt n inv = absurd (omega (arith, lt))
points_suc g zero (y ∷ now) [] d new lt n inv = absurd (no_cons _ _ inv)
points_suc g zero (y ∷ now) (o ∷ old) d new lt n inv =
    ap (λ (l : PointColumn). l ∷ views.columns_view now) n
    ∙ ap (λ (l : List PointColumn). g (views.column_view y) ∷ l) (rest_same _ _ _ _ inv)
    ∙ ap (λ (l : PointColumn). g l ∷ views.columns_view old) (first_same _ _ _ _ inv)
points_suc g (suc i) (y ∷ now) [] d new lt n inv = absurd (no_cons _ _ inv)
points_suc g (suc i) (y ∷ now) (o ∷ old) d new lt n inv =
    ap (λ (l : List PointColumn). views.column_view y ∷ l)
    (points_suc g i now old d new (omega (arith, lt)) n (rest_same _ _ _ _ inv))
    ∙ ap (λ (l : PointColumn). l ∷ Partly g (suc i) old) (first_same _ _ _ _ inv)

pub points_step : (g : PointColumn → PointColumn) (i : ℕ) (now old : List CodePoints)
    (d new : CodePoints) → i < length now
    → views.column_view new ≡ g (views.column_view (get_or now i d))
    → views.columns_view now ≡ Partly g i old
    → views.columns_view (set now i new) ≡ Partly g (i + 1) old
points_step g i now old d new lt n inv =
    let s : suc i ≡ i + 1 = omega arith in
    points_suc g i now old d new lt n inv ∙ ap (λ (m : ℕ). Partly g m old) s

set_length : {X : Type 0} (xs : List X) (i : ℕ) (x : X) → length (set xs i x) ≡ length xs
set_length [] i x = refl
set_length (y ∷ xs) zero x = refl
set_length (y ∷ xs) (suc i) x = ap suc (set_length xs i x)

pub still_counted : {X : Type 0} (xs : List X) (i n : ℕ) (x : X) → length xs ≡ n
    → length (set xs i x) ≡ n
still_counted xs i n x e = set_length xs i x ∙ e

-- ---- the columns that are asked for
-- one column of the table more
abbrev one_if : Bool → ℕ → List ℕ
one_if b n = if b then n ∷ [] else []

asked_suc : (n i : ℕ) (cs : List CodeColumn) (c : CodeColumn) → i < length cs → c ≡ get_or cs i c
    → area_columns n (columns_view (take (suc i) cs))
    ≡ area_columns n (columns_view (take i cs)) ++ one_if (is_area_point (form_of c.form)) (n + i)
asked_suc n i [] c lt e = absurd (omega (arith, lt))
asked_suc n zero (d ∷ cs) c lt e =
    let z : n ≡ n + 0 = omega arith in
    ap (λ (x : CodeColumn). one_if (is_area_point (form_of x.form)) n) (sym e)
    ∙ ap (one_if (is_area_point (form_of c.form))) z
asked_suc n (suc i) (d ∷ cs) c lt e =
    let s : n + 1 + i ≡ n + suc i = omega arith in
    ap (both (is_area_point (form_of d.form))) (asked_suc (n + 1) i cs c (omega (arith, lt)) e
    ∙ ap (λ (m : ℕ). area_columns (n + 1) (columns_view (take i cs))
    ++ one_if (is_area_point (form_of c.form)) m) s)
    ∙ apart (is_area_point (form_of d.form)) (area_columns (n + 1) (columns_view (take i cs)))
    (one_if (is_area_point (form_of c.form)) (n + suc i))
  where
    both : Bool → List ℕ → List ℕ
    both b ns = if b then n ∷ ns else ns

    apart : (b : Bool) (xs ys : List ℕ)
        → (if b then n ∷ (xs ++ ys) else xs ++ ys) ≡ (if b then n ∷ xs else xs) ++ ys
    apart true xs ys = refl
    apart false xs ys = refl

asked_first : (i : ℕ) (cs : List CodeColumn) (c : CodeColumn) → i < length cs → c ≡ get_or cs i c
    → area_columns 0 (columns_view (take (suc i) cs))
    ≡ area_columns 0 (columns_view (take i cs)) ++ one_if (is_area_point (form_of c.form)) i
asked_first i cs c lt e =
    let z : 0 + i ≡ i = omega arith in
    asked_suc 0 i cs c lt e
    ∙ ap (λ (m : ℕ). area_columns 0 (columns_view (take i cs))
    ++ one_if (is_area_point (form_of c.form)) m) z

pub asked_step : (codes : Codes) (t : Table) (i : ℕ) (cs : List CodeColumn) (c : CodeColumn)
    (old new : List PointColumn) → i < length cs → c ≡ get_or cs i c
    → old ≡ points_kept codes t (area_columns 0 (columns_view (take i cs))) []
    → is_area_point (form_of c.form) ≡ true → new ≡ old ++ column_of i [] ∷ []
    → new ≡ points_kept codes t (area_columns 0 (columns_view (take (i + 1) cs))) []
asked_step codes t i cs c old new lt e o b n =
    let s : suc i ≡ i + 1 = omega arith in
    n
    ∙ ap (λ (ps : List PointColumn). ps ++ column_of i [] ∷ []) o
    ∙ sym (ap (λ (ns : List ℕ). points_kept codes t ns []) (asked_first i cs c lt e
    ∙ ap (λ (x : Bool). area_columns 0 (columns_view (take i cs)) ++ one_if x i) b)
    ∙ map_more (point_column codes t []) (area_columns 0 (columns_view (take i cs))) i)
    ∙ ap (λ (m : ℕ). points_kept codes t (area_columns 0 (columns_view (take m cs))) []) s

pub passed_step : (codes : Codes) (t : Table) (i : ℕ) (cs : List CodeColumn) (c : CodeColumn)
    (old : List PointColumn) → i < length cs → c ≡ get_or cs i c
    → old ≡ points_kept codes t (area_columns 0 (columns_view (take i cs))) []
    → is_area_point (form_of c.form) ≡ false
    → old ≡ points_kept codes t (area_columns 0 (columns_view (take (i + 1) cs))) []
passed_step codes t i cs c old lt e o b =
    let s : suc i ≡ i + 1 = omega arith in
    o
    ∙ sym (ap (λ (ns : List ℕ). points_kept codes t ns []) (asked_first i cs c lt e
    ∙ ap (λ (x : Bool). area_columns 0 (columns_view (take i cs)) ++ one_if x i) b
    ∙ append-nil (area_columns 0 (columns_view (take i cs)))))
    ∙ ap (λ (m : ℕ). points_kept codes t (area_columns 0 (columns_view (take m cs))) []) s

-- the points in a column that is asked for are those of the rows
module _ (codes : Codes) (t : Table) (rows : List Row) where
  abbrev found : ℕ → List ℕ → List Placed
  found k numbers = points_in_column k (points_kept codes t numbers rows)

  abbrev own : ℕ → List Placed
  own k = flat_map (row_points codes t k) rows

  not_here : (n k : ℕ) (numbers : List ℕ) → (n ≡ k → ⊥) → found k (n ∷ numbers) ≡ found k numbers
  not_here n k numbers h = by (nat_eq n k) refl
    where
      by : (b : Bool) → nat_eq n k ≡ b → (if b then own n else found k numbers) ≡ found k numbers
      by true e = absurd (h (eqb-true n k e))
      by false e = refl

  here : (n k : ℕ) (numbers : List ℕ) → n ≡ k → found k (n ∷ numbers) ≡ own k
  here n k numbers h = by (nat_eq n k) refl
    where
      by : (b : Bool) → nat_eq n k ≡ b → (if b then own n else found k numbers) ≡ own k
      by true e = ap own h
      by false e = absurd (eqb-false n k e h)

  asked_at : (n i : ℕ) (cs : List Column) (c : Column) → slice_get cs i ≡ Some c
      → is_area_point c.form ≡ true → found (n + i) (area_columns n cs) ≡ own (n + i)
  asked_at n i [] c e a = absurd (cc)
  asked_at n zero (b ∷ cs) c e a =
      let z : n ≡ n + 0 = omega arith in
      ap (λ (x : Bool). found (n + 0) (if x then n ∷ area_columns (n + 1) cs
      else area_columns (n + 1) cs)) (ap (λ (x : Column). is_area_point x.form) (same b c e) ∙ a)
      ∙ here n (n + 0) (area_columns (n + 1) cs) z
    where
      same : (b c : Column) → Some b ≡ Some c → b ≡ c
      same b c e = cc
  asked_at n (suc i) (b ∷ cs) c e a =
      passed (is_area_point b.form)
      (subst (λ (m : ℕ). found m (area_columns (n + 1) cs) ≡ own m)
      (let s : n + 1 + i ≡ n + suc i = omega arith in s) (asked_at (n + 1) i cs c e a))
    where
      passed : (x : Bool) → found (n + suc i) (area_columns (n + 1) cs) ≡ own (n + suc i)
          → found (n + suc i) (if x then n ∷ area_columns (n + 1) cs
          else area_columns (n + 1) cs) ≡ own (n + suc i)
      passed true h =
          not_here n (n + suc i) (area_columns (n + 1) cs) (λ q. absurd (omega (arith, q))) ∙ h
      passed false h = h

  pub column_asked : (k : ℕ) (c : Column) → slice_get t.columns k ≡ Some c
      → is_area_point c.form ≡ true → points_in_column k (kept codes t rows).points ≡ own k
  column_asked k c e a =
      subst (λ (m : ℕ). found m (area_columns 0 t.columns) ≡ own m)
      (let z : 0 + k ≡ k = omega arith in z) (asked_at 0 k t.columns c e a)
