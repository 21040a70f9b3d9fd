-- Where rows have no findings, what is kept of them has all that their areas are drawn from.
use Rattle.std.proofs.Common.{◌≡◌, ℕ, zero, suc, ◌+◌, ◌≤◌, Bool, true, false, ◌&&◌, ◌||◌, nat_lt}
use Rattle.std.proofs.Common.{List, [], ◌∷◌, ◌++◌, length, take, drop, map, Option, Some, None}
use Rattle.std.proofs.Common.{Result, Ok, Err, refl, sym, ap, ◌∙◌, subst, arith, append-nil}
use Rattle.std.specs.Prelude.{slice_get, slice_index_or, if◌then◌else◌, is_none}
use Rattle.std.specs.List.{All, AllZip, flat_map, list_all, list_any}
use Rattle.std.proofs.lemmas.Bool.Decides.{nat_tests}
use Rattle.std.proofs.lemmas.List.{length-append, length-map}
use Rattle.std.proofs.lemmas.List.Elements.{All-nil, All-cons, All-head, All-tail}
use Rattle.ili_grammar.specs.Syntax.{Codes}
use Rattle.resolver.specs.Resolved.{Form, AreaPoint, LineForm, Window}
use Rattle.table_layout.specs.Layouts.{Role, Column, Table, AreaOf, Layout}
use Rattle.table_layout.specs.Valid.{IsValid, IsArea, IsAreaTable}
use Rattle.field_values.specs.declared.value.ValueFault.{ValueFault}
use Rattle.field_values.specs.declared.value.ValueFault.TheVariants.{Undefined as UndefinedFault}
use Rattle.field_values.specs.Fields.{is_undefined, field_fault, value_fault, width}
use Rattle.field_values.specs.Readings.{Value, Numbers, Bytes, reading, value_of, column_reading}
use Rattle.itf_reader.specs.declared.findings.Code.{Code}
use Rattle.itf_reader.specs.declared.findings.Code.TheVariants.{Count}
use Rattle.itf_reader.specs.Findings.{Finding, is_before}
use Rattle.itf_reader.specs.Forms.{Vertex, Row}
use Rattle.itf_reader.specs.Layouts.{wanted_of}
use Rattle.itf_reader.specs.RowFindings.{widths, is_counted, row_findings, line_findings}
use Rattle.itf_reader.specs.RowFindings.{lines_findings, columns_findings}
use Rattle.itf_reader.specs.RowForms.{EachRow, IsCounted}
use Rattle.itf_reader.specs.RowReadings.{Undefined, cell_by, cell_of, cells_of, sound_vertices}
use Rattle.itf_reader.specs.RowReadings.{lines_vertices}
use Rattle.itf_reader.specs.StrokeFindings.{Seen, seen, finding_at, vertex_code, vertex_finding}
use Rattle.itf_reader.specs.StrokeFindings.{is_clean, are_clean, all_seen, short_finding}
use Rattle.itf_reader.specs.StrokeFindings.{arc_findings, stroke_findings}
use Rattle.domain_rules.specs.CleanPlaces as clean
use Rattle.domain_rules.specs.CleanPlaces.{AreSoundVertices, HasPlaces, RowsHavePlaces, HavePlaces}
use Rattle.domain_rules.specs.ValueFindings.{table_findings, tables_findings, value_findings}
use Rattle.domain_rules.proofs.Places.{empty_both, unsorted}
use Rattle.ident_refs.specs.KeyFindings.{key_findings}
use Rattle.plane.specs.Rule.Plans.{Plan}
use Rattle.plane.specs.Rule.Windows.{IsInside}
use Rattle.plane.specs.declared.kinds.Curve.{Curve}
use Rattle.plane.specs.declared.kinds.Placed.{Placed}
use Rattle.plane.specs.declared.window.Window2.{Window2}
use Rattle.area_drawings.specs.AreaLimits.{area_limit, vertices_in, is_too_large, has_too_large}
use Rattle.area_drawings.specs.AreaLimits as limits
use Rattle.area_drawings.specs.Drawable.{IsIn}
use Rattle.area_drawings.specs.Drawings.{place_read, placed, first_word, words_at, points_at}
use Rattle.area_drawings.specs.Drawings.{points_by, points_in, lines_in, columns_in, curves_by}
use Rattle.area_drawings.specs.Drawings.{row_curves, line_curves, HasWindow, IsWindowOf, IsDrawing}
use Rattle.delivery.specs.Judging.{IsClean}
use Rattle.area_drawings.specs.KeptDrawings.{seen_curves, cut, total, kept_curves, AreIn}
use Rattle.area_drawings.specs.KeptDrawings.{ArePointsIn, vertices_there, is_kept_large}
use Rattle.area_drawings.specs.KeptDrawings.{has_kept_large, AreDrawable, AreDrawn, CanBeDrawn}
use Rattle.area_drawings.specs.KeptDrawings.{column_points, curves_there, IsDrawnFrom}
use Rattle.area_drawings.specs.KeptLines.{row_vertices, vertex_count, Lines, lines_kept}
use Rattle.area_drawings.specs.KeptPoints.{cell_points, row_points, points_in_column}
use Rattle.area_drawings.specs.KeptRows.{is_area_point, are_lines, Kept, kept}
use Rattle.area_drawings.specs.KeptRows.{vertices_in as vertices_of, counts_in}
use Rattle.area_drawings.proofs.RowSteps.{column_asked}
use Rattle.delivery.specs.KeptRows.{all_kept}
use Rattle.delivery.proofs.Drawables.{drop_both, area_table, forms as forms_of, in_window, point_in}
use Rattle.delivery.proofs.Drawables.{clean_rows, all_rows, rows_at}

-- ---- lists
pub cut_flat : {X : Type 0} (f : X → List Seen) (xs : List X)
    → cut (map (λ x. length (f x)) xs) (flat_map f xs) ≡ map f xs
cut_flat f [] = refl
cut_flat f (x ∷ xs) =
    ap (λ (vs : List Seen). vs ∷ cut (map (λ y. length (f y)) xs)
    (drop (length (f x)) (f x ++ flat_map f xs))) (take_front (f x) (flat_map f xs))
    ∙ ap (λ (vs : List Seen). f x ∷ cut (map (λ y. length (f y)) xs) vs)
    (drop_front (f x) (flat_map f xs))
    ∙ ap (λ (l : List (List Seen)). f x ∷ l) (cut_flat f xs)
  where
    take_front : (xs ys : List Seen) → take (length xs) (xs ++ ys) ≡ xs
    take_front [] ys = refl
    take_front (x ∷ xs) ys = ap (λ (l : List Seen). x ∷ l) (take_front xs ys)

    drop_front : (xs ys : List Seen) → drop (length xs) (xs ++ ys) ≡ ys
    drop_front [] ys = refl
    drop_front (x ∷ xs) ys = drop_front xs ys

pub total_flat : {X : Type 0} (f : X → List Seen) (xs : List X)
    → total (map (λ x. length (f x)) xs) ≡ length (flat_map f xs)
total_flat f [] = refl
total_flat f (x ∷ xs) = ap (λ (n : ℕ). length (f x) + n) (total_flat f xs)
    ∙ sym (length-append (f x) (flat_map f xs))

pub flat_of_map : {X : Type 0} (g : List Seen → List Curve) (f : X → List Seen) (xs : List X)
    → flat_map g (map f xs) ≡ flat_map (λ x. g (f x)) xs
flat_of_map g f [] = refl
flat_of_map g f (x ∷ xs) = ap (λ (l : List Curve). g (f x) ++ l) (flat_of_map g f xs)

pub flat_same : {X Y : Type 0} (f g : X → List Y) (P : X → Type 0) (xs : List X)
    → ((x : X) → P x → f x ≡ g x) → All P xs → flat_map f xs ≡ flat_map g xs
flat_same f g P [] h a = refl
flat_same f g P (x ∷ xs) h a = ap (λ l. l ++ flat_map f xs) (h x (All-head P x xs a))
    ∙ ap (λ l. g x ++ l) (flat_same f g P xs h (All-tail P x xs a))

all_append : {X : Type 0} (P : X → Type 0) (xs ys : List X) → All P xs → All P ys → All P (xs ++ ys)
all_append P [] ys a b = b
all_append P (x ∷ xs) ys a b =
    All-cons P x (xs ++ ys) (All-head P x xs a) (all_append P xs ys (All-tail P x xs a) b)

all_flat : {X Y : Type 0} (P : Y → Type 0) (Q : X → Type 0) (f : X → List Y) (xs : List X)
    → ((x : X) → Q x → All P (f x)) → All Q xs → All P (flat_map f xs)
all_flat P Q f [] h a = All-nil P
all_flat P Q f (x ∷ xs) h a =
    all_append P (f x) (flat_map f xs) (h x (All-head Q x xs a))
    (all_flat P Q f xs h (All-tail Q x xs a))

-- ---- rows without findings
pub no_findings : (codes : Codes) (t : Table) (rows : List Row) → table_findings codes t rows ≡ []
    → All (λ r. row_findings codes t r ≡ []) rows
no_findings codes t [] e = All-nil (λ r. row_findings codes t r ≡ [])
no_findings codes t (r ∷ rows) e =
    let b = empty_both (row_findings codes t r) (table_findings codes t rows) e in
    All-cons (λ r. row_findings codes t r ≡ []) r rows b.0 (no_findings codes t rows b.1)

pub none_at : (codes : Codes) (ts : List Table) (transfer : List (List Row)) (n : ℕ) (t : Table)
    → tables_findings codes ts transfer ≡ [] → slice_get ts n ≡ Some t
    → table_findings codes t (slice_index_or transfer n []) ≡ []
none_at codes [] transfer n t e g = absurd (cc)
none_at codes (u ∷ ts) [] n t e g = refl
none_at codes (u ∷ ts) (rows ∷ transfer) zero t e g =
    subst (λ (v : Table). table_findings codes v rows ≡ []) (same u t g)
    (empty_both (table_findings codes u rows) (tables_findings codes ts transfer) e).0
  where
    same : (u t : Table) → Some u ≡ Some t → u ≡ t
    same u t e = cc
none_at codes (u ∷ ts) (rows ∷ transfer) (suc n) t e g =
    none_at codes ts transfer n t
    (empty_both (table_findings codes u rows) (tables_findings codes ts transfer) e).1 g

pub clean_findings : (l : Layout) (rows : List (List Row)) → IsClean l rows
    → tables_findings l.codes l.tables rows ≡ []
clean_findings l rows c =
    unsorted is_before (tables_findings l.codes l.tables rows)
    (empty_both (value_findings l rows) (key_findings l rows)
    (unsorted is_before (value_findings l rows ++ key_findings l rows) c)).0

-- a row of a table that is right: it has no findings, and its places
pub record IsRight (codes : Codes) (t : Table) (r : Row) : Type 0 where
  pub clean : row_findings codes t r ≡ []
  pub places : HasPlaces codes t r

pub all_right : (codes : Codes) (t : Table) (rows : List Row)
    → All (λ r. row_findings codes t r ≡ []) rows → All (HasPlaces codes t) rows
    → All (IsRight codes t) rows
all_right codes t [] b c = All-nil (IsRight codes t)
all_right codes t (r ∷ rows) b c =
    All-cons (IsRight codes t) r rows
    (record {
      clean = All-head (λ r. row_findings codes t r ≡ []) r rows b;
      places = All-head (HasPlaces codes t) r rows c;
    })
    (all_right codes t rows (All-tail (λ r. row_findings codes t r ≡ []) r rows b)
    (All-tail (HasPlaces codes t) r rows c))

pub counted_at : (ts : List Table) (transfer : List (List Row)) (n : ℕ) (t : Table)
    → EachRow IsCounted (map wanted_of ts) transfer → slice_get ts n ≡ Some t
    → All (IsCounted (length t.lines)) (slice_index_or transfer n [])
counted_at [] transfer n t h g = absurd (cc)
counted_at (u ∷ ts) [] n t h g = absurd h
counted_at (u ∷ ts) (rows ∷ transfer) zero t h g =
    subst (λ (v : Table). All (IsCounted (length v.lines)) rows) (same u t g) h.0
  where
    same : (u t : Table) → Some u ≡ Some t → u ≡ t
    same u t e = cc
counted_at (u ∷ ts) (rows ∷ transfer) (suc n) t h g = counted_at ts transfer n t h.1 g

-- ---- the vertices of lines
clean_by : (l : LineForm) (column : ℕ) (vs : List Vertex)
    → flat_map (vertex_finding l column) vs ≡ [] → are_clean l vs ≡ true
clean_by l column [] e = refl
clean_by l column (v ∷ vs) e =
    let b = empty_both (vertex_finding l column v) (flat_map (vertex_finding l column) vs) e in
    ap (λ (c : Bool). c && are_clean l vs) (one (vertex_code l v) v.line column b.0)
    ∙ clean_by l column vs b.1
  where
    one : (o : Option Code) (line column : ℕ) → finding_at line column o ≡ [] → is_none o ≡ true
    one None line column e = refl
    one (Some c) line column e = absurd (cc)

clean_stroke : (role : Role) (l : LineForm) (column : ℕ) (vs : List Vertex)
    → stroke_findings role l column vs ≡ [] → are_clean l vs ≡ true
clean_stroke role l column vs e =
    by (short_finding role column (all_seen l vs) ++ arc_findings column (all_seen l vs))
    (are_clean l vs) refl e
  where
    by : (xs : List Finding) (b : Bool) → are_clean l vs ≡ b
        → (if b then xs else flat_map (vertex_finding l column) vs) ≡ [] → are_clean l vs ≡ true
    by xs true h e = h
    by xs false h e = clean_by l column vs e

clean_line : (role : Role) (line column : ℕ) (l : LineForm) (vs : List Vertex)
    → line_findings role line column l vs ≡ [] → are_clean l vs ≡ true
clean_line role line column l [] e = refl
clean_line role line column l (v ∷ vs) e = clean_stroke role l column (v ∷ vs) e

sound_all : (l : LineForm) (vs : List Vertex) → are_clean l vs ≡ true
    → sound_vertices l vs ≡ all_seen l vs
sound_all l [] e = refl
sound_all l (v ∷ vs) e =
    let b = both (is_clean l v) (are_clean l vs) e in
    ap (λ (c : Bool). (if c then seen l v ∷ [] else []) ++ sound_vertices l vs) b.0
    ∙ ap (λ (xs : List Seen). seen l v ∷ xs) (sound_all l vs b.1)
  where
    both : (a b : Bool) → (a && b) ≡ true → (a ≡ true) × (b ≡ true)
    both true b e = (refl, e)
    both false b e = absurd (cc)

-- the one line of a row
module _ (codes : Codes) (t : Table) (l : LineForm) (one : t.lines ≡ l ∷ []) where
  line_by : (role : Role) (line column : ℕ) (ss : List (List Vertex))
      → lines_findings role line column (l ∷ []) ss ≡ []
      → lines_vertices (l ∷ []) ss ≡ all_seen l (slice_index_or ss 0 [])
  line_by role line column [] e = refl
  line_by role line column (s ∷ ss) e =
      let k = clean_line role line column l s
      (empty_both (line_findings role line column l s) [] e).0 in
      append-nil (sound_vertices l s) ∙ sound_all l s k

  line_of_row : (r : Row) → IsRight codes t r
      → row_vertices t r ≡ all_seen l (slice_index_or r.strokes 0 [])
  line_of_row r h =
      let counted : (if is_counted t r then columns_findings codes r.line 1 t.columns
      (drop 1 r.fields) ++ lines_findings t.role r.line
      (1 + length t.columns) t.lines r.strokes else finding_at r.line 0 (Some Count))
      ≡ columns_findings codes r.line 1 t.columns (drop 1 r.fields)
      ++ lines_findings t.role r.line (1 + length t.columns) t.lines r.strokes =
      ap (λ (b : Bool). if b then columns_findings codes r.line 1 t.columns (drop 1 r.fields)
      ++ lines_findings t.role r.line (1 + length t.columns) t.lines r.strokes else finding_at
      r.line 0 (Some Count)) h.places.counted in
      let e = (empty_both (columns_findings codes r.line 1 t.columns (drop 1 r.fields))
      (lines_findings t.role r.line (1 + length t.columns) t.lines r.strokes) (sym counted
      ∙ h.clean)).1 in
      ap (λ (b : Bool). if b then lines_vertices t.lines r.strokes else []) h.places.counted
      ∙ ap (λ (ls : List LineForm). lines_vertices ls r.strokes) one
      ∙ line_by t.role r.line (1 + length t.columns) r.strokes
      (subst (λ (ls : List LineForm). lines_findings t.role r.line
      (1 + length t.columns) ls r.strokes ≡ []) one e)

  length_of_row : (r : Row) → IsRight codes t r
      → length (row_vertices t r) ≡ length (slice_index_or r.strokes 0 [])
  length_of_row r h = ap (λ (vs : List Seen). length vs) (line_of_row r h)
      ∙ length-map (slice_index_or r.strokes 0 []) (seen l)

  pub curves_of_row : (r : Row) → IsRight codes t r
      → seen_curves (row_vertices t r) ≡ row_curves l r
  curves_of_row r h = ap seen_curves (line_of_row r h) ∙ by (slice_index_or r.strokes 0 [])
    where
      by : (vs : List Vertex) → seen_curves (all_seen l vs) ≡ line_curves l vs
      by [] = refl
      by (v ∷ vs) = refl

  pub inside_of_row : (w : Window2) → IsWindowOf l.window w → (r : Row) → IsRight codes t r
      → AreIn w (row_vertices t r)
  inside_of_row w i r h =
      subst (AreIn w) (sym (line_of_row r h)) (by (slice_index_or r.strokes 0 []) (sound r h))
    where
      sound : (r : Row) → IsRight codes t r → AreSoundVertices l (slice_index_or r.strokes 0 [])
      sound r h = first r.strokes
          (subst (λ (ls : List LineForm). clean.AreLines ls r.strokes) one h.places.lines)
        where
          first : (ss : List (List Vertex)) → clean.AreLines (l ∷ []) ss
              → AreSoundVertices l (slice_index_or ss 0 [])
          first [] k = tt
          first (s ∷ ss) k = k.0.0

      by : (vs : List Vertex) → AreSoundVertices l vs → AreIn w (all_seen l vs)
      by [] k = All-nil (λ (v : Seen). IsIn w v.at)
      by (v ∷ vs) k =
          All-cons (λ (v : Seen). IsIn w v.at) (seen l v) (all_seen l vs)
          (in_window l.window w (seen l v).at i k.0.inside) (by vs k.1)

  pub curves_kept : (rows : List Row) → All (IsRight codes t) rows
      → kept_curves (map (vertex_count t) rows) (flat_map (row_vertices t) rows)
      ≡ flat_map (row_curves l) rows
  curves_kept rows h =
      ap (flat_map seen_curves) (cut_flat (row_vertices t) rows)
      ∙ flat_of_map seen_curves (row_vertices t) rows
      ∙ flat_same (λ r. seen_curves (row_vertices t r)) (row_curves l)
      (IsRight codes t) rows curves_of_row h

  pub inside_kept : (w : Window2) → IsWindowOf l.window w → (rows : List Row)
      → All (IsRight codes t) rows → AreIn w (flat_map (row_vertices t) rows)
  inside_kept w i rows h =
      all_flat (λ (v : Seen). IsIn w v.at) (IsRight codes t) (row_vertices t) rows
      (inside_of_row w i) h

  -- a line is no longer than all lines of its row, and as long where the row has one
  first_few : (ss : List (List Vertex)) → length (slice_index_or ss 0 []) ≤ vertices_in ss
  first_few [] = omega arith
  first_few (s ∷ ss) = omega arith

  first_counted : (ss : List (List Vertex)) → length ss ≡ 1
      → length (slice_index_or ss 0 []) ≡ vertices_in ss
  first_counted [] c = absurd (cc)
  first_counted (s ∷ []) c = omega arith
  first_counted (s ∷ r ∷ ss) c = absurd (omega (arith, c))

  pub few_kept : (rows : List Row) → All (IsRight codes t) rows
      → length (flat_map (row_vertices t) rows) ≤ limits.vertex_count rows
  few_kept [] h = omega arith
  few_kept (r ∷ rows) h =
      let a = length_of_row r (All-head (IsRight codes t) r rows h) in
      let b = first_few r.strokes in
      let k = few_kept rows (All-tail (IsRight codes t) r rows h) in
      let s = length-append (row_vertices t r) (flat_map (row_vertices t) rows) in
      omega (arith, a, b, k, s)

  pub counted_kept : (rows : List Row) → All (IsCounted (length t.lines)) rows
      → All (IsRight codes t) rows
      → length (flat_map (row_vertices t) rows) ≡ limits.vertex_count rows
  counted_kept [] c h = refl
  counted_kept (r ∷ rows) c h =
      let n = All-head (IsCounted (length t.lines)) r rows c
      ∙ ap (λ (ls : List LineForm). length ls) one in
      length-append (row_vertices t r) (flat_map (row_vertices t) rows)
      ∙ ap (λ (n : ℕ). n + length (flat_map (row_vertices t) rows))
      (length_of_row r (All-head (IsRight codes t) r rows h) ∙ first_counted r.strokes n)
      ∙ ap (λ (n : ℕ). vertices_in r.strokes + n)
      (counted_kept rows (All-tail (IsCounted (length t.lines)) r rows c)
      (All-tail (IsRight codes t) r rows h))

-- ---- the points of objects
cell_at : (codes : Codes) (cs : List Column) (k : ℕ) (c : Column) (words : List (List ℕ))
    → slice_get cs k ≡ Some c
    → slice_get (cells_of codes cs words) k
    ≡ Some (cell_of codes c (take (width c.form) (drop (widths (take k cs)) words)))
cell_at codes [] k c words e = absurd (cc)
cell_at codes (b ∷ cs) zero c words e =
    ap (λ (x : Column). Some (cell_of codes x (take (width x.form) words))) (same b c e)
  where
    same : (b c : Column) → Some b ≡ Some c → b ≡ c
    same b c e = cc
cell_at codes (b ∷ cs) (suc k) c words e =
    cell_at codes cs k c (drop (width b.form) words) e
    ∙ ap (λ (ws : List (List ℕ)). Some (cell_of codes c (take (width c.form) ws)))
    (sym (drop_both (width b.form) (widths (take k cs)) words))

cell_is : (line : ℕ) (r : Result Value ValueFault)
    → cell_points line (Some (cell_by r)) ≡ map (placed line) (place_read r)
cell_is line (Err f) = refl
cell_is line (Ok (Bytes w)) = refl
cell_is line (Ok (Numbers [])) = refl
cell_is line (Ok (Numbers (x ∷ []))) = refl
cell_is line (Ok (Numbers (x ∷ y ∷ []))) = refl
cell_is line (Ok (Numbers (x ∷ y ∷ z ∷ ns))) = refl

module _ (codes : Codes) (v : Window) (line : ℕ) where
  nowhere : (o : Option ValueFault) (value : Value) → place_read (Ok value) ≡ []
      → [] ≡ map (placed line) (place_read (reading o value))
  nowhere None value e = ap (map (placed line)) (sym e)
  nowhere (Some f) value e = refl

  of_undefined : (b : Bool) (o : Option ValueFault) (value : Value) → b ≡ true
      → [] ≡ map (placed line) (place_read (reading (if b then Some UndefinedFault else o) value))
  of_undefined true o value h = refl
  of_undefined false o value h = absurd (cc)

  undefined_place : (words : List (List ℕ)) → list_all (is_undefined codes) words ≡ true
      → [] ≡ map (placed line) (place_read (column_reading (AreaPoint v) codes words))
  undefined_place [] h =
      nowhere (field_fault (AreaPoint v) codes []) (value_of (AreaPoint v) []) refl
  undefined_place (x ∷ []) h =
      nowhere (field_fault (AreaPoint v) codes (x ∷ [])) (value_of (AreaPoint v) (x ∷ [])) refl
  undefined_place (x ∷ y ∷ ws) h =
      of_undefined (list_any (is_undefined codes) (x ∷ y ∷ ws))
      (value_fault (AreaPoint v) (x ∷ y ∷ ws)) (value_of (AreaPoint v) (x ∷ y ∷ ws))
      (first (is_undefined codes x) (list_all (is_undefined codes) (y ∷ ws))
      (list_any (is_undefined codes) (y ∷ ws)) h)
    where
      first : (a b c : Bool) → (a && b) ≡ true → (a || c) ≡ true
      first true b c h = refl
      first false b c h = absurd (cc)

  place_of_cell : (optional : Bool) (words : List (List ℕ))
      → cell_points line
      (Some (if optional && list_all (is_undefined codes) words then Undefined else cell_by
      (column_reading (AreaPoint v) codes words)))
      ≡ map (placed line) (place_read (column_reading (AreaPoint v) codes words))
  place_of_cell false words = cell_is line (column_reading (AreaPoint v) codes words)
  place_of_cell true words = by (list_all (is_undefined codes) words) refl
    where
      by : (b : Bool) → list_all (is_undefined codes) words ≡ b
          → cell_points line
          (Some (if b then Undefined else cell_by (column_reading (AreaPoint v) codes words)))
          ≡ map (placed line) (place_read (column_reading (AreaPoint v) codes words))
      by true h = undefined_place words h
      by false h = cell_is line (column_reading (AreaPoint v) codes words)

module _ (codes : Codes) (t : Table) (k : ℕ) (c : Column) (v : Window)
    (at : slice_get t.columns k ≡ Some c) (form : c.form ≡ AreaPoint v) where
  points_of_row : (r : Row) → HasPlaces codes t r
      → row_points codes t k r ≡ points_at codes (first_word t.columns k) c r
  points_of_row r h =
      let words = take (width c.form) (drop (widths (take k t.columns)) (drop 1 r.fields)) in
      ap (λ (b : Bool). cell_points r.line
      (slice_get (if b then cells_of codes t.columns (drop 1 r.fields) else []) k)) h.counted
      ∙ ap (cell_points r.line) (cell_at codes t.columns k c (drop 1 r.fields) at)
      ∙ ap (λ (f : Form). cell_points r.line
      (Some (if c.optional && list_all (is_undefined codes) words then Undefined else cell_by
      (column_reading f codes words)))) form
      ∙ place_of_cell codes v r.line c.optional words
      ∙ ap (λ (f : Form). map (placed r.line) (place_read (column_reading f codes words)))
      (sym form)
      ∙ ap (λ (ws : List (List ℕ)). map (placed r.line)
      (place_read (column_reading c.form codes (take (width c.form) ws))))
      (sym (drop_both 1 (widths (take k t.columns)) r.fields))

  pub points_kept : (rows : List Row) → All (HasPlaces codes t) rows
      → points_in_column k (kept codes t rows).points
      ≡ flat_map (points_at codes (first_word t.columns k) c) rows
  points_kept rows h =
      column_asked codes t rows k c at (ap is_area_point form)
      ∙ flat_same (row_points codes t k) (points_at codes (first_word t.columns k) c)
      (HasPlaces codes t) rows points_of_row h

-- ---- an area
pub kept_there : (codes : Codes) (ts : List Table) (transfer : List (List Row)) (n : ℕ) (t : Table)
    → EachRow IsCounted (map wanted_of ts) transfer → slice_get ts n ≡ Some t
    → slice_get (all_kept codes ts transfer) n ≡ Some (kept codes t (slice_index_or transfer n []))
kept_there codes [] transfer n t h e = absurd (cc)
kept_there codes (u ∷ ts) [] n t h e = absurd h
kept_there codes (u ∷ ts) (rows ∷ transfer) zero t h e =
    ap (λ (v : Table). Some (kept codes v rows)) (same u t e)
  where
    same : (u t : Table) → Some u ≡ Some t → u ≡ t
    same u t e = cc
kept_there codes (u ∷ ts) (rows ∷ transfer) (suc n) t h e = kept_there codes ts transfer n t h.1 e

-- what areas are drawn from
abbrev pub all_places : Layout → List (List Row) → List Kept
all_places l rows = all_kept l.codes l.tables rows

abbrev if_lines : Bool → Lines → Option Lines
if_lines b lines = if b then Some lines else None

-- rows without findings, and an area of the layout
module _ (l : Layout) (rows : List (List Row)) (v : IsValid l) (c : IsClean l rows) (a : AreaOf)
    (h : IsArea l.tables a) where
  abbrev places : HavePlaces l.codes l.tables rows
  places = clean_rows l rows c

  right_at : (k : ℕ) (t : Table) → slice_get l.tables k ≡ Some t
      → All (IsRight l.codes t) (slice_index_or rows k [])
  right_at k t e =
      let rs = slice_index_or rows k [] in
      all_right l.codes t rs
      (no_findings l.codes t rs (none_at l.codes l.tables rows k t (clean_findings l rows c) e))
      (all_rows l.codes t rs (rows_at l.codes l.tables rows k t places e))

  of_area : are_lines h.helper.role ≡ true
  of_area = ap are_lines h.role

  abbrev line_rows : List Row
  line_rows = slice_index_or rows a.lines []

  abbrev pub area : IsAreaTable l.tables h.helper a.main a.column
  area = area_table l a v h

  abbrev pub strokes : Kept
  strokes = kept l.codes h.helper line_rows

  lines_right : All (IsRight l.codes h.helper) line_rows
  lines_right = right_at a.lines h.helper h.lines

  -- the vertices of the lines of the area, and how many each has
  abbrev pub vertices : List Seen
  vertices = vertices_of strokes.lines

  abbrev pub counts : List ℕ
  counts = counts_in strokes.lines

  vertices_are : vertices ≡ flat_map (row_vertices h.helper) line_rows
  vertices_are =
      ap (λ (b : Bool). vertices_of (if_lines b (lines_kept h.helper line_rows))) of_area

  counts_are : counts ≡ map (vertex_count h.helper) line_rows
  counts_are = ap (λ (b : Bool). counts_in (if_lines b (lines_kept h.helper line_rows))) of_area

  few_vertices : length vertices ≤ limits.vertex_count line_rows
  few_vertices =
      let k = few_kept l.codes h.helper area.line area.lines line_rows lines_right in
      let m = ap (λ (vs : List Seen). length vs) vertices_are in
      omega (arith, k, m)

  abbrev objects : List Row
  objects = slice_index_or rows a.main []

  abbrev pub owner : Kept
  owner = kept l.codes area.owner objects

  owner_places : All (HasPlaces l.codes area.owner) objects
  owner_places =
      all_rows l.codes area.owner objects
      (rows_at l.codes l.tables rows a.main area.owner places area.main)

  -- the points that are kept in the area's column
  abbrev pub placed_points : List Placed
  placed_points = points_in_column a.column owner.points

  placed_are : placed_points ≡ flat_map
      (points_at l.codes (first_word area.owner.columns a.column) area.point) objects
  placed_are =
      points_kept l.codes area.owner a.column area.point area.line.window area.column area.form
      objects owner_places

  pub area_drawable : is_too_large rows a ≡ false
      → AreDrawable area.line counts vertices placed_points
  area_drawable e = record {
    counted = (let k = ap total counts_are ∙ total_flat (row_vertices h.helper) line_rows in
        let m = ap (λ (vs : List Seen). length vs) vertices_are in omega (arith, k, m));
    inside = λ w i. subst (AreIn w) (sym vertices_are)
        (inside_kept l.codes h.helper area.line area.lines w i line_rows lines_right);
    few = (let m = (within (limits.vertex_count line_rows) (length objects) e).0 in
        let k = few_vertices in omega (arith, m, k));
    points_inside = λ w i. subst (ArePointsIn w) (sym placed_are) (all_inside w i);
    few_points =
        (let m = (within (limits.vertex_count line_rows) (length objects) e).1 in
        let k = few_points objects in let j = ap (λ (ps : List Placed). length ps) placed_are in
        omega (arith, m, k, j));
  }
    where
      within : (n m : ℕ) → (nat_lt area_limit n || nat_lt area_limit m) ≡ false
          → (n ≤ area_limit) × (m ≤ area_limit)
      within n m e = (grind (arith, nat_tests), grind (arith, nat_tests))

      all_inside : (w : Window2) → IsWindowOf area.line.window w
          → ArePointsIn w
          (flat_map (points_at l.codes (first_word area.owner.columns a.column) area.point)
          objects)
      all_inside w i =
          all_flat (λ (p : Placed). IsInside w.low w.high p.at) (HasPlaces l.codes area.owner)
          (points_at l.codes (first_word area.owner.columns a.column) area.point) objects
          (point_in l.codes area.owner a.column area.point area.line.window w area.column area.form
          i) owner_places

      at_most_one : (r : List Placed) (o : Result Value ValueFault) (line : ℕ)
          → r ≡ map (placed line) (place_read o) → length r ≤ 1
      at_most_one r (Err f) line e =
          (let k = ap (λ (ps : List Placed). length ps) e in omega (arith, k))
      at_most_one r (Ok (Bytes w)) line e =
          (let k = ap (λ (ps : List Placed). length ps) e in omega (arith, k))
      at_most_one r (Ok (Numbers [])) line e =
          (let k = ap (λ (ps : List Placed). length ps) e in omega (arith, k))
      at_most_one r (Ok (Numbers (x ∷ []))) line e =
          (let k = ap (λ (ps : List Placed). length ps) e in omega (arith, k))
      at_most_one r (Ok (Numbers (x ∷ y ∷ []))) line e =
          (let k = ap (λ (ps : List Placed). length ps) e in omega (arith, k))
      at_most_one r (Ok (Numbers (x ∷ y ∷ z ∷ ns))) line e =
          (let k = ap (λ (ps : List Placed). length ps) e in omega (arith, k))

      few_points : (rs : List Row)
          → length (flat_map (points_at l.codes (first_word area.owner.columns a.column) area.point)
          rs) ≤ length rs
      few_points [] = omega arith
      few_points (r ∷ rs) =
          let f = points_at l.codes (first_word area.owner.columns a.column) area.point in
          let k = few_points rs in
          let m = at_most_one (f r)
          (column_reading area.point.form l.codes
          (words_at (first_word area.owner.columns a.column) area.point r)) r.line refl in
          let s = length-append (f r) (flat_map f rs) in
          omega (arith, k, m, s)

  pub is_drawing : (d : Plan) → AreDrawn area.line counts vertices placed_points d
      → IsDrawing l rows a d
  is_drawing d k =
      let there : lines_in (slice_get l.tables a.lines) ≡ area.line ∷ [] = ap lines_in h.lines
      ∙ area.lines in
      let own_columns : columns_in (slice_get l.tables a.main)
      ≡ area.owner.columns = ap columns_in area.main in
      record {
        window = subst (λ (ls : List LineForm). HasWindow ls d.window) (sym there) k.window;
        curves =
            k.curves
            ∙ ap (λ (ns : List ℕ). kept_curves ns vertices) counts_are
            ∙ ap (kept_curves (map (vertex_count h.helper) line_rows)) vertices_are
            ∙ curves_kept l.codes h.helper area.line area.lines line_rows lines_right
            ∙ sym (ap (λ (ls : List LineForm). curves_by ls line_rows) there);
        points =
            k.placed
            ∙ placed_are
            ∙ sym (ap (λ (o : Option Column). points_by l.codes
            (first_word area.owner.columns a.column) o objects) area.column)
            ∙ sym (ap (λ (cs : List Column). points_in l.codes cs a.column objects) own_columns);
      }

  -- the area by the form of its lines and by what is kept of its two tables, wherever they come
  -- from
  module _ (own : LineForm) (o : lines_in (slice_get l.tables a.lines) ≡ own ∷ []) where
    line_own : area.line ≡ own
    line_own = same area.line own (sym (ap lines_in h.lines ∙ area.lines) ∙ o)
      where
        same : (f g : LineForm) → f ∷ [] ≡ g ∷ [] → f ≡ g
        same f g e = cc

    module _ (k m : Kept) (f : k ≡ strokes) (g : m ≡ owner) (ps : List Placed)
        (p : ps ≡ points_in_column a.column m.points) where
      points_own : ps ≡ placed_points
      points_own = p ∙ ap (λ (x : Kept). points_in_column a.column x.points) g

      pub drawable_as : is_too_large rows a ≡ false
          → AreDrawable own (counts_in k.lines) (vertices_of k.lines) ps
      drawable_as e =
          subst (λ (x : LineForm). AreDrawable x (counts_in k.lines) (vertices_of k.lines) ps)
          line_own
          (subst (λ (x : Kept). AreDrawable area.line (counts_in x.lines) (vertices_of x.lines) ps)
          (sym f)
          (subst (AreDrawable area.line counts vertices) (sym points_own) (area_drawable e)))

      pub drawing_as : (d : Plan) → AreDrawn own (counts_in k.lines) (vertices_of k.lines) ps d
          → IsDrawing l rows a d
      drawing_as d w =
          is_drawing d
          (subst (λ (x : LineForm). AreDrawn x counts vertices placed_points d) (sym line_own)
          (subst (λ (x : Kept). AreDrawn own (counts_in x.lines)
          (vertices_of x.lines) placed_points d) f
          (subst (λ (xs : List Placed). AreDrawn own (counts_in k.lines) (vertices_of k.lines) xs d)
          points_own w)))

  -- the area among all tables
  module _ (n : EachRow IsCounted (map wanted_of l.tables) rows) where
    lines_kept_there : slice_get (all_kept l.codes l.tables rows) a.lines ≡ Some strokes
    lines_kept_there = kept_there l.codes l.tables rows a.lines h.helper n h.lines

    owner_kept : slice_get (all_kept l.codes l.tables rows) a.main ≡ Some owner
    owner_kept = kept_there l.codes l.tables rows a.main area.owner n area.main

    all_vertices : length vertices ≡ limits.vertex_count line_rows
    all_vertices =
        ap (λ (vs : List Seen). length vs) vertices_are
        ∙ counted_kept l.codes h.helper area.line area.lines line_rows
        (counted_at l.tables rows a.lines h.helper n h.lines) lines_right

    pub large : is_kept_large (all_kept l.codes l.tables rows) rows a ≡ is_too_large rows a
    large =
        ap (λ (o : Option Kept). nat_lt area_limit (length (vertices_there o)) || nat_lt area_limit
        (length (slice_index_or rows a.main []))) lines_kept_there
        ∙ ap (λ (m : ℕ). nat_lt area_limit m || nat_lt area_limit
        (length (slice_index_or rows a.main []))) all_vertices

    pub can_be_drawn : is_too_large rows a ≡ false → CanBeDrawn l (all_places l rows) a
    can_be_drawn e = record {
      forms = forms_of l a v h;
      strokes = strokes;
      lines = lines_kept_there;
      objects = owner;
      main = owner_kept;
      drawable = area_drawable e;
    }

    pub drawn_from : (d : Plan) → IsDrawnFrom l (all_places l rows) a d → IsDrawing l rows a d
    drawn_from d k =
        is_drawing d
        (record {
          window = subst (λ (f : LineForm). IsWindowOf f.window d.window)
              (same k.forms.line area.line (sym k.forms.lines ∙ (ap lines_in h.lines ∙ area.lines)))
              k.window;
          curves = k.curves ∙ ap curves_there lines_kept_there;
          placed = k.points ∙ ap (column_points a.column) owner_kept;
        })
      where
        same : (f g : LineForm) → f ∷ [] ≡ g ∷ [] → f ≡ g
        same f g e = cc

-- ---- all areas
module _ (l : Layout) (rows : List (List Row)) (v : IsValid l) (c : IsClean l rows)
    (n : EachRow IsCounted (map wanted_of l.tables) rows) where
  has_large : (as_ : List AreaOf) → All (IsArea l.tables) as_
      → has_kept_large (all_kept l.codes l.tables rows) rows as_ ≡ has_too_large rows as_
  has_large [] h = refl
  has_large (a ∷ as_) h =
      ap (λ (b : Bool). b || has_kept_large (all_kept l.codes l.tables rows) rows as_)
      (large l rows v c a (All-head (IsArea l.tables) a as_ h) n)
      ∙ ap (λ (b : Bool). is_too_large rows a || b)
      (has_large as_ (All-tail (IsArea l.tables) a as_ h))

  pub all_large : has_kept_large (all_kept l.codes l.tables rows) rows l.areas
      ≡ has_too_large rows l.areas
  all_large = has_large l.areas v.areas

  each_drawn : (as_ : List AreaOf) → All (IsArea l.tables) as_ → has_too_large rows as_ ≡ false
      → All (CanBeDrawn l (all_places l rows)) as_
  each_drawn [] h e = All-nil (CanBeDrawn l (all_places l rows))
  each_drawn (a ∷ as_) h e =
      let b = neither (is_too_large rows a) (has_too_large rows as_) e in
      All-cons (CanBeDrawn l (all_places l rows)) a as_
      (can_be_drawn l rows v c a (All-head (IsArea l.tables) a as_ h) n b.0)
      (each_drawn as_ (All-tail (IsArea l.tables) a as_ h) b.1)
    where
      neither : (b c : Bool) → (b || c) ≡ false → (b ≡ false) × (c ≡ false)
      neither true c h = absurd (cc)
      neither false c h = (refl, h)

  pub all_can_be_drawn : has_too_large rows l.areas ≡ false
      → All (CanBeDrawn l (all_places l rows)) l.areas
  all_can_be_drawn e = each_drawn l.areas v.areas e

  drawings_of : (as_ : List AreaOf) (ds : List Plan) → All (IsArea l.tables) as_
      → AllZip (IsDrawnFrom l (all_places l rows)) as_ ds → AllZip (IsDrawing l rows) as_ ds
  drawings_of [] [] h z = z
  drawings_of [] (d ∷ ds) h z = z
  drawings_of (a ∷ as_) [] h z = z
  drawings_of (a ∷ as_) (d ∷ ds) h z = (
    drawn_from l rows v c a (All-head (IsArea l.tables) a as_ h) n d z.0,
    drawings_of as_ ds (All-tail (IsArea l.tables) a as_ h) z.1,
  )

  pub all_drawings : (ds : List Plan) → AllZip (IsDrawnFrom l (all_places l rows)) l.areas ds
      → AllZip (IsDrawing l rows) l.areas ds
  all_drawings ds z = drawings_of l.areas ds v.areas z
