-- What is kept of the rows of a SURFACE's helper table has the boundaries of its objects.
use Rattle.std.proofs.Common.{◌≡◌, inl, inr, ℕ, zero, suc, ◌+◌, ◌≤◌, Bool, true, false, List}
use Rattle.std.proofs.Common.{[], ◌∷◌, None}
use Rattle.std.proofs.Common.{◌++◌, length, map, drop, Option, Some, refl, sym, ap, ◌∙◌, subst}
use Rattle.std.proofs.Common.{arith}
use Rattle.std.proofs.Common.{if◌then◌else◌}
use Rattle.std.specs.Prelude.{◌||◌, nat_lt, slice_get, slice_index_or, IfOk, Result}
use Rattle.std.specs.List.{All, filter, flat_map, list_any, position_from}
use Rattle.std.proofs.lemmas.Bool.{eqb-true}
use Rattle.std.proofs.lemmas.List.{length-append, length-map}
use Rattle.std.proofs.lemmas.List.Elements.{All-nil, All-cons, All-filter, All-head, All-tail}
use Rattle.resolver.specs.Resolved.{LineForm}
use Rattle.table_layout.specs.Layouts.{Role, Main, AreaLines, SurfaceLines, Table, Layout}
use Rattle.table_layout.specs.Valid.{IsValid, IsRole, IsSurfaceTable, IsTable}
use Rattle.itf_reader.specs.Findings.{is_before}
use Rattle.itf_reader.specs.Forms.{Row}
use Rattle.itf_reader.specs.Layouts.{wanted_of}
use Rattle.itf_reader.specs.RowForms.{EachRow, IsCounted}
use Rattle.itf_reader.specs.RowFindings.{columns_findings, lines_findings, row_findings}
use Rattle.itf_reader.specs.RowFindings.{widths}
use Rattle.itf_reader.specs.StrokeFindings.{Seen, finding_at}
use Rattle.itf_reader.specs.declared.findings.Code.TheVariants.{Count}
use Rattle.domain_rules.proofs.Places.{empty_both, unsorted}
use Rattle.domain_rules.specs.ValueFindings.{value_findings}
use Rattle.ident_refs.specs.KeptRows.{row_line}
use Rattle.ident_refs.specs.KeyFindings.{key_findings, tables_keys, tid_findings}
use Rattle.ident_refs.specs.NamedRows.{Named, columns_names, row_names, rows_named}
use Rattle.ident_refs.specs.Rows.{has_identification}
use Rattle.plane.specs.Lists.{Has}
use Rattle.area_drawings.specs.AreaLimits.{area_limit}
use Rattle.area_drawings.specs.AreaLimits as limits
use Rattle.area_drawings.specs.Drawings.{IsWindowOf, curves_by, lines_in, row_curves}
use Rattle.area_drawings.specs.KeptDrawings.{AreIn, cut, seen_curves, total}
use Rattle.area_drawings.specs.KeptLines.{Lines, lines_kept, row_vertices, vertex_count}
use Rattle.area_drawings.specs.KeptRows.{Kept, are_lines, counts_in, kept, vertices_in}
use Rattle.area_drawings.specs.Strokes.{CanDraw, strokes_curves, vertices_of}
use Rattle.reports.specs.Surfaces.{SurfaceOf, surface_at, surfaces, surfaces_from}
use Rattle.delivery.specs.Judging.{IsClean}
use Rattle.delivery.specs.KeptRows.{all_kept}
use Rattle.delivery.specs.ObjectLines.{CanAllDraw, all_skipped, drawn, grouped, lines_of}
use Rattle.delivery.specs.ObjectLines.{named_rows, no_lines}
use Rattle.delivery.specs.Surfaces.{Boundary, boundaries, is_of, reference_of}
use Rattle.delivery.specs.Surfaces.{IsAnswer, IsSurfaceAnswer, are_all_skipped, is_wide}
use Rattle.delivery.specs.Surfaces.{surface_curves}
use Rattle.reports.specs.declared.lines.SurfaceAnswer.{SurfaceAnswer}
use Rattle.delivery.proofs.Drawables.{all_at, all_rows, clean_rows, rows_at}
use Rattle.delivery.proofs.KeptPlaces.{IsRight, all_right, clean_findings, counted_at, counted_kept}
use Rattle.delivery.proofs.KeptPlaces.{curves_of_row, cut_flat, flat_of_map, flat_same}
use Rattle.delivery.proofs.KeptPlaces.{inside_of_row, kept_there, no_findings, none_at, total_flat}
use Rattle.delivery.proofs.NamedObjects.{ids_at, name_of, named_by, names_object, names_there}
use Rattle.delivery.proofs.ObjectLines.{drawn_own, filter_same, grouped_own, names_it, one_if, own}
use Rattle.delivery.proofs.ObjectLines.{own_rows, with_own}

-- ---- the tables of a SURFACE
-- the helper table of a SURFACE among some tables, the first of which has that number
pub record IsAmong (n : ℕ) (ts : List Table) (s : SurfaceOf) : Type 0 where
  pub place : ℕ
  pub table : Table
  pub number : s.lines ≡ n + place
  pub at : slice_get ts place ≡ Some table
  pub role : table.role ≡ SurfaceLines s.main

among : (n : ℕ) (ts : List Table) (s : SurfaceOf) → Has s (surfaces_from n ts) → IsAmong n ts s
among n [] s h = absurd h
among n (t ∷ ts) s h =
    by t.role refl (λ k. later (among (n + 1) ts s k)) h
  where
    later : IsAmong (n + 1) ts s → IsAmong n (t ∷ ts) s
    later a =
        record {
          place = suc a.place;
          table = a.table;
          number = (let e = a.number in omega (arith, e));
          at = a.at;
          role = a.role;
        }

    by : (r : Role) → t.role ≡ r → (Has s (surfaces_from (n + 1) ts) → IsAmong n (t ∷ ts) s)
        → Has s (surface_at n r ++ surfaces_from (n + 1) ts) → IsAmong n (t ∷ ts) s
    by Main e f k = f k
    by (AreaLines main column) e f k = f k
    by (SurfaceLines main) e f (inr k) = f k
    by (SurfaceLines main) e f (inl q) =
        record {
          place = 0;
          table = t;
          number = ap (λ (x : SurfaceOf). x.lines) q ∙ (let z : n ≡ n + 0 = omega arith in z);
          at = refl;
          role = e ∙ ap SurfaceLines (sym (ap (λ (x : SurfaceOf). x.main) q));
        }

-- a SURFACE of a layout and its helper table
pub record IsSurface (l : Layout) (s : SurfaceOf) : Type 0 where
  pub helper : Table
  pub lines : slice_get l.tables s.lines ≡ Some helper
  pub role : helper.role ≡ SurfaceLines s.main

pub is_surface : (l : Layout) (s : SurfaceOf) → Has s (surfaces l) → IsSurface l s
is_surface l s h =
    let a = among 0 l.tables s h in
    record {
      helper = a.table;
      lines = ap (λ (n : ℕ). slice_get l.tables n) (let e = a.number in
          let z : s.lines ≡ a.place = omega (arith, e) in z) ∙ a.at;
      role = a.role;
    }

-- ---- lists
same_flat : (f : Row → List Named) (g : Row → Named) (P : Row → Type 0) (rows : List Row)
    → ((r : Row) → P r → f r ≡ g r ∷ []) → All P rows → flat_map f rows ≡ map g rows
same_flat f g P [] h a = refl
same_flat f g P (r ∷ rows) h a =
    ap (λ (ns : List Named). ns ++ flat_map f rows) (h r (All-head P r rows a))
    ∙ ap (λ (ns : List Named). g r ∷ ns) (same_flat f g P rows h (All-tail P r rows a))

rows_of_names : (g : Row → Named) (rows : List Row)
    → named_rows (map g rows) ≡ map (λ r. (g r).row) rows
rows_of_names g [] = refl
rows_of_names g (r ∷ rows) = ap (λ (ns : List (Option ℕ)). (g r).row ∷ ns) (rows_of_names g rows)

-- some of the lines
own_all : (P : List Seen → Type 0) (i : ℕ) (ps : List (Option ℕ)) (lines : List (List Seen))
    → All P lines → All P (own i ps lines)
own_all P i [] lines a = All-nil P
own_all P i (p ∷ ps) [] a = All-nil P
own_all P i (p ∷ ps) (line ∷ lines) a =
    by (names_it i p) (own_all P i ps lines (All-tail P line lines a))
  where
    by : (b : Bool) → All P (own i ps lines) → All P (one_if b line ++ own i ps lines)
    by true k = All-cons P line (own i ps lines) (All-head P line lines a) k
    by false k = k

own_few : (i : ℕ) (ps : List (Option ℕ)) (lines : List (List Seen))
    → vertices_of (own i ps lines) ≤ vertices_of lines
own_few i [] lines = omega arith
own_few i (p ∷ ps) [] = omega arith
own_few i (p ∷ ps) (line ∷ lines) = by (names_it i p) (own_few i ps lines)
  where
    by : (b : Bool) → vertices_of (own i ps lines) ≤ vertices_of lines
        → vertices_of (one_if b line ++ own i ps lines) ≤ length line + vertices_of lines
    by true h = omega (arith, h)
    by false h = omega (arith, h)

all_own : (P : List (List Seen) → Type 0) (ps : List (Option ℕ)) (lines : List (List Seen))
    (i n : ℕ) → ((j : ℕ) → P (own j ps lines)) → All P (with_own i ps lines (no_lines n))
all_own P ps lines i zero h = All-nil P
all_own P ps lines i (suc n) h =
    All-cons P (own i ps lines) (with_own (i + 1) ps lines (no_lines n)) (h i)
    (all_own P ps lines (i + 1) n h)

all_rows_of : (P : List Seen → Type 0) (Q : Row → Type 0) (g : Row → List Seen) (rows : List Row)
    → ((r : Row) → Q r → P (g r)) → All Q rows → All P (map g rows)
all_rows_of P Q g [] h a = All-nil P
all_rows_of P Q g (r ∷ rows) h a =
    All-cons P (g r) (map g rows) (h r (All-head Q r rows a))
    (all_rows_of P Q g rows h (All-tail Q r rows a))

counted_lines : (g : Row → List Seen) (rows : List Row)
    → vertices_of (map g rows) ≡ length (flat_map g rows)
counted_lines g [] = refl
counted_lines g (r ∷ rows) =
    ap (λ (n : ℕ). length (g r) + n) (counted_lines g rows)
    ∙ sym (length-append (g r) (flat_map g rows))

abbrev if_lines : Bool → Lines → Option Lines
if_lines b lines = if b then Some lines else None

-- ---- rows without findings, and a SURFACE of the layout
module _ (l : Layout) (rows : List (List Row)) (v : IsValid l) (c : IsClean l rows)
    (s : SurfaceOf) (h : IsSurface l s) where
  pub helper_table : IsTable (length l.topics) l.tables h.helper
  helper_table =
      all_at (IsTable (length l.topics) l.tables) l.tables s.lines h.helper v.tables h.lines

  abbrev pub table : IsSurfaceTable l.tables h.helper s.main
  table = subst (IsRole l.tables h.helper) h.role helper_table.role

  abbrev pub line_rows : List Row
  line_rows = slice_index_or rows s.lines []

  abbrev pub objects : List Row
  objects = slice_index_or rows s.main []

  lines_right : All (IsRight l.codes h.helper) line_rows
  lines_right =
      all_right l.codes h.helper line_rows
      (no_findings l.codes h.helper line_rows
      (none_at l.codes l.tables rows s.lines h.helper (clean_findings l rows c) h.lines))
      (all_rows l.codes h.helper line_rows
      (rows_at l.codes l.tables rows s.lines h.helper (clean_rows l rows c) h.lines))

  -- the identifications of the objects differ
  objects_differ : tid_findings [] objects ≡ []
  objects_differ =
      let keys = (empty_both (value_findings l rows) (key_findings l rows)
      (unsorted is_before (value_findings l rows ++ key_findings l rows) c)).1 in
      ids_at l.codes rows l.tables rows s.main table.owner
      (unsorted is_before (tables_keys l.codes rows l.tables rows) keys) table.main

  -- ---- what the rows name
  row_named : (r : Row) → IsRight l.codes h.helper r
      → row_names l.codes rows 1 h.helper r ≡ name_of l.codes rows s.main r ∷ []
  row_named r k =
      let columns = columns_findings l.codes r.line 1 h.helper.columns (drop 1 r.fields) in
      let lines = lines_findings h.helper.role r.line (1 + length h.helper.columns)
      h.helper.lines r.strokes in
      let counted : row_findings l.codes h.helper r ≡ columns ++ lines
      = ap (λ (b : Bool). if b then columns ++ lines else finding_at r.line 0 (Some Count))
      k.places.counted in
      ap (λ (b : Bool). if b
      then columns_names l.codes rows r.line 1 1 h.helper.columns (drop 1 r.fields) else [])
      k.places.counted
      ∙ named_by l.codes rows s.main r h.helper.columns table.reference r.fields refl table.column
      table.form table.needed
      (eqb-true (length r.fields) (1 + widths h.helper.columns) k.places.counted)
      (empty_both columns lines (sym counted ∙ k.clean)).0

  -- ---- what is kept of the rows
  abbrev pub strokes : Kept
  strokes = kept l.codes h.helper line_rows

  of_lines : are_lines h.helper.role ≡ true
  of_lines = ap are_lines h.role

  vertices_are : vertices_in strokes.lines ≡ flat_map (row_vertices h.helper) line_rows
  vertices_are =
      ap (λ (b : Bool). vertices_in (if_lines b (lines_kept h.helper line_rows))) of_lines

  counts_are : counts_in strokes.lines ≡ map (vertex_count h.helper) line_rows
  counts_are =
      ap (λ (b : Bool). counts_in (if_lines b (lines_kept h.helper line_rows))) of_lines

  lines_are : cut (counts_in strokes.lines) (vertices_in strokes.lines)
      ≡ map (row_vertices h.helper) line_rows
  lines_are =
      ap (λ (ns : List ℕ). cut ns (vertices_in strokes.lines)) counts_are
      ∙ ap (cut (map (vertex_count h.helper) line_rows)) vertices_are
      ∙ cut_flat (row_vertices h.helper) line_rows

  pub total_kept : total (counts_in strokes.lines) ≤ length (vertices_in strokes.lines)
  total_kept =
      let k = ap total counts_are ∙ total_flat (row_vertices h.helper) line_rows in
      let m = ap (λ (vs : List Seen). length vs) vertices_are in
      omega (arith, k, m)

  -- where the object that a row names stands
  abbrev place_named : Row → Option ℕ
  place_named r = position_from (has_identification (reference_of r)) 0 objects

  -- ---- the curves of one object
  abbrev all_lines : List (List Seen)
  all_lines = map (row_vertices h.helper) line_rows

  abbrev all_places : List (Option ℕ)
  all_places = map place_named line_rows

  forms_are : lines_in (slice_get l.tables s.lines) ≡ table.line ∷ []
  forms_are = ap lines_in h.lines ∙ table.lines

  own_curves : (i : ℕ) (o : Row) → slice_get objects i ≡ Some o
      → strokes_curves (own i all_places all_lines)
      ≡ surface_curves (lines_in (slice_get l.tables s.lines)) line_rows o
  own_curves i o e =
      let own_of = filter (is_of o) line_rows in
      ap strokes_curves (own_rows i place_named (row_vertices h.helper) line_rows)
      ∙ ap (λ (rs : List Row). strokes_curves (map (row_vertices h.helper) rs))
      (filter_same (λ r. names_it i (place_named r)) (is_of o) line_rows
      (names_object objects i o objects_differ e))
      ∙ flat_of_map seen_curves (row_vertices h.helper) own_of
      ∙ flat_same (λ r. seen_curves (row_vertices h.helper r)) (row_curves table.line)
      (IsRight l.codes h.helper) own_of (curves_of_row l.codes h.helper table.line table.lines)
      (All-filter (is_of o) (IsRight l.codes h.helper) line_rows lines_right)
      ∙ ap (λ (fs : List LineForm). curves_by fs own_of) (sym forms_are)

  module _ (n : EachRow IsCounted (map wanted_of l.tables) rows) where
    pub names_are : named_rows (rows_named l rows s.lines 1) ≡ all_places
    names_are =
        ap named_rows (names_there l.codes rows 1 l.tables rows s.lines h.helper n h.lines
        ∙ same_flat (row_names l.codes rows 1 h.helper) (name_of l.codes rows s.main)
        (IsRight l.codes h.helper) line_rows row_named lines_right)
        ∙ rows_of_names (name_of l.codes rows s.main) line_rows

    pub kept_at : slice_get (all_kept l.codes l.tables rows) s.lines ≡ Some strokes
    kept_at = kept_there l.codes l.tables rows s.lines h.helper n h.lines

    pub all_counted : length (vertices_in strokes.lines) ≡ limits.vertex_count line_rows
    all_counted =
        ap (λ (vs : List Seen). length vs) vertices_are
        ∙ counted_kept l.codes h.helper table.line table.lines line_rows
        (counted_at l.tables rows s.lines h.helper n h.lines) lines_right

    -- ---- the boundaries of all objects
    module _ (places : List (Option ℕ)) (lines : List (List Seen))
        (p : places ≡ named_rows (rows_named l rows s.lines 1))
        (q : lines ≡ cut (counts_in strokes.lines) (vertices_in strokes.lines)) where
      grouped_are : grouped places lines (no_lines (length objects))
          ≡ with_own 0 all_places all_lines (no_lines (length objects))
      grouped_are =
          ap (λ (ps : List (Option ℕ)). grouped ps lines (no_lines (length objects)))
          (p ∙ names_are)
          ∙ ap (λ (ls : List (List Seen)). grouped all_places ls (no_lines (length objects)))
          (q ∙ lines_are)
          ∙ grouped_own all_places all_lines (no_lines (length objects))

      pub boundaries_are : drawn (grouped places lines (no_lines (length objects)))
          (map row_line objects) ≡ boundaries l rows s
      boundaries_are =
          ap (λ (os : List (List (List Seen))). drawn os (map row_line objects)) grouped_are
          ∙ drawn_own (lines_in (slice_get l.tables s.lines)) line_rows all_places all_lines 0
          objects (λ j o e. ap (λ (m : ℕ). strokes_curves (own m all_places all_lines))
          (let z : 0 + j ≡ j = omega arith in z) ∙ own_curves j o e)

      -- they can be drawn where there are not too many vertices
      pub all_drawable : (f : LineForm) → lines_in (slice_get l.tables s.lines) ≡ f ∷ []
          → length (vertices_in strokes.lines) ≤ area_limit
          → CanAllDraw f (grouped places lines (no_lines (length objects)))
      all_drawable f e few =
          subst (All (CanDraw f)) (sym grouped_are)
          (all_own (CanDraw f) all_places all_lines 0 (length objects) each)
        where
          same : (g k : LineForm) → g ∷ [] ≡ k ∷ [] → g ≡ k
          same g k e = cc

          own_form : table.line ≡ f
          own_form = same table.line f (sym forms_are ∙ e)

          each : (j : ℕ) → CanDraw f (own j all_places all_lines)
          each j =
              record {
                inside = λ w i. own_all (AreIn w) j all_places all_lines
                    (all_rows_of (AreIn w) (IsRight l.codes h.helper) (row_vertices h.helper)
                    line_rows (inside_of_row l.codes h.helper table.line table.lines w
                    (subst (λ (g : LineForm). IsWindowOf g.window w) (sym own_form) i))
                    lines_right);
                few = (let a = own_few j all_places all_lines in
                    let b = counted_lines (row_vertices h.helper) line_rows in
                    let k = ap (λ (vs : List Seen). length vs) vertices_are in
                    omega (arith, a, b, k, few));
              }

    -- ---- by what is kept and named, wherever it comes from
    module _ (f : LineForm) (form : lines_in (slice_get l.tables s.lines) ≡ f ∷ []) (k : Kept)
        (own_kept : k ≡ strokes) (ns : List Named) (own_names : ns ≡ rows_named l rows s.lines 1)
      where
        pub counted_as : total (counts_in k.lines) ≤ length (vertices_in k.lines)
        counted_as =
            subst (λ (x : Kept). total (counts_in x.lines) ≤ length (vertices_in x.lines))
            (sym own_kept) total_kept

        pub drawable_as : (m : ℕ) → m ≡ length objects → length (vertices_in k.lines) ≤ area_limit
            → CanAllDraw f (lines_of k ns m)
        drawable_as m e few =
            subst (λ (n : ℕ). CanAllDraw f (lines_of k ns n)) (sym e)
            (subst (λ (x : Kept). CanAllDraw f (lines_of x ns (length objects))) (sym own_kept)
            (all_drawable (named_rows ns)
            (cut (counts_in strokes.lines) (vertices_in strokes.lines)) (ap named_rows own_names)
            refl f form
            (subst (λ (x : Kept). length (vertices_in x.lines) ≤ area_limit) own_kept few)))

        or_false : (b : Bool) → (b || false) ≡ b
        or_false true = refl
        or_false false = refl

        skipped_as : all_skipped f k ≡ are_all_skipped l rows s
        skipped_as =
            ap (λ (x : Kept). all_skipped f x) own_kept
            ∙ ap (λ (n : ℕ). is_wide f.window || nat_lt area_limit n) all_counted
            ∙ ap (λ (b : Bool). b || nat_lt area_limit (limits.vertex_count line_rows))
            (sym (or_false (is_wide f.window)))
            ∙ ap (λ (fs : List LineForm). list_any (λ (g : LineForm). is_wide g.window) fs
            || nat_lt area_limit (limits.vertex_count line_rows)) (sym form)

        boundaries_as : (ms : List ℕ) → ms ≡ map row_line objects
            → drawn (lines_of k ns (length ms)) ms ≡ boundaries l rows s
        boundaries_as ms e =
            ap (λ (n : ℕ). drawn (lines_of k ns n) ms)
            (ap (λ (xs : List ℕ). length xs) e ∙ length-map objects row_line)
            ∙ ap (drawn (lines_of k ns (length objects))) e
            ∙ ap (λ (x : Kept). drawn (lines_of x ns (length objects)) (map row_line objects))
            own_kept
            ∙ boundaries_are (named_rows ns)
            (cut (counts_in strokes.lines) (vertices_in strokes.lines)) (ap named_rows own_names)
            refl

        -- the answer to what is kept is that to the SURFACE
        pub answer_as : {E : Type 0} (ms : List ℕ) → ms ≡ map row_line objects
            → (r : Result SurfaceAnswer E)
            → IfOk r (IsAnswer (all_skipped f k) (drawn (lines_of k ns (length ms)) ms))
            → IfOk r (IsSurfaceAnswer l rows s)
        answer_as ms e r h =
            subst (λ (bs : List Boundary). IfOk r (IsAnswer (are_all_skipped l rows s) bs))
            (boundaries_as ms e)
            (subst (λ (all : Bool). IfOk r (IsAnswer all (drawn (lines_of k ns (length ms)) ms)))
            skipped_as h)
