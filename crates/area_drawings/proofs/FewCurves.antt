-- A drawing has at most one curve for each vertex of its lines, and one point for each object.
use Rattle.std.proofs.Common.{◌≡◌, ℕ, ◌+◌, ◌≤◌, Bool, true, false, ◌||◌, nat_lt, List, [], ◌∷◌}
use Rattle.std.proofs.Common.{◌++◌, length, Option, None, Some, Result, Ok, Err, refl, subst, sym}
use Rattle.std.proofs.Common.{arith}
use Rattle.std.specs.Prelude.{if◌then◌else◌, slice_get, slice_index_or}
use Rattle.std.specs.List.{All, AllZip, flat_map}
use Rattle.std.proofs.lemmas.Bool.Decides.{nat_tests}
use Rattle.std.proofs.lemmas.List.{length-append, length-map}
use Rattle.std.proofs.lemmas.List.Elements.{All-nil, All-cons}
use Rattle.resolver.specs.Resolved.{LineForm}
use Rattle.table_layout.specs.Layouts.{AreaOf, Column, Layout}
use Rattle.field_values.specs.Places.{Place, is_same_place, are_collinear}
use Rattle.itf_reader.specs.Forms.{Vertex, Row}
use Rattle.itf_reader.specs.StrokeFindings.{Seen, is_on_arc, place_of, seen, all_seen}
use Rattle.plane.specs.Rule.Plans.{Plan, straight}
use Rattle.plane.specs.declared.kinds.Curve.{Curve}
use Rattle.plane.specs.declared.kinds.Placed.{Placed}
use Rattle.field_values.specs.Readings.{Value, Numbers, Bytes, column_reading}
use Rattle.field_values.specs.declared.value.ValueFault.{ValueFault}
use Rattle.ili_grammar.specs.Syntax.{Codes}
use Rattle.area_drawings.specs.AreaLimits.{area_limit, vertices_in, vertex_count, is_too_large}
use Rattle.area_drawings.specs.AreaLimits.{has_too_large, IsSmallPlan}
use Rattle.area_drawings.specs.Drawings.{point_at, straight_between, half_arcs, arc_over}
use Rattle.area_drawings.specs.Drawings.{curves_after, line_curves, row_curves, curves_by, lines_in}
use Rattle.area_drawings.specs.Drawings.{area_curves, place_read, placed, points_at, points_by}
use Rattle.area_drawings.specs.Drawings.{first_word, words_at, columns_in, area_points, IsDrawing}
use Rattle.area_drawings.specs.Drawings.{AreDrawings}

-- ---- one line
straight_few : (p q : Place) (line : ℕ) → length (straight_between p q line) ≤ 1
straight_few p q line = by (is_same_place p q)
  where
    by : (b : Bool) → length (if b then [] else straight (point_at p) (point_at q) line ∷ []) ≤ 1
    by true = omega arith
    by false = omega arith

arc_few : (s : Place) (m e : Seen) → length (arc_over s m e) ≤ 2
arc_few s m e = by (are_collinear s m.at e.at)
  where
    by : (b : Bool)
        → length (if b then straight_between s m.at m.line
        ++ straight_between m.at e.at e.line else half_arcs s m e) ≤ 2
    by true =
        omega (
          arith,
          length-append (straight_between s m.at m.line)
              (straight_between m.at e.at e.line),
          straight_few s m.at m.line,
          straight_few m.at e.at e.line,
        )
    by false = omega arith

-- a vertex that an arc leads over has no curve yet
abbrev waiting : Option Seen → ℕ
waiting None = 0
waiting (Some m) = 1

curves_few : (s : Place) (over : Option Seen) (vs : List Seen)
    → length (curves_after s over vs) ≤ waiting over + length vs
curves_few s over [] = omega arith
curves_few s (Some m) (e ∷ vs) =
    omega (
      arith,
      length-append (arc_over s m e) (curves_after e.at None vs),
      arc_few s m e,
      curves_few e.at None vs,
    )
curves_few s None (v ∷ vs) =
    by (is_on_arc v.kind) (curves_few s (Some v) vs) (curves_few v.at None vs)
  where
    by : (b : Bool) → length (curves_after s (Some v) vs) ≤ waiting (Some v) + length vs
        → length (curves_after v.at None vs) ≤ waiting None + length vs
        → length (if b then curves_after s (Some v) vs else straight_between s v.at v.line
        ++ curves_after v.at None vs) ≤ waiting None + length (v ∷ vs)
    by true h k = omega (arith, h)
    by false h k =
        omega (
          arith,
          length-append (straight_between s v.at v.line) (curves_after v.at None vs),
          straight_few s v.at v.line,
          k,
        )

line_few : (l : LineForm) (vs : List Vertex) → length (line_curves l vs) ≤ length vs
line_few l [] = omega arith
line_few l (v ∷ vs) =
    omega (arith, curves_few (place_of l v) None (all_seen l vs), length-map vs (seen l))

-- ---- the lines of an area
strokes_few : (l : LineForm) (ss : List (List Vertex))
    → length (line_curves l (slice_index_or ss 0 [])) ≤ vertices_in ss
strokes_few l [] = omega arith
strokes_few l (s ∷ ss) = omega (arith, line_few l s)

rows_few : (l : LineForm) (rows : List Row)
    → length (flat_map (row_curves l) rows) ≤ vertex_count rows
rows_few l [] = omega arith
rows_few l (r ∷ rows) =
    omega (
      arith,
      length-append (row_curves l r) (flat_map (row_curves l) rows),
      strokes_few l r.strokes,
      rows_few l rows,
    )

forms_few : (ls : List LineForm) (rows : List Row) → length (curves_by ls rows) ≤ vertex_count rows
forms_few [] rows = omega arith
forms_few (l ∷ ls) rows = rows_few l rows

-- ---- the points of an area
place_few : (r : Result Value ValueFault) → length (place_read r) ≤ 1
place_few (Ok (Numbers [])) = omega arith
place_few (Ok (Numbers (x ∷ []))) = omega arith
place_few (Ok (Numbers (x ∷ y ∷ []))) = omega arith
place_few (Ok (Numbers (x ∷ y ∷ z ∷ zs))) = omega arith
place_few (Ok (Bytes bs)) = omega arith
place_few (Err e) = omega arith

point_few : (codes : Codes) (first : ℕ) (c : Column) (r : Row)
    → length (points_at codes first c r) ≤ 1
point_few codes first c r =
    let v = column_reading c.form codes (words_at first c r) in
    omega (arith, length-map (place_read v) (placed r.line), place_few v)

objects_few : (codes : Codes) (first : ℕ) (c : Column) (rows : List Row)
    → length (flat_map (points_at codes first c) rows) ≤ length rows
objects_few codes first c [] = omega arith
objects_few codes first c (r ∷ rows) =
    omega (
      arith,
      length-append (points_at codes first c r)
          (flat_map (points_at codes first c) rows),
      point_few codes first c r,
      objects_few codes first c rows,
    )

points_few : (codes : Codes) (first : ℕ) (c : Option Column) (rows : List Row)
    → length (points_by codes first c rows) ≤ length rows
points_few codes first None rows = omega arith
points_few codes first (Some c) rows = objects_few codes first c rows

-- ---- the areas of a layout, within their limits
module _ (l : Layout) (rows : List (List Row)) where
  area_few : (a : AreaOf) → is_too_large rows a ≡ false → length (area_curves l rows a) ≤ area_limit
  area_few a h =
      omega (
        arith,
        forms_few (lines_in (slice_get l.tables a.lines))
            (slice_index_or rows a.lines []),
        within (vertex_count (slice_index_or rows a.lines []))
            (length (slice_index_or rows a.main [])) h,
      )
    where
      within : (n m : ℕ) → (nat_lt area_limit n || nat_lt area_limit m) ≡ false → n ≤ area_limit
      within n m e = grind (arith, nat_tests)

  placed_few : (a : AreaOf) → is_too_large rows a ≡ false
      → length (area_points l rows a) ≤ area_limit
  placed_few a h =
      let cs = columns_in (slice_get l.tables a.main) in
      omega (
        arith,
        points_few l.codes (first_word cs a.column) (slice_get cs a.column)
            (slice_index_or rows a.main []),
        within (vertex_count (slice_index_or rows a.lines []))
            (length (slice_index_or rows a.main [])) h,
      )
    where
      within : (n m : ℕ) → (nat_lt area_limit n || nat_lt area_limit m) ≡ false → m ≤ area_limit
      within n m e = grind (arith, nat_tests)

  plan_small : (a : AreaOf) (d : Plan) → is_too_large rows a ≡ false → IsDrawing l rows a d
      → IsSmallPlan d
  plan_small a d h w = record {
    curves = subst (λ (cs : List Curve). length cs ≤ area_limit) (sym w.curves) (area_few a h);
    points = subst (λ (ps : List Placed). length ps ≤ area_limit) (sym w.points) (placed_few a h);
  }

  all_few : (as_ : List AreaOf) (ds : List Plan) → has_too_large rows as_ ≡ false
      → AllZip (IsDrawing l rows) as_ ds → All IsSmallPlan ds
  all_few [] [] h w = All-nil IsSmallPlan
  all_few [] (d ∷ ds) h w = absurd w
  all_few (a ∷ as_) [] h w = absurd w
  all_few (a ∷ as_) (d ∷ ds) h w =
      let n = neither (is_too_large rows a) (has_too_large rows as_) h in
      All-cons IsSmallPlan d ds (plan_small a d n.0 w.0) (all_few as_ ds n.1 w.1)
    where
      neither : (b c : Bool) → (b || c) ≡ false → (b ≡ false) × (c ≡ false)
      neither true c h = absurd (cc)
      neither false c h = (refl, h)

  pub few_curves : (ds : List Plan) → has_too_large rows l.areas ≡ false → AreDrawings l rows ds
      → All IsSmallPlan ds
  few_curves ds = all_few l.areas ds
