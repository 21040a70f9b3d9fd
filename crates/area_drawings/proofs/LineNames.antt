-- The curves and objects of an area stand in the order of their lines.
use Rattle.std.proofs.Common.{◌≡◌, ℕ, zero, suc, ◌<◌, true, false, List, [], ◌∷◌, ◌++◌}
use Rattle.std.proofs.Common.{length, map, get_or, Option, Some, None, Result, Ok, Err, refl, sym}
use Rattle.std.proofs.Common.{ap, subst, arith, append-nil, pos, if◌then◌else◌}
use Rattle.std.specs.Prelude.{slice_get, slice_index_or}
use Rattle.std.specs.List.{flat_map}
use Rattle.std.specs.List.Sorted.{IsStrictlyIncreasing}
use Rattle.std.proofs.lemmas.List.{map-append}
use Rattle.std.proofs.lemmas.List.Elements.{All-head, All-tail}
use Rattle.ili_grammar.specs.Syntax.{Codes}
use Rattle.resolver.specs.Resolved.{LineForm}
use Rattle.table_layout.specs.Layouts.{AreaOf, Column, Layout}
use Rattle.field_values.specs.Places.{Place, is_same_place, are_collinear}
use Rattle.field_values.specs.Readings.{Value, Numbers, Bytes, column_reading}
use Rattle.field_values.specs.declared.value.ValueFault.{ValueFault}
use Rattle.itf_reader.specs.Forms.{Vertex, Row}
use Rattle.itf_reader.specs.RowLines.{vertex_lines, row_lines, table_lines, LinesRise}
use Rattle.itf_reader.specs.StrokeFindings.{Seen, is_on_arc, place_of, all_seen}
use Rattle.itf_reader.proofs.Among.{Among, none, skip, nothing, everything, among-append}
use Rattle.itf_reader.proofs.Among.{Rises, Climbs, climbs_rest, increase_climbs, among_climbs}
use Rattle.plane.specs.Rule.Plans.{Plan, straight}
use Rattle.plane.specs.declared.kinds.Curve.{Curve}
use Rattle.plane.specs.declared.kinds.Placed.{Placed}
use Rattle.area_drawings.specs.Drawings.{point_at, straight_between, half_arcs, arc_over}
use Rattle.area_drawings.specs.Drawings.{curves_after, line_curves, row_curves, curves_by, lines_in}
use Rattle.area_drawings.specs.Drawings.{area_curves, place_read, placed, points_at, points_by}
use Rattle.area_drawings.specs.Drawings.{first_word, words_at, columns_in, area_points, IsDrawing}
use Rattle.area_drawings.specs.LineNames.{curve_line, object_line}

-- the lines of curves, and of points
abbrev curves : List Curve → List ℕ
curves cs = map (λ c. c.line) cs

abbrev objects : List Placed → List ℕ
objects ps = map (λ p. p.line) ps

-- ---- the curves of a line have lines of its vertices, in their order
straight_among : (p q : Place) (line : ℕ) → Among (curves (straight_between p q line)) (line ∷ [])
straight_among p q line =
    elim (is_same_place p q) as (λ b. Among
    (curves (if b then [] else straight (point_at p) (point_at q) line ∷ [])) (line ∷ [])) [
      | true ↦ nothing (line ∷ [])
      | false ↦ everything (line ∷ [])
    ]

arc_among : (s : Place) (m e : Seen) → Among (curves (arc_over s m e)) (m.line ∷ e.line ∷ [])
arc_among s m e =
    elim (are_collinear s m.at e.at) as (λ b. Among (curves (if b
    then straight_between s m.at m.line ++ straight_between m.at e.at e.line
    else half_arcs s m e)) (m.line ∷ e.line ∷ [])) [
      | true ↦ by_straights
      | false ↦ everything (m.line ∷ e.line ∷ [])
    ]
  where
    first : List Curve
    first = straight_between s m.at m.line

    second : List Curve
    second = straight_between m.at e.at e.line

    by_straights : Among (curves (first ++ second)) (m.line ∷ e.line ∷ [])
    by_straights =
        subst (λ (ns : List ℕ). Among ns (m.line ∷ e.line ∷ []))
        (sym (map-append (λ c. c.line) first second))
        (among-append (curves first) (m.line ∷ []) (curves second) (e.line ∷ [])
        (straight_among s m.at m.line) (straight_among m.at e.at e.line))

-- a vertex that an arc leads over has no curve yet
abbrev waiting : Option Seen → List ℕ
waiting None = []
waiting (Some m) = m.line ∷ []

abbrev lines_of : List Seen → List ℕ
lines_of vs = map (λ v. v.line) vs

then_among : (cs ds : List Curve) (ms ns : List ℕ) → Among (curves cs) ms → Among (curves ds) ns
    → Among (curves (cs ++ ds)) (ms ++ ns)
then_among cs ds ms ns h k =
    subst (λ (ls : List ℕ). Among ls (ms ++ ns)) (sym (map-append (λ c. c.line) cs ds))
    (among-append (curves cs) ms (curves ds) ns h k)

curves_among : (s : Place) (over : Option Seen) (vs : List Seen)
    → Among (curves (curves_after s over vs)) (waiting over ++ lines_of vs)
curves_among s over [] = nothing (waiting over ++ [])
curves_among s (Some m) (e ∷ vs) =
    then_among (arc_over s m e) (curves_after e.at None vs) (m.line ∷ e.line ∷ []) (lines_of vs)
    (arc_among s m e) (curves_among e.at None vs)
curves_among s None (v ∷ vs) =
    elim (is_on_arc v.kind) as (λ b. Among (curves (if b
    then curves_after s (Some v) vs
    else straight_between s v.at v.line ++ curves_after v.at None vs)) (v.line ∷ lines_of vs)) [
      | true ↦ curves_among s (Some v) vs
      | false ↦ then_among (straight_between s v.at v.line) (curves_after v.at None vs)
          (v.line ∷ []) (lines_of vs) (straight_among s v.at v.line) (curves_among v.at None vs)
    ]

seen_lines : (l : LineForm) (vs : List Vertex) → lines_of (all_seen l vs) ≡ vertex_lines vs
seen_lines l [] = refl
seen_lines l (v ∷ vs) = ap (λ (ns : List ℕ). v.line ∷ ns) (seen_lines l vs)

line_among : (l : LineForm) (vs : List Vertex) → Among (curves (line_curves l vs)) (vertex_lines vs)
line_among l [] = none
line_among l (v ∷ vs) =
    skip v.line (curves (line_curves l (v ∷ vs))) (vertex_lines vs)
    (subst (Among (curves (line_curves l (v ∷ vs)))) (seen_lines l vs)
    (curves_among (place_of l v) None (all_seen l vs)))

-- ---- those of rows, row by row
row_among : (l : LineForm) (r : Row) → Among (curves (row_curves l r)) (row_lines r)
row_among l r =
    skip r.line (curves (row_curves l r)) (flat_map vertex_lines r.strokes) (by r.strokes)
  where
    by : (ss : List (List Vertex))
        → Among (curves (line_curves l (slice_index_or ss 0 []))) (flat_map vertex_lines ss)
    by [] = none
    by (s ∷ ss) =
        subst (λ (ns : List ℕ). Among ns (vertex_lines s ++ flat_map vertex_lines ss))
        (append-nil (curves (line_curves l s)))
        (among-append (curves (line_curves l s)) (vertex_lines s) [] (flat_map vertex_lines ss)
        (line_among l s) (nothing (flat_map vertex_lines ss)))

rows_among : (l : LineForm) (rows : List Row)
    → Among (curves (flat_map (row_curves l) rows)) (table_lines rows)
rows_among l [] = none
rows_among l (r ∷ rows) =
    then_among (row_curves l r) (flat_map (row_curves l) rows) (row_lines r) (table_lines rows)
    (row_among l r) (rows_among l rows)

forms_among : (ls : List LineForm) (rows : List Row)
    → Among (curves (curves_by ls rows)) (table_lines rows)
forms_among [] rows = nothing (table_lines rows)
forms_among (l ∷ ls) rows = rows_among l rows

-- ---- the points of rows
place_among : (line : ℕ) (r : Result Value ValueFault)
    → Among (objects (map (placed line) (place_read r))) (line ∷ [])
place_among line (Ok (Numbers [])) = nothing (line ∷ [])
place_among line (Ok (Numbers (x ∷ []))) = nothing (line ∷ [])
place_among line (Ok (Numbers (x ∷ y ∷ []))) = everything (line ∷ [])
place_among line (Ok (Numbers (x ∷ y ∷ z ∷ zs))) = nothing (line ∷ [])
place_among line (Ok (Bytes bs)) = nothing (line ∷ [])
place_among line (Err e) = nothing (line ∷ [])

points_among : (codes : Codes) (first : ℕ) (c : Column) (rows : List Row)
    → Among (objects (flat_map (points_at codes first c) rows)) (table_lines rows)
points_among codes first c [] = none
points_among codes first c (r ∷ rows) =
    subst (λ (ns : List ℕ). Among ns (row_lines r ++ table_lines rows))
    (sym (map-append (λ p. p.line) own (flat_map (points_at codes first c) rows)))
    (among-append (objects own) (row_lines r)
    (objects (flat_map (points_at codes first c) rows)) (table_lines rows) here
    (points_among codes first c rows))
  where
    own : List Placed
    own = points_at codes first c r

    here : Among (objects own) (row_lines r)
    here =
        subst (λ (ns : List ℕ). Among ns (row_lines r)) (append-nil (objects own))
        (among-append (objects own) (r.line ∷ []) [] (flat_map vertex_lines r.strokes)
        (place_among r.line (column_reading c.form codes (words_at first c r)))
        (nothing (flat_map vertex_lines r.strokes)))

columns_among : (codes : Codes) (first : ℕ) (o : Option Column) (rows : List Row)
    → Among (objects (points_by codes first o rows)) (table_lines rows)
columns_among codes first None rows = nothing (table_lines rows)
columns_among codes first (Some c) rows = points_among codes first c rows

-- ---- two of a list whose lines rise
rises_at : {X : Type 0} (line : X → ℕ) (d : X) (low : ℕ) (xs : List X) (j : ℕ)
    → Rises low (map line xs) → j < length xs → low < line (get_or xs j d)
rises_at line d low [] j h lt = absurd (omega (arith, lt))
rises_at line d low (x ∷ xs) zero h lt = h.0
rises_at line d low (x ∷ xs) (suc j) h lt =
    let a = h.0 in
    let b = rises_at line d (line x) xs j h.1 (omega (arith, lt)) in
    omega (arith, a, b)

climbs_at : {X : Type 0} (line : X → ℕ) (d : X) (xs : List X) (i j : ℕ) → Climbs (map line xs)
    → i < j → j < length xs → line (get_or xs i d) < line (get_or xs j d)
climbs_at line d [] i j h lt le = absurd (omega (arith, le))
climbs_at line d (x ∷ xs) i zero h lt le = absurd (omega (arith, lt))
climbs_at line d (x ∷ xs) zero (suc j) h lt le = rises_at line d (line x) xs j h (omega (arith, le))
climbs_at line d (x ∷ xs) (suc i) (suc j) h lt le =
    climbs_at line d xs i j (climbs_rest (line x) (map line xs) h) (omega (arith, lt))
    (omega (arith, le))

-- ---- an area
rows_at : (rows : List (List Row)) (n : ℕ) → LinesRise rows
    → Climbs (table_lines (slice_index_or rows n []))
rows_at [] n h = tt
rows_at (r ∷ rows) zero h =
    increase_climbs (table_lines r) (All-head (λ x. IsStrictlyIncreasing (table_lines x)) r rows h)
rows_at (r ∷ rows) (suc n) h =
    rows_at rows n (All-tail (λ x. IsStrictlyIncreasing (table_lines x)) r rows h)

module _ (l : Layout) (rows : List (List Row)) (a : AreaOf) (d : Plan) (i j : ℕ)
    (h : LinesRise rows) (w : IsDrawing l rows a d) (lt : i < j) where
  pub curves_rise : j < length d.curves → curve_line d i < curve_line d j
  curves_rise le =
      let none_there = straight (record { x = pos 0; y = pos 0 }) (record {
        x = pos 0;
        y = pos 0;
      }) 0 in
      let rs = slice_index_or rows a.lines [] in
      climbs_at (λ c. c.line) none_there d.curves i j
      (subst (λ (cs : List Curve). Climbs (curves cs)) (sym w.curves)
      (among_climbs (curves (area_curves l rows a)) (table_lines rs)
      (forms_among (lines_in (slice_get l.tables a.lines)) rs) (rows_at rows a.lines h))) lt le

  pub objects_rise : j < length d.points → object_line d i < object_line d j
  objects_rise le =
      let none_there : Placed = record { at = record { x = pos 0; y = pos 0 }; line = 0 } in
      let cs = columns_in (slice_get l.tables a.main) in
      let rs = slice_index_or rows a.main [] in
      climbs_at (λ p. p.line) none_there d.points i j
      (subst (λ (ps : List Placed). Climbs (objects ps)) (sym w.points)
      (among_climbs (objects (area_points l rows a)) (table_lines rs)
      (columns_among l.codes (first_word cs a.column) (slice_get cs a.column) rs)
      (rows_at rows a.main h))) lt le
