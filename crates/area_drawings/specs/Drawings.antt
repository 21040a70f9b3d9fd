-- The drawing of an area: from the rows of a transfer to curves and points of the plane.
use Rattle.std.specs.Prelude.{◌≡◌, ℕ, ◌+◌, if◌then◌else◌, List, [], ◌∷◌, ◌++◌, take, drop, map}
use Rattle.std.specs.Prelude.{Option, Some, None, Result, Ok, ℤ, pos, negsuc, min, ◌^◌, slice_get}
use Rattle.std.specs.Prelude.{slice_index_or}
use Rattle.std.specs.List.{AllZip, flat_map}
use Rattle.ili_grammar.specs.Syntax.{Codes}
use Rattle.resolver.specs.Resolved.{LineForm, Window}
use Rattle.table_layout.specs.Layouts.{Column, Table, AreaOf, Layout}
use Rattle.field_values.specs.declared.value.ValueFault.{ValueFault}
use Rattle.field_values.specs.Fields.{width}
use Rattle.field_values.specs.Places.{Place, is_same_place, are_collinear}
use Rattle.field_values.specs.Readings.{Value, Numbers, column_reading}
use Rattle.itf_reader.specs.Forms.{Vertex, Row}
use Rattle.itf_reader.specs.RowFindings.{widths}
use Rattle.itf_reader.specs.StrokeFindings.{Seen, is_on_arc, place_of, all_seen}
use Rattle.plane.specs.Rule.Plans.{Plan, straight, half_arc}
use Rattle.plane.specs.declared.kinds.Point.{Point}
use Rattle.plane.specs.declared.kinds.Curve.{Curve}
use Rattle.plane.specs.declared.kinds.Placed.{Placed}
use Rattle.plane.specs.declared.window.Window2.{Window2}

-- a place as a point of the plane
abbrev pub point_at : Place → Point
point_at p = record { x = p.x; y = p.y }

-- ---- curves
-- the straight between two places, by the line of the second; none where they are one place
abbrev pub straight_between : Place → Place → ℕ → List Curve
straight_between p q line =
    if is_same_place p q then [] else straight (point_at p) (point_at q) line ∷ []

-- the two half arcs from a place over m to e
abbrev pub half_arcs : Place → Seen → Seen → List Curve
half_arcs s m e =
    half_arc (point_at s) (point_at m.at) (point_at e.at) m.line
    ∷ half_arc (point_at m.at) (point_at e.at) (point_at s) e.line ∷ []

-- an arc; where the three places lie on one straight it is the straights that have length
abbrev pub arc_over : Place → Seen → Seen → List Curve
arc_over s m e =
    if are_collinear s m.at e.at
    then straight_between s m.at m.line ++ straight_between m.at e.at e.line
    else half_arcs s m e

-- the curves of the vertices that follow a place; after the vertex that an arc leads over comes
-- its end
abbrev pub curves_after : Place → Option Seen → List Seen → List Curve
curves_after s over [] = []
curves_after s (Some m) (e ∷ vs) = arc_over s m e ++ curves_after e.at None vs
curves_after s None (v ∷ vs) =
    if is_on_arc v.kind
    then curves_after s (Some v) vs
    else straight_between s v.at v.line ++ curves_after v.at None vs

-- the curves of a line, from its start
abbrev pub line_curves : LineForm → List Vertex → List Curve
line_curves l [] = []
line_curves l (v ∷ vs) = curves_after (place_of l v) None (all_seen l vs)

-- the curves of an object of a table of lines, which has one line
abbrev pub row_curves : LineForm → Row → List Curve
row_curves l r = line_curves l (slice_index_or r.strokes 0 [])

-- the curves of the objects of such a table, which has one form of lines
abbrev pub curves_by : List LineForm → List Row → List Curve
curves_by [] rows = []
curves_by (l ∷ ls) rows = flat_map (row_curves l) rows

-- the lines of a table; none where there is no table
abbrev pub lines_in : Option Table → List LineForm
lines_in (Some t) = t.lines
lines_in None = []

-- the curves of an AREA: those of all rows of the table of its lines
abbrev pub area_curves : Layout → List (List Row) → AreaOf → List Curve
area_curves l rows a =
    curves_by (lines_in (slice_get l.tables a.lines)) (slice_index_or rows a.lines [])

-- ---- points
-- a column of two numbers is a place; an undefined one is none
abbrev pub place_read : Result Value ValueFault → List Place
place_read (Ok (Numbers (x ∷ y ∷ []))) = record { x = x; y = y } ∷ []
place_read other = []

-- where the words of column k begin in a row: after its identification and the words of the
-- columns before
abbrev pub first_word : List Column → ℕ → ℕ
first_word cs k = 1 + widths (take k cs)

-- the words of a column in a row
abbrev pub words_at : ℕ → Column → Row → List (List ℕ)
words_at first c r = take (width c.form) (drop first r.fields)

-- a place as an object's point, with the object's line of the transfer
abbrev pub placed : ℕ → Place → Placed
placed line p = record { at = point_at p; line = line }

-- the point of an object, by the line of the object; none where its column is undefined
abbrev pub points_at : Codes → ℕ → Column → Row → List Placed
points_at codes first c r =
    map (placed r.line) (place_read (column_reading c.form codes (words_at first c r)))

-- the points of objects by a column, and where its words begin
abbrev pub points_by : Codes → ℕ → Option Column → List Row → List Placed
points_by codes first None rows = []
points_by codes first (Some c) rows = flat_map (points_at codes first c) rows

-- the points of objects by column k
abbrev pub points_in : Codes → List Column → ℕ → List Row → List Placed
points_in codes cs k rows = points_by codes (first_word cs k) (slice_get cs k) rows

-- the columns of a table; none where there is no table
abbrev pub columns_in : Option Table → List Column
columns_in (Some t) = t.columns
columns_in None = []

-- the points of an AREA: those of all rows of its main table, by its column
abbrev pub area_points : Layout → List (List Row) → AreaOf → List Placed
area_points l rows a =
    points_in l.codes (columns_in (slice_get l.tables a.main)) a.column
    (slice_index_or rows a.main [])

-- ---- drawings
-- the window of the plane in which the vertices of a line lie
pub record IsWindowOf (w : Window) (d : Window2) : Type 0 where
  pub low : d.low ≡ record { x = w.x.low; y = w.y.low }
  pub high : d.high ≡ record { x = w.x.high; y = w.y.high }

-- the window of the lines of a table; a table of lines has one form of them
abbrev pub HasWindow : List LineForm → Window2 → Type 0
HasWindow [] d =
    (d.low ≡ record { x = pos 0; y = pos 0 }) × (d.high ≡ record { x = pos 0; y = pos 0 })
HasWindow (l ∷ ls) d = IsWindowOf l.window d

-- the drawing of an area of the layout from the rows of a transfer
pub record IsDrawing (l : Layout) (rows : List (List Row)) (a : AreaOf) (d : Plan) : Type 0 where
  pub window : HasWindow (lines_in (slice_get l.tables a.lines)) d.window
  pub curves : d.curves ≡ area_curves l rows a
  pub points : d.points ≡ area_points l rows a

-- ---- permitted overlaps
-- an overlap in units as a drawing has it: none is 0, and so is one below 0; at most 2 ^ 20
abbrev pub permitted : Option ℤ → ℤ
permitted None = pos 0
permitted (Some (negsuc n)) = pos 0
permitted (Some (pos n)) = pos (min n (2 ^ 20))

-- the overlap that lines of these forms permit; a table of lines has one form of them
abbrev pub tolerance_by : List LineForm → ℤ
tolerance_by [] = pos 0
tolerance_by (l ∷ ls) = permitted l.overlap

-- the overlap that an AREA permits
abbrev pub area_tolerance : Layout → AreaOf → ℤ
area_tolerance l a = tolerance_by (lines_in (slice_get l.tables a.lines))

-- the drawings of all areas, in order
abbrev pub AreDrawings : Layout → List (List Row) → List Plan → Type 0
AreDrawings l rows ds = AllZip (IsDrawing l rows) l.areas ds

-- the drawing of the area of that number
abbrev pub IsDrawingAt : Layout → List (List Row) → ℕ → Plan → Type 0
IsDrawingAt l rows k d = (a : AreaOf) × (slice_get l.areas k ≡ Some a) × IsDrawing l rows a d
