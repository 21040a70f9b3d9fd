-- What is read of a row: what its words and vertices stand for.
use Rattle.std.specs.Prelude.{◌≡◌, ℕ, ℤ, Bool, true, false, IsTrue, IsFalse, ◌&&◌, if◌then◌else◌}
use Rattle.std.specs.Prelude.{List, [], ◌∷◌, ◌++◌, length, take, drop, map, Result, Ok, Err}
use Rattle.std.specs.List.{list_all, flat_map}
use Rattle.ili_grammar.specs.Syntax.{Codes}
use Rattle.resolver.specs.Resolved.{LineForm}
use Rattle.table_layout.specs.Layouts.{Column, Table}
use Rattle.field_values.specs.declared.value.ValueFault.{ValueFault}
use Rattle.field_values.specs.Fields.{is_undefined, width}
use Rattle.field_values.specs.Places.{place_view}
use Rattle.field_values.specs.Readings.{Value, Numbers, Bytes, column_reading}
use Rattle.field_values.specs.Views.{value_view}
use Rattle.itf_reader.specs.declared.rows.values.Cell.{Cell as CodeCell}
use Rattle.itf_reader.specs.declared.rows.values.Cell.TheVariants as cells
use Rattle.itf_reader.specs.declared.rows.values.ReadVertex.{ReadVertex}
use Rattle.itf_reader.specs.declared.rows.values.RowValues.{RowValues}
use Rattle.itf_reader.specs.Forms.{Vertex, Row}
use Rattle.itf_reader.specs.VertexLists.{kind_of}
use Rattle.itf_reader.specs.RowFindings.{is_counted}
use Rattle.itf_reader.specs.StrokeFindings.{Seen, seen, heights_of, is_clean}

-- ---- columns
-- a column: its value, without the bytes of a word that stands for itself; undefined, as an
-- optional one may be; or at fault
pub data Cell : Type 0 where
  Sound : Value → Cell
  Undefined Faulty : Cell

abbrev pub without_bytes : Value → Value
without_bytes (Numbers ns) = Numbers ns
without_bytes (Bytes word) = Bytes []

abbrev pub cell_by : Result Value ValueFault → Cell
cell_by (Ok value) = Sound (without_bytes value)
cell_by (Err fault) = Faulty

abbrev pub cell_of : Codes → Column → List (List ℕ) → Cell
cell_of codes c words =
    if c.optional && list_all (is_undefined codes) words
    then Undefined
    else cell_by (column_reading c.form codes words)

-- columns and their words
abbrev pub cells_of : Codes → List Column → List (List ℕ) → List Cell
cells_of codes [] words = []
cells_of codes (c ∷ cs) words =
    cell_of codes c (take (width c.form) words) ∷ cells_of codes cs (drop (width c.form) words)

-- ---- lines
-- the vertices of a line that are sound, and their heights
abbrev pub sound_vertex : LineForm → Vertex → List Seen
sound_vertex l v = if is_clean l v then seen l v ∷ [] else []

abbrev pub sound_vertices : LineForm → List Vertex → List Seen
sound_vertices l vs = flat_map (sound_vertex l) vs

abbrev pub sound_height : LineForm → Vertex → List ℤ
sound_height l v = if is_clean l v then heights_of l v else []

abbrev pub sound_heights : LineForm → List Vertex → List ℤ
sound_heights l vs = flat_map (sound_height l) vs

-- the lines of a row, one after the other
abbrev pub lines_vertices : List LineForm → List (List Vertex) → List Seen
lines_vertices [] ss = []
lines_vertices (l ∷ ls) [] = []
lines_vertices (l ∷ ls) (s ∷ ss) = sound_vertices l s ++ lines_vertices ls ss

abbrev pub lines_heights : List LineForm → List (List Vertex) → List ℤ
lines_heights [] ss = []
lines_heights (l ∷ ls) [] = []
lines_heights (l ∷ ls) (s ∷ ss) = sound_heights l s ++ lines_heights ls ss

-- ---- the code's values
abbrev pub cell_view : CodeCell → Cell
cell_view (cells.Sound value) = Sound (value_view [] value)
cell_view cells.Undefined = Undefined
cell_view cells.Faulty = Faulty

abbrev pub cells_view : List CodeCell → List Cell
cells_view cs = map cell_view cs

abbrev pub vertex_view : ReadVertex → Seen
vertex_view v = record { at = place_view v.at; line = v.line; kind = kind_of v.kind }

abbrev pub vertices_view : List ReadVertex → List Seen
vertices_view vs = map vertex_view vs

-- nothing was read
pub record AreNone (values : RowValues) : Type 0 where
  pub cells : cells_view values.cells.items ≡ []
  pub vertices : vertices_view values.vertices.items ≡ []
  pub heights : values.heights.items ≡ []

-- what was read are the values of a row
pub record AreRead (codes : Codes) (t : Table) (r : Row) (values : RowValues) : Type 0 where
  pub cells : cells_view values.cells.items ≡ cells_of codes t.columns (drop 1 r.fields)
  pub vertices : vertices_view values.vertices.items ≡ lines_vertices t.lines r.strokes
  pub heights : values.heights.items ≡ lines_heights t.lines r.strokes

-- nothing is read of a row with too few or too many words
abbrev pub Reads : Codes → Table → Row → RowValues → Type 0
Reads codes t r values =
    (IsTrue (is_counted t r) → AreRead codes t r values)
    × (IsFalse (is_counted t r) → AreNone values)
