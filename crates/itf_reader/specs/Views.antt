-- Rows of the code, without where they lie in memory.
use Rattle.std.specs.Prelude.{List, [], ◌++◌, map, replicate}
use Rattle.itf_reader.specs.declared.vertices.Vertex.{Vertex as CodeVertex}
use Rattle.itf_reader.specs.declared.vertices.VertexSlice.{VertexSlice}
use Rattle.itf_reader.specs.declared.transfer.Stroke.{Stroke as CodeStroke}
use Rattle.itf_reader.specs.declared.transfer.Strokes.{Strokes as CodeStrokes}
use Rattle.itf_reader.specs.declared.transfer.Row.{Row as CodeRow}
use Rattle.itf_reader.specs.declared.transfer.TableRows.{TableRows as CodeTableRows}
use Rattle.itf_reader.specs.declared.transfer.Transfer.{Transfer}
use Rattle.itf_reader.specs.Forms.{Vertex, Row}
use Rattle.itf_reader.specs.VertexLists.{kind_of, with_fields}

abbrev pub vertex_of : CodeVertex → Vertex
vertex_of v = record { line = v.line; kind = kind_of v.kind; fields = v.fields.now }

-- vertices that are lent
abbrev pub slice_of : VertexSlice → List Vertex
slice_of s = with_fields s.heads.now s.fields.now

abbrev pub stroke_of : CodeStroke → List Vertex
stroke_of s = s.vertices

abbrev pub strokes_of : List CodeStroke → List (List Vertex)
strokes_of ss = map stroke_of ss

-- those that are left out are undefined
abbrev pub all_strokes : CodeStrokes → List (List Vertex)
all_strokes s = strokes_of s.given.items ++ replicate s.left_out []

abbrev pub row_of : CodeRow → Row
row_of r = record { line = r.line; fields = r.fields.items; strokes = all_strokes r.strokes }

abbrev pub rows_of : List CodeRow → List Row
rows_of rows = map row_of rows

abbrev pub table_rows_of : CodeTableRows → List Row
table_rows_of t = rows_of t.rows.items

abbrev pub tables_rows_of : List CodeTableRows → List (List Row)
tables_rows_of ts = map table_rows_of ts

-- the rows of each table
abbrev pub transfer_of : Transfer → List (List Row)
transfer_of t = tables_rows_of t.tables.items
