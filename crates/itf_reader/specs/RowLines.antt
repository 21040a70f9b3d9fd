-- The lines of the rows of a table.
use Rattle.std.specs.Prelude.{ℕ, List, [], ◌∷◌, map}
use Rattle.std.specs.List.{All, flat_map}
use Rattle.std.specs.List.Sorted.{IsStrictlyIncreasing}
use Rattle.itf_reader.specs.Forms.{Vertex, Row}

-- the lines of vertices
abbrev pub vertex_lines : List Vertex → List ℕ
vertex_lines vs = map (λ v. v.line) vs

-- the line of a row, then those of the vertices of its strokes
abbrev pub row_lines : Row → List ℕ
row_lines r = r.line ∷ flat_map vertex_lines r.strokes

-- the lines of rows, one row after another
abbrev pub table_lines : List Row → List ℕ
table_lines rows = flat_map row_lines rows

-- in each table the lines rise: after that of a row come those of its vertices, and then the next
-- row's
abbrev pub LinesRise : List (List Row) → Type 0
LinesRise transfer = All (λ rows. IsStrictlyIncreasing (table_lines rows)) transfer
