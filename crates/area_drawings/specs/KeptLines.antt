-- What is kept of the lines of rows: their vertices.
use Rattle.std.specs.Prelude.{ℕ, if◌then◌else◌, List, [], ◌∷◌, ◌++◌, length, map}
use Rattle.std.specs.List.{flat_map}
use Rattle.table_layout.specs.Layouts.{Table}
use Rattle.itf_reader.specs.Forms.{Row}
use Rattle.itf_reader.specs.RowFindings.{is_counted}
use Rattle.itf_reader.specs.RowReadings.{lines_vertices}
use Rattle.itf_reader.specs.StrokeFindings.{Seen}

-- the vertices of the lines of a row that are sound; none where it has too few or too many words
abbrev pub row_vertices : Table → Row → List Seen
row_vertices t r = if is_counted t r then lines_vertices t.lines r.strokes else []

-- how many these are
abbrev pub vertex_count : Table → Row → ℕ
vertex_count t r = length (row_vertices t r)

-- vertices, one row after another, and how many each row has
pub record Lines : Type 0 where
  pub vertices : List Seen
  pub counts : List ℕ

-- those of the rows of a table
abbrev pub lines_kept : Table → List Row → Lines
lines_kept t rows =
    record { vertices = flat_map (row_vertices t) rows; counts = map (vertex_count t) rows }

-- with those of one more row
abbrev pub with_line : List Seen → Lines → Lines
with_line vs k = record { vertices = k.vertices ++ vs; counts = k.counts ++ length vs ∷ [] }
