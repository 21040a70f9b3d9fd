-- What is kept of the rows of a table that come one after another: what AREAs and SURFACEs are
-- drawn from.
use Rattle.std.specs.Prelude.{ℕ, ◌+◌, Bool, true, false, if◌then◌else◌, List, [], ◌∷◌}
use Rattle.std.specs.Prelude.{Option, Some, None}
use Rattle.std.specs.Option.{option_map}
use Rattle.ili_grammar.specs.Syntax.{Codes}
use Rattle.resolver.specs.Resolved.{Form, AreaPoint}
use Rattle.table_layout.specs.Layouts.{Role, Main, AreaLines, SurfaceLines, Column, Table}
use Rattle.itf_reader.specs.Forms.{Row}
use Rattle.itf_reader.specs.RowReadings.{Cell}
use Rattle.itf_reader.specs.StrokeFindings.{Seen}
use Rattle.area_drawings.specs.KeptLines.{Lines, lines_kept, with_line}
use Rattle.area_drawings.specs.KeptPoints.{PointColumn, points_kept, with_points}

-- the values of a form are the points of an area
abbrev pub is_area_point : Form → Bool
is_area_point (AreaPoint window) = true
is_area_point other = false

-- the numbers of the columns that are the points of areas; the first of these columns has that
-- number
abbrev pub area_columns : ℕ → List Column → List ℕ
area_columns n [] = []
area_columns n (c ∷ cs) =
    if is_area_point c.form then n ∷ area_columns (n + 1) cs else area_columns (n + 1) cs

-- the rows of a table of that role are lines of an AREA or of a SURFACE
abbrev pub are_lines : Role → Bool
are_lines Main = false
are_lines (AreaLines main column) = true
are_lines (SurfaceLines main) = true

-- what is kept of rows: if they are lines, these; and the points in some columns
pub record Kept : Type 0 where
  pub lines : Option Lines
  pub points : List PointColumn

-- of the rows of a table, with the points in the columns that are the points of areas
abbrev pub kept : Codes → Table → List Row → Kept
kept codes t rows = record {
  lines = if are_lines t.role then Some (lines_kept t rows) else None;
  points = points_kept codes t (area_columns 0 t.columns) rows;
}

-- with one more row, by its line, what its columns stand for, and its vertices
abbrev pub with_row : ℕ → List Cell → List Seen → Kept → Kept
with_row line cells vs k =
    record {
      lines = option_map (with_line vs) k.lines;
      points = with_points line cells k.points;
    }

-- the vertices that are kept; none where the rows are no lines
abbrev pub vertices_in : Option Lines → List Seen
vertices_in None = []
vertices_in (Some lines) = lines.vertices

-- how many vertices each row has; none where the rows are no lines
abbrev pub counts_in : Option Lines → List ℕ
counts_in None = []
counts_in (Some lines) = lines.counts
