-- What is kept of the columns of rows: points.
use Rattle.std.specs.Prelude.{ℕ, if◌then◌else◌, nat_eq, List, [], ◌∷◌, ◌++◌, drop, map, Option}
use Rattle.std.specs.Prelude.{Some, slice_get}
use Rattle.std.specs.List.{flat_map}
use Rattle.ili_grammar.specs.Syntax.{Codes}
use Rattle.table_layout.specs.Layouts.{Table}
use Rattle.field_values.specs.Readings.{Numbers}
use Rattle.itf_reader.specs.Forms.{Row}
use Rattle.itf_reader.specs.RowFindings.{is_counted}
use Rattle.itf_reader.specs.RowReadings.{Cell, Sound, cells_of}
use Rattle.plane.specs.declared.kinds.Placed.{Placed}
use Rattle.area_drawings.specs.Drawings.{placed}

-- what the columns of a row stand for; nothing where it has too few or too many words
abbrev pub row_cells : Codes → Table → Row → List Cell
row_cells codes t r = if is_counted t r then cells_of codes t.columns (drop 1 r.fields) else []

-- a column of two numbers is a point, by the line of its object; any other is none
abbrev pub cell_points : ℕ → Option Cell → List Placed
cell_points line (Some (Sound (Numbers (x ∷ y ∷ [])))) = placed line (record { x = x; y = y }) ∷ []
cell_points line other = []

-- the point in the column of that number
abbrev pub row_points : Codes → Table → ℕ → Row → List Placed
row_points codes t n r = cell_points r.line (slice_get (row_cells codes t r) n)

-- a column by its number, and the points of rows in it
pub record PointColumn : Type 0 where
  pub number : ℕ
  pub points : List Placed

-- the points of the rows of a table in the column of that number
abbrev pub point_column : Codes → Table → List Row → ℕ → PointColumn
point_column codes t rows n = record { number = n; points = flat_map (row_points codes t n) rows }

-- the points of the rows of a table, in the columns of these numbers
abbrev pub points_kept : Codes → Table → List ℕ → List Row → List PointColumn
points_kept codes t numbers rows = map (point_column codes t rows) numbers

-- a column with the point of one more row, by its line and what its columns stand for
abbrev pub with_point : ℕ → List Cell → PointColumn → PointColumn
with_point line cells c = record {
  number = c.number;
  points = c.points ++ cell_points line (slice_get cells c.number);
}

-- all columns with the points of one more row
abbrev pub with_points : ℕ → List Cell → List PointColumn → List PointColumn
with_points line cells cs = map (with_point line cells) cs

-- the points in the column of that number, none where it is not among these
abbrev pub points_in_column : ℕ → List PointColumn → List Placed
points_in_column n [] = []
points_in_column n (c ∷ cs) = if nat_eq c.number n then c.points else points_in_column n cs
