-- What the code keeps of rows, without where it lies in memory.
use Rattle.std.specs.Prelude.{◌≡◌, List, map, Option}
use Rattle.std.specs.Borrow.{Bor}
use Rattle.std.specs.Option.{option_map}
use Rattle.itf_reader.specs.declared.rows.values.Cell.{Cell as CodeCell}
use Rattle.itf_reader.specs.RowReadings.{Cell, cell_view, vertices_view}
use Rattle.plane.specs.declared.drawing.Drawing.{Drawing}
use Rattle.area_drawings.specs.declared.kept_lines.KeptLines.{KeptLines}
use Rattle.area_drawings.specs.declared.kept_points.PointColumn.{PointColumn as CodeColumn}
use Rattle.area_drawings.specs.declared.kept_points.KeptPoints.{KeptPoints}
use Rattle.area_drawings.specs.declared.table_places.TablePlaces.{TablePlaces}
use Rattle.table_layout.specs.Layouts.{AreaOf, Layout}
use Rattle.area_drawings.specs.Drawings.{area_tolerance}
use Rattle.area_drawings.specs.KeptLines.{Lines}
use Rattle.area_drawings.specs.KeptPoints.{PointColumn}
use Rattle.area_drawings.specs.KeptRows.{Kept}

-- what a column stands for, where there is one
abbrev pub cell_there : Option (Bor CodeCell) → Option Cell
cell_there c = option_map (λ found. cell_view found.now) c

-- the lines that are kept
abbrev pub lines_of : KeptLines → Lines
lines_of k = record { vertices = vertices_view k.vertices.items; counts = k.counts.items }

-- a column by its number, and its points
abbrev pub column_view : CodeColumn → PointColumn
column_view c = record { number = c.number; points = c.points.items }

-- columns, each so
abbrev pub columns_view : List CodeColumn → List PointColumn
columns_view cs = map column_view cs

-- the columns that were asked for
abbrev pub points_of : KeptPoints → List PointColumn
points_of k = columns_view k.columns.items

-- what is kept of a table
abbrev pub kept_of : TablePlaces → Kept
kept_of k = record { lines = option_map lines_of k.lines; points = points_of k.points }

-- and of each of some tables
abbrev pub kept_in : List TablePlaces → List Kept
kept_in ks = map kept_of ks

-- the drawing permits the overlap of that area
abbrev pub HasTolerance : Layout → AreaOf → Drawing → Type 0
HasTolerance l a d = d.tolerance ≡ area_tolerance l a
