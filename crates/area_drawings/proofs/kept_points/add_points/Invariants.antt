use Rattle.std.proofs.Common.{◌≡◌, ◌++◌, map, take, drop, length}
use Rattle.itf_reader.specs.RowReadings.{cells_view}
use Rattle.area_drawings.specs.KeptPoints.{with_point}
use Rattle.area_drawings.specs.KeptViews.{columns_view}
use Rattle.area_drawings.proofs.kept_points.add_points.Given as goal

abbrev pub invariant-loop-place : goal.invariant-loop-place
invariant-loop-place l = record {
  count : length l.columns ≡ length l.fn.columns;
  done :
      columns_view l.columns
      ≡ map (with_point l.line (cells_view l.cells)) (take l.place (columns_view l.fn.columns))
      ++ drop l.place (columns_view l.fn.columns);
}
