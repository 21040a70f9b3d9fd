use Rattle.std.proofs.Common.{◌≡◌, drop}
use Rattle.area_drawings.specs.KeptPoints.{points_in_column}
use Rattle.area_drawings.specs.KeptViews.{columns_view, points_of}
use Rattle.area_drawings.proofs.kept_points.KeptPoints.column.Given as goal

-- none of the columns so far has that number
abbrev pub invariant-loop-column : goal.invariant-loop-column
invariant-loop-column l =
    points_in_column l.number (columns_view (drop l.column-index l.self.columns.items))
    ≡ points_in_column l.number (points_of l.self)
