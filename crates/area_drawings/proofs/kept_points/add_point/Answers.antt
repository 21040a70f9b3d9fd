use Rattle.std.proofs.Common.{ap, ◌∙◌}
use Rattle.itf_reader.specs.RowReadings.{cells_view}
use Rattle.area_drawings.specs.KeptPoints.{cell_points}
use Rattle.area_drawings.specs.KeptViews.{column_view}
use Rattle.area_drawings.proofs.RowSteps.{no_point}
use Rattle.area_drawings.proofs.kept_points.add_point.Goals as goal

pub returns-in-None : goal.returns-in-None
returns-in-None c =
    no_point c.args.line (cells_view c.args.cells.now) (column_view c.args.column.now)
    (c.in-None.ensures ∙ ap (cell_points c.args.line) c.cell_at.ensures)
