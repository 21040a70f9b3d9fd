use Rattle.std.proofs.Common.{rules}
use Rattle.itf_reader.specs.RowReadings.{cells_view}
use Rattle.area_drawings.specs.KeptPoints.{with_points}
use Rattle.area_drawings.specs.KeptViews.{points_of}
use Rattle.delivery.proofs.KeptSteps.{changed_set, changed_beyond, on_ok}
use Rattle.delivery.proofs.judging.rows.keep_points.Goals as goal

pub returns-then-points-place : goal.returns-then-points-place
returns-then-points-place c =
    changed_beyond points_of (with_points c.args.line (cells_view c.args.cells.now))
    c.args.points.now c.args.place (search rules)

pub returns : goal.returns
returns c =
    on_ok c.add.result
    (λ k. changed_set points_of (with_points c.args.line (cells_view c.args.cells.now))
    c.args.points.now c.args.place c.index-points-place.result c.add.new.self (search rules) k)
    c.add.ensures
