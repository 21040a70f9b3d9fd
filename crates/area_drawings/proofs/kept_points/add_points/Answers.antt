use Rattle.std.proofs.Common.{sym, arith}
use Rattle.std.proofs.lemmas.Bool.{eqb-true}
use Rattle.itf_reader.specs.RowReadings.{cells_view}
use Rattle.area_drawings.specs.KeptPoints.{with_point}
use Rattle.area_drawings.specs.KeptViews.{columns_view}
use Rattle.area_drawings.proofs.RowSteps.{none_read, points_step, still_counted}
use Rattle.area_drawings.proofs.kept_points.add_points.Goals as goal

pub returns-then-is_empty : goal.returns-then-is_empty
returns-then-is_empty c =
    none_read c.args.line c.args.cells.now (columns_view c.args.columns.now)
    (eqb-true _ _ (sym c.if-is_empty.ensures))

pub loop-place-preserved : goal.loop-place-preserved
loop-place-preserved c =
    let i = c.loop-place.invariant in
    record {
      count = still_counted c.loop-place.columns c.loop-place.place _ c.add_point.new.column
          i.count;
      done =
          points_step (with_point c.args.line (cells_view c.args.cells.now)) c.loop-place.place
          c.loop-place.columns c.args.columns.now c.index-columns-place.result
          c.add_point.new.column (omega (arith, c.loop-place-test.true, i.count))
          c.in_ok-add_point.ensures i.done;
    }
