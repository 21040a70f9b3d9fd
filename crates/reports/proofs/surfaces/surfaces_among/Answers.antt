use Rattle.reports.specs.SurfaceViews.{surfaces_view}
use Rattle.reports.proofs.SurfaceSteps.{table_more}
use Rattle.reports.proofs.surfaces.surfaces_among.Goals as goal

pub loop-number-preserved : goal.loop-number-preserved
loop-number-preserved c =
    table_more c.args.tables.now c.loop-number.number c.index-tables-number.result
    (surfaces_view c.loop-number.surfaces.items) _ _ c.loop-number-test.true
    c.index-tables-number.is c.in_ok-add_surface.ensures c.loop-number.invariant
