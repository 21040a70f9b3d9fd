use Rattle.std.proofs.Common.{[], ap, ◌∙◌}
use Rattle.table_layout.specs.Layouts.{Table}
use Rattle.table_layout.specs.Values.{table_view}
use Rattle.area_drawings.specs.KeptViews.{points_of}
use Rattle.delivery.specs.LinkRows.{link_points, points_in}
use Rattle.delivery.proofs.KeptSteps.{one_table_more}
use Rattle.delivery.proofs.judging.linking.empty_points.Goals as goal

pub loop-table-preserved : goal.loop-table-preserved
loop-table-preserved c codes =
    ap points_in c.in_ok-push.ensures.items
    ∙ one_table_more points_of table_view (λ (t : Table). link_points codes t [])
    c.loop-table.points.items c.in_ok-link_columns.field-0 c.args.tables.now
    c.loop-table.table-index c.table-item.result c.loop-table-test.true c.table-item.is
    (c.in_ok-link_columns.ensures codes) (c.loop-table.invariant codes)
