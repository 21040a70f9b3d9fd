use Rattle.std.proofs.Common.{[], ap, ◌∙◌}
use Rattle.table_layout.specs.Layouts.{Table}
use Rattle.table_layout.specs.Values.{table_view}
use Rattle.area_drawings.specs.KeptRows.{kept}
use Rattle.area_drawings.specs.KeptViews.{kept_of, kept_in}
use Rattle.delivery.proofs.KeptSteps.{one_table_more}
use Rattle.delivery.proofs.judging.rows.empty_places.Goals as goal

pub loop-table-preserved : goal.loop-table-preserved
loop-table-preserved c codes =
    ap kept_in c.in_ok-push.ensures.items
    ∙ one_table_more kept_of table_view
    (λ (t : Table). kept codes t []) c.loop-table.places.items c.in_ok-new.field-0
    c.args.tables.now c.loop-table.table-index c.table-item.result
    c.loop-table-test.true c.table-item.is (c.in_ok-new.ensures codes)
    (c.loop-table.invariant codes)
