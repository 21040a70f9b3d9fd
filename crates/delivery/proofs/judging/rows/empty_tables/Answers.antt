use Rattle.std.proofs.Common.{[], ap, ◌∙◌}
use Rattle.table_layout.specs.Layouts.{Table}
use Rattle.table_layout.specs.Values.{table_view}
use Rattle.itf_reader.specs.Few.{HasFew}
use Rattle.ident_refs.proofs.AllMapped.{all_mapped}
use Rattle.delivery.specs.KeptRows.{rows_found}
use Rattle.delivery.specs.KeptViews.{found_of, found_in}
use Rattle.delivery.proofs.KeptSteps.{one_table_more}
use Rattle.delivery.proofs.judging.rows.empty_tables.Goals as goal

pub new-requires : goal.new-requires
new-requires c =
    all_mapped HasFew table_view c.args.tables.now c.loop-table.table-index c.table-item.result
    c.requires c.loop-table-test.true c.table-item.is

pub loop-table-preserved : goal.loop-table-preserved
loop-table-preserved c codes =
    ap found_in c.in_ok-push.ensures.items
    ∙ one_table_more found_of table_view
    (λ (t : Table). rows_found codes t []) c.loop-table.found.items c.in_ok-new.field-0
    c.args.tables.now c.loop-table.table-index c.table-item.result
    c.loop-table-test.true c.table-item.is (c.in_ok-new.ensures codes)
    (c.loop-table.invariant codes)
