use Rattle.ident_refs.proofs.FeedSteps.{rows_step}
use Rattle.ident_refs.proofs.feed.add_rows.Goals as goal

pub loop-row-preserved : goal.loop-row-preserved
loop-row-preserved c =
    rows_step c.args.place c.loop-row.row-index c.args.rows.now c.row-item.result _ _ _
    c.loop-row-test.true c.row-item.is c.in_ok-add_at.ensures c.loop-row.invariant
