use Rattle.std.proofs.Common.{sym, ◌∙◌, ◌+◌, drop}
use Rattle.table_layout.specs.Values.{area_view, areas_view}
use Rattle.area_drawings.specs.KeptDrawings.{has_kept_large, is_kept_large}
use Rattle.delivery.specs.KeptRows.{transfer_so_far}
use Rattle.area_drawings.specs.KeptViews.{kept_in}
use Rattle.delivery.proofs.JudgingSteps.{large_step, large_found, large_not}
use Rattle.delivery.proofs.judging.closing.has_too_large.Goals as goal

pub returns-then-is_too_large : goal.returns-then-is_too_large
returns-then-is_too_large c l rows h =
    let ks = kept_in c.args.kept.now.places.items in
    let t = transfer_so_far l rows in
    sym (large_found (is_kept_large ks t (area_view c.area-item.result)) _
    (has_kept_large ks t (areas_view c.args.areas.now))
    (sym (c.is_too_large.ensures l rows h) ∙ c.if-is_too_large.true)
    (sym (c.loop-area.invariant l rows h)
    ∙ large_step ks t c.loop-area.area-index c.args.areas.now c.area-item.result
    c.loop-area-test.true c.area-item.is))

pub loop-area-preserved : goal.loop-area-preserved
loop-area-preserved c l rows h =
    let ks = kept_in c.args.kept.now.places.items in
    let t = transfer_so_far l rows in
    large_not (is_kept_large ks t (area_view c.area-item.result))
    (has_kept_large ks t (drop (c.loop-area.area-index + 1) (areas_view c.args.areas.now)))
    (has_kept_large ks t (areas_view c.args.areas.now))
    (sym (c.is_too_large.ensures l rows h) ∙ c.if-is_too_large.false)
    (sym (c.loop-area.invariant l rows h)
    ∙ large_step ks t c.loop-area.area-index c.args.areas.now c.area-item.result
    c.loop-area-test.true c.area-item.is)
