use Rattle.std.proofs.Common.{List, get_or, subst}
use Rattle.std.specs.List.{AllZip}
use Rattle.table_layout.specs.Values.{layout_view}
use Rattle.area_drawings.proofs.Zips.{seen_more}
use Rattle.reports.specs.Surfaces.{SurfaceOf, surfaces}
use Rattle.reports.specs.SurfaceViews.{surface_view}
use Rattle.delivery.specs.KeptRows.{transfer_so_far}
use Rattle.delivery.specs.Surfaces.{IsSurfaceAnswer}
use Rattle.delivery.proofs.SurfaceSteps.{all_taken, same_there, surface_there}
use Rattle.delivery.proofs.surfaces.surface_answers.Goals as goal

pub surface_answer-requires-clause-surface : goal.surface_answer-requires-clause-surface
surface_answer-requires-clause-surface c =
    surface_there c.args.some.now c.loop-surface.surface-index _
    (surfaces (layout_view c.args.layout.now)) c.loop-surface-test.true c.requires.surfaces

pub loop-surface-preserved : goal.loop-surface-preserved
loop-surface-preserved c rows k =
    let l = layout_view c.args.layout.now in
    let i = c.loop-surface.surface-index in
    seen_more surface_view (IsSurfaceAnswer l (transfer_so_far l rows)) c.args.some.now i
    (get_or c.args.some.now i _) c.loop-surface-test.true
    (same_there c.args.some.now i _ _ c.loop-surface-test.true)
    c.loop-surface.answers.items c.push.new.self.items c.in_ok-surface_answer.field-0
    c.in_ok-push.ensures.items (c.loop-surface.invariant rows k)
    (c.in_ok-surface_answer.ensures rows k)

pub returns : goal.returns
returns c rows k =
    let l = layout_view c.args.layout.now in
    subst (λ (ss : List SurfaceOf). AllZip (IsSurfaceAnswer l (transfer_so_far l rows)) ss
    c.loop-surface.answers.items)
    (all_taken c.args.some.now c.loop-surface.surface-index (surfaces l)
    c.loop-surface-test.false c.requires.surfaces) (c.loop-surface.invariant rows k)
