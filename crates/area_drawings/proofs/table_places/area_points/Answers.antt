use Rattle.std.proofs.Common.{sym, ap, ◌∙◌}
use Rattle.area_drawings.specs.KeptViews.{points_of}
use Rattle.area_drawings.proofs.RowSteps.{asked_step, passed_step}
use Rattle.area_drawings.proofs.table_places.area_points.Goals as goal
use Rattle.area_drawings.proofs.table_places.area_points.Goals.{then-is_area_point+in_ok-ask}
use Rattle.area_drawings.proofs.table_places.area_points.Goals.{else-is_area_point}

pub loop-number-preserved : goal.loop-number-preserved
loop-number-preserved c codes t =
    let n = c.loop-number.number in
    let cs = c.args.columns.now in
    let x = c.index-columns-number.result in
    let now = points_of c.if-is_area_point.kept in
    let before = points_of c.loop-number.kept in
    let i = c.loop-number.invariant codes t in
    elim c.if-is_area_point.branch [
      | then-is_area_point+in_ok-ask w ↦ asked_step codes t n cs x before now
          c.loop-number-test.true
          c.index-columns-number.is i (sym c.is_area_point.ensures ∙ w.if-is_area_point.true)
          (ap points_of w.kept-is ∙ w.in_ok-ask.ensures)
      | else-is_area_point w ↦ ap points_of w.kept-is ∙ passed_step codes t n cs x before
          c.loop-number-test.true c.index-columns-number.is i
          (sym c.is_area_point.ensures ∙ w.if-is_area_point.false)
    ]
