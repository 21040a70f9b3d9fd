use Rattle.std.proofs.Common.{sym, ap, ◌∙◌}
use Rattle.area_drawings.specs.KeptViews.{points_of}
use Rattle.delivery.proofs.LinkColumns.{asked_step, passed_step}
use Rattle.delivery.proofs.judging.linking.point_columns.Goals as goal
use Rattle.delivery.proofs.judging.linking.point_columns.Goals.{then-is_point+in_ok-ask}
use Rattle.delivery.proofs.judging.linking.point_columns.Goals.{else-is_point}

pub loop-number-preserved : goal.loop-number-preserved
loop-number-preserved c codes t =
    let n = c.loop-number.number in
    let cs = c.args.columns.now in
    let x = c.index-columns-number.result in
    let now = points_of c.if-is_point.kept in
    let before = points_of c.loop-number.kept in
    let i = c.loop-number.invariant codes t in
    elim c.if-is_point.branch [
      | then-is_point+in_ok-ask w ↦ asked_step codes t n cs x before now c.loop-number-test.true
          c.index-columns-number.is i (sym c.is_point.ensures ∙ w.if-is_point.true)
          (ap points_of w.kept-is ∙ w.in_ok-ask.ensures)
      | else-is_point w ↦ ap points_of w.kept-is ∙ passed_step codes t n cs x before
          c.loop-number-test.true c.index-columns-number.is i
          (sym c.is_point.ensures ∙ w.if-is_point.false)
    ]
