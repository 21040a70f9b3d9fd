use Rattle.std.proofs.Common.{ap, ◌∙◌}
use Rattle.meetings.proofs.StraightLists.{more_lent, over_lent}
use Rattle.meetings.proofs.edges.straight_edges.Goals as goal
use Rattle.meetings.proofs.edges.straight_edges.Goals.{then-is_straight+in_ok-push+in_ok-push-2}
use Rattle.meetings.proofs.edges.straight_edges.Goals.{else-is_straight}

pub loop-number-preserved : goal.loop-number-preserved
loop-number-preserved c =
    let h = c.loop-number.invariant in
    elim c.if-is_straight.branch [
      | then-is_straight+in_ok-push+in_ok-push-2 w ↦
          more_lent c.deref-curve-items.result.now c.args.drawing.now.curves.items
          c.loop-number.number c.loop-number.edges.items c.loop-number.numbers.items
          w.edge_between.result c.if-is_straight.edges.items c.if-is_straight.numbers.items
          c.deref-curve-items.ensures.value h (ap (λ v. v.items) w.edges-is
          ∙ w.in_ok-push.ensures.items) (ap (λ v. v.items) w.numbers-is
          ∙ w.in_ok-push-2.ensures.items)
          (c.is_straight.ensures.0 w.if-is_straight.true) w.edge_between.ensures.sorted
          w.edge_between.ensures.ends
      | else-is_straight w ↦
          over_lent c.deref-curve-items.result.now c.args.drawing.now.curves.items
          c.loop-number.number c.loop-number.edges.items c.loop-number.numbers.items
          c.if-is_straight.edges.items c.if-is_straight.numbers.items c.is_straight.result
          c.deref-curve-items.ensures.value h (ap (λ v. v.items) w.edges-is)
          (ap (λ v. v.items) w.numbers-is) c.is_straight.ensures w.if-is_straight.false
    ]
