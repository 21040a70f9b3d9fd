use Rattle.std.proofs.Common.{ap, ◌∙◌}
use Rattle.area_faults.proofs.Unmarked.{one_more, passed_over, refuted_mark}
use Rattle.area_faults.proofs.marks.unmarked_edges.Goals as goal
use Rattle.area_faults.proofs.marks.unmarked_edges.Goals.{then-is_unmarked+in_ok-push+in_ok-push-2}
use Rattle.area_faults.proofs.marks.unmarked_edges.Goals.{else-is_unmarked}

pub loop-number-preserved : goal.loop-number-preserved
loop-number-preserved c =
    let l = c.loop-number in
    let a = c.args.curves.now in
    let m = c.args.marks.now in
    elim c.if-is_unmarked.branch [
      | then-is_unmarked+in_ok-push+in_ok-push-2 w ↦
          one_more a m l.number l.edges.items l.numbers.items l.invariant w.edge_between.result
          c.if-is_unmarked.edges.items c.if-is_unmarked.numbers.items
          (ap (λ v. v.items) w.edges-is ∙ w.in_ok-push.ensures.items)
          (ap (λ v. v.items) w.numbers-is ∙ w.in_ok-push-2.ensures.items)
          w.edge_between.ensures.sorted w.edge_between.ensures.ends
      | else-is_unmarked w ↦
          passed_over a m l.number l.edges.items l.numbers.items l.invariant
          (refuted_mark m l.number c.is_unmarked.result c.is_unmarked.ensures
          w.if-is_unmarked.false) c.if-is_unmarked.edges.items c.if-is_unmarked.numbers.items
          (ap (λ v. v.items) w.edges-is) (ap (λ v. v.items) w.numbers-is)
    ]
