use Rattle.std.proofs.Common.{◌+◌, ap, sym, ◌∙◌, subst}
use Rattle.area_search.specs.Unsettled.CurvePoints.{AreMarkedTo}
use Rattle.area_search.proofs.UnsettledLemmas.MarkedNumbers.{number_more, number_passed, refuted}
use Rattle.area_search.proofs.numbers.numbers_with.Goals as goal
use Rattle.area_search.proofs.numbers.numbers_with.Goals.{then-is_marked+in_ok-push, else-is_marked}

pub loop-number-preserved : goal.loop-number-preserved
loop-number-preserved c =
    let l = c.loop-number in
    elim c.if-is_marked.branch [
      | then-is_marked+in_ok-push w ↦ number_more c.args.marks.now c.args.mark l.number
          l.numbers.items l.invariant c.if-is_marked.numbers.items (ap (λ v. v.items) w.numbers-is
          ∙ w.in_ok-push.ensures.items) (c.is_marked.ensures.0 w.if-is_marked.true)
      | else-is_marked w ↦ subst (AreMarkedTo c.args.marks.now c.args.mark (l.number + 1))
          (sym (ap (λ v. v.items) w.numbers-is))
          (number_passed c.args.marks.now c.args.mark l.number l.numbers.items l.invariant
          (refuted _ c.is_marked.result c.is_marked.ensures w.if-is_marked.false))
    ]
