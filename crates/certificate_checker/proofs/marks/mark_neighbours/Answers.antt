use Rattle.certificate_checker.specs.Marked.{IsAtBorder, NamesAcross}
use Rattle.certificate_checker.proofs.ListParts.{one_note}
use Rattle.certificate_checker.proofs.Marking.{marking_last, marking_step}
use Rattle.certificate_checker.proofs.marks.mark_neighbours.Goals as goal

pub loop-e-preserved : goal.loop-e-preserved
loop-e-preserved c = record {
  below = one_note c.args.notes.now _ (c.requires.starting c.loop-e.e-index c.loop-e-test.true);
  border = marking_step IsAtBorder c.loop-e.border c.mark_border.new.border c.args.border.now
      c.loop-e.below c.args.starting.now c.loop-e.e-index c.args.upper _ c.loop-e-test.true
      c.mark_border.ensures c.loop-e.invariant.border;
  across = marking_step (NamesAcross c.args.notes.now) c.loop-e.across c.mark_across.new.across
      c.args.across.now c.loop-e.below c.args.starting.now c.loop-e.e-index c.args.upper _
      c.loop-e-test.true c.mark_across.ensures c.loop-e.invariant.across;
}

pub returns-clause-border : goal.returns-clause-border
returns-clause-border c =
    marking_last IsAtBorder c.loop-e.border c.mark_border-2.new.border c.args.border.now
    c.loop-e.below c.args.starting.now c.loop-e.e-index c.args.upper _ c.loop-e-test.false
    c.mark_border-2.ensures c.loop-e.invariant.border

pub returns-clause-across : goal.returns-clause-across
returns-clause-across c =
    marking_last (NamesAcross c.args.notes.now) c.loop-e.across c.mark_across-2.new.across
    c.args.across.now c.loop-e.below c.args.starting.now c.loop-e.e-index c.args.upper _
    c.loop-e-test.false c.mark_across-2.ensures c.loop-e.invariant.across
