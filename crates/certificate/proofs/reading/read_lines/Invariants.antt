use Rattle.std.proofs.Common.{length}
use Rattle.certificate.specs.Views.{text_view}
use Rattle.certificate.specs.Feeding.{LeadsTo, IsLeft, IsPairedStage, stage_on}
use Rattle.certificate.proofs.reading.read_lines.Given as goal

abbrev pub invariant-loop-alloc : goal.invariant-loop-alloc
invariant-loop-alloc l = record {
  on : LeadsTo (stage_on l.fn.stage) (stage_on l.stage) (text_view l.fn.text) (text_view l.left);
  left : IsLeft (text_view l.fn.text) (text_view l.left);
  paired : IsPairedStage l.stage;
}

abbrev pub decreases-loop-alloc : goal.decreases-loop-alloc
decreases-loop-alloc l = length l.left.rest.now
