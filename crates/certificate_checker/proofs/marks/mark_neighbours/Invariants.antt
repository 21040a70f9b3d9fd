use Rattle.std.proofs.Common.{drop}
use Rattle.plane.specs.Runs.Gaps.{gaps_between}
use Rattle.certificate_checker.specs.Marked.{HasNote, IsAtBorder, NamesAcross}
use Rattle.certificate_checker.proofs.Marking.{IsMarking}
use Rattle.certificate_checker.proofs.marks.mark_neighbours.Given as goal

abbrev pub invariant-loop-e : goal.invariant-loop-e
invariant-loop-e l = record {
  below : HasNote l.notes l.below;
  border : IsMarking IsAtBorder l.border
      (gaps_between 0 l.below (drop l.e-index l.starting) l.upper) l.initial.border
      (gaps_between 0 l.fn.lower l.starting l.upper);
  across : IsMarking (NamesAcross l.notes) l.across
      (gaps_between 0 l.below (drop l.e-index l.starting) l.upper) l.initial.across
      (gaps_between 0 l.fn.lower l.starting l.upper);
}
