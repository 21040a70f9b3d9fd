use Rattle.std.proofs.Common.{◌≡◌, ◌++◌}
use Rattle.std.specs.Iterator.Adapters.{zip_first, zip_second}
use Rattle.std.specs.Slice.Iter.{iter_rest}
use Rattle.certificate.specs.Spelling.{views}
use Rattle.reports.specs.LineViews.{lines_of}
use Rattle.reports.specs.Outcomes.{size_lines}
use Rattle.reports.proofs.outcome.size_lines.Given as goal

abbrev pub invariant-loop-answer : goal.invariant-loop-answer
invariant-loop-answer l = record {
  can_next : (goal.iterator-loop-answer).can_next l.answer-iterator;
  is_finite : (goal.iterator-loop-answer).is_finite l.answer-iterator;
  whole : lines_of l.lines.items ++ size_lines l.size (iter_rest (zip_first l.answer-iterator))
      (views (iter_rest (zip_second l.answer-iterator)))
      ≡ size_lines l.size l.answers (views l.certificates);
}
