use Rattle.std.proofs.Common.{◌≡◌, ◌++◌}
use Rattle.std.specs.Iterator.Adapters.{zip_first, zip_second}
use Rattle.std.specs.Slice.Iter.{iter_rest}
use Rattle.reports.specs.AreaKinds.{plans}
use Rattle.reports.specs.Outcomes.{proof_answers}
use Rattle.reports.proofs.outcome.proof_answers.Given as goal

abbrev pub invariant-loop-drawing : goal.invariant-loop-drawing
invariant-loop-drawing l = record {
  can_next : (goal.iterator-loop-drawing).can_next l.drawing-iterator;
  is_finite : (goal.iterator-loop-drawing).is_finite l.drawing-iterator;
  whole : l.answers.items ++ proof_answers (plans (iter_rest (zip_first l.drawing-iterator)))
      (iter_rest (zip_second l.drawing-iterator)) ≡ proof_answers (plans l.drawings) l.levels;
}
