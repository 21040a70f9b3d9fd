use Rattle.std.proofs.Common.{◌≤◌}
use Rattle.straight_predicates.proofs.end_list.EndList.runs.Given as goal

abbrev pub invariant-loop-number : goal.invariant-loop-number
invariant-loop-number l = l.runs ≤ l.number-index
