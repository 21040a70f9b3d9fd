use Rattle.fault_lists.proofs.Points.{AreFirstTo}
use Rattle.fault_lists.proofs.telling.first_points.Given as goal

abbrev pub invariant-loop-number : goal.invariant-loop-number
invariant-loop-number l = AreFirstTo l.faces l.number l.first.items
