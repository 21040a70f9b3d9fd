use Rattle.fault_lists.specs.FaceLists.{IsOutside}
use Rattle.fault_lists.proofs.Walks.{HasBelow}
use Rattle.fault_lists.proofs.telling.points_outside.Given as goal

abbrev pub invariant-loop-number : goal.invariant-loop-number
invariant-loop-number l = HasBelow (IsOutside l.faces) (λ j. j) l.number l.points.items
