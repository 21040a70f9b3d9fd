use Rattle.fault_lists.specs.FaceLists.{HasOneFace}
use Rattle.fault_lists.proofs.Walks.{HasBelow}
use Rattle.fault_lists.proofs.telling.cuts.Given as goal

abbrev pub invariant-loop-number : goal.invariant-loop-number
invariant-loop-number l = HasBelow (HasOneFace l.faces) (λ i. i) l.number l.curves.items
