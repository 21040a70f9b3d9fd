use Rattle.fault_lists.specs.FaceLists.{ArePair}
use Rattle.fault_lists.proofs.Walks.{HasBelow}
use Rattle.fault_lists.proofs.telling.points_shared.Given as goal

abbrev pub invariant-loop-number : goal.invariant-loop-number
invariant-loop-number l = HasBelow (ArePair l.faces) (λ p. p.second) l.number l.pairs.items
