use Rattle.fault_lists.proofs.Walks.{HasBelow}
use Rattle.fault_lists.specs.declared.kinds.OnAt.{OnAt}
use Rattle.area_faults.specs.PointLists.{IsChosen}
use Rattle.area_faults.proofs.point_list.joined.Given as goal

abbrev pub invariant-loop-number : goal.invariant-loop-number
invariant-loop-number l =
    HasBelow (IsChosen l.places l.least) (λ (o : OnAt). o.point) l.number l.ons.items
