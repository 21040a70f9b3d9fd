use Rattle.std.proofs.Common.{◌≡◌, ◌++◌}
use Rattle.area_search.specs.Settled.CaseRoots.{roots_to, tube_roots}
use Rattle.area_search.proofs.settled.case_roots.add_tubes.Given as goal

abbrev pub invariant-loop-edge : goal.invariant-loop-edge
invariant-loop-edge l =
    l.roots.items ≡ l.fn.roots.items ++ roots_to (tube_roots l.facings l.owners l.chains) l.edge
