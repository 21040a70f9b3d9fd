use Rattle.std.proofs.Common.{◌≡◌, ◌++◌, take}
use Rattle.std.specs.List.{flat_map}
use Rattle.area_search.specs.Settled.CaseRoots.{spot_roots}
use Rattle.area_search.proofs.settled.case_roots.add_spots.Given as goal

abbrev pub invariant-loop-spot : goal.invariant-loop-spot
invariant-loop-spot l =
    l.roots.items ≡ l.fn.roots.items ++ flat_map spot_roots (take l.spot-index l.spots)
