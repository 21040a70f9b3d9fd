use Rattle.std.proofs.Common.{◌≡◌, take}
use Rattle.plane.specs.Rule.Plans.{plan}
use Rattle.area_faults.specs.RestFaces.{half_edges}
use Rattle.area_faults.proofs.rest.half_units.edges_in_halves.Given as goal

abbrev pub invariant-loop-number : goal.invariant-loop-number
invariant-loop-number l =
    l.edges.items ≡ half_edges (plan l.drawing) (take l.number-index l.numbers)
