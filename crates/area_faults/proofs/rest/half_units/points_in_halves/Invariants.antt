use Rattle.std.proofs.Common.{◌≡◌, take}
use Rattle.plane.specs.Rule.Plans.{plan}
use Rattle.area_faults.specs.RestFaces.{half_points}
use Rattle.area_faults.proofs.rest.half_units.points_in_halves.Given as goal

abbrev pub invariant-loop-number : goal.invariant-loop-number
invariant-loop-number l =
    l.points.items ≡ half_points (plan l.drawing) (take l.number-index l.numbers)
