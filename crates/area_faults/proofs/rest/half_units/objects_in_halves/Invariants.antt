use Rattle.std.proofs.Common.{◌≡◌, map, take}
use Rattle.plane.specs.Rule.Doubled.{twice}
use Rattle.plane.specs.Rule.Plans.{plan}
use Rattle.area_faults.proofs.rest.half_units.objects_in_halves.Given as goal

abbrev pub invariant-loop-point : goal.invariant-loop-point
invariant-loop-point l =
    l.points.items ≡ map (λ p. twice p.at) (take l.point-index (plan l.drawing).points)
