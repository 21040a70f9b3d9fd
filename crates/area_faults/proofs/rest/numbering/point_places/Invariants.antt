use Rattle.std.proofs.Common.{◌≡◌, map, take}
use Rattle.area_faults.specs.RestFaces.{point_place}
use Rattle.area_faults.proofs.rest.numbering.point_places.Given as goal

abbrev pub invariant-loop-number : goal.invariant-loop-number
invariant-loop-number l =
    l.points.items ≡ map (point_place l.mesh.face l.kept) (take l.number l.places)
