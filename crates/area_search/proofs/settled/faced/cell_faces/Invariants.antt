use Rattle.std.proofs.Common.{◌≡◌, take, map}
use Rattle.area_search.specs.Faced.{cell_face}
use Rattle.area_search.proofs.settled.faced.cell_faces.Given as goal

abbrev pub invariant-loop-point : goal.invariant-loop-point
invariant-loop-point l = l.faces.items ≡ map (cell_face l.mesh.face) (take l.point l.spots)
