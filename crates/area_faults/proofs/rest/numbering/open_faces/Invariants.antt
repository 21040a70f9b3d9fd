use Rattle.area_faults.specs.RestFaces.{AreOpenTo}
use Rattle.area_faults.proofs.rest.numbering.open_faces.Given as goal

abbrev pub invariant-loop-number : goal.invariant-loop-number
invariant-loop-number l =
    AreOpenTo l.labelled.mesh.face l.labelled.count l.places l.first l.number l.marks.items
