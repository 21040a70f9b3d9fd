use Rattle.area_faults.specs.RestFaces.{AreCurveFacesTo}
use Rattle.area_faults.proofs.rest.numbering.curve_faces.Given as goal

abbrev pub invariant-loop-edge : goal.invariant-loop-edge
invariant-loop-edge l = AreCurveFacesTo l.curves l.kept l.mesh.face l.edge l.faces.items
