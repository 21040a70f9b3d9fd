use Rattle.fault_lists.specs.FaceLists.{IsBroken}
use Rattle.fault_lists.specs.Telling.{AreMarks}
use Rattle.fault_lists.proofs.sides.open_faces.Given as goal

abbrev pub invariant-loop-face : goal.invariant-loop-face
invariant-loop-face l = AreMarks l.face (IsBroken l.faces) l.marks.items
