use Rattle.fault_lists.specs.FaceLists.{IsEmptyFace}
use Rattle.fault_lists.specs.Telling.{AreMarks}
use Rattle.fault_lists.proofs.sides.empty_faces.Given as goal

abbrev pub invariant-loop-face : goal.invariant-loop-face
invariant-loop-face l = AreMarks l.face (IsEmptyFace l.faces) l.marks.items
