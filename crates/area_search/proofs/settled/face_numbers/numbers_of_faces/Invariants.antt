use Rattle.std.proofs.Common.{◌≡◌, ◌+◌, ◌*◌, ◌≤◌, length, take}
use Rattle.area_search.specs.Settled.FaceNumbers.{AreFaceNumbers, faces_met}
use Rattle.area_search.proofs.settled.face_numbers.numbers_of_faces.Given as goal

abbrev pub invariant-loop-curve : goal.invariant-loop-curve
invariant-loop-curve l = record {
  size : length l.numbers.of_face.items ≡ l.faces;
  few : l.numbers.count ≤ 2 * l.curve + 1;
  numbers : AreFaceNumbers (faces_met (take l.curve l.besides)) l.numbers.of_face.items
      l.numbers.count;
}
