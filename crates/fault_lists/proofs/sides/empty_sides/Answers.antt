use Rattle.std.proofs.Common.{◌≡◌, true, List, Bool, sym, subst}
use Rattle.std.proofs.lemmas.Result.{IfOk-weaker}
use Rattle.fault_lists.specs.FaceLists.{IsEmptyFace, HasExactly, IsLeastSideOf, side_number}
use Rattle.fault_lists.specs.Telling.{AreMarks, is_marked}
use Rattle.fault_lists.specs.DrawingFaces.{face_count}
use Rattle.fault_lists.proofs.LeastSides.{sides_of_marked}
use Rattle.fault_lists.proofs.sides.empty_sides.Goals as goal

pub returns : goal.returns
returns c =
    let f = c.args.faces.now in
    let marks = c.deref_mut.result.now in
    let marked : AreMarks (face_count f) (IsEmptyFace f) marks = subst
    (λ (ms : List Bool). AreMarks (face_count f) (IsEmptyFace f) ms)
    (sym c.deref_mut.ensures.value) c.in_ok-marks.ensures in
    IfOk-weaker c.least_sides.result
    (λ sides. HasExactly (IsLeastSideOf f (λ n. is_marked marks n ≡ true)) side_number
    sides.items) (λ sides. HasExactly (IsLeastSideOf f (IsEmptyFace f)) side_number sides.items)
    (λ sides h. sides_of_marked f (IsEmptyFace f) marks sides.items marked c.requires.numbered h)
    c.least_sides.ensures
