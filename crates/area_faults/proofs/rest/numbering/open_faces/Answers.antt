use Rattle.std.proofs.Common.{Bool, List, ◌+◌, ◌∙◌, subst, sym}
use Rattle.std.proofs.lemmas.List.{get_or_default, with_items_is}
use Rattle.point_location.specs.Places.{no_place}
use Rattle.area_faults.specs.RestFaces.{AreOpenTo}
use Rattle.area_faults.proofs.ReadFaces.{open_more}
use Rattle.area_faults.proofs.rest.numbering.open_faces.Goals as goal

pub loop-number-preserved : goal.loop-number-preserved
loop-number-preserved c =
    let fs = c.args.labelled.now.mesh.face in
    let n = c.args.labelled.now.count in
    let ps = c.args.places.now in
    let k = c.loop-number.number in
    let items = with_items_is c.loop-number.marks c.open_face.new.marks (c.open_face.auto.marks
    ∙ c.deref_mut.ensures.len) in
    subst (λ (ms : List Bool). AreOpenTo fs n ps c.args.first (k + 1) ms) (sym items)
    (open_more fs n ps c.args.first k c.deref_mut.result.now c.open_face.new.marks _
    (get_or_default ps k no_place _ c.loop-number-test.true) c.loop-number.auto.number
    c.open_face.ensures
    (subst (λ (ms : List Bool). AreOpenTo fs n ps c.args.first k ms)
    (sym c.deref_mut.ensures.value) c.loop-number.invariant))
