use Rattle.std.proofs.Common.{get_or, refl, subst}
use Rattle.std.proofs.lemmas.List.{get_or_default}
use Rattle.plane.specs.declared.kinds.Curve.{Curve}
use Rattle.area_faults.specs.RestFaces.{AreSidesOf}
use Rattle.area_faults.proofs.ReadFaces.{curve_more}
use Rattle.area_faults.proofs.rest.numbering.curve_faces.Goals as goal

pub loop-edge-preserved : goal.loop-edge-preserved
loop-edge-preserved c =
    let k = c.loop-edge.edge in
    let n = get_or c.args.kept.now k 0 in
    let there = c.requires.kept k c.loop-edge-test.true in
    curve_more c.args.curves.now c.args.kept.now c.args.mesh.now.face k c.loop-edge.faces.items _
    c.sides_of.result c.loop-edge-test.true there c.requires.rising refl
    (subst (λ (v : Curve). AreSidesOf v c.args.mesh.now.face k c.sides_of.result)
    (get_or_default c.args.curves.now n _ _ there) c.sides_of.ensures) c.loop-edge.invariant
