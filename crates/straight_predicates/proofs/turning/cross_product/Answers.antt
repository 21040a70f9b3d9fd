use Rattle.std.proofs.Common.{FitsSigned, to_z-of_z, rules, ◌∙◌}
use Rattle.std.specs.Int.{w128, w64}
use Rattle.straight_predicates.proofs.CrossParts.{cross_parts}
use Rattle.straight_predicates.proofs.turning.cross_product.Goals as goal

pub returns : goal.returns
returns c =
    let f : FitsSigned w128 c.determinant.result = search rules in
    let ax : FitsSigned w64 c.args.a.x = search rules in
    let ay : FitsSigned w64 c.args.a.y = search rules in
    let bx : FitsSigned w64 c.args.b.x = search rules in
    let by : FitsSigned w64 c.args.b.y = search rules in
    let cx : FitsSigned w64 c.args.c.x = search rules in
    let cy : FitsSigned w64 c.args.c.y = search rules in
    let r1 : FitsSigned w64 c.difference-bx.result = search rules in
    let r2 : FitsSigned w64 c.difference-by.result = search rules in
    let r3 : FitsSigned w64 c.difference-cx.result = search rules in
    let r4 : FitsSigned w64 c.difference-cy.result = search rules in
    to_z-of_z f ∙ cross_parts c.args.a c.args.b c.args.c _ _ _ _ _
    (simp to_z-of_z at c.difference-bx.ensures.value)
    (simp to_z-of_z at c.difference-by.ensures.value)
    (simp to_z-of_z at c.difference-cx.ensures.value)
    (simp to_z-of_z at c.difference-cy.ensures.value) (simp to_z-of_z at c.determinant.ensures)
