use Rattle.std.proofs.Common.{rules, FitsSigned, to_z-of_z}
use Rattle.std.specs.Int.{w128, w64}
use Rattle.field_values.specs.Places.{place_view}
use Rattle.field_values.proofs.Collinear.{collinear_parts}
use Rattle.field_values.proofs.places.are_collinear.Goals as goal

pub returns : goal.returns
returns c =
    let p : FitsSigned w128 c.product.result = search rules in
    let q : FitsSigned w128 c.product-2.result = search rules in
    let sx : FitsSigned w64 c.args.s.x = search rules in
    let sy : FitsSigned w64 c.args.s.y = search rules in
    let mx : FitsSigned w64 c.args.m.x = search rules in
    let my : FitsSigned w64 c.args.m.y = search rules in
    let ex : FitsSigned w64 c.args.e.x = search rules in
    let ey : FitsSigned w64 c.args.e.y = search rules in
    let d1 : FitsSigned w64 c.difference-mx.result = search rules in
    let d2 : FitsSigned w64 c.difference-my.result = search rules in
    let d3 : FitsSigned w64 c.difference-ex.result = search rules in
    let d4 : FitsSigned w64 c.difference-ey.result = search rules in
    collinear_parts (place_view c.args.s) (place_view c.args.m) (place_view c.args.e) _ _ _ _ _ _ _
    (simp to_z-of_z at c.difference-mx.ensures.value)
    (simp to_z-of_z at c.difference-my.ensures.value)
    (simp to_z-of_z at c.difference-ex.ensures.value)
    (simp to_z-of_z at c.difference-ey.ensures.value) (simp to_z-of_z at c.product.ensures)
    (simp to_z-of_z at c.product-2.ensures) (simp to_z-of_z at c.are_equal.ensures)
