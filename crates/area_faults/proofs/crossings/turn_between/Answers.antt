use Rattle.std.proofs.Common.{FitsSigned, to_z-of_z, rules, ◌∙◌}
use Rattle.std.specs.Int.{w128, w64}
use Rattle.area_faults.proofs.CrossingParts.{turning_parts}
use Rattle.area_faults.proofs.crossings.turn_between.Goals as goal

pub returns : goal.returns
returns c =
    let s = c.args.straight.now in
    let f : FitsSigned w128 c.cross.result = search rules in
    let ax : FitsSigned w64 s.from.x = search rules in
    let ay : FitsSigned w64 s.from.y = search rules in
    let bx : FitsSigned w64 s.to.x = search rules in
    let by : FitsSigned w64 s.to.y = search rules in
    let ex : FitsSigned w64 c.args.e.x = search rules in
    let ey : FitsSigned w64 c.args.e.y = search rules in
    let fx : FitsSigned w64 c.args.f.x = search rules in
    let fy : FitsSigned w64 c.args.f.y = search rules in
    let r1 : FitsSigned w128 c.difference-ux.result = search rules in
    let r2 : FitsSigned w128 c.difference-uy.result = search rules in
    let r3 : FitsSigned w128 c.difference-vx.result = search rules in
    let r4 : FitsSigned w128 c.difference-vy.result = search rules in
    to_z-of_z f ∙ turning_parts s.from s.to c.args.e c.args.f _ _ _ _ _
    (simp to_z-of_z at c.difference-ux.ensures.value)
    (simp to_z-of_z at c.difference-uy.ensures.value)
    (simp to_z-of_z at c.difference-vx.ensures.value)
    (simp to_z-of_z at c.difference-vy.ensures.value) (simp to_z-of_z at c.cross.ensures.value)
