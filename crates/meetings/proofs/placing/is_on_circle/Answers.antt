use Rattle.std.proofs.Common.{rules, FitsSigned, to_z-of_z}
use Rattle.std.specs.Int.{w128, w64}
use Rattle.arc_predicates.specs.Circles.{half_arc}
use Rattle.meetings.proofs.OnCircles.{on_circle_at}
use Rattle.meetings.proofs.placing.is_on_circle.Goals as goal

pub returns-in-Some-On : goal.returns-in-Some-On
returns-in-Some-On c =
    let px : FitsSigned w64 c.args.p.x = search rules in
    let py : FitsSigned w64 c.args.p.y = search rules in
    let fx : FitsSigned w128 c.from.result = search rules in
    let fy : FitsSigned w128 c.from-2.result = search rules in
    on_circle_at c.in-Some-On.field-0 (half_arc c.args.circle.now) c.args.p c.from.result
    c.from-2.result (simp to_z-of_z at c.from.ensures) (simp to_z-of_z at c.from-2.ensures)
    (simp to_z-of_z at c.in-Some-On.ensures) c.in-Some-On.field-0-is
