use Rattle.std.proofs.Common.{rules, FitsSigned, to_z-of_z, w64}
use Rattle.plane.specs.Rule.Curves.{arc}
use Rattle.arc_predicates.specs.Circles.{half_arc}
use Rattle.near_pairs.specs.Boxes.{box_of}
use Rattle.meetings.proofs.CircleReaches.{far_holds}
use Rattle.meetings.proofs.Reaches.{has_circle}
use Rattle.meetings.proofs.reaching.judged_reach.Goals as goal

pub returns-then-is_at_most_half_a_turn : goal.returns-then-is_at_most_half_a_turn
returns-then-is_at_most_half_a_turn c =
    let x : FitsSigned w64 c.half-x.result = search rules in
    let y : FitsSigned w64 c.half-y.result = search rules in
    let fx : FitsSigned w64 c.args.curve.now.from.x = search rules in
    let fy : FitsSigned w64 c.args.curve.now.from.y = search rules in
    let tx : FitsSigned w64 c.args.curve.now.to.x = search rules in
    let ty : FitsSigned w64 c.args.curve.now.to.y = search rules in
    c.boxes_hold_curves.ensures.flat c.args.curve.now c.half-x.result c.half-y.result
    (box_of c.around.result) (c.is_at_most_half_a_turn.ensures c.if-is_at_most_half_a_turn.true)
    (simp to_z-of_z at c.half-x.ensures.value)
    (simp to_z-of_z at c.half-y.ensures.value) (simp to_z-of_z at c.around.ensures.first)
    (simp to_z-of_z at c.around.ensures.second)

pub returns-else-is_at_most_half_a_turn : goal.returns-else-is_at_most_half_a_turn
returns-else-is_at_most_half_a_turn c =
    let r : FitsSigned w64 c.circle_reach-far.result = search rules in
    let b = box_of c.around-else-is_at_most_half_a_turn.result in
    far_holds c.args.curve.now b c.circle_reach-far.result c.circle_reach-far.ensures.reach
    (has_circle (arc c.args.curve.now)
    (half_arc c.args.circle.now) c.requires.circle c.args.circle.now.has)
    (c.boxes_hold_curves.ensures.round c.args.curve.now c.circle_reach-far.result b)
    (c.boxes_hold_curves.ensures.far c.args.curve.now b)
    (simp to_z-of_z at c.around-else-is_at_most_half_a_turn.ensures.first)
