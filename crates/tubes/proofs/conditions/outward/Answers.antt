use Rattle.std.proofs.Common.{FitsSigned, pos, rules, to_z-of_z, sym, ◌∙◌}
use Rattle.std.specs.Int.{w128}
use Rattle.arc_predicates.specs.Circles.{half_arc}
use Rattle.tubes.proofs.CornerTests.{below_zero, outward_left, outward_right}
use Rattle.tubes.proofs.SpanNumbers.{lt_false}
use Rattle.tubes.proofs.conditions.outward.Goals as goal

pub returns-then-circle-gt0 : goal.returns-then-circle-gt0
returns-then-circle-gt0 c =
    let k = c.args.circle.now in
    let d : FitsSigned w128 k.d = search rules in
    outward_left (half_arc k) k.d c.args.p c.args.q c.args.r c.turn.result k.turn
    (let t = simp to_z-of_z at c.if-circle-gt0.true in search (t, rules)) c.turn.ensures

pub returns-else-circle-gt0 : goal.returns-else-circle-gt0
returns-else-circle-gt0 c =
    let k = c.args.circle.now in
    let d : FitsSigned w128 k.d = search rules in
    outward_right (half_arc k) k.d c.args.p c.args.q c.args.r c.turn-else-circle-gt0.result k.turn
    (below_zero k.d (lt_false (pos 0) k.d (simp to_z-of_z at c.if-circle-gt0.false))
    (λ e. k.has.bent (sym k.turn ∙ e))) c.turn-else-circle-gt0.ensures
