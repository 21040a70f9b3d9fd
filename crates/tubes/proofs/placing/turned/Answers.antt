use Rattle.std.proofs.Common.{FitsSigned, pos, rules, to_z-of_z, ◌∙◌}
use Rattle.std.specs.Int.{w128, w64}
use Rattle.arc_predicates.specs.Circles.{half_arc}
use Rattle.tubes.proofs.SpanNumbers.{lt_false, turned_back}
use Rattle.tubes.proofs.placing.turned.Goals as goal

pub returns-else-circle-gt0-clause-value : goal.returns-else-circle-gt0-clause-value
returns-else-circle-gt0-clause-value c =
    let k = c.args.circle.now in
    let a = c.ranges.a in
    let b = c.ranges.b in
    let r : FitsSigned w64 c.difference-else-circle-gt0.result = search rules in
    let d : FitsSigned w128 k.d = search rules in
    to_z-of_z r ∙ turned_back (half_arc k) k.d c.args.a c.args.b c.difference-else-circle-gt0.result
    k.turn (lt_false (pos 0) k.d (simp to_z-of_z at c.if-circle-gt0.false))
    (simp to_z-of_z at c.difference-else-circle-gt0.ensures.value)
