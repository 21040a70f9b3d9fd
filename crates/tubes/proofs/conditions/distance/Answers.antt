use Rattle.std.proofs.Common.{FitsSigned, rules, to_z-of_z, ◌∙◌}
use Rattle.std.specs.Int.{w64}
use Rattle.tubes.proofs.CornerTests.{squares_within}
use Rattle.tubes.proofs.SpanNumbers.{distance_is}
use Rattle.tubes.proofs.conditions.distance.Goals as goal

pub returns-clause-value : goal.returns-clause-value
returns-clause-value c =
    let px : FitsSigned w64 c.args.p.x = search rules in
    let py : FitsSigned w64 c.args.p.y = search rules in
    let qx : FitsSigned w64 c.args.q.x = search rules in
    let qy : FitsSigned w64 c.args.q.y = search rules in
    let x : FitsSigned w64 c.difference-x.result = search rules in
    let y : FitsSigned w64 c.difference-y.result = search rules in
    let r : FitsSigned w64 c.dot.result = search rules in
    to_z-of_z r ∙ distance_is c.args.p c.args.q c.difference-x.result c.difference-y.result
    c.dot.result
    (simp to_z-of_z at c.difference-x.ensures.value)
    (simp to_z-of_z at c.difference-y.ensures.value) (simp to_z-of_z at c.dot.ensures.value)

pub returns-clause-bound : goal.returns-clause-bound
returns-clause-bound c =
    let x : FitsSigned w64 c.difference-x.result = search rules in
    let y : FitsSigned w64 c.difference-y.result = search rules in
    let r : FitsSigned w64 c.dot.result = search rules in
    rw (to_z-of_z r)
    (squares_within c.difference-x.result c.difference-y.result c.dot.result
    c.difference-x.ensures.bound c.difference-y.ensures.bound
    (simp to_z-of_z at c.dot.ensures.value))
