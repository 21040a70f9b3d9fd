use Rattle.std.proofs.Common.{FitsSigned, rules, to_z-of_z, ◌∙◌}
use Rattle.std.specs.Int.{w64}
use Rattle.tubes.proofs.CornerTests.{along_is}
use Rattle.tubes.proofs.conditions.along.Goals as goal

pub returns : goal.returns
returns c =
    let k = c.args.circle.now in
    let sx : FitsSigned w64 k.s.x = search rules in
    let sy : FitsSigned w64 k.s.y = search rules in
    let mx : FitsSigned w64 k.m.x = search rules in
    let my : FitsSigned w64 k.m.y = search rules in
    let px : FitsSigned w64 c.args.p.x = search rules in
    let py : FitsSigned w64 c.args.p.y = search rules in
    let w : FitsSigned w64 c.difference-wide.result = search rules in
    let t : FitsSigned w64 c.difference-tall.result = search rules in
    let x : FitsSigned w64 c.difference-right.result = search rules in
    let y : FitsSigned w64 c.difference-above.result = search rules in
    let r : FitsSigned w64 c.dot.result = search rules in
    to_z-of_z r ∙ along_is k c.args.p c.difference-wide.result c.difference-tall.result
    c.difference-right.result c.difference-above.result c.dot.result
    (simp to_z-of_z at c.difference-wide.ensures.value)
    (simp to_z-of_z at c.difference-tall.ensures.value)
    (simp to_z-of_z at c.difference-right.ensures.value)
    (simp to_z-of_z at c.difference-above.ensures.value) (simp to_z-of_z at c.dot.ensures.value)
