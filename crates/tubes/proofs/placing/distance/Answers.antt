use Rattle.std.proofs.Common.{◌≡◌, FitsSigned, ap, pos, rules, to_z, to_z-of_z, ◌∙◌}
use Rattle.std.specs.Int.{w64}
use Rattle.std.specs.Prelude.{unsigned_abs}
use Rattle.tubes.specs.HalfArcTubes.{root}
use Rattle.tubes.proofs.SpanNumbers.{distance_is}
use Rattle.tubes.proofs.placing.distance.Goals as goal

pub returns : goal.returns
returns c =
    let px : FitsSigned w64 c.args.p.x = search rules in
    let py : FitsSigned w64 c.args.p.y = search rules in
    let qx : FitsSigned w64 c.args.q.x = search rules in
    let qy : FitsSigned w64 c.args.q.y = search rules in
    let x : FitsSigned w64 c.difference-x.result = search rules in
    let y : FitsSigned w64 c.difference-y.result = search rules in
    let s : FitsSigned w64 c.dot-square.result = search rules in
    let b = c.root.ensures.bound in
    let z : to_z w64 c.root.result ≡ pos c.root.result = search rules in
    z
    ∙ ap (λ n. pos n) (c.root.ensures.value
    ∙ ap root (simp to_z-of_z at c.unsigned_abs-3.ensures.value))
    ∙ ap (λ z. pos (root (unsigned_abs z)))
    (distance_is c.args.p c.args.q c.difference-x.result c.difference-y.result
    c.dot-square.result
    (simp to_z-of_z at c.difference-x.ensures.value)
    (simp to_z-of_z at c.difference-y.ensures.value)
    (simp to_z-of_z at c.dot-square.ensures.value))
