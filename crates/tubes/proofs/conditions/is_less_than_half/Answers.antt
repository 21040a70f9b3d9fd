use Rattle.std.proofs.Common.{FitsSigned, IsTrue, ◌↔◌, ◌<ℤ◌, pos, rules, subst, to_z-of_z, ℤ}
use Rattle.std.specs.Int.{w64}
use Rattle.std.specs.Int.Signed.{lt_z}
use Rattle.tubes.proofs.CornerTests.{facing_is, lt_test}
use Rattle.tubes.proofs.conditions.is_less_than_half.Goals as goal

pub returns : goal.returns
returns c =
    let k = c.args.circle.now in
    let sx : FitsSigned w64 k.s.x = search rules in
    let sy : FitsSigned w64 k.s.y = search rules in
    let mx : FitsSigned w64 k.m.x = search rules in
    let my : FitsSigned w64 k.m.y = search rules in
    let ex : FitsSigned w64 k.e.x = search rules in
    let ey : FitsSigned w64 k.e.y = search rules in
    let x : FitsSigned w64 c.difference-x.result = search rules in
    let y : FitsSigned w64 c.difference-y.result = search rules in
    let u : FitsSigned w64 c.difference-to_x.result = search rules in
    let v : FitsSigned w64 c.difference-to_y.result = search rules in
    let r : FitsSigned w64 c.dot.result = search rules in
    let e = facing_is k c.difference-x.result c.difference-y.result c.difference-to_x.result
    c.difference-to_y.result c.dot.result
    (simp to_z-of_z at c.difference-x.ensures.value)
    (simp to_z-of_z at c.difference-y.ensures.value)
    (simp to_z-of_z at c.difference-to_x.ensures.value)
    (simp to_z-of_z at c.difference-to_y.ensures.value)
    (simp to_z-of_z at c.dot.ensures.value) in
    rw (to_z-of_z r)
    (subst (λ (z : ℤ). IsTrue (lt_z (pos 0) c.dot.result) ↔ (pos 0 <ℤ z)) e
    (lt_test (pos 0) c.dot.result))
