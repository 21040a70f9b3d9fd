use Rattle.std.proofs.Common.{◌↔◌, ◌<ℤ◌, FitsSigned, IsTrue, arith, rules, subst, to_z-of_z, ℤ}
use Rattle.std.specs.Int.{w64}
use Rattle.std.specs.Int.Signed.{lt_z}
use Rattle.std.proofs.lemmas.Int.{ints}
use Rattle.plane.specs.Forms.Arcs.{along}
use Rattle.plane.specs.Forms.Vectors.{point}
use Rattle.arc_predicates.specs.Circles.{half_arc}
use Rattle.arc_predicates.proofs.TestParts.{both_of}
use Rattle.tubes.proofs.CornerTests.{lt_test}
use Rattle.tubes.proofs.conditions.rises.Goals as goal

pub returns-then-along-middle : goal.returns-then-along-middle
returns-then-along-middle c =
    let h = half_arc c.args.circle.now in
    let m : FitsSigned w64 c.along-middle.result = search rules in
    let b : FitsSigned w64 c.along.result = search rules in
    let a : FitsSigned w64 c.along-then-along-middle.result = search rules in
    let t = simp to_z-of_z at c.if-along-middle.true in
    let l : c.along.result <ℤ c.along-middle.result = search (t, rules) in
    let e = c.along-middle.ensures in
    let f = c.along.ensures in
    let g = c.along-then-along-middle.ensures in
    let test = subst
    (λ (z : ℤ). IsTrue (lt_z c.along-middle.result c.along-then-along-middle.result)
    ↔ (z <ℤ along h (point c.args.after))) e
    (subst (λ (z : ℤ). IsTrue (lt_z c.along-middle.result c.along-then-along-middle.result)
    ↔ (c.along-middle.result <ℤ z)) g
    (lt_test c.along-middle.result c.along-then-along-middle.result)) in
    rw (to_z-of_z m, to_z-of_z a)
    (both_of _ _ _ (lt_z c.along-middle.result c.along-then-along-middle.result) test
    (omega (arith, ints, l, e, f)) ((λ p. p), (λ p. p)))
