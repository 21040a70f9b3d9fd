use Rattle.std.proofs.Common.{rules, FitsSigned, to_z-of_z, pos, ◌+ℤ◌, arith}
use Rattle.std.proofs.lemmas.Int.{ints}
use Rattle.std.specs.Int.{w128, w64}
use Rattle.meetings.proofs.Choices.{true_le}
use Rattle.meetings.proofs.Reaches.{facing_is, sum_fits}
use Rattle.meetings.proofs.reaching.is_at_most_half_a_turn.Goals as goal

pub overflow_add-result : goal.overflow_add-result
overflow_add-result c =
    let x : FitsSigned w128 c.product-x.result = search rules in
    let y : FitsSigned w128 c.product-y.result = search rules in
    rw (to_z-of_z x, to_z-of_z y)
    (sum_fits c.product-x.result c.product-y.result c.product-x.ensures.bound
    c.product-y.ensures.bound)

pub returns : goal.returns
returns c = λ t.
    let x : FitsSigned w128 c.product-x.result = search rules in
    let y : FitsSigned w128 c.product-y.result = search rules in
    let s : FitsSigned w128 (c.product-x.result +ℤ c.product-y.result) = sum_fits c.product-x.result
    c.product-y.result c.product-x.ensures.bound c.product-y.ensures.bound in
    let fx : FitsSigned w64 c.args.curve.now.from.x = search rules in
    let fy : FitsSigned w64 c.args.curve.now.from.y = search rules in
    let tx : FitsSigned w64 c.args.curve.now.to.x = search rules in
    let ty : FitsSigned w64 c.args.curve.now.to.y = search rules in
    let hx : FitsSigned w64 c.args.curve.now.third.x = search rules in
    let hy : FitsSigned w64 c.args.curve.now.third.y = search rules in
    let test = simp to_z-of_z at t in
    let l = true_le (pos 0) (c.product-x.result +ℤ c.product-y.result) test in
    let f = facing_is c.args.curve.now c.product-x.result c.product-y.result
    (simp to_z-of_z at c.product-x.ensures.value)
    (simp to_z-of_z at c.product-y.ensures.value) in
    omega (arith, ints, l, f)
