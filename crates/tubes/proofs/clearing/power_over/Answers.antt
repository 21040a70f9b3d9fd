use Rattle.std.proofs.Common.{◌^◌, FitsSigned, arith, pos, rules, to_z-of_z}
use Rattle.std.specs.Int.{w128, w64}
use Rattle.std.proofs.lemmas.Int.{ints}
use Rattle.arc_predicates.proofs.Sums.{product_within}
use Rattle.tubes.proofs.ClearNumbers.{a_within, b_within, d_within, over_is, over_within}
use Rattle.tubes.proofs.ClearNumbers.{sum_within}
use Rattle.tubes.proofs.clearing.power_over.Goals as goal

pub dot-far-requires-clause-first : goal.dot-far-requires-clause-first
dot-far-requires-clause-first c =
    product_within (2 ^ 29) (2 ^ 29) _ _ (omega arith) (omega arith)
    (omega arith) c.offset-x.ensures.bound c.offset-x.ensures.bound

pub dot-far-requires-clause-second : goal.dot-far-requires-clause-second
dot-far-requires-clause-second c =
    product_within (2 ^ 29) (2 ^ 29) _ _ (omega arith) (omega arith)
    (omega arith) c.offset-y.ensures.bound c.offset-y.ensures.bound

pub dot-ahead-requires-clause-first : goal.dot-ahead-requires-clause-first
dot-ahead-requires-clause-first c =
    product_within (2 ^ 80) (2 ^ 29) _ _ (omega arith) (omega arith) (omega arith)
    (a_within c.args.circle.now) c.offset-x.ensures.bound

pub dot-ahead-requires-clause-second : goal.dot-ahead-requires-clause-second
dot-ahead-requires-clause-second c =
    product_within (2 ^ 80) (2 ^ 29) _ _ (omega arith) (omega arith) (omega arith)
    (b_within c.args.circle.now) c.offset-y.ensures.bound

pub determinant-requires-clause-first : goal.determinant-requires-clause-first
determinant-requires-clause-first c =
    let x : FitsSigned w128 c.offset-x.result = search rules in
    let y : FitsSigned w128 c.offset-y.result = search rules in
    let far = sum_within (2 ^ 29) (2 ^ 29) c.offset-x.result c.offset-y.result c.offset-x.result
    c.offset-y.result c.dot-far.result c.offset-x.ensures.bound c.offset-y.ensures.bound
    c.offset-x.ensures.bound c.offset-y.ensures.bound (simp to_z-of_z at c.dot-far.ensures) in
    product_within (2 ^ 53) (2 ^ 59) _ _ (omega arith) (omega arith) (omega arith)
    (d_within c.args.circle.now) far

pub determinant-requires-clause-second : goal.determinant-requires-clause-second
determinant-requires-clause-second c =
    let k = c.args.circle.now in
    let a : FitsSigned w128 k.a = search rules in
    let b : FitsSigned w128 k.b = search rules in
    let x : FitsSigned w128 c.offset-x.result = search rules in
    let y : FitsSigned w128 c.offset-y.result = search rules in
    let ahead = sum_within (2 ^ 80) (2 ^ 29) k.a k.b c.offset-x.result c.offset-y.result
    c.dot-ahead.result (a_within k) (b_within k) c.offset-x.ensures.bound
    c.offset-y.ensures.bound (simp to_z-of_z at c.dot-ahead.ensures) in
    product_within (2 ^ 110) (2 ^ 5) c.dot-ahead.result (pos 1) (omega arith) (omega arith)
    (omega arith) ahead (omega (arith, ints))

pub returns-clause-value : goal.returns-clause-value
returns-clause-value c =
    let k = c.args.circle.now in
    let a : FitsSigned w128 k.a = search rules in
    let b : FitsSigned w128 k.b = search rules in
    let d : FitsSigned w128 k.d = search rules in
    let px : FitsSigned w64 c.args.p.x = search rules in
    let py : FitsSigned w64 c.args.p.y = search rules in
    let sx : FitsSigned w64 k.s.x = search rules in
    let sy : FitsSigned w64 k.s.y = search rules in
    let x : FitsSigned w128 c.offset-x.result = search rules in
    let y : FitsSigned w128 c.offset-y.result = search rules in
    let f : FitsSigned w128 c.dot-far.result = search rules in
    let h : FitsSigned w128 c.dot-ahead.result = search rules in
    let o : FitsSigned w128 c.determinant.result = search rules in
    rw (to_z-of_z o)
    (over_is k c.args.p c.offset-x.result c.offset-y.result c.dot-far.result c.dot-ahead.result
    c.determinant.result
    (simp to_z-of_z at c.offset-x.ensures.value) (simp to_z-of_z at c.offset-y.ensures.value)
    (simp to_z-of_z at c.dot-far.ensures) (simp to_z-of_z at c.dot-ahead.ensures)
    (simp to_z-of_z at c.determinant.ensures))

pub returns-clause-bound : goal.returns-clause-bound
returns-clause-bound c =
    let k = c.args.circle.now in
    let a : FitsSigned w128 k.a = search rules in
    let b : FitsSigned w128 k.b = search rules in
    let d : FitsSigned w128 k.d = search rules in
    let x : FitsSigned w128 c.offset-x.result = search rules in
    let y : FitsSigned w128 c.offset-y.result = search rules in
    let f : FitsSigned w128 c.dot-far.result = search rules in
    let h : FitsSigned w128 c.dot-ahead.result = search rules in
    let o : FitsSigned w128 c.determinant.result = search rules in
    let far = sum_within (2 ^ 29) (2 ^ 29) c.offset-x.result c.offset-y.result c.offset-x.result
    c.offset-y.result c.dot-far.result c.offset-x.ensures.bound c.offset-y.ensures.bound
    c.offset-x.ensures.bound c.offset-y.ensures.bound (simp to_z-of_z at c.dot-far.ensures) in
    let ahead = sum_within (2 ^ 80) (2 ^ 29) k.a k.b c.offset-x.result c.offset-y.result
    c.dot-ahead.result (a_within k) (b_within k) c.offset-x.ensures.bound
    c.offset-y.ensures.bound (simp to_z-of_z at c.dot-ahead.ensures) in
    rw (to_z-of_z o)
    (over_within k.d c.dot-far.result c.dot-ahead.result c.determinant.result
    (d_within k) far ahead (simp to_z-of_z at c.determinant.ensures))
