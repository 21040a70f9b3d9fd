use Rattle.std.proofs.Common.{◌^◌, FitsSigned, arith, rules, to_z-of_z}
use Rattle.std.specs.Int.{w128, w64}
use Rattle.plane.proofs.Algebra.Bounds.{within_more}
use Rattle.arc_predicates.proofs.Sums.{product_within}
use Rattle.tubes.proofs.ClearNumbers.{a_within, ahead_from_is, at_most_by, b_within, sum_within}
use Rattle.tubes.proofs.clearing.is_clear_of_from.Goals as goal

pub dot-ahead-requires-clause-first : goal.dot-ahead-requires-clause-first
dot-ahead-requires-clause-first c =
    product_within (2 ^ 80) (2 ^ 29) _ _ (omega arith) (omega arith) (omega arith)
    (a_within c.args.circle.now) c.offset-x.ensures.bound

pub dot-ahead-requires-clause-second : goal.dot-ahead-requires-clause-second
dot-ahead-requires-clause-second c =
    product_within (2 ^ 80) (2 ^ 29) _ _ (omega arith) (omega arith) (omega arith)
    (b_within c.args.circle.now) c.offset-y.ensures.bound

pub is_at_most_zero-requires-clause-bound : goal.is_at_most_zero-requires-clause-bound
is_at_most_zero-requires-clause-bound c =
    let k = c.args.circle.now in
    let a : FitsSigned w128 k.a = search rules in
    let b : FitsSigned w128 k.b = search rules in
    let x : FitsSigned w128 c.offset-x.result = search rules in
    let y : FitsSigned w128 c.offset-y.result = search rules in
    let h : FitsSigned w128 c.dot-ahead.result = search rules in
    rw (to_z-of_z h)
    (within_more (2 ^ 110) (2 ^ 126) _ (omega arith)
    (sum_within (2 ^ 80) (2 ^ 29) k.a k.b c.offset-x.result c.offset-y.result c.dot-ahead.result
    (a_within k) (b_within k) c.offset-x.ensures.bound c.offset-y.ensures.bound
    (simp to_z-of_z at c.dot-ahead.ensures)))

pub returns : goal.returns
returns c =
    let k = c.args.circle.now in
    let a : FitsSigned w128 k.a = search rules in
    let b : FitsSigned w128 k.b = search rules in
    let d : FitsSigned w128 k.d = search rules in
    let px : FitsSigned w64 c.args.p.x = search rules in
    let py : FitsSigned w64 c.args.p.y = search rules in
    let sx : FitsSigned w64 k.s.x = search rules in
    let sy : FitsSigned w64 k.s.y = search rules in
    let x : FitsSigned w128 c.offset-x.result = search rules in
    let y : FitsSigned w128 c.offset-y.result = search rules in
    let h : FitsSigned w128 c.dot-ahead.result = search rules in
    at_most_by c.is_at_most_zero.result _ _ (simp to_z-of_z at c.is_at_most_zero.ensures)
    (ahead_from_is k c.args.p c.offset-x.result c.offset-y.result c.dot-ahead.result
    (simp to_z-of_z at c.offset-x.ensures.value) (simp to_z-of_z at c.offset-y.ensures.value)
    (simp to_z-of_z at c.dot-ahead.ensures))
