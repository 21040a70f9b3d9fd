use Rattle.std.proofs.Common.{◌^◌, FitsSigned, arith, rules, to_z-of_z}
use Rattle.std.specs.Int.{w128, w64}
use Rattle.plane.proofs.Algebra.Bounds.{within_more}
use Rattle.arc_predicates.proofs.Sums.{product_within}
use Rattle.tubes.proofs.ClearNumbers.{a_within, ahead_to_is, at_most_by, b_within, d_within}
use Rattle.tubes.proofs.ClearNumbers.{sum_within}
use Rattle.tubes.proofs.clearing.is_clear_of_to.Goals as goal

pub seen_from_end-a-requires-clause-d : goal.seen_from_end-a-requires-clause-d
seen_from_end-a-requires-clause-d c =
    let d : FitsSigned w128 c.args.circle.now.d = search rules in
    rw (to_z-of_z d) (d_within c.args.circle.now)

pub seen_from_end-a-requires-clause-at : goal.seen_from_end-a-requires-clause-at
seen_from_end-a-requires-clause-at c =
    let d : FitsSigned w128 c.args.circle.now.a = search rules in
    rw (to_z-of_z d) (a_within c.args.circle.now)

pub seen_from_end-b-requires-clause-d : goal.seen_from_end-b-requires-clause-d
seen_from_end-b-requires-clause-d c =
    let d : FitsSigned w128 c.args.circle.now.d = search rules in
    rw (to_z-of_z d) (d_within c.args.circle.now)

pub seen_from_end-b-requires-clause-at : goal.seen_from_end-b-requires-clause-at
seen_from_end-b-requires-clause-at c =
    let d : FitsSigned w128 c.args.circle.now.b = search rules in
    rw (to_z-of_z d) (b_within c.args.circle.now)

pub dot-ahead-requires-clause-first : goal.dot-ahead-requires-clause-first
dot-ahead-requires-clause-first c =
    product_within (2 ^ 84) (2 ^ 29) _ _ (omega arith) (omega arith)
    (omega arith) c.seen_from_end-a.ensures.bound c.offset-x.ensures.bound

pub dot-ahead-requires-clause-second : goal.dot-ahead-requires-clause-second
dot-ahead-requires-clause-second c =
    product_within (2 ^ 84) (2 ^ 29) _ _ (omega arith) (omega arith)
    (omega arith) c.seen_from_end-b.ensures.bound c.offset-y.ensures.bound

pub is_at_most_zero-requires-clause-bound : goal.is_at_most_zero-requires-clause-bound
is_at_most_zero-requires-clause-bound c =
    let a : FitsSigned w128 c.seen_from_end-a.result = search rules in
    let b : FitsSigned w128 c.seen_from_end-b.result = search rules in
    let x : FitsSigned w128 c.offset-x.result = search rules in
    let y : FitsSigned w128 c.offset-y.result = search rules in
    let h : FitsSigned w128 c.dot-ahead.result = search rules in
    rw (to_z-of_z h)
    (within_more (2 ^ 114) (2 ^ 126) _ (omega arith)
    (sum_within (2 ^ 84) (2 ^ 29) c.seen_from_end-a.result c.seen_from_end-b.result
    c.offset-x.result c.offset-y.result c.dot-ahead.result c.seen_from_end-a.ensures.bound
    c.seen_from_end-b.ensures.bound c.offset-x.ensures.bound c.offset-y.ensures.bound
    (simp to_z-of_z at c.dot-ahead.ensures)))

pub returns : goal.returns
returns c =
    let k = c.args.circle.now in
    let ka : FitsSigned w128 k.a = search rules in
    let kb : FitsSigned w128 k.b = search rules in
    let d : FitsSigned w128 k.d = search rules in
    let px : FitsSigned w64 c.args.p.x = search rules in
    let py : FitsSigned w64 c.args.p.y = search rules in
    let sx : FitsSigned w64 k.s.x = search rules in
    let sy : FitsSigned w64 k.s.y = search rules in
    let mx : FitsSigned w64 k.m.x = search rules in
    let my : FitsSigned w64 k.m.y = search rules in
    let a : FitsSigned w128 c.seen_from_end-a.result = search rules in
    let b : FitsSigned w128 c.seen_from_end-b.result = search rules in
    let w : FitsSigned w128 c.offset-wide.result = search rules in
    let t : FitsSigned w128 c.offset-tall.result = search rules in
    let x : FitsSigned w128 c.offset-x.result = search rules in
    let y : FitsSigned w128 c.offset-y.result = search rules in
    let h : FitsSigned w128 c.dot-ahead.result = search rules in
    at_most_by c.is_at_most_zero.result _ _ (simp to_z-of_z at c.is_at_most_zero.ensures)
    (ahead_to_is k c.args.p c.offset-x.result c.offset-y.result c.offset-wide.result
    c.offset-tall.result c.seen_from_end-a.result c.seen_from_end-b.result c.dot-ahead.result
    (simp to_z-of_z at c.offset-x.ensures.value) (simp to_z-of_z at c.offset-y.ensures.value)
    (simp to_z-of_z at c.offset-wide.ensures.value)
    (simp to_z-of_z at c.offset-tall.ensures.value)
    (simp to_z-of_z at c.seen_from_end-a.ensures.value)
    (simp to_z-of_z at c.seen_from_end-b.ensures.value) (simp to_z-of_z at c.dot-ahead.ensures))
