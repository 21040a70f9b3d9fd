use Rattle.std.proofs.Common.{FitsSigned, to_z-of_z, rules}
use Rattle.std.specs.Int.{w128, w64}
use Rattle.arc_predicates.proofs.CircleNumbers.{near_by}
use Rattle.arc_predicates.proofs.TestParts.{both_of, none_of}
use Rattle.arc_predicates.proofs.circling.is_near.Goals as goal

pub returns-then-is_small : goal.returns-then-is_small
returns-then-is_small c =
    let px : FitsSigned w64 c.args.p.x = search rules in
    let py : FitsSigned w64 c.args.p.y = search rules in
    let qx : FitsSigned w64 c.args.q.x = search rules in
    let qy : FitsSigned w64 c.args.q.y = search rules in
    let rx : FitsSigned w128 c.difference-x.result = search rules in
    let ry : FitsSigned w128 c.difference-y.result = search rules in
    both_of _ _ _ c.is_small-then-is_small.result
    (simp to_z-of_z at c.is_small-then-is_small.ensures)
    ((simp to_z-of_z at c.is_small.ensures).0 c.if-is_small.true)
    (near_by c.args.p c.args.q _ _ (simp to_z-of_z at c.difference-x.ensures.value)
    (simp to_z-of_z at c.difference-y.ensures.value))

pub returns-else-is_small : goal.returns-else-is_small
returns-else-is_small c =
    let px : FitsSigned w64 c.args.p.x = search rules in
    let py : FitsSigned w64 c.args.p.y = search rules in
    let qx : FitsSigned w64 c.args.q.x = search rules in
    let qy : FitsSigned w64 c.args.q.y = search rules in
    let rx : FitsSigned w128 c.difference-x.result = search rules in
    let ry : FitsSigned w128 c.difference-y.result = search rules in
    none_of _ _ _ c.is_small.result (simp to_z-of_z at c.is_small.ensures) c.if-is_small.false
    (near_by c.args.p c.args.q _ _ (simp to_z-of_z at c.difference-x.ensures.value)
    (simp to_z-of_z at c.difference-y.ensures.value))
