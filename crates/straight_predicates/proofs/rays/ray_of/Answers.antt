use Rattle.std.proofs.Common.{FitsSigned, to_z-of_z, rules, ◌^◌, subst, sym}
use Rattle.std.specs.Int.{w64}
use Rattle.plane.specs.Numbers.{IsWithin}
use Rattle.straight_predicates.specs.EdgeLists.{edge_of}
use Rattle.straight_predicates.proofs.Rightward.{rightward}
use Rattle.straight_predicates.proofs.rays.ray_of.Goals as goal

pub invariant_of-result-clause-rightward : goal.invariant_of-result-clause-rightward
invariant_of-result-clause-rightward c =
    let lx : FitsSigned w64 (edge_of c.args.edges.now c.args.edge).low.x = search rules in
    let ly : FitsSigned w64 (edge_of c.args.edges.now c.args.edge).low.y = search rules in
    let hx : FitsSigned w64 (edge_of c.args.edges.now c.args.edge).high.x = search rules in
    let hy : FitsSigned w64 (edge_of c.args.edges.now c.args.edge).high.y = search rules in
    let rx : FitsSigned w64 c.difference-x.result = search rules in
    let ry : FitsSigned w64 c.difference-y.result = search rules in
    rightward (edge_of c.args.edges.now c.args.edge).low
    (edge_of c.args.edges.now c.args.edge).high _ _ _ _
    (c.requires.sorted c.args.edge c.requires.known)
    (to_z-of_z rx) (to_z-of_z ry) (simp to_z-of_z at c.difference-x.ensures.value)
    (simp to_z-of_z at c.difference-y.ensures.value)

pub invariant_of-result-clause-near_x : goal.invariant_of-result-clause-near_x
invariant_of-result-clause-near_x c =
    let rx : FitsSigned w64 c.difference-x.result = search rules in
    subst (IsWithin (2 ^ 41)) (sym (to_z-of_z rx)) c.difference-x.ensures.bound

pub invariant_of-result-clause-near_y : goal.invariant_of-result-clause-near_y
invariant_of-result-clause-near_y c =
    let ry : FitsSigned w64 c.difference-y.result = search rules in
    subst (IsWithin (2 ^ 41)) (sym (to_z-of_z ry)) c.difference-y.ensures.bound
