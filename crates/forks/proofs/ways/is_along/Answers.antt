use Rattle.std.proofs.Common.{◌↔◌, ◌^◌, ℤ, IsTrue, pos, ◌<ℤ◌, FitsSigned, to_z-of_z, rules, arith}
use Rattle.std.proofs.Common.{subst}
use Rattle.std.specs.Int.{w128, w64}
use Rattle.arc_predicates.proofs.Sums.{product_within}
use Rattle.forks.proofs.WayNumbers.{ahead_is, near_wide}
use Rattle.forks.proofs.ways.is_along.Goals as goal

pub difference-x-requires : goal.difference-x-requires
difference-x-requires c =
    let k = c.args.circle.now in
    let s : FitsSigned w64 k.s.x = search rules in
    let m : FitsSigned w64 k.m.x = search rules in
    rw (to_z-of_z s, to_z-of_z m) (near_wide k.s.x k.m.x k.has.ends.x)

pub difference-y-requires : goal.difference-y-requires
difference-y-requires c =
    let k = c.args.circle.now in
    let s : FitsSigned w64 k.s.y = search rules in
    let m : FitsSigned w64 k.m.y = search rules in
    rw (to_z-of_z s, to_z-of_z m) (near_wide k.s.y k.m.y k.has.ends.y)

pub dot-requires-clause-first : goal.dot-requires-clause-first
dot-requires-clause-first c =
    product_within (2 ^ 40) (2 ^ 40) c.difference-x.result c.args.way.now.x (omega arith)
    (omega arith) (omega arith) c.difference-x.ensures.bound c.requires.x_within

pub dot-requires-clause-second : goal.dot-requires-clause-second
dot-requires-clause-second c =
    product_within (2 ^ 40) (2 ^ 40) c.difference-y.result c.args.way.now.y (omega arith)
    (omega arith) (omega arith) c.difference-y.ensures.bound c.requires.y_within

pub returns : goal.returns
returns c =
    let k = c.args.circle.now in
    let sx : FitsSigned w64 k.s.x = search rules in
    let sy : FitsSigned w64 k.s.y = search rules in
    let mx : FitsSigned w64 k.m.x = search rules in
    let my : FitsSigned w64 k.m.y = search rules in
    let fx : FitsSigned w128 c.difference-x.result = search rules in
    let fy : FitsSigned w128 c.difference-y.result = search rules in
    let wx : FitsSigned w128 c.args.way.now.x = search rules in
    let wy : FitsSigned w128 c.args.way.now.y = search rules in
    let fd : FitsSigned w128 c.dot.result = search rules in
    let e = ahead_is k.s c.args.q k.m c.difference-x.result c.difference-y.result c.args.way.now.x
    c.args.way.now.y c.dot.result
    (simp to_z-of_z at c.difference-x.ensures.value)
    (simp to_z-of_z at c.difference-y.ensures.value) c.requires.x c.requires.y
    (simp to_z-of_z at c.dot.ensures) in
    subst (λ (z : ℤ). IsTrue c.is_above.result ↔ (pos 0 <ℤ z)) e
    (simp to_z-of_z at c.is_above.ensures)
