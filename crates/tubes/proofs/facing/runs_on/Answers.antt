use Rattle.std.proofs.Common.{FitsSigned, rules, to_z-of_z}
use Rattle.std.specs.Int.{w64}
use Rattle.tubes.proofs.FacingSides.{runs_is}
use Rattle.tubes.proofs.facing.runs_on.Goals as goal

pub returns : goal.returns
returns c =
    let k = c.args.curve.now in
    let e = c.args.edge.now in
    let fx : FitsSigned w64 k.from.x = search rules in
    let fy : FitsSigned w64 k.from.y = search rules in
    let tx : FitsSigned w64 k.to.x = search rules in
    let ty : FitsSigned w64 k.to.y = search rules in
    let lx : FitsSigned w64 e.low.x = search rules in
    let ly : FitsSigned w64 e.low.y = search rules in
    let hx : FitsSigned w64 e.high.x = search rules in
    let hy : FitsSigned w64 e.high.y = search rules in
    let w : FitsSigned w64 c.difference-wide.result = search rules in
    let t : FitsSigned w64 c.difference-tall.result = search rules in
    let r : FitsSigned w64 c.difference-right.result = search rules in
    let a : FitsSigned w64 c.difference-above.result = search rules in
    let s : FitsSigned w64 c.dot.result = search rules in
    rw (to_z-of_z s)
    (runs_is k e c.difference-wide.result c.difference-tall.result c.difference-right.result
    c.difference-above.result c.dot.result
    (simp to_z-of_z at c.difference-wide.ensures.value)
    (simp to_z-of_z at c.difference-tall.ensures.value)
    (simp to_z-of_z at c.difference-right.ensures.value)
    (simp to_z-of_z at c.difference-above.ensures.value)
    (simp to_z-of_z at c.dot.ensures.value))
