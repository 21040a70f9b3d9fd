use Rattle.std.proofs.Common.{rules, FitsSigned, to_z-of_z, w64}
use Rattle.near_pairs.specs.Boxes.{box_of}
use Rattle.plane.specs.declared.kinds.Point.{Point}
use Rattle.level_breaks.proofs.BoxPoints.{bigger, in_between}
use Rattle.level_breaks.proofs.boxes.grown.Goals as goal

pub returns-clause-kept : goal.returns-clause-kept
returns-clause-kept c =
    let a : FitsSigned w64 c.lesser.result = search rules in
    let b : FitsSigned w64 c.lesser-2.result = search rules in
    let e : FitsSigned w64 c.greater.result = search rules in
    let f : FitsSigned w64 c.greater-2.result = search rules in
    let lx : FitsSigned w64 c.args.reach.low.x = search rules in
    let ly : FitsSigned w64 c.args.reach.low.y = search rules in
    let hx : FitsSigned w64 c.args.reach.high.x = search rules in
    let hy : FitsSigned w64 c.args.reach.high.y = search rules in
    let low : Point = record { x = c.lesser.result; y = c.lesser-2.result } in
    let high : Point = record { x = c.greater.result; y = c.greater-2.result } in
    simp to_z-of_z
    (bigger low high (box_of c.args.reach) (simp to_z-of_z at c.lesser.ensures.first)
    (simp to_z-of_z at c.lesser-2.ensures.first) (simp to_z-of_z at c.greater.ensures.first)
    (simp to_z-of_z at c.greater-2.ensures.first))

pub returns-clause-point : goal.returns-clause-point
returns-clause-point c =
    let a : FitsSigned w64 c.lesser.result = search rules in
    let b : FitsSigned w64 c.lesser-2.result = search rules in
    let e : FitsSigned w64 c.greater.result = search rules in
    let f : FitsSigned w64 c.greater-2.result = search rules in
    let x : FitsSigned w64 c.args.p.x = search rules in
    let y : FitsSigned w64 c.args.p.y = search rules in
    let low : Point = record { x = c.lesser.result; y = c.lesser-2.result } in
    let high : Point = record { x = c.greater.result; y = c.greater-2.result } in
    simp to_z-of_z
    (in_between low high c.args.p (simp to_z-of_z at c.lesser.ensures.second)
    (simp to_z-of_z at c.lesser-2.ensures.second) (simp to_z-of_z at c.greater.ensures.second)
    (simp to_z-of_z at c.greater-2.ensures.second))
