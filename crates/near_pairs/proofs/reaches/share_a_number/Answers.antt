use Rattle.std.proofs.Common.{rules, FitsSigned, w64, to_z-of_z}
use Rattle.near_pairs.proofs.Meeting.{number_test}
use Rattle.near_pairs.proofs.reaches.share_a_number.Goals as goal

pub returns-then-low-b : goal.returns-then-low-b
returns-then-low-b c =
    let a : FitsSigned w64 c.args.a = search rules in
    let h : FitsSigned w64 c.args.c = search rules in
    let d : FitsSigned w64 c.args.d = search rules in
    let b : FitsSigned w64 c.args.b = search rules in
    let low : FitsSigned w64 c.greater-low.result = search rules in
    let first = simp to_z-of_z at c.greater-low.ensures.first in
    let second = simp to_z-of_z at c.greater-low.ensures.second in
    let least = simp to_z-of_z at c.greater-low.ensures.least in
    let test = simp to_z-of_z at c.if-low-b.true in
    simp to_z-of_z
    (number_test c.args.a c.args.b c.args.c c.args.d c.greater-low.result first second test
    least)
