use Rattle.std.proofs.Common.{rules, FitsSigned, to_z-of_z, w64}
use Rattle.meetings.proofs.Reaches.{beyond}
use Rattle.meetings.proofs.reaching.around.Goals as goal

pub returns-clause-first : goal.returns-clause-first
returns-clause-first c =
    let sa : FitsSigned w64 c.span-left.result.0 = search rules in
    let sb : FitsSigned w64 c.span-left.result.1 = search rules in
    let sc : FitsSigned w64 c.span-under.result.0 = search rules in
    let sd : FitsSigned w64 c.span-under.result.1 = search rules in
    let x : FitsSigned w64 c.args.x = search rules in
    let y : FitsSigned w64 c.args.y = search rules in
    let px : FitsSigned w64 c.args.a.x = search rules in
    let py : FitsSigned w64 c.args.a.y = search rules in
    let left = simp to_z-of_z at c.span-left.ensures.low_first in
    let right = simp to_z-of_z at c.span-left.ensures.high_first in
    let under = simp to_z-of_z at c.span-under.ensures.low_first in
    let over = simp to_z-of_z at c.span-under.ensures.high_first in
    simp to_z-of_z
    (beyond c.args.a c.args.x c.args.y c.span-left.result.0 c.span-left.result.1
    c.span-under.result.0 c.span-under.result.1 left right under over)

pub returns-clause-second : goal.returns-clause-second
returns-clause-second c =
    let sa : FitsSigned w64 c.span-left.result.0 = search rules in
    let sb : FitsSigned w64 c.span-left.result.1 = search rules in
    let sc : FitsSigned w64 c.span-under.result.0 = search rules in
    let sd : FitsSigned w64 c.span-under.result.1 = search rules in
    let x : FitsSigned w64 c.args.x = search rules in
    let y : FitsSigned w64 c.args.y = search rules in
    let px : FitsSigned w64 c.args.b.x = search rules in
    let py : FitsSigned w64 c.args.b.y = search rules in
    let left = simp to_z-of_z at c.span-left.ensures.low_second in
    let right = simp to_z-of_z at c.span-left.ensures.high_second in
    let under = simp to_z-of_z at c.span-under.ensures.low_second in
    let over = simp to_z-of_z at c.span-under.ensures.high_second in
    simp to_z-of_z
    (beyond c.args.b c.args.x c.args.y c.span-left.result.0 c.span-left.result.1
    c.span-under.result.0 c.span-under.result.1 left right under over)
