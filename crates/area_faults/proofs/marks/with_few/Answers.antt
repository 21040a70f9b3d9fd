use Rattle.std.proofs.Common.{arith}
use Rattle.plane.specs.Rule.Plans.{plan}
use Rattle.area_faults.proofs.FewMarks.{all_both}
use Rattle.area_faults.proofs.marks.with_few.Goals as goal

pub returns : goal.returns
returns c =
    let f = c.loop-number-test.false in
    let l = c.loop-number.auto.number-end in
    let e = c.len-number-end.ensures in
    let s = c.args.drawing.now.curves.ok.0 in
    all_both (plan c.args.drawing.now) c.args.marks.now c.args.few.now c.loop-number.number
    c.loop-number.both.items (omega (arith, f, l, e, s)) c.loop-number.invariant
    c.requires.marks c.requires.few
