use Rattle.std.proofs.Common.{rules, ◌<◌, ◌+◌, length}
use Rattle.itf_reader.proofs.Flags.{forgot, forgot_past}
use Rattle.itf_reader.proofs.machine.number_set.forget.Goals as goal

pub loop-number-preserved-then-number-len : goal.loop-number-preserved-then-number-len
loop-number-preserved-then-number-len c =
    let l : c.in-Some.number < length c.loop-number.flags.items = search rules in
    forgot c.pop.new.self.items c.loop-number.list.items c.loop-number.flags.items c.in-Some.number
    l c.in-Some.ensures.items c.loop-number.invariant

pub loop-number-preserved : goal.loop-number-preserved
loop-number-preserved c =
    let l : length c.loop-number.flags.items < c.in-Some.number + 1 = search rules in
    forgot_past c.pop.new.self.items c.loop-number.list.items c.loop-number.flags.items
    c.in-Some.number l c.in-Some.ensures.items c.loop-number.invariant
