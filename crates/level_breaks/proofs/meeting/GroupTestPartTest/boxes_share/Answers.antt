use Rattle.std.proofs.Common.{arith}
use Rattle.level_breaks.proofs.PartEdges.{clash_shares}
use Rattle.level_breaks.proofs.meeting.GroupTestPartTest.boxes_share.Goals as goal

pub returns : goal.returns
returns c = λ i j a b l m p h k.
    let s = c.args.self.now in
    clash_shares c.boxes_hold_means.ensures.triangle c.boxes_hold_means.ensures.straight s.one
    s.other i j a b c.requires (omega (arith, l)) (omega (arith, m)) p h k
