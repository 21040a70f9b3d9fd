use Rattle.meetings.proofs.ArcPairs.{arc_bad}
use Rattle.meetings.proofs.badness.are_arc_bad.Goals as goal

pub returns-then-have_half_arc : goal.returns-then-have_half_arc
returns-then-have_half_arc c =
    arc_bad c.args.first.now c.args.second.now
    (c.have_half_arc.ensures.0 c.if-have_half_arc.true) c.are_bad.result c.are_bad.ensures
