use Rattle.meetings.proofs.ArcPairs.{placed_close, crossed_is, common_is}
use Rattle.meetings.proofs.badness.is_crossed.Goals as goal

pub crosses-requires : goal.crosses-requires
crosses-requires c = placed_close c.args.straight.now c.args.half_arc.now c.requires

pub returns-then-not-have_common_end : goal.returns-then-not-have_common_end
returns-then-not-have_common_end c =
    crossed_is c.args.straight.now c.args.half_arc.now c.in-Straight-HalfArc.is-0
    c.in-Straight-HalfArc.is-1 c.have_common_end.result c.have_common_end.ensures
    c.crosses.result c.is_some.result c.is_some.ensures
    c.if-not-have_common_end.true c.crosses.ensures

pub returns-else-not-have_common_end : goal.returns-else-not-have_common_end
returns-else-not-have_common_end c =
    common_is c.args.straight.now c.args.half_arc.now c.in-Straight-HalfArc.is-0
    c.in-Straight-HalfArc.is-1 c.have_common_end.result c.have_common_end.ensures
    c.if-not-have_common_end.false
