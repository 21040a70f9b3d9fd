use Rattle.meetings.proofs.CurveLists.{reach_more}
use Rattle.meetings.proofs.arcs.curve_reaches.Goals as goal

pub loop-curve-preserved : goal.loop-curve-preserved
loop-curve-preserved c =
    reach_more c.args.curves.now c.loop-curve.curve-index c.loop-curve.reaches.items
    c.push.new.self.items c.reach.result c.loop-curve.invariant c.in_ok-push.ensures.items
    c.reach.ensures
