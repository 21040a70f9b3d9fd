use Rattle.plane.specs.Rule.Plans.{plan}
use Rattle.meetings.proofs.StraightPairs.{pair_bad}
use Rattle.meetings.proofs.badness.is_bad.Goals as goal

pub returns : goal.returns
returns c =
    pair_bad (plan c.args.drawing.now) c.args.first c.args.second c.index.result.now
    c.index-2.result.now _ _ c.are_curves_bad.result c.requires.order c.requires.there
    c.index.ensures c.index-2.ensures c.are_curves_bad.ensures
