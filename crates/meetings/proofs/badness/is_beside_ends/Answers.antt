use Rattle.meetings.proofs.ArcPairs.{beside_ends}
use Rattle.meetings.proofs.badness.is_beside_ends.Goals as goal

pub returns-then-not-is_end : goal.returns-then-not-is_end
returns-then-not-is_end c =
    beside_ends c.args.curve.now c.args.p c.is_end.result c.is_on.result c.is_end.ensures
    c.if-not-is_end.true c.is_on.ensures
