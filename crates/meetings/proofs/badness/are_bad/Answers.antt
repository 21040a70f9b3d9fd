use Rattle.meetings.proofs.ArcPairs.{bad_by_end, bad_by_crossing, bad_by_one_arc}
use Rattle.meetings.proofs.badness.are_bad.Goals as goal

pub returns-then-one_ends_on_other : goal.returns-then-one_ends_on_other
returns-then-one_ends_on_other c =
    bad_by_end c.args.first.now c.args.second.now c.requires.half_arc
    (c.one_ends_on_other.ensures.0 c.if-one_ends_on_other.true)

pub returns-then-one_crosses_other : goal.returns-then-one_crosses_other
returns-then-one_crosses_other c =
    bad_by_crossing c.args.first.now c.args.second.now c.requires.half_arc
    (c.one_crosses_other.ensures.0 c.if-one_crosses_other.true)

pub returns : goal.returns
returns c =
    bad_by_one_arc c.args.first.now c.args.second.now c.requires.half_arc c.one_ends_on_other.result
    c.one_crosses_other.result c.are_one_arc.result c.one_ends_on_other.ensures
    c.if-one_ends_on_other.false c.one_crosses_other.ensures
    c.if-one_crosses_other.false c.are_one_arc.ensures
