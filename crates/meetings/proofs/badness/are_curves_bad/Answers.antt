use Rattle.meetings.proofs.StraightPairs.{both_straight}
use Rattle.meetings.proofs.badness.are_curves_bad.Goals as goal

pub are_straights_bad-requires-clause-straights : goal.are_straights_bad-requires-clause-straights
are_straights_bad-requires-clause-straights c =
    both_straight c.args.first.now c.args.second.now c.have_half_arc.result c.have_half_arc.ensures
    c.if-have_half_arc.false
