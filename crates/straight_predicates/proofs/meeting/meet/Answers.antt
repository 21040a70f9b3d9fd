use Rattle.straight_predicates.proofs.Exactly.{exact_apart, exact_common, exact_bad}
use Rattle.straight_predicates.proofs.meeting.meet.Goals as goal

pub returns-clause-apart : goal.returns-clause-apart
returns-clause-apart c = exact_apart c.meet_as.result c.args.s.now c.args.t.now c.meet_as.ensures

pub returns-clause-common_end : goal.returns-clause-common_end
returns-clause-common_end c =
    exact_common c.meet_as.result c.args.s.now c.args.t.now c.meet_as.ensures

pub returns-clause-bad : goal.returns-clause-bad
returns-clause-bad c = exact_bad c.meet_as.result c.args.s.now c.args.t.now c.meet_as.ensures
