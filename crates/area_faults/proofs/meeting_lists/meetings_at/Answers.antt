use Rattle.std.proofs.lemmas.List.{get_or_default}
use Rattle.plane.specs.Rule.Plans.{plan}
use Rattle.area_faults.proofs.MeetingLists.{entries_more}
use Rattle.area_faults.proofs.meeting_lists.meetings_at.Goals as goal

pub loop-code-preserved : goal.loop-code-preserved
loop-code-preserved c =
    entries_more (plan c.args.drawing.now) c.args.codes.now c.loop-code.code-index _
    c.loop-code.meetings.items c.push.new.self.items c.meeting_of.result c.loop-code-test.true
    (get_or_default c.args.codes.now c.loop-code.code-index _ _ c.loop-code-test.true)
    c.loop-code.invariant c.in_ok-push.ensures.items c.meeting_of.ensures.code
    c.meeting_of.ensures.meeting
