use Rattle.area_faults.proofs.MarkedMeetings.{all_marked, marked_next, none_marked}
use Rattle.area_faults.proofs.left_out.mark_meetings.Goals as goal

pub loop-meeting-init : goal.loop-meeting-init
loop-meeting-init c = none_marked c.args.meetings.now c.args.marks.now c.requires.none

pub loop-meeting-preserved : goal.loop-meeting-preserved
loop-meeting-preserved c =
    marked_next c.args.meetings.now c.loop-meeting.meeting-index _ c.loop-meeting.marks
    c.mark.new.marks c.mark-in-loop-meeting.new.marks c.loop-meeting-test.true
    c.mark.ensures.marked c.mark-in-loop-meeting.ensures.marked c.loop-meeting.invariant

pub returns-clause-marked : goal.returns-clause-marked
returns-clause-marked c =
    all_marked c.args.meetings.now c.loop-meeting.meeting-index c.loop-meeting.marks
    c.loop-meeting-test.false c.loop-meeting.invariant
