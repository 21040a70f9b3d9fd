use Rattle.area_faults.proofs.MarkedMeetings.{AreMarked}
use Rattle.area_faults.proofs.left_out.mark_meetings.Given as goal

abbrev pub invariant-loop-meeting : goal.invariant-loop-meeting
invariant-loop-meeting l = AreMarked l.meetings l.meeting-index l.marks
