use Rattle.std.proofs.Common.{◌≡◌, ◌++◌, drop}
use Rattle.std.specs.List.{flat_map}
use Rattle.plane.specs.Rule.Plans.{plan}
use Rattle.itffaults.specs.FaultText.Text.{meeting_line}
use Rattle.itffaults.proofs.fault_text.curves.add_meetings.Given as goal

-- the lines so far are added, and those of the rest are left
abbrev pub invariant-loop-meeting : goal.invariant-loop-meeting
invariant-loop-meeting l =
    l.text ++ flat_map (meeting_line l.scale (plan l.drawing)) (drop l.meeting-index l.meetings)
    ≡ l.fn.text ++ flat_map (meeting_line l.scale (plan l.drawing)) l.meetings
