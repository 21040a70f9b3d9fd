use Rattle.std.proofs.Common.{take}
use Rattle.plane.specs.Rule.Plans.{plan}
use Rattle.area_faults.specs.Meetings.{AreEntries}
use Rattle.area_faults.proofs.meeting_lists.meetings_at.Given as goal

abbrev pub invariant-loop-code : goal.invariant-loop-code
invariant-loop-code l = AreEntries (plan l.drawing) (take l.code-index l.codes) l.meetings.items
