use Rattle.plane.specs.Rule.Plans.{plan}
use Rattle.area_faults.specs.MeetingMarks.{AreBothTo}
use Rattle.area_faults.proofs.marks.with_few.Given as goal

abbrev pub invariant-loop-number : goal.invariant-loop-number
invariant-loop-number l = AreBothTo (plan l.drawing) l.marks l.few l.number l.both.items
