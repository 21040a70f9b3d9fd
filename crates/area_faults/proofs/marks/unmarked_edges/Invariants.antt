use Rattle.area_faults.specs.MeetingMarks.{AreUnmarkedTo}
use Rattle.area_faults.proofs.marks.unmarked_edges.Given as goal

abbrev pub invariant-loop-number : goal.invariant-loop-number
invariant-loop-number l = AreUnmarkedTo l.curves l.marks l.number l.edges.items l.numbers.items
