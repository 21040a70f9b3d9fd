use Rattle.plane.specs.Rule.Plans.{plan}
use Rattle.area_faults.specs.MeetingMarks.{HasArcMarks}
use Rattle.area_faults.proofs.marks.marks_with_arcs.Given as goal

abbrev pub invariant-loop : goal.invariant-loop
invariant-loop l = HasArcMarks (plan l.drawing) l.marks.items
