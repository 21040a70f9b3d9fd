use Rattle.plane.specs.Rule.Plans.{plan}
use Rattle.meetings.proofs.CurveLists.{half_arcs_marked}
use Rattle.meetings.proofs.arcs.arc_meeting.Goals as goal

pub arc_meeting_among-requires-clause-marked : goal.arc_meeting_among-requires-clause-marked
arc_meeting_among-requires-clause-marked c =
    half_arcs_marked (plan c.args.drawing.now) c.deref-2.result.now c.in_ok-marks.marks.items
    c.deref-3.result.now c.deref-2.ensures.value c.deref-3.ensures.value c.in_ok-marks.ensures
