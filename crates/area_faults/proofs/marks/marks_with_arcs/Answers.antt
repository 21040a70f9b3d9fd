use Rattle.std.proofs.Common.{◌∙◌}
use Rattle.plane.specs.Rule.Plans.{plan}
use Rattle.area_faults.proofs.Unmarked.{all_are_enough}
use Rattle.area_faults.proofs.marks.marks_with_arcs.Goals as goal

pub returns : goal.returns
returns c = all_are_enough (plan c.args.drawing.now) c.len.result c.in_ok-all.all.items
    (c.len.ensures ∙ c.args.drawing.now.curves.ok.0) c.in_ok-all.ensures
