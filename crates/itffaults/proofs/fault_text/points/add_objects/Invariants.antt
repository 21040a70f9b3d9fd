use Rattle.std.proofs.Common.{◌≡◌, ◌++◌, drop}
use Rattle.std.specs.List.{flat_map}
use Rattle.plane.specs.Rule.Plans.{plan}
use Rattle.itffaults.specs.FaultText.Text.{object_line}
use Rattle.itffaults.proofs.fault_text.points.add_objects.Given as goal

-- the lines so far are added, and those of the rest are left
abbrev pub invariant-loop-point : goal.invariant-loop-point
invariant-loop-point l =
    l.text ++ flat_map (object_line l.words l.scale (plan l.drawing)) (drop l.point-index l.points)
    ≡ l.fn.text ++ flat_map (object_line l.words l.scale (plan l.drawing)) l.points
