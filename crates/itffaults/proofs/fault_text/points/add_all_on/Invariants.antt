use Rattle.std.proofs.Common.{◌≡◌, ◌++◌, drop}
use Rattle.std.specs.List.{flat_map}
use Rattle.plane.specs.Rule.Plans.{plan}
use Rattle.itffaults.specs.FaultText.Text.{on_line}
use Rattle.itffaults.proofs.fault_text.points.add_all_on.Given as goal

-- the lines so far are added, and those of the rest are left
abbrev pub invariant-loop-on : goal.invariant-loop-on
invariant-loop-on l =
    l.text ++ flat_map (on_line l.scale (plan l.drawing)) (drop l.on-index l.all)
    ≡ l.fn.text ++ flat_map (on_line l.scale (plan l.drawing)) l.all
