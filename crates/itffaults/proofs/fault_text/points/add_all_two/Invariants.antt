use Rattle.std.proofs.Common.{◌≡◌, ◌++◌, drop}
use Rattle.std.specs.List.{flat_map}
use Rattle.plane.specs.Rule.Plans.{plan}
use Rattle.itffaults.specs.FaultText.Text.{two_line}
use Rattle.itffaults.proofs.fault_text.points.add_all_two.Given as goal

-- the lines so far are added, and those of the rest are left
abbrev pub invariant-loop-two : goal.invariant-loop-two
invariant-loop-two l =
    l.text ++ flat_map (two_line l.scale (plan l.drawing)) (drop l.two-index l.all)
    ≡ l.fn.text ++ flat_map (two_line l.scale (plan l.drawing)) l.all
