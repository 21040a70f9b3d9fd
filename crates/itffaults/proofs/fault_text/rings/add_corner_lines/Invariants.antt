use Rattle.std.proofs.Common.{◌≡◌, ◌++◌, drop}
use Rattle.std.specs.List.{flat_map}
use Rattle.plane.specs.Rule.Plans.{plan}
use Rattle.itffaults.specs.FaultText.Text.{corner_line}
use Rattle.itffaults.proofs.fault_text.rings.add_corner_lines.Given as goal

-- the lines so far are added, and those of the rest are left
abbrev pub invariant-loop-side : goal.invariant-loop-side
invariant-loop-side l =
    l.text ++ flat_map (corner_line l.scale (plan l.drawing)) (drop l.side-index l.sides)
    ≡ l.fn.text ++ flat_map (corner_line l.scale (plan l.drawing)) l.sides
